use Rattle.pattern_arena.specs.Trees.{plain_match}
use Rattle.decision_tree.proofs.top.lowered.Given as goal

abbrev pub ghost-lower_match : goal.ghost-lower_match
ghost-lower_match g a = plain_match a.m.now
