use Rattle.std.proofs.Common.{◌≡◌, take, map}
use Rattle.pattern_matrix.specs.Parts.{plain_spans}
use Rattle.decision_tree.specs.Cuts.{mirrored}
use Rattle.decision_tree.proofs.having.mirrored_all.Given as goal

abbrev pub invariant-loop-span : goal.invariant-loop-span
invariant-loop-span l = plain_spans l.all.items ≡ map (mirrored l.count) (plain_spans (take l.span-index l.spans))
