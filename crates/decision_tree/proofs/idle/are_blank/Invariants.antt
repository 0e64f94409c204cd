use Rattle.std.proofs.Common.{◌≡◌, drop, map, Some}
use Rattle.std.specs.List.{list_all}
use Rattle.decision_tree.specs.Idle.{is_idle}
use Rattle.pattern_arena.specs.Trees.{tree}
use Rattle.decision_tree.proofs.idle.are_blank.Given as goal

abbrev pub invariant-loop-pat : goal.invariant-loop-pat
invariant-loop-pat g l =
    list_all is_idle (map (λ p. Some (tree p)) (drop l.pat-index l.pats)) ≡ list_all is_idle (map (λ p. Some (tree p)) l.pats)
