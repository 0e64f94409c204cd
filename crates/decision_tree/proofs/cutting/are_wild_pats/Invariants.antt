use Rattle.std.proofs.Common.{◌≡◌, drop, map, Some}
use Rattle.std.specs.List.{list_all}
use Rattle.match_model.specs.Rows.{is_wild}
use Rattle.pattern_arena.specs.Trees.{tree}
use Rattle.decision_tree.proofs.cutting.are_wild_pats.Given as goal

abbrev pub invariant-loop-pat : goal.invariant-loop-pat
invariant-loop-pat g l =
    list_all is_wild (map (λ p. Some (tree p)) (drop l.pat-index l.pats)) ≡ list_all is_wild (map (λ p. Some (tree p)) l.pats)
