use Rattle.std.proofs.Common.{◌≡◌, drop}
use Rattle.std.specs.List.{list_all}
use Rattle.match_model.specs.Rows.{is_wild}
use Rattle.pattern_matrix.specs.Views.{plain_leaves}
use Rattle.pattern_matrix.proofs.found.all_wild.Given as goal

abbrev pub invariant-loop-leaf : goal.invariant-loop-leaf
invariant-loop-leaf g l =
    list_all (λ x. is_wild x.head) (plain_leaves (drop l.leaf-index l.leaves)) ≡ list_all (λ x. is_wild x.head) (plain_leaves l.leaves)
