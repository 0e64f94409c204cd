use Rattle.std.proofs.Common.{◌≡◌, drop, nat_eq}
use Rattle.std.specs.List.{list_all}
use Rattle.pattern_matrix.specs.Views.{plain_heads}
use Rattle.witness_search.proofs.covered.stands_alone.Given as goal

abbrev pub invariant-loop-head : goal.invariant-loop-head
invariant-loop-head g l =
    list_all (λ h. nat_eq h.0 l.column) (plain_heads (drop l.head-index l.heads)) ≡ list_all (λ h. nat_eq h.0 l.column) (plain_heads l.heads)
