use Rattle.std.proofs.Common.{◌≡◌, drop}
use Rattle.std.specs.List.{list_all}
use Rattle.pattern_matrix.specs.Sparse.{without}
use Rattle.pattern_matrix.specs.Views.{plain_heads}
use Rattle.usefulness.specs.Done.{are_marked, choices_within}
use Rattle.usefulness.specs.Marking.{is_marked}
use Rattle.usefulness.proofs.cutting.are_settled_beside.Given as goal

abbrev pub invariant-loop-head : goal.invariant-loop-head
invariant-loop-head g l =
    list_all (λ h. are_marked (is_marked l.marks) l.arm (choices_within h.1)) (without l.column (plain_heads l.heads))
    ≡ list_all (λ h. are_marked (is_marked l.marks) l.arm (choices_within h.1)) (without l.column (plain_heads (drop l.head-index l.heads)))
