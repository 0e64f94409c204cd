use Rattle.std.proofs.Common.{◌≡◌, ◌++◌, map}
use Rattle.pattern_arena.specs.Trees.{plain_arm}
use Rattle.pattern_matrix.specs.HeadLists.{kept_heads}
use Rattle.pattern_matrix.specs.Views.{plain_heads}
use Rattle.usefulness.specs.Behind.{row_asked}
use Rattle.usefulness.specs.Covering.{scope_asked}
use Rattle.usefulness.specs.Frames.{numbers}
use Rattle.usefulness.specs.States.{IsListed, is_noted, plain_opens}
use Rattle.usefulness.proofs.behind.first_frame.Given as goal

abbrev pub invariant-loop-heads : goal.invariant-loop-heads
invariant-loop-heads g l =
    IsListed (scope_asked (map plain_arm l.initial.reached.arms.now)) (is_noted l.initial.reached) l.reached (numbers (plain_opens l.columns.items)) (map row_asked (map (λ h. plain_heads (kept_heads h)) l.yielded)) l.listing
    × (l.yielded ++ l.heads-iterator.rest.items ≡ l.fn.asking.rows.items)
