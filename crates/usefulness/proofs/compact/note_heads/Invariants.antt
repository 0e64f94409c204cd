use Rattle.std.proofs.Common.{◌≡◌, ◌||◌, ℕ, false, drop, get_or, length}
use Rattle.pattern_matrix.specs.Views.{plain_heads}
use Rattle.usefulness.specs.Compact.{lists_at}
use Rattle.usefulness.proofs.compact.note_heads.Given as goal

abbrev pub invariant-loop-head : goal.invariant-loop-head
invariant-loop-head g l =
    (length l.used.items ≡ length l.initial.used.items)
    × ((c : ℕ) → (get_or l.used.items c false || lists_at (plain_heads (drop l.head-index l.heads)) c) ≡ (get_or l.initial.used.items c false || lists_at (plain_heads l.heads) c))
