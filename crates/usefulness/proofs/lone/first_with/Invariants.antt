use Rattle.std.proofs.Common.{◌≡◌, ◌<◌, ℕ, false, slice_get}
use Rattle.pattern_matrix.specs.Halving.{span_has}
use Rattle.pattern_matrix.specs.Parts.{plain_spans}
use Rattle.usefulness.proofs.lone.first_with.Given as goal

abbrev pub invariant-loop-i : goal.invariant-loop-i
invariant-loop-i l = (j : ℕ) → j < l.i → span_has l.piece (slice_get (plain_spans l.spans) j) ≡ false
