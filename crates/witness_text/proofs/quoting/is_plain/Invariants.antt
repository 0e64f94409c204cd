use Rattle.std.proofs.Common.{ℕ, ◌<◌}
use Rattle.std.specs.Prelude.{slice_index_or}
use Rattle.witness_text.specs.Plain.{IsPlain}
use Rattle.witness_text.proofs.quoting.is_plain.Given as goal

abbrev pub invariant-loop-byte : goal.invariant-loop-byte
invariant-loop-byte l = (k d : ℕ) → k < l.byte-index → IsPlain (slice_index_or l.bytes k d)
