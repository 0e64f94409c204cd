use Rattle.std.proofs.Common.{◌≡◌, ◌++◌, drop}
use Rattle.std.specs.Prelude.{flat_map}
use Rattle.explain_text.specs.Shown.{shown_byte}
use Rattle.explain_text.proofs.shown.shown_bytes.Given as goal

abbrev pub invariant-loop-byte : goal.invariant-loop-byte
invariant-loop-byte l = l.shown.items ++ flat_map shown_byte (drop l.byte-index l.bytes) ≡ flat_map shown_byte l.bytes
