use Rattle.std.proofs.Common.{◌≡◌, ◌++◌, drop}
use Rattle.std.specs.Prelude.{flat_map}
use Rattle.explain_tree.specs.Labels.{shown_byte}
use Rattle.explain_tree.proofs.labels.push_plain.Given as goal

abbrev pub invariant-loop-byte : goal.invariant-loop-byte
invariant-loop-byte l = l.out.items ++ flat_map shown_byte (drop l.byte-index l.bytes) ≡ l.initial.out.items ++ flat_map shown_byte l.bytes
