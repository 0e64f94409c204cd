use Rattle.std.proofs.Common.{◌≡◌, ◌++◌, drop}
use Rattle.std.specs.Prelude.{flat_map}
use Rattle.explain_tree.specs.Labels.{literal_byte}
use Rattle.explain_tree.proofs.labels.push_literals.Given as goal

abbrev pub invariant-loop-byte : goal.invariant-loop-byte
invariant-loop-byte l = l.out.items ++ flat_map literal_byte (drop l.byte-index l.bytes) ≡ l.initial.out.items ++ flat_map literal_byte l.bytes
