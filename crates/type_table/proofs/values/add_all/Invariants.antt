use Rattle.std.proofs.Common.{◌≡◌, take}
use Rattle.type_table.proofs.values.add_all.Given as goal

abbrev pub invariant-loop-part : goal.invariant-loop-part
invariant-loop-part l = record {
  atoms : l.body.items ≡ take l.part-index l.parts;
}
