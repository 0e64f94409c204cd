use Rattle.std.proofs.Common.{◌≡◌, map, take}
use Rattle.type_table.proofs.values.field_atoms.Given as goal

abbrev pub invariant-loop-field : goal.invariant-loop-field
invariant-loop-field l = record {
  atoms : l.all.items ≡ map (λ f. f.ty) (take l.field-index l.fields);
}
