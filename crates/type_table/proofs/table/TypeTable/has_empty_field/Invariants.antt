use Rattle.std.proofs.Common.{◌≡◌, false}
use Rattle.type_table.specs.Marks.{lacks_field}
use Rattle.type_table.proofs.table.TypeTable.has_empty_field.Given as goal

abbrev pub invariant-loop-i : goal.invariant-loop-i
invariant-loop-i l = lacks_field l.self l.ty l.k l.i ≡ false
