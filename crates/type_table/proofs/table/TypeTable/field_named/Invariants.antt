use Rattle.type_table.specs.Tables.{table_program, table_type, type_variant}
use Rattle.type_table.proofs.LookupLemmas.{NoFieldNamed}
use Rattle.type_table.proofs.table.TypeTable.field_named.Given as goal

abbrev pub invariant-loop-i : goal.invariant-loop-i
invariant-loop-i l = NoFieldNamed (type_variant (table_program l.self) (table_type l.self l.ty) l.variant) l.name l.i
