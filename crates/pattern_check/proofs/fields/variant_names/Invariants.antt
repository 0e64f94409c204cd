use Rattle.std.proofs.Common.{◌≡◌, map, take, string_bytes}
use Rattle.type_table.specs.Lookups.{field_names}
use Rattle.type_table.specs.Tables.{table_program, table_type, type_variant}
use Rattle.pattern_check.proofs.fields.variant_names.Given as goal

abbrev pub invariant-loop-i : goal.invariant-loop-i
invariant-loop-i l = map string_bytes l.names.items ≡ take l.i (field_names (type_variant (table_program l.table) (table_type l.table l.ty) l.variant))
