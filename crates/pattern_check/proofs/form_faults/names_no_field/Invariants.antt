use Rattle.std.proofs.Common.{◌≡◌, map, drop}
use Rattle.decl_syntax.specs.Patterns.{field_view, fields_from}
use Rattle.type_table.specs.Lookups.{field_names}
use Rattle.type_table.specs.Tables.{table_program, table_type, type_variant}
use Rattle.pattern_rules.specs.NodeRules.{written_names, some_absent}
use Rattle.pattern_check.proofs.form_faults.names_no_field.Given as goal

abbrev pub invariant-loop-field : goal.invariant-loop-field
invariant-loop-field l =
    some_absent (written_names (fields_from (map field_view (drop l.field-index l.fields)))) (field_names (type_variant (table_program l.table) (table_type l.table l.ty) l.variant))
    ≡ some_absent (written_names (fields_from (map field_view l.fields))) (field_names (type_variant (table_program l.table) (table_type l.table l.ty) l.variant))
