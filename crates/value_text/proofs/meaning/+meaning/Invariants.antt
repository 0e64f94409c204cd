use Rattle.std.proofs.Common.{◌≡◌, drop}
use Rattle.match_model.specs.Declarations.{node_types}
use Rattle.type_table.specs.Tables.{table_program, table_type}
use Rattle.value_syntax.specs.Trees.{values_view, fields_view}
use Rattle.value_text.specs.Meanings.{meant_parts, meant_items, meant_fields}
use Rattle.value_text.specs.Lookups.{types_there, fields_there, plain_values, plain_numbered}
use Rattle.value_text.proofs.Readings.{before}
use Rattle.value_text.proofs.meaning.+meaning.Given as goal

abbrev pub invariant-mean_items-loop-written : goal.invariant-mean_items-loop-written
invariant-mean_items-loop-written l =
    let program = table_program l.table in
    let t = table_type l.table l.fn.item in
    before (plain_values l.values.items) (meant_items program l.sure t (values_view (drop l.written-index l.items)))
    ≡ meant_items program l.sure t (values_view l.items)

abbrev pub invariant-mean_parts-loop-part : goal.invariant-mean_parts-loop-part
invariant-mean_parts-loop-part l = record {
  index : l.i ≡ l.part-index;
  made : before (plain_values l.values.items)
      (meant_parts (table_program l.table) l.sure (drop l.i (types_there (node_types (table_program l.table) (table_type l.table l.ty) l.variant)))
      (values_view (drop l.part-index l.parts)))
      ≡ meant_parts (table_program l.table) l.sure (types_there (node_types (table_program l.table) (table_type l.table l.ty) l.variant)) (values_view l.parts);
}

abbrev pub invariant-mean_fields-loop-field : goal.invariant-mean_fields-loop-field
invariant-mean_fields-loop-field l =
    let program = table_program l.table in
    let fields = fields_there program (table_type l.table l.ty) l.variant in
    before (plain_numbered l.given.items) (meant_fields program l.sure fields (fields_view (drop l.field-index l.fields)))
    ≡ meant_fields program l.sure fields (fields_view l.fields)
