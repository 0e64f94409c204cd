use Rattle.std.proofs.Common.{◌≡◌, ◌++◌, map, drop}
use Rattle.match_model.specs.Declarations.{node_types}
use Rattle.match_model.specs.RustTypes.{inner_type}
use Rattle.match_model.specs.Values.{values_of}
use Rattle.tree_eval.specs.Views.{plain_value}
use Rattle.type_table.specs.Tables.{table_program, table_type, type_variant}
use Rattle.value_syntax.specs.Trees.{written_view, field_view}
use Rattle.witness_names.specs.Named.{types_there}
use Rattle.witness_names.specs.NamedValues.{written_fields, written_parts, written_items}
use Rattle.witness_names.specs.Lookups.{brace_fields, written_there}
use Rattle.witness_names.proofs.values.+values.Given as goal

abbrev pub invariant-name_items-loop-value : goal.invariant-name_items-loop-value
invariant-name_items-loop-value l =
    let t = inner_type (table_type l.table l.fn.ty) in
    let program = table_program l.table in
    map written_view l.all.items ++ written_items program t (values_of (map plain_value (drop l.value-index l.items)))
    ≡ written_items program t (values_of (map plain_value l.items))

abbrev pub invariant-name_parts-loop-part : goal.invariant-name_parts-loop-part
invariant-name_parts-loop-part l =
    let program = table_program l.table in
    let types = types_there (node_types program (table_type l.table l.ty) l.variant) in
    map written_view l.named.items
    ++ written_parts program (drop l.i types) (values_of (map plain_value (drop l.part-index l.parts)))
    ≡ written_parts program types (values_of (map plain_value l.parts))

abbrev pub invariant-name_fields-loop-part : goal.invariant-name_fields-loop-part
invariant-name_fields-loop-part l =
    let program = table_program l.table in
    let t = table_type l.table l.ty in
    let types = types_there (node_types program t l.variant) in
    let fields = brace_fields (type_variant program t l.variant) in
    map field_view l.fields.items
    ++ written_fields (drop l.i fields) (written_parts program (drop l.i types) (values_of (map plain_value (drop
    l.part-index l.parts))))
    ≡ written_there program t l.variant (values_of (map plain_value l.parts))
