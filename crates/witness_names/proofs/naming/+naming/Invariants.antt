use Rattle.std.proofs.Common.{◌≡◌, ◌++◌, map, drop}
use Rattle.match_model.specs.Declarations.{node_types}
use Rattle.match_model.specs.RustTypes.{inner_type}
use Rattle.match_model.specs.Witness.{witnesses_of}
use Rattle.type_table.specs.Tables.{table_program, table_type, type_variant}
use Rattle.witnesses.specs.Views.{plain_witness}
use Rattle.witness_text.specs.Trees.{witness_view, field_view}
use Rattle.witness_names.specs.Named.{named_fields, parts_by, items_by, types_there}
use Rattle.witness_names.specs.Lookups.{brace_fields, fields_there}
use Rattle.witness_names.proofs.naming.+naming.Given as goal

abbrev pub invariant-name_items-loop-witness : goal.invariant-name_items-loop-witness
invariant-name_items-loop-witness l =
    let t = inner_type (table_type l.table l.fn.ty) in
    let program = table_program l.table in
    map witness_view l.all.items ++ items_by l.paths program t (witnesses_of (map plain_witness (drop l.witness-index
    l.items)))
    ≡ items_by l.paths program t (witnesses_of (map plain_witness l.items))

abbrev pub invariant-name_parts-loop-part : goal.invariant-name_parts-loop-part
invariant-name_parts-loop-part l =
    let program = table_program l.table in
    let types = types_there (node_types program (table_type l.table l.ty) l.variant) in
    map witness_view l.named.items ++ parts_by l.paths program (drop l.i types) (witnesses_of (map plain_witness (drop
    l.part-index l.parts)))
    ≡ parts_by l.paths program types (witnesses_of (map plain_witness l.parts))

abbrev pub invariant-name_fields-loop-part : goal.invariant-name_fields-loop-part
invariant-name_fields-loop-part l =
    let program = table_program l.table in
    let t = table_type l.table l.ty in
    let types = types_there (node_types program t l.variant) in
    let fields = brace_fields (type_variant program t l.variant) in
    map field_view l.fields.items
    ++ named_fields (drop l.i fields) (parts_by l.paths program (drop l.i types) (witnesses_of (map plain_witness (drop
    l.part-index l.parts))))
    ≡ fields_there l.paths program t l.variant (witnesses_of (map plain_witness l.parts))
