use Rattle.std.proofs.Common.{◌≡◌, ◌++◌, map, drop}
use Rattle.match_model.specs.Declarations.{node_types}
use Rattle.match_model.specs.Witness.{witnesses_of}
use Rattle.type_table.specs.Tables.{table_program, table_type}
use Rattle.witnesses.specs.Views.{plain_witness}
use Rattle.witness_names.specs.Named.{types_there}
use Rattle.arm_maker.specs.Keys.{parts_key, items_key}
use Rattle.arm_maker.specs.Turns.{values}
use Rattle.arm_maker.proofs.keys.+key.Given as goal

abbrev pub invariant-push_parts-loop-part : goal.invariant-push_parts-loop-part
invariant-push_parts-loop-part l =
    let program = table_program l.table in
    let types = types_there (node_types program (table_type l.table l.ty) l.variant) in
    values l.key.items ++ parts_key program (drop l.i types)
    (witnesses_of (map plain_witness (drop l.part-index l.parts)))
    ≡ values l.initial.key.items ++ parts_key program types (witnesses_of (map plain_witness l.parts))

abbrev pub invariant-push_items-loop-witness : goal.invariant-push_items-loop-witness
invariant-push_items-loop-witness l =
    let program = table_program l.table in
    let t = table_type l.table l.item in
    values l.key.items ++ items_key program t (witnesses_of (map plain_witness (drop l.witness-index l.items)))
    ≡ values l.initial.key.items ++ items_key program t (witnesses_of (map plain_witness l.items))
