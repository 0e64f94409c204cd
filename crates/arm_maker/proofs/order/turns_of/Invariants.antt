use Rattle.std.proofs.Common.{◌≡◌, All, map, take}
use Rattle.type_table.specs.Tables.{table_program, table_type}
use Rattle.witnesses.specs.Views.{plain_witness}
use Rattle.arm_maker.specs.Turns.{HasKey, turn_witnesses}
use Rattle.arm_maker.proofs.order.turns_of.Given as goal

abbrev pub invariant-loop-witness : goal.invariant-loop-witness
invariant-loop-witness l =
    (turn_witnesses l.turns.items ≡ map plain_witness (take l.witness-index l.witnesses))
    × All (HasKey (table_program l.table) (table_type l.table l.ty)) l.turns.items
