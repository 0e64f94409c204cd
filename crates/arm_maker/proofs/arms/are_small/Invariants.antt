use Rattle.std.proofs.Common.{◌≡◌, map, drop}
use Rattle.type_table.specs.Tables.{table_program, table_type}
use Rattle.witnesses.specs.Views.{plain_witness}
use Rattle.arm_maker.specs.Arms.{are_small}
use Rattle.arm_maker.proofs.arms.are_small.Given as goal

abbrev pub invariant-loop-witness : goal.invariant-loop-witness
invariant-loop-witness l =
    are_small (table_program l.table) (table_type l.table l.ty) (map plain_witness (drop l.witness-index l.witnesses))
    ≡ are_small (table_program l.table) (table_type l.table l.ty) (map plain_witness l.witnesses)
