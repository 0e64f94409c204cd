use Rattle.std.proofs.Common.{◌≡◌, map, take, string_bytes}
use Rattle.type_table.specs.Tables.{table_program, table_type}
use Rattle.arm_maker.specs.Arms.{patterns_of}
use Rattle.arm_maker.specs.Turns.{plain_loans}
use Rattle.arm_maker.proofs.arms.patterns_of.Given as goal

abbrev pub invariant-loop-witness : goal.invariant-loop-witness
invariant-loop-witness l =
    map string_bytes l.texts.items
    ≡ patterns_of (table_program l.table) (table_type l.table l.ty) (plain_loans (take l.witness-index l.witnesses))
