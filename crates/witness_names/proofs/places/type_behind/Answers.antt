use Rattle.std.proofs.Common.{◌∙◌, sym}
use Rattle.type_table.specs.Tables.{table_program, table_type}
use Rattle.witness_names.proofs.Entered.{part_entered}
use Rattle.witness_names.proofs.places.type_behind.Goals as goal

pub returns-in-Field-clause-is : goal.returns-in-Field-clause-is
returns-in-Field-clause-is c =
    let table = c.args.table.now in
    rw c.in-Field.is (c.part_type.ensures.is ∙ sym (part_entered (table_program table) (table_type table c.args.ty) c.in-Field.variant c.in-Field.part))
