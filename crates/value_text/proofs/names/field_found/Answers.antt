use Rattle.type_table.specs.Tables.{table_program, table_type}
use Rattle.value_text.proofs.FieldsFound.{none_found, found_there, found_is}
use Rattle.value_text.proofs.names.field_found.Goals as goal

pub returns-in_err-i-clause-is : goal.returns-in_err-i-clause-is
returns-in_err-i-clause-is c =
    rw c.from_residual.ensures (none_found (table_program c.args.table.now) (table_type c.args.table.now c.args.ty) c.args.variant c.requires.brace c.args.name.now c.in_err-i.ensures)

pub field-requires-clause-there : goal.field-requires-clause-there
field-requires-clause-there c =
    found_there (table_program c.args.table.now) (table_type c.args.table.now c.args.ty) c.args.variant c.requires.brace c.args.name.now c.in_ok-i.i c.in_ok-i.ensures

pub returns-clause-is : goal.returns-clause-is
returns-clause-is c =
    let table = c.args.table.now in
    found_is (table_program table) (table_type table c.args.ty) c.args.variant c.requires.brace c.args.name.now c.in_ok-i.i (table_type table c.field.result)
    c.in_ok-i.ensures c.field.ensures.type_is
