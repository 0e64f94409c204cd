use Rattle.std.proofs.Common.{◌<◌, arith}
use Rattle.type_table.specs.Tables.{table_type, table_program, fields_of_type}
use Rattle.type_table.proofs.FewParts.{fields_of_few}
use Rattle.type_table.proofs.table.TypeTable.fields.Goals as goal

pub overflow_cast-result : goal.overflow_cast-result
overflow_cast-result c =
    let few : fields_of_type (table_program c.args.self.now) (table_type c.args.self.now c.args.ty) c.args.variant < 4294967296 =
    fields_of_few c.args.self.now c.args.ty c.requires.of c.args.variant in
    omega (arith, few, c.fields_there.ensures)
