use Rattle.std.proofs.Common.{◌<◌, arith}
use Rattle.match_model.specs.Declarations.{node_types}
use Rattle.type_table.specs.Tables.{table_program, table_type, fields_of_type}
use Rattle.type_table.proofs.FewParts.{fields_of_few}
use Rattle.rust_context.proofs.PartsThere.{part_there}
use Rattle.rust_context.proofs.context.RustCx.part.Goals as goal

pub overflow_cast-i : goal.overflow_cast-i
overflow_cast-i c =
    let table = c.args.self.now.table.now in
    let few : fields_of_type (table_program table) (table_type table c.args.ty) c.args.variant < 4294967296 =
    fields_of_few table c.args.ty c.requires.of c.args.variant in
    omega (arith, few, c.requires.there)

pub field-requires-clause-there : goal.field-requires-clause-there
field-requires-clause-there c =
    let table = c.args.self.now.table.now in
    part_there (node_types (table_program table) (table_type table c.args.ty) c.args.variant) c.args.i c.requires.there
