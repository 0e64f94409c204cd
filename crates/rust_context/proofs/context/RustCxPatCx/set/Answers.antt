use Rattle.std.proofs.Common.{sym}
use Rattle.type_table.specs.Tables.{table_type}
use Rattle.type_table.proofs.EmptyTypes.{rust_types}
use Rattle.rust_context.proofs.context.RustCxPatCx.set.Goals as goal

pub returns : goal.returns
returns c =
    let table = c.args.self.now.table.now in
    c.kind_set.ensures table (table_type table c.args.ty) (sym c.width.ensures) (rust_types table c.args.ty c.requires) c.kind.ensures.is
