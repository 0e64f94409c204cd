use Rattle.type_table.specs.Tables.{table_type}
use Rattle.pattern_elaboration.proofs.KindTests.{point_told, point_inner_of}
use Rattle.pattern_elaboration.proofs.types.point_of.Goals as goal

pub returns-clause-of : goal.returns-clause-of
returns-clause-of c =
    rw c.kind_point.ensures (point_inner_of c.args.table.now (table_type c.args.table.now c.args.ty) c.kind.result
    c.kind.ensures.is)

pub returns-clause-is : goal.returns-clause-is
returns-clause-is c =
    rw c.kind_point.ensures (point_told c.args.table.now (table_type c.args.table.now c.args.ty) c.kind.result
    c.kind.ensures.is)
