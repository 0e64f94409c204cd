use Rattle.keyed_matrix.proofs.RowSteps.{longer-row}
use Rattle.keyed_matrix.proofs.looking.ctors_at.Goals as goal

pub add_ctor-requires : goal.add_ctor-requires
add_ctor-requires g c =
    longer-row c.args.i c.args.rows.now c.loop-row.row-index c.row-item.result c.requires c.loop-row-test.true c.row-item.is
