use Rattle.keyed_matrix.proofs.RowSteps.{longer-row}
use Rattle.keyed_matrix.proofs.taken_apart.are_apart.Goals as goal

pub is_or_at-requires : goal.is_or_at-requires
is_or_at-requires g c =
    longer-row c.args.i c.args.rows.now c.loop-row.row-index c.row-item.result c.requires c.loop-row-test.true c.row-item.is
