use Rattle.keyed_matrix.proofs.RowSteps.{longer-row}
use Rattle.keyed_matrix.proofs.looking.are_wild.Goals as goal

pub is_wild_at-requires : goal.is_wild_at-requires
is_wild_at-requires g c =
    longer-row c.args.i c.args.rows.now c.loop-row.row-index c.row-item.result c.requires c.loop-row-test.true c.row-item.is
