use Rattle.keyed_matrix.proofs.RowSteps.{longer-row}
use Rattle.keyed_matrix.proofs.steps.piece_rows.Goals as goal

pub add_piece_row-requires : goal.add_piece_row-requires
add_piece_row-requires g c =
    longer-row c.args.i c.args.rows.now c.loop-row.row-index c.row-item.result c.requires c.loop-row-test.true c.row-item.is
