use Rattle.keyed_matrix.proofs.RowSteps.{longer-row}
use Rattle.keyed_matrix.proofs.steps.expanded_rows.Goals as goal

pub add_expanded-requires : goal.add_expanded-requires
add_expanded-requires g c =
    longer-row c.args.i c.args.rows.now c.loop-row.row-index c.row-item.result c.requires c.loop-row-test.true c.row-item.is
