use Rattle.keyed_matrix.proofs.RowSteps.{longer-row}
use Rattle.decision_tree.proofs.having.column_leaves.Goals as goal

pub column_leaf-requires : goal.column_leaf-requires
column_leaf-requires g c =
    longer-row c.args.i c.args.rows.now c.loop-row.row-index c.row-item.result c.requires c.loop-row-test.true c.row-item.is
