use Rattle.std.proofs.Common.{[], refl}
use Rattle.decision_tree.proofs.Cuts.{leaf-read}
use Rattle.decision_tree.proofs.having.column_leaf.Goals as goal

pub returns : goal.returns
returns g c = leaf-read c.args.i c.args.row.now c.head_at.result [] c.head_at.ensures refl
