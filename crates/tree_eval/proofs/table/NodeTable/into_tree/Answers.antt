use Rattle.std.proofs.Common.{◌≡◌, length}
use Rattle.tree_eval.proofs.Renumbering.{popped-below, table-made, none-taken}
use Rattle.tree_eval.proofs.table.NodeTable.into_tree.Goals as goal

pub from_last-requires : goal.from_last-requires
from_last-requires c =
    popped-below c.len-count.result c.loop-node.left.keys c.pop.new.self.keys c.in-Some.node c.in-Some.ensures.keys
    c.loop-node.invariant.back c.loop-node.invariant.few

pub returns : goal.returns
returns c =
    let none : length c.loop-node.left.keys ≡ 0 = none-taken c.pop.result (length c.loop-node.left.keys) c.pop.ensures.found c.in_default.is in
    table-made c.len-count.result c.args.self.nodes.keys c.loop-node.left.keys c.loop-node.nodes.items
    c.loop-node.invariant.all none c.args.self.whole.back c.loop-node.invariant.made
