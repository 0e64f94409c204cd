use Rattle.type_table.proofs.Clauses.{atoms_few}
use Rattle.type_table.proofs.edges.add_node_edges.Goals as goal

pub node_edges-requires : goal.node_edges-requires
node_edges-requires c = atoms_few c.args.count c.args.nodes.now c.loop-node.node-index c.node-item.result c.requires.are c.requires.few c.loop-node-test.true c.node-item.is
