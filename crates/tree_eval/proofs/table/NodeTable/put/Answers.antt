use Rattle.tree_eval.specs.Nodes.{plain_node}
use Rattle.tree_eval.specs.Tables.{node_tree, node_trees, finished_nodes}
use Rattle.tree_eval.specs.Trees.{table_trees}
use Rattle.tree_eval.proofs.Putting.{whole-after, put-after, no-less, index-below}
use Rattle.tree_eval.proofs.table.NodeTable.put.Goals as goal

pub invariant_of-self : goal.invariant_of-self
invariant_of-self c = record {
  whole = whole-after c.args.self.now.nodes.keys c.insert_full.new.self.keys c.args.node c.insert_full.result
      c.args.self.now.whole c.requires c.insert_full.ensures.keys c.insert_full.ensures.stored c.insert_full.ensures.err;
}

pub returns-clause-put : goal.returns-clause-put
returns-clause-put c =
    put-after c.args.self.now.nodes.keys c.insert_full.new.self.keys c.args.node c.in_ok-at.at c.args.self.now.whole
    c.requires c.in_ok-at.ensures.keys c.in_ok-at.ensures.stored

pub returns-clause-grows : goal.returns-clause-grows
returns-clause-grows c =
    no-less (table_trees c.args.self.now) (node_tree (table_trees c.args.self.now) (plain_node c.args.node)) c.in_ok-at.at
    (node_trees (finished_nodes c.insert_full.new.self.keys))
    (put-after c.args.self.now.nodes.keys c.insert_full.new.self.keys c.args.node c.in_ok-at.at c.args.self.now.whole
    c.requires c.in_ok-at.ensures.keys c.in_ok-at.ensures.stored)

pub returns-clause-below : goal.returns-clause-below
returns-clause-below c =
    index-below (table_trees c.args.self.now) (node_tree (table_trees c.args.self.now) (plain_node c.args.node)) c.in_ok-at.at
    (node_trees (finished_nodes c.insert_full.new.self.keys))
    (put-after c.args.self.now.nodes.keys c.insert_full.new.self.keys c.args.node c.in_ok-at.at c.args.self.now.whole
    c.requires c.in_ok-at.ensures.keys c.in_ok-at.ensures.stored)
