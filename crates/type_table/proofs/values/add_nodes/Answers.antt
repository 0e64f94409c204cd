use Rattle.std.proofs.Common.{◌≡◌, ◌+◌, map, arith}
use Rattle.type_table.specs.Bodies.{bodies_of, clause_pair}
use Rattle.type_table.proofs.Clauses.{said_more, parts_few, entries_few}
use Rattle.type_table.proofs.values.add_nodes.Goals as goal

pub add_node-requires-clause-below : goal.add_node-requires-clause-below
add_node-requires-clause-below c = entries_few c.args.nodes.now c.args.items.now c.requires.below c.requires.few

pub add_node-requires-clause-parts : goal.add_node-requires-clause-parts
add_node-requires-clause-parts c = parts_few c.args.nodes.now c.loop-i.i c.index-nodes-i.result c.requires.are c.requires.few c.loop-i-test.true c.index-nodes-i.is

pub loop-i-preserved : goal.loop-i-preserved
loop-i-preserved c =
    let none : 0 + c.loop-i.i ≡ c.loop-i.i = omega arith in
    record {
      clauses = said_more (bodies_of c.args.sure c.args.items.now) 0 c.loop-i.i c.loop-i.i c.args.nodes.now c.index-nodes-i.result
          (map clause_pair c.args.clauses.now.items) (map clause_pair c.loop-i.clauses.items) _ c.loop-i-test.true c.index-nodes-i.is none c.loop-i.invariant.clauses c.in_ok-add_node.ensures;
    }
