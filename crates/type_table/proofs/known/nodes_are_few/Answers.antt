use Rattle.std.proofs.Common.{subst}
use Rattle.std.proofs.lemmas.List.Elements.{All-more}
use Rattle.type_table.specs.Known.{HasFewParts}
use Rattle.type_table.proofs.known.nodes_are_few.Goals as goal

pub loop-node-preserved : goal.loop-node-preserved
loop-node-preserved c =
    All-more HasFewParts c.args.nodes.now c.loop-node.node-index c.node-item.result c.loop-node-test.true c.loop-node.invariant
    (subst HasFewParts c.node-item.is (c.has_few_parts.ensures.0 c.if-not-has_few_parts.false))
