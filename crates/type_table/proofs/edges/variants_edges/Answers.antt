use Rattle.type_table.proofs.EdgeLists.{edges_more}
use Rattle.type_table.proofs.edges.variants_edges.Goals as goal
use Rattle.std.proofs.Common.{◌∙◌}

pub loop-variant-preserved : goal.loop-variant-preserved
loop-variant-preserved c = record {
  edges = edges_more c.args.count c.loop-variant.variant-index c.args.variants.now c.variant-item.result c.loop-variant.all.items _ c.deref.result.now
      c.loop-variant-test.true c.variant-item.is c.loop-variant.invariant.edges (c.deref.ensures.value ∙ c.in_ok-fields.ensures) c.in_ok-extend_from_slice.ensures.items;
}
