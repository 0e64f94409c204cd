use Rattle.std.proofs.Common.{◌≡◌, take}
use Rattle.type_table.specs.Edges.{variants_edges}
use Rattle.type_table.proofs.edges.variants_edges.Given as goal

abbrev pub invariant-loop-variant : goal.invariant-loop-variant
invariant-loop-variant l = record {
  edges : l.all.items ≡ variants_edges l.count (take l.variant-index l.variants);
}
