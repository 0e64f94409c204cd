use Rattle.std.proofs.Common.{◌≡◌, ◌++◌, map, take}
use Rattle.type_table.specs.Bodies.{variant_body, said, clause_pair}
use Rattle.type_table.proofs.values.add_variants.Given as goal

abbrev pub invariant-loop-variant : goal.invariant-loop-variant
invariant-loop-variant l = record {
  clauses : map clause_pair l.clauses.items ≡ map clause_pair l.initial.clauses.items ++ said l.head (map variant_body (take l.variant-index l.variants));
}
