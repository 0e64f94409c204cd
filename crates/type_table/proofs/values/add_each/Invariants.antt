use Rattle.std.proofs.Common.{◌≡◌, ◌++◌, map, take}
use Rattle.type_table.specs.Bodies.{each_alone, said, clause_pair}
use Rattle.type_table.proofs.values.add_each.Given as goal

abbrev pub invariant-loop-part : goal.invariant-loop-part
invariant-loop-part l = record {
  clauses : map clause_pair l.clauses.items ≡ map clause_pair l.initial.clauses.items ++ said l.head (each_alone (take l.part-index l.parts));
}
