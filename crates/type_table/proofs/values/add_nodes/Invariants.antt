use Rattle.std.proofs.Common.{◌≡◌, ◌++◌, map, take}
use Rattle.type_table.specs.Bodies.{bodies_of, said_from, clause_pair}
use Rattle.type_table.proofs.values.add_nodes.Given as goal

abbrev pub invariant-loop-i : goal.invariant-loop-i
invariant-loop-i l = record {
  clauses : map clause_pair l.clauses.items ≡ map clause_pair l.initial.clauses.items ++ said_from (bodies_of l.sure l.fn.items) 0 (take l.i l.nodes);
}
