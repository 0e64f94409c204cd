use Rattle.std.proofs.Common.{◌≡◌, ◌++◌, map, drop}
use Rattle.pattern_check.specs.Walks.{text_at}
use Rattle.pattern_check.proofs.bound.copy_from.Given as goal

abbrev pub invariant-loop-i : goal.invariant-loop-i
invariant-loop-i l = map text_at l.list.items ++ drop l.i (map text_at l.names) ≡ map text_at l.fn.list.items ++ drop l.start (map text_at l.names)
