use Rattle.std.proofs.Common.{map, take}
use Rattle.pattern_check.specs.Walks.{text_at, Adds}
use Rattle.pattern_check.proofs.bound.put_back.Given as goal

abbrev pub invariant-loop-name : goal.invariant-loop-name
invariant-loop-name l = Adds (map text_at l.fn.names.keys) (map text_at l.names.keys) (map text_at (take l.name-index l.aside))
