use Rattle.std.proofs.Common.{◌≡◌, ◌++◌}
use Rattle.first_match.proofs.ways.add_ways.Given as goal

abbrev pub invariant-loop-way : goal.invariant-loop-way
invariant-loop-way l = l.all.items ≡ l.fn.all.items ++ l.yielded
