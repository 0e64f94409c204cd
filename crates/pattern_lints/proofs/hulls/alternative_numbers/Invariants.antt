use Rattle.range_split.specs.Ranges.{plain_range}
use Rattle.pattern_lints.proofs.HullLaws.{Holds}
use Rattle.pattern_lints.proofs.hulls.alternative_numbers.Given as goal

abbrev pub invariant-loop-q : goal.invariant-loop-q
invariant-loop-q g l = Holds l.p l.q-index (plain_range l.numbers)
