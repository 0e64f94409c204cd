use Rattle.std.proofs.Common.{◌≡◌, suc, ◌+◌, drop}
use Rattle.first_match.specs.Asking.{ways_asked}
use Rattle.first_match.proofs.selecting.ways_asked.Given as goal

abbrev pub invariant-loop-accepts : goal.invariant-loop-accepts
invariant-loop-accepts l =
    (l.number ≡ suc l.accepts-index) × (l.accepts-index + ways_asked (drop l.accepts-index l.answers) ≡ ways_asked l.answers)
