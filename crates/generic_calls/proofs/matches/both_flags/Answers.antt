use Rattle.pattern_arena.specs.Trees.{plain_arm}
use Rattle.generic_calls.proofs.FlagMatch.{are_typed, are_exhaustive, are_reached}
use Rattle.generic_calls.proofs.matches.both_flags.Goals as goal

pub returns-clause-typed : goal.returns-clause-typed
returns-clause-typed c =
    rw c.in_ok-arms.ensures (are_typed (plain_arm c.in_ok-first.first) (plain_arm c.in_ok-second.second) (c.in_ok-first.ensures, c.in_ok-second.ensures))

pub returns-clause-exhaustive : goal.returns-clause-exhaustive
returns-clause-exhaustive c =
    rw c.in_ok-arms.ensures (are_exhaustive (plain_arm c.in_ok-first.first) (plain_arm c.in_ok-second.second) (c.in_ok-first.ensures, c.in_ok-second.ensures))

pub returns-clause-reachable : goal.returns-clause-reachable
returns-clause-reachable c =
    rw c.in_ok-arms.ensures (are_reached (plain_arm c.in_ok-first.first) (plain_arm c.in_ok-second.second) (c.in_ok-first.ensures, c.in_ok-second.ensures))
