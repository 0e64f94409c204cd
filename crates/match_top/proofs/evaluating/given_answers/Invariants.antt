use Rattle.std.proofs.Common.{◌≡◌, map, take}
use Rattle.match_top.specs.Words.{accepts}
use Rattle.match_top.proofs.evaluating.given_answers.Given as goal

abbrev pub invariant-loop-letter : goal.invariant-loop-letter
invariant-loop-letter l = l.answers.items ≡ map accepts (take l.letter-index l.letter-items)
