use Rattle.std.proofs.Common.{arith}
use Rattle.std.proofs.lemmas.Grind.{common_steps}
use Rattle.match_top.proofs.Fronts.{taken_more}
use Rattle.match_top.proofs.reading.read_rest.Goals as goal

pub returns-in_err-count-clause-few : goal.returns-in_err-count-clause-few
returns-in_err-count-clause-few g c = λ bytes told.
    let front = c.loop-read.invariant.4 bytes told in
    taken_more _ _ bytes _ front.0 _ front.1 (grind (arith, common_steps)) (c.in_err-count.ensures.few front.0 front.2)
