use Rattle.std.proofs.Common.{arith}
use Rattle.match_top.proofs.Going.{going_part, going_kept, going_on_slice}
use Rattle.match_top.proofs.writing.write_text.Goals as goal

pub returns-in_err-count-clause-part : goal.returns-in_err-count-clause-part
returns-in_err-count-clause-part g c =
    going_part _ _ _ _ (going_kept _ _ _ _ _ c.in_err-count.ensures.kept c.loop-rest.invariant.0)

pub loop-rest-preserved : goal.loop-rest-preserved
loop-rest-preserved g c =
    (going_on_slice _ _ _ _ _ _ c.loop-rest.invariant.0 c.in_ok-count.ensures.bytes, omega (arith, c.in_ok-count.ensures.cause.later))

pub returns-clause-part : goal.returns-clause-part
returns-clause-part g c = going_part _ _ _ _ c.loop-rest.invariant.0
