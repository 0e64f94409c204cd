use Rattle.pattern_matrix.proofs.Left.{left_is}
use Rattle.pattern_matrix.proofs.reach_laws.left_is_unreachable.Goals as goal

pub returns : goal.returns
returns g c = left_is (g.C.PatCx.is_value c.args.cx.now)
