use Rattle.pattern_matrix.proofs.FirstTold.{first_tells}
use Rattle.pattern_matrix.proofs.reach_laws.first_submatrix_tells.Goals as goal

pub returns : goal.returns
returns g c = first_tells (g.C.PatCx.is_type c.args.cx.now) (g.C.PatCx.is_value c.args.cx.now) (g.C.PatCx.context c.args.cx.now)
