use Rattle.pattern_matrix.proofs.Listed.{bare_alike}
use Rattle.pattern_matrix.proofs.laws.bare_submatrices_are_alike.Goals as goal

pub returns : goal.returns
returns g c = bare_alike (g.C.PatCx.is_type c.args.cx.now) (g.C.PatCx.is_value c.args.cx.now) (g.C.PatCx.context c.args.cx.now) (g.met.C.PatCx.values c.args.cx.now) (g.met.C.PatCx.parts c.args.cx.now)
