use Rattle.pattern_matrix.proofs.Listed.{leaves_are_typed}
use Rattle.pattern_matrix.proofs.laws.leaves_are_typed.Goals as goal

pub returns : goal.returns
returns g c = leaves_are_typed (g.C.PatCx.is_type c.args.cx.now) (g.C.PatCx.is_value c.args.cx.now) (g.C.PatCx.context c.args.cx.now) (g.met.C.PatCx.parts c.args.cx.now)
