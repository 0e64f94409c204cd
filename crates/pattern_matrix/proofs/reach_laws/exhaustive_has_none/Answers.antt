use Rattle.pattern_matrix.proofs.NoneLeft.{exhaustive_has_none}
use Rattle.pattern_matrix.proofs.reach_laws.exhaustive_has_none.Goals as goal

pub returns : goal.returns
returns g c =
    exhaustive_has_none (g.C.PatCx.is_type c.args.cx.now) (g.C.PatCx.is_value c.args.cx.now) (g.C.PatCx.context c.args.cx.now) (g.met.C.PatCx.values c.args.cx.now) (g.met.C.PatCx.parts c.args.cx.now)
    (g.C.PatCx.empty_of c.args.cx.now) (g.C.PatCx.variant_empty_of c.args.cx.now) (g.met.C.PatCx.empty c.args.cx.now) (g.met.C.PatCx.unsure c.args.cx.now)
