use Rattle.pattern_matrix.proofs.Whole.{types_of}
use Rattle.pattern_matrix.proofs.cover_laws.witnesses_are_of_the_type.Goals as goal

pub returns : goal.returns
returns g c =
    types_of (g.C.PatCx.is_type c.args.cx.now) (g.C.PatCx.is_value c.args.cx.now) (g.C.PatCx.context c.args.cx.now) (g.met.C.PatCx.values c.args.cx.now) (g.met.C.PatCx.parts c.args.cx.now)
