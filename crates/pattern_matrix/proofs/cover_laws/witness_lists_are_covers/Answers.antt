use Rattle.pattern_matrix.proofs.Whole.{covers_of}
use Rattle.pattern_matrix.proofs.cover_laws.witness_lists_are_covers.Goals as goal

pub returns : goal.returns
returns g c =
    covers_of (g.C.PatCx.is_type c.args.cx.now) (g.C.PatCx.is_value c.args.cx.now) (g.C.PatCx.context c.args.cx.now) (g.met.C.PatCx.values c.args.cx.now) (g.met.C.PatCx.parts c.args.cx.now)
