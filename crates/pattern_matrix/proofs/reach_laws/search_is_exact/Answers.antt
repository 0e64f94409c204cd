use Rattle.pattern_matrix.proofs.SearchWhole.{search_exact}
use Rattle.pattern_matrix.proofs.reach_laws.search_is_exact.Goals as goal

pub returns : goal.returns
returns g c = search_exact (g.C.PatCx.is_type c.args.cx.now) (g.C.PatCx.is_value c.args.cx.now) (g.C.PatCx.context c.args.cx.now) (g.met.C.PatCx.values c.args.cx.now) (g.met.C.PatCx.parts c.args.cx.now)
