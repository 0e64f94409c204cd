use Rattle.pattern_matrix.proofs.SearchWhole.{places_moved}
use Rattle.pattern_matrix.proofs.reach_laws.places_may_be_moved.Goals as goal

pub returns : goal.returns
returns g c = places_moved (g.C.PatCx.is_type c.args.cx.now) (g.C.PatCx.is_value c.args.cx.now) (g.C.PatCx.context c.args.cx.now)
