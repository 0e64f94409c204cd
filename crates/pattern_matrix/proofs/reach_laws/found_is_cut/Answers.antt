use Rattle.pattern_matrix.proofs.FoundCut.{cut_of}
use Rattle.pattern_matrix.proofs.reach_laws.found_is_cut.Goals as goal

pub returns : goal.returns
returns g c = cut_of (g.C.PatCx.is_value c.args.cx.now) (g.C.PatCx.context c.args.cx.now)
