use Rattle.pattern_matrix.proofs.Splitting.{splits_hand_on}
use Rattle.pattern_matrix.proofs.reach_laws.splits_hand_on.Goals as goal

pub returns : goal.returns
returns g c =
    splits_hand_on (g.C.PatCx.is_type c.args.cx.now) (g.C.PatCx.is_value c.args.cx.now) (g.C.PatCx.context c.args.cx.now) (g.met.C.PatCx.values c.args.cx.now) (g.met.C.PatCx.parts c.args.cx.now)
