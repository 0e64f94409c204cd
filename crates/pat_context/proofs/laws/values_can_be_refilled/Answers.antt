use Rattle.pat_context.proofs.Parting.{values_refilled}
use Rattle.pat_context.proofs.laws.values_can_be_refilled.Goals as goal

pub returns : goal.returns
returns g c =
    values_refilled (g.C.PatCx.is_type c.args.cx.now) (g.C.PatCx.is_value c.args.cx.now) (g.C.PatCx.context c.args.cx.now) (g.met.C.PatCx.values c.args.cx.now) (g.met.C.PatCx.parts c.args.cx.now)
