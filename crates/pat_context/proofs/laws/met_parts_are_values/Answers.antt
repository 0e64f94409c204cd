use Rattle.pat_context.proofs.Parting.{met_parts_are_values}
use Rattle.pat_context.proofs.laws.met_parts_are_values.Goals as goal

pub returns : goal.returns
returns g c =
    met_parts_are_values (g.C.PatCx.is_type c.args.cx.now) (g.C.PatCx.is_value c.args.cx.now) (g.C.PatCx.context c.args.cx.now) (g.met.C.PatCx.values c.args.cx.now) (g.met.C.PatCx.parts c.args.cx.now)
