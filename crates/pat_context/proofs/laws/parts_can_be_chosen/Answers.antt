use Rattle.pat_context.proofs.Chosen.{chosen_parts}
use Rattle.pat_context.proofs.laws.parts_can_be_chosen.Goals as goal

pub returns : goal.returns
returns g c = chosen_parts (g.C.PatCx.is_type c.args.cx.now) (g.C.PatCx.is_value c.args.cx.now) (g.C.PatCx.context c.args.cx.now)
