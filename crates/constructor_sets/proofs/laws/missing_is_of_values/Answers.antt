use Rattle.constructor_sets.proofs.Missing.{missing_of_values}
use Rattle.constructor_sets.proofs.laws.missing_is_of_values.Goals as goal

pub returns : goal.returns
returns g c = missing_of_values (g.C.PatCx.is_value c.args.cx.now) (g.C.PatCx.context c.args.cx.now)
