use Rattle.pat_context.proofs.BareSets.{bare_patterns}
use Rattle.pat_context.proofs.laws.bare_patterns_are_wild.Goals as goal

pub returns : goal.returns
returns g c =
    bare_patterns (g.C.PatCx.context c.args.cx.now)
