use Rattle.pat_context.proofs.Held.{made_ctor}
use Rattle.pat_context.proofs.laws.ctors_are_made.Goals as goal

pub returns : goal.returns
returns c = made_ctor c.args.c.now
