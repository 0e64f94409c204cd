use Rattle.pat_context.proofs.Held.{made_set}
use Rattle.pat_context.proofs.laws.sets_are_made.Goals as goal

pub returns : goal.returns
returns c = made_set c.args.set.now
