use Rattle.witnesses.proofs.Tops.{anys_reversed}
use Rattle.witnesses.proofs.stack.Stack.of_any.Goals as goal

pub returns : goal.returns
returns c = anys_reversed c.args.count c.in_ok-open.open.items c.in_ok-open.ensures
