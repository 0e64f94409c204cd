use Rattle.witness_text.proofs.Lists.{encoded}
use Rattle.witness_text.proofs.tree.push_text.Goals as goal

pub returns : goal.returns
returns c = rw (encoded c.args.shown.now c.utf8.shown) c.push_quoted.ensures
