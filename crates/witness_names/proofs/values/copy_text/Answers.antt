use Rattle.std.proofs.Common.{◌∙◌, sym}
use Rattle.witness_text.proofs.Lists.{encoded}
use Rattle.witness_names.proofs.values.copy_text.Goals as goal

pub returns : goal.returns
returns c = c.in_ok-copy.ensures.ok ∙ sym (encoded c.args.text.now c.utf8.text)
