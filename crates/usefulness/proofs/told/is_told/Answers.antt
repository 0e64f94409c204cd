use Rattle.std.proofs.Common.{sym, ◌∙◌}
use Rattle.usefulness.proofs.ToldKeys.{words_there}
use Rattle.usefulness.proofs.told.is_told.Goals as goal

pub returns : goal.returns
returns c = λ e. words_there c.args.told.now.lists.keys (λ k. k.items) c.args.words.now.items (sym c.contains.ensures ∙ e)
