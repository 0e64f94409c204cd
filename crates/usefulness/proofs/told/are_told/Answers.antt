use Rattle.std.proofs.Common.{sym, ◌∙◌}
use Rattle.usefulness.proofs.ToldKeys.{words_found}
use Rattle.usefulness.proofs.told.are_told.Goals as goal

pub returns-in-Some : goal.returns-in-Some
returns-in-Some c = λ e. (
  c.in-Some.list,
  words_found c.args.told.now.lists.keys (λ k. k.items) c.args.words.now.items c.in-Some.list (sym c.get_index_of.ensures.index ∙ c.in-Some.is),
  c.are_told_beside.ensures e,
)
