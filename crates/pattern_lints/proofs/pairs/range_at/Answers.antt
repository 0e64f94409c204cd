use Rattle.std.proofs.Common.{sym, ap, ◌∙◌, Some}
use Rattle.pattern_lints.specs.Finding.{range_view}
use Rattle.pattern_lints.proofs.EndList.{mapped-at}
use Rattle.pattern_lints.proofs.pairs.range_at.Goals as goal

pub returns : goal.returns
returns c = mapped-at range_view c.args.found.now c.args.index c.index-found-index.result c.requires ∙ ap (λ z. Some (range_view z)) (sym c.index-found-index.is)
