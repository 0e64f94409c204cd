use Rattle.std.proofs.Common.{◌∙◌}
use Rattle.std.proofs.lemmas.List.{take_rest}
use Rattle.explain_places.proofs.spans.pieces_past.Goals as goal

pub returns : goal.returns
returns c = take_rest c.args.pieces.now c.count_before.result ∙ c.count_before.ensures.exact
