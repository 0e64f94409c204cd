use Rattle.std.proofs.Common.{◌∙◌, ap, sym, arith}
use Rattle.explain_lines.specs.Lines.{spot_at}
use Rattle.explain_lines.proofs.LineSteps.{place_is}
use Rattle.explain_lines.proofs.spots.spot_of.Goals as goal

pub advance-requires-in_default-clause-right : goal.advance-requires-in_default-clause-right
advance-requires-in_default-clause-right c =
    let text = c.args.text.now in
    let is = c.origin.ensures text in
    is ∙ ap (spot_at text) (sym (place_is text c.origin.result 0 is))

pub advance-requires-in_default-clause-later : goal.advance-requires-in_default-clause-later
advance-requires-in_default-clause-later c =
    let text = c.args.text.now in
    omega (arith, place_is text c.origin.result 0 (c.origin.ensures text))
