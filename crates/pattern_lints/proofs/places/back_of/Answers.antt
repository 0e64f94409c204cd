use Rattle.std.proofs.Common.{sym, ap, ◌∙◌}
use Rattle.pattern_lints.specs.Meeting.{plain_head, head_back}
use Rattle.pattern_lints.proofs.Sizes.{back_placed}
use Rattle.pattern_lints.proofs.places.back_of.Goals as goal

pub returns-in-Some : goal.returns-in-Some
returns-in-Some g c = c.back_below.ensures ∙ back_placed c.in-Some.p.now ∙ ap (λ h. head_back (plain_head h)) (sym c.in-Some.is)
