use Rattle.std.proofs.Common.{sym, ap, ◌∙◌}
use Rattle.pattern_lints.specs.Meeting.{plain_head, head_front}
use Rattle.pattern_lints.proofs.Sizes.{front_placed}
use Rattle.pattern_lints.proofs.places.front_of.Goals as goal

pub returns-in-Some : goal.returns-in-Some
returns-in-Some g c = c.front_below.ensures ∙ front_placed c.in-Some.p.now ∙ ap (λ h. head_front (plain_head h)) (sym c.in-Some.is)
