use Rattle.std.proofs.Common.{◌∙◌}
use Rattle.match_model.proofs.TextOrder.{same_chars}
use Rattle.first_match.proofs.parts.is_same_text.Goals as goal

pub returns : goal.returns
returns c = c.eq.ensures ∙ same_chars c.args.text.now c.args.other.now c.utf8.text c.utf8.other
