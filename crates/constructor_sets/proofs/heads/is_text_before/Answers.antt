use Rattle.std.proofs.Common.{◌∙◌, ap}
use Rattle.std.specs.Ordering.{is_lt}
use Rattle.match_model.proofs.TextOrder.{order_chars}
use Rattle.constructor_sets.proofs.heads.is_text_before.Goals as goal

pub returns : goal.returns
returns c = c.lt.ensures ∙ ap is_lt (order_chars c.args.text.now c.args.other.now c.utf8.text c.utf8.other)
