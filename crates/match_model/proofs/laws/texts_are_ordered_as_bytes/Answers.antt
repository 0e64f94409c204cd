use Rattle.match_model.proofs.TextOrder.{order_chars, same_chars}
use Rattle.match_model.proofs.laws.texts_are_ordered_as_bytes.Goals as goal

pub returns : goal.returns
returns c = λ a b p q. (order_chars a b p q, same_chars a b p q)
