use Rattle.match_model.proofs.TextOutside.{text_outside}
use Rattle.match_model.proofs.laws.text_is_outside.Goals as goal

pub returns : goal.returns
returns c = text_outside
