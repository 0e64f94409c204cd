use Rattle.pattern_laws.proofs.ArmsKept.{arms_in_form}
use Rattle.pattern_laws.proofs.laws.arms_are_in_form.Goals as goal

pub returns : goal.returns
returns c = arms_in_form
