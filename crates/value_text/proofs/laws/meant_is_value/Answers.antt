use Rattle.value_text.proofs.MeantValues.{values_are}
use Rattle.value_text.proofs.laws.meant_is_value.Goals as goal

pub returns : goal.returns
returns c = values_are
