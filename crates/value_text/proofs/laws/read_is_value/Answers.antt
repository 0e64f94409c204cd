use Rattle.value_text.proofs.MeantValues.{values_are}
use Rattle.value_text.proofs.laws.read_is_value.Goals as goal

pub returns : goal.returns
returns c = λ program sure t text v read. values_are program sure t read.0 v read.2
