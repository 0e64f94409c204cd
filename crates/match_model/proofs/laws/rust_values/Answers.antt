use Rattle.match_model.proofs.RustValues.{rust_values_law}
use Rattle.match_model.proofs.laws.rust_values.Goals as goal

pub returns : goal.returns
returns c = rust_values_law
