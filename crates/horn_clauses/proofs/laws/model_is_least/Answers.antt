use Rattle.horn_clauses.proofs.Models.{derived_least}
use Rattle.horn_clauses.proofs.laws.model_is_least.Goals as goal

pub returns : goal.returns
returns c = derived_least
