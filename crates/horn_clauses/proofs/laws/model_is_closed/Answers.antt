use Rattle.horn_clauses.proofs.Models.{derived_closed}
use Rattle.horn_clauses.proofs.laws.model_is_closed.Goals as goal

pub returns : goal.returns
returns c = derived_closed
