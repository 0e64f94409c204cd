use Rattle.horn_clauses.proofs.Growing.{model_grown}
use Rattle.horn_clauses.proofs.laws.model_is_grown.Goals as goal

pub returns : goal.returns
returns c = model_grown
