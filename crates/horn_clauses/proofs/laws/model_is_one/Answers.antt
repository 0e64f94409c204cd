use Rattle.horn_clauses.proofs.Models.{model_one}
use Rattle.horn_clauses.proofs.laws.model_is_one.Goals as goal

pub returns : goal.returns
returns c = model_one
