use Rattle.match_model.proofs.Marked.{rust_empty, rust_unsure}
use Rattle.match_model.proofs.laws.rust_emptiness.Goals as goal

pub returns-clause-sure : goal.returns-clause-sure
returns-clause-sure c = rust_empty

pub returns-clause-unsure : goal.returns-clause-unsure
returns-clause-unsure c = rust_unsure
