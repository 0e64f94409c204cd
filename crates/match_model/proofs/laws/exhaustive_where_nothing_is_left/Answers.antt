use Rattle.match_model.proofs.Empties.{empty_exactly}
use Rattle.match_model.proofs.laws.exhaustive_where_nothing_is_left.Goals as goal

pub returns : goal.returns
returns c = λ domain. empty_exactly _
