use Rattle.match_model.proofs.OneMeaning.{one_walk, one_meaning}
use Rattle.match_model.proofs.laws.meaning_is_one.Goals as goal

pub returns-clause-walk : goal.returns-clause-walk
returns-clause-walk c = one_walk

pub returns-clause-meaning : goal.returns-clause-meaning
returns-clause-meaning c = one_meaning
