use Rattle.match_model.proofs.Joins.{join_assoc, combine_assoc}
use Rattle.match_model.proofs.laws.join_is_associative.Goals as goal

pub returns-clause-join : goal.returns-clause-join
returns-clause-join c = join_assoc

pub returns-clause-combine : goal.returns-clause-combine
returns-clause-combine c = combine_assoc
