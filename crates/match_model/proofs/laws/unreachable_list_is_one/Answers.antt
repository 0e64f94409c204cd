use Rattle.match_model.proofs.OneMeaning.{one_list}
use Rattle.match_model.proofs.laws.unreachable_list_is_one.Goals as goal

pub returns : goal.returns
returns c = λ domain. one_list _
