use Rattle.match_model.proofs.OneAnswer.{one_witness_list}
use Rattle.match_model.proofs.laws.witness_list_is_one.Goals as goal

pub returns : goal.returns
returns g c = λ cx is_value. one_witness_list cx _
