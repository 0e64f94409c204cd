use Rattle.match_top.proofs.OneAnswer.{one_first_fault}
use Rattle.match_top.proofs.laws.one_first_fault.Goals as goal

pub returns : goal.returns
returns c = one_first_fault
