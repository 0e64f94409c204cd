use Rattle.pattern_laws.proofs.Written.{one_list}
use Rattle.pattern_laws.proofs.overlap_laws.overlap_list_is_one.Goals as goal

pub returns : goal.returns
returns c = one_list
