use Rattle.match_model.proofs.OneOverlaps.{one_overlap_list}
use Rattle.match_model.proofs.laws.overlap_list_is_one.Goals as goal

pub returns : goal.returns
returns c = λ domain. one_overlap_list _
