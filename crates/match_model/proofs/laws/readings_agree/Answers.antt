use Rattle.match_model.proofs.Agreeing.{readings_agree}
use Rattle.match_model.proofs.laws.readings_agree.Goals as goal

pub returns : goal.returns
returns c = readings_agree
