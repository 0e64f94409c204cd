use Rattle.match_model.proofs.Joins.{bare_unit}
use Rattle.match_model.proofs.laws.bare_way_is_unit.Goals as goal

pub returns : goal.returns
returns c = bare_unit
