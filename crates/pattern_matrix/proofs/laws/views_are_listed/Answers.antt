use Rattle.pattern_matrix.proofs.WantedViews.{views_listed}
use Rattle.pattern_matrix.proofs.laws.views_are_listed.Goals as goal

pub returns : goal.returns
returns g c = views_listed
