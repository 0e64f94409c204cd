use Rattle.explain_lines.proofs.LineSteps.{origin_is}
use Rattle.explain_lines.proofs.spots.origin.Goals as goal

pub returns : goal.returns
returns c = origin_is
