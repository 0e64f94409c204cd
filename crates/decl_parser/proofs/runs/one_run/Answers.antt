use Rattle.decl_parser.proofs.RunLaws.{one_place}
use Rattle.decl_parser.proofs.runs.one_run.Goals as goal

pub returns : goal.returns
returns c = one_place
