use Rattle.decl_parser.proofs.FileLaws.{some_answer_of}
use Rattle.decl_parser.proofs.laws.some_answer.Goals as goal

pub returns : goal.returns
returns c = some_answer_of
