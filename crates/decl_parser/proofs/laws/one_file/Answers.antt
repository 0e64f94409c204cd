use Rattle.decl_parser.proofs.FileLaws.{one_file_of}
use Rattle.decl_parser.proofs.laws.one_file.Goals as goal

pub returns : goal.returns
returns c = one_file_of
