use Rattle.decl_parser.proofs.FileLaws.{file_or_fault_of}
use Rattle.decl_parser.proofs.laws.file_or_fault.Goals as goal

pub returns : goal.returns
returns c = file_or_fault_of
