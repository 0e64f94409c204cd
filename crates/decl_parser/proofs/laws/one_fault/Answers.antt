use Rattle.decl_parser.proofs.FileLaws.{one_fault_of}
use Rattle.decl_parser.proofs.laws.one_fault.Goals as goal

pub returns : goal.returns
returns c = one_fault_of
