use Rattle.file_names.proofs.Programs.{program_names_are_names}
use Rattle.file_names.proofs.laws.program_names_are_names.Goals as goal

pub returns : goal.returns
returns c = program_names_are_names
