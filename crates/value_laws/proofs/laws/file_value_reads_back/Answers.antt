use Rattle.type_names.specs.Written.{program_of}
use Rattle.value_syntax.proofs.ReadBack.{reads_back}
use Rattle.witness_names.specs.NamedValues.{written_value}
use Rattle.file_names.proofs.Programs.{program_names_are_names}
use Rattle.value_laws.proofs.Again.{value_again}
use Rattle.value_laws.proofs.Canonical.{written_canonical}
use Rattle.value_laws.proofs.OwnNames.{type_own}
use Rattle.value_laws.proofs.laws.file_value_reads_back.Goals as goal

pub returns : goal.returns
returns c = λ bytes tokens items width sure t v lexed spelled none h short fits.
    let names = program_names_are_names bytes tokens items width lexed spelled in
    let w = written_value (program_of items width) t v in
    let canonical = written_canonical (program_of items width) names sure t v short h in
    (w, reads_back w canonical fits, value_again (program_of items width) (type_own items width none) sure t v h)
