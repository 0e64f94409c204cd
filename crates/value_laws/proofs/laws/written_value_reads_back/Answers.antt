use Rattle.type_names.specs.Written.{program_of}
use Rattle.value_syntax.proofs.ReadBack.{reads_back}
use Rattle.witness_names.specs.NamedValues.{written_value}
use Rattle.value_laws.proofs.Again.{value_again}
use Rattle.value_laws.proofs.OwnNames.{type_own}
use Rattle.value_laws.proofs.laws.written_value_reads_back.Goals as goal

pub returns : goal.returns
returns c = λ items width sure t v none h names fits.
    let w = written_value (program_of items width) t v in
    (w, reads_back w names fits, value_again (program_of items width) (type_own items width none) sure t v h)
