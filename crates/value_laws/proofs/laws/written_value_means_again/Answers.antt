use Rattle.type_names.specs.Written.{program_of}
use Rattle.value_laws.proofs.Again.{value_again}
use Rattle.value_laws.proofs.OwnNames.{type_own}
use Rattle.value_laws.proofs.laws.written_value_means_again.Goals as goal

pub returns : goal.returns
returns c = λ items width sure t v none h. value_again (program_of items width) (type_own items width none) sure t v h
