use Rattle.name_laws.proofs.Composed.{nfc_of_identifier}
use Rattle.name_laws.proofs.laws.nfc_of_identifier.Goals as goal

pub returns : goal.returns
returns c = nfc_of_identifier
