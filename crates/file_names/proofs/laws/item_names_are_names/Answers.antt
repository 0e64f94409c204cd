use Rattle.file_names.proofs.Declared.{item_names_are_names}
use Rattle.file_names.proofs.laws.item_names_are_names.Goals as goal

pub returns : goal.returns
returns c = item_names_are_names
