use Rattle.file_names.proofs.Tokens.{token_names_are_names}
use Rattle.file_names.proofs.laws.token_names_are_names.Goals as goal

pub returns : goal.returns
returns c = token_names_are_names
