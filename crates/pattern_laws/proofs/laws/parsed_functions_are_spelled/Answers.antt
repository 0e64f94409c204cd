use Rattle.pattern_laws.proofs.ParsedSound.{parsed_functions}
use Rattle.pattern_laws.proofs.laws.parsed_functions_are_spelled.Goals as goal

pub returns : goal.returns
returns c = parsed_functions
