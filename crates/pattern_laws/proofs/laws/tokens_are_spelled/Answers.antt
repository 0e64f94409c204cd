use Rattle.pattern_laws.proofs.SpelledLiterals.{tokens_spelled}
use Rattle.pattern_laws.proofs.laws.tokens_are_spelled.Goals as goal

pub returns : goal.returns
returns c = tokens_spelled
