use Rattle.pattern_laws.proofs.ParsedSound.{parsed_arms}
use Rattle.pattern_laws.proofs.laws.parsed_arms_are_sound.Goals as goal

pub returns : goal.returns
returns c = parsed_arms
