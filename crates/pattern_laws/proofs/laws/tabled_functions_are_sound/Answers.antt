use Rattle.pattern_laws.proofs.TableSeen.{files_sound}
use Rattle.pattern_laws.proofs.laws.tabled_functions_are_sound.Goals as goal

pub returns : goal.returns
returns c = files_sound
