use Rattle.pattern_laws.proofs.SoundFiles.{files_are_sound}
use Rattle.pattern_laws.proofs.laws.files_are_sound.Goals as goal

pub returns : goal.returns
returns c = files_are_sound
