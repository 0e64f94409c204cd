use Rattle.pattern_matrix.proofs.Having.{listed-with, kept_rows}
use Rattle.pattern_matrix.proofs.laws.piece_has_its_leaves.Goals as goal

pub returns : goal.returns
returns g c = record { listed = listed-with; rows = λ place piece n others rows leaves. kept_rows place piece n others rows leaves }
