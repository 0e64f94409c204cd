use Rattle.slice_split.proofs.Determined.{in_one_piece}
use Rattle.slice_split.proofs.laws.length_is_in_one_piece.Goals as goal

pub returns : goal.returns
returns c = in_one_piece
