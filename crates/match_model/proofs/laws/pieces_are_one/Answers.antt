use Rattle.match_model.proofs.OnePieces.{one_pieces}
use Rattle.match_model.proofs.laws.pieces_are_one.Goals as goal

pub returns : goal.returns
returns c = one_pieces
