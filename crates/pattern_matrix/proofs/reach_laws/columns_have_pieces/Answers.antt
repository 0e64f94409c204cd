use Rattle.pattern_matrix.proofs.PiecesExist.{pieces_exist}
use Rattle.pattern_matrix.proofs.reach_laws.columns_have_pieces.Goals as goal

pub returns : goal.returns
returns c = pieces_exist
