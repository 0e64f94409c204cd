use Rattle.constructor_sets.proofs.PieceLaws.{stand_in_order}
use Rattle.constructor_sets.proofs.laws.pieces_stand_in_order.Goals as goal

pub returns : goal.returns
returns c = stand_in_order
