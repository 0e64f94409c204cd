use Rattle.constructor_sets.proofs.PieceLaws.{each_by_one}
use Rattle.constructor_sets.proofs.laws.each_value_has_one_piece.Goals as goal

pub returns : goal.returns
returns c = each_by_one
