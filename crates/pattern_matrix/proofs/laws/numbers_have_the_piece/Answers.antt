use Rattle.pattern_matrix.proofs.Listed.{numbers_have}
use Rattle.pattern_matrix.proofs.laws.numbers_have_the_piece.Goals as goal

pub returns : goal.returns
returns g c = numbers_have
