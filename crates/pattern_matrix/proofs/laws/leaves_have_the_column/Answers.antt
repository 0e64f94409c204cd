use Rattle.pattern_matrix.proofs.Having.{column_is}
use Rattle.pattern_matrix.proofs.laws.leaves_have_the_column.Goals as goal

pub returns : goal.returns
returns g c = column_is
