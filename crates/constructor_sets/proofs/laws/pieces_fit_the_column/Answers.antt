use Rattle.constructor_sets.proofs.PieceLaws.{fit_columns}
use Rattle.constructor_sets.proofs.laws.pieces_fit_the_column.Goals as goal

pub returns : goal.returns
returns c = fit_columns
