-- Numbers from 0 on.
use Rattle.pattern_matrix.proofs.Halves.{columns_from-more}

pub ruleset more_numbers = columns_from-more
