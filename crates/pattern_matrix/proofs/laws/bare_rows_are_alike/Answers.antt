use Rattle.pattern_matrix.proofs.BareLaws.{bare_traces, bare_rows_weigh}
use Rattle.pattern_matrix.proofs.laws.bare_rows_are_alike.Goals as goal

pub returns : goal.returns
returns g c = record { traces = bare_traces; weight = bare_rows_weigh }
