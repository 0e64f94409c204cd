use Rattle.pattern_matrix.proofs.Listed.{rows_witness}
use Rattle.pattern_matrix.proofs.laws.alike_rows_have_the_witnesses.Goals as goal

pub returns : goal.returns
returns g c = rows_witness (g.C.PatCx.is_value c.args.cx.now) (g.C.PatCx.context c.args.cx.now)
