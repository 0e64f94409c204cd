use Rattle.match_model.proofs.OneAnswer.{one_witness_list}
use Rattle.pat_context.proofs.laws.witness_lists_are_one.Goals as goal

pub returns : goal.returns
returns g c = one_witness_list (g.C.PatCx.context c.args.cx.now) (g.C.PatCx.is_value c.args.cx.now)
