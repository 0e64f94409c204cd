use Rattle.pattern_laws.proofs.OneVerdict.{one_verdict}
use Rattle.pattern_laws.proofs.laws.verdict_is_one.Goals as goal

pub returns : goal.returns
returns c = one_verdict
