use Rattle.pattern_laws.proofs.SomeVerdict.{some_verdict}
use Rattle.pattern_laws.proofs.laws.some_verdict.Goals as goal

pub returns : goal.returns
returns c = some_verdict
