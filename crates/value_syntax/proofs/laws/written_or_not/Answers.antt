use Rattle.value_syntax.proofs.Texts as texts
use Rattle.value_syntax.proofs.laws.written_or_not.Goals as goal

pub returns : goal.returns
returns c = texts.written_or_not
