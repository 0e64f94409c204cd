use Rattle.value_syntax.proofs.Texts as texts
use Rattle.value_syntax.proofs.laws.one_written.Goals as goal

pub returns : goal.returns
returns c = texts.one_written
