use Rattle.value_syntax.proofs.ReadBack as back
use Rattle.value_syntax.proofs.laws.reads_back.Goals as goal

pub returns : goal.returns
returns c = back.reads_back
