use Rattle.std.proofs.Common.{rules}
use Rattle.matchcheck_c.proofs.Texts.{answers_told}
use Rattle.matchcheck_c.proofs.asking.answers_of.Goals as goal

pub returns : goal.returns
returns c = answers_told c.args.letters.now c.text_of.result (search rules) c.text_of.ensures
