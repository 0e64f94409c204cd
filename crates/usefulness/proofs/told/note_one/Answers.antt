use Rattle.usefulness.specs.contracts.told.ToldChosenPartialEq.TheImpl as told_eq
use Rattle.usefulness.proofs.ToldKeys.{one_more}
use Rattle.usefulness.proofs.told.note_one.Goals as goal

pub returns-clause-chosen : goal.returns-clause-chosen
returns-clause-chosen c = one_more c.args.told.now.chosen.keys c.insert.new.self.keys told_eq.ghosts.eq c.args.one c.in_ok-new.ensures.keys
