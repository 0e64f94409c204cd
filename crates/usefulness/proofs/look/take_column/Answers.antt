use Rattle.usefulness.proofs.Reading.{moved_out}
use Rattle.usefulness.proofs.look.take_column.Goals as goal

pub returns-clause-moved : goal.returns-clause-moved
returns-clause-moved g c =
    moved_out c.args.frame.columns.items c.remove-taken.new.self.items c.args.place c.remove-taken.result c.requires.within c.remove-taken.ensures.value c.remove-taken.ensures.by_index.2
