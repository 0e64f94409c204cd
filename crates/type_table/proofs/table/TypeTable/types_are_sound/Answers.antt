use Rattle.type_table.proofs.EmptyTypes.{rust_types, sound_table}
use Rattle.type_table.proofs.table.TypeTable.types_are_sound.Goals as goal

pub returns-clause-program : goal.returns-clause-program
returns-clause-program c = sound_table c.args.self.now

pub returns-clause-types : goal.returns-clause-types
returns-clause-types c = rust_types c.args.self.now
