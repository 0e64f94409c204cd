use Rattle.type_table.proofs.EntryLemmas.{id_test}
use Rattle.type_table.proofs.entries.field_entry.Goals as goal

pub returns-clause-below : goal.returns-clause-below
returns-clause-below c = id_test c.type_id.new.nodes.keys c.in_ok-ty.ty _ c.in_ok-ty.ensures.type_is
