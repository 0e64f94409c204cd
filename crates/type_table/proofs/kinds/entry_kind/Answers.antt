use Rattle.std.proofs.Common.{sym, ap, ◌∙◌}
use Rattle.match_model.specs.Declarations.{MItem}
use Rattle.type_table.specs.declared.entries.Entry.{Entry}
use Rattle.type_table.specs.Entries.{variant_entry, entry_told}
use Rattle.type_table.proofs.KindLemmas.{fields_count}
use Rattle.type_table.proofs.kinds.entry_kind.Goals as goal

pub returns-in-Struct-clause-is : goal.returns-in-Struct-clause-is
returns-in-Struct-clause-is c = λ types.
    (variant_entry types c.in-Struct.variant, ap {B = MItem} (λ (e : Entry). (entry_told types e).item) c.in-Struct.is, fields_count types c.in-Struct.variant ∙ sym c.field_count.ensures)
