use Rattle.std.proofs.Common.{◌≡◌, take}
use Rattle.std.specs.List.{dedup}
use Rattle.constructor_sets.specs.Texts.{AreNumbered, entry_texts, same_entry}
use Rattle.constructor_sets.proofs.texts.told_texts.Given as goal

abbrev pub invariant-loop-entry : goal.invariant-loop-entry
invariant-loop-entry l =
    (l.told.named.items ≡ dedup same_entry (take l.entry-index l.entry-items)) × AreNumbered l.heads (entry_texts l.told.named.items) l.told.known.items
