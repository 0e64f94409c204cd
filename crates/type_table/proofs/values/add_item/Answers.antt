use Rattle.std.proofs.Common.{◌≡◌, ◌++◌, map, Option, Some, None, sym, ap, ◌∙◌}
use Rattle.std.specs.Prelude.{slice_get}
use Rattle.std.proofs.lemmas.List.{append-nil}
use Rattle.std.proofs.lemmas.Option.{slice_get_past}
use Rattle.type_names.proofs.Variants.{looked_up}
use Rattle.type_table.specs.declared.entries.Entry.{Entry}
use Rattle.type_table.specs.Entries.{entry_below}
use Rattle.type_table.specs.Bodies.{said, item_bodies, clause_pair}
use Rattle.type_table.proofs.FieldLemmas.{all_at}
use Rattle.type_table.proofs.values.add_item.Goals as goal

pub add_entry-requires : goal.add_entry-requires
add_entry-requires c = record {
  below = all_at (entry_below 4294967296) c.args.items.now c.args.item c.in-Some.entry.now c.requires.below
      (looked_up c.args.items.now c.args.item c.in-Some.entry.now c.in-Some.ensures.lookup.0 c.in-Some.ensures.lookup.1);
}

pub returns-in-None : goal.returns-in-None
returns-in-None c =
    let none : slice_get c.args.items.now c.args.item ≡ None = slice_get_past c.args.items.now c.args.item c.in-None.ensures.lookup.3 in
    sym (append-nil _) ∙ ap (λ (o : Option Entry). map clause_pair c.args.clauses.now.items ++ said c.args.head (item_bodies c.args.sure o)) (sym none)
