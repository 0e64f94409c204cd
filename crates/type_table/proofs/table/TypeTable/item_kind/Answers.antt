use Rattle.std.proofs.Common.{◌≡◌, ◌<◌, ◌^◌, ℕ, List, Some, None, sym, ap, ◌∙◌, subst}
use Rattle.std.specs.Prelude.{slice_get, option_map}
use Rattle.std.proofs.lemmas.Option.{slice_get_past}
use Rattle.match_model.specs.Declarations.{MItem}
use Rattle.type_names.proofs.Variants.{looked_up}
use Rattle.type_table.specs.declared.entries.Entry.{Entry}
use Rattle.type_table.specs.Entries.{entry_told}
use Rattle.type_table.specs.Tables.{table_types, count_of_item}
use Rattle.type_table.proofs.KindLemmas.{program_at, entry_counted, kind_of_item, kind_of_none}
use Rattle.type_table.proofs.table.TypeTable.item_kind.Goals as goal

pub entry_kind-requires : goal.entry_kind-requires
entry_kind-requires c =
    let table = c.args.self.now in
    let at : slice_get table.items.items c.args.i ≡ Some c.in-Some.entry.now =
    ap (λ (xs : List Entry). slice_get xs c.args.i) (sym c.deref.ensures.value) ∙ looked_up c.deref.result.now c.args.i c.in-Some.entry.now c.in-Some.ensures.lookup.0 c.in-Some.ensures.lookup.1 in
    let item = program_at table c.args.i ∙ ap (option_map {U = MItem} (λ e. (entry_told (table_types table) e).item)) at in
    let P : ℕ → Type 0 = λ n. n < 2 ^ 32 in
    subst P (ap count_of_item item ∙ entry_counted (table_types table) c.in-Some.entry.now) c.requires.few

pub returns-in-Some-clause-is : goal.returns-in-Some-clause-is
returns-in-Some-clause-is c =
    let table = c.args.self.now in
    let at : slice_get table.items.items c.args.i ≡ Some c.in-Some.entry.now =
    ap (λ (xs : List Entry). slice_get xs c.args.i) (sym c.deref.ensures.value) ∙ looked_up c.deref.result.now c.args.i c.in-Some.entry.now c.in-Some.ensures.lookup.0 c.in-Some.ensures.lookup.1 in
    let item = program_at table c.args.i ∙ ap (option_map {U = MItem} (λ e. (entry_told (table_types table) e).item)) at in
    kind_of_item table c.args.i (entry_told (table_types table) c.in-Some.entry.now).item c.entry_kind.result item (c.entry_kind.ensures.is (table_types table))

pub returns-in-None-clause-is : goal.returns-in-None-clause-is
returns-in-None-clause-is c =
    let table = c.args.self.now in
    let h = c.in-None.ensures.lookup in
    let at : slice_get table.items.items c.args.i ≡ None =
    ap (λ (xs : List Entry). slice_get xs c.args.i) (sym c.deref.ensures.value) ∙ slice_get_past c.deref.result.now c.args.i h.3 in
    kind_of_none table c.args.i (program_at table c.args.i ∙ ap (option_map {U = MItem} (λ e. (entry_told (table_types table) e).item)) at)
