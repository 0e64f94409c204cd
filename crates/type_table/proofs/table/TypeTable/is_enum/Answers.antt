use Rattle.std.proofs.Common.{◌≡◌, List, Some, None, sym, ap, ◌∙◌}
use Rattle.std.specs.Prelude.{slice_get, option_map}
use Rattle.std.proofs.lemmas.Option.{slice_get_past}
use Rattle.match_model.specs.Declarations.{MItem}
use Rattle.type_names.proofs.Variants.{looked_up}
use Rattle.type_table.specs.declared.entries.Entry.{Entry}
use Rattle.type_table.specs.Entries.{entry_told}
use Rattle.type_table.specs.Tables.{table_types}
use Rattle.type_table.specs.Readers.{is_enum_item}
use Rattle.type_table.proofs.KindLemmas.{program_at}
use Rattle.type_table.proofs.table.TypeTable.is_enum.Goals as goal

pub returns-in-Some : goal.returns-in-Some
returns-in-Some c =
    let table = c.args.self.now in
    let at : slice_get table.items.items c.args.i ≡ Some c.in-Some.entry.now =
    ap (λ (xs : List Entry). slice_get xs c.args.i) (sym c.deref.ensures.value) ∙ looked_up c.deref.result.now c.args.i c.in-Some.entry.now c.in-Some.ensures.lookup.0 c.in-Some.ensures.lookup.1 in
    let item = program_at table c.args.i ∙ ap (option_map {U = MItem} (λ e. (entry_told (table_types table) e).item)) at in
    c.entry_is_enum.ensures (table_types table) ∙ ap is_enum_item (sym item)

pub returns-in-None : goal.returns-in-None
returns-in-None c =
    let table = c.args.self.now in
    let at : slice_get table.items.items c.args.i ≡ None =
    ap (λ (xs : List Entry). slice_get xs c.args.i) (sym c.deref.ensures.value) ∙ slice_get_past c.deref.result.now c.args.i c.in-None.ensures.lookup.3 in
    let item = program_at table c.args.i ∙ ap (option_map {U = MItem} (λ e. (entry_told (table_types table) e).item)) at in
    ap is_enum_item (sym item)
