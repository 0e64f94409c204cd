use Rattle.std.proofs.Common.{◌≡◌, List, Some, None, length, sym, ap, ◌∙◌}
use Rattle.std.specs.Prelude.{slice_get, option_map}
use Rattle.std.proofs.lemmas.Option.{slice_get_past}
use Rattle.type_names.proofs.Variants.{get_map, looked_up}
use Rattle.type_table.specs.declared.entries.Entry.{Entry}
use Rattle.type_table.specs.Entries.{Told, entry_told, entry_below}
use Rattle.type_table.specs.Tables.{table_types}
use Rattle.type_table.specs.Readers.{parameter_told}
use Rattle.type_table.proofs.FieldLemmas.{all_at}
use Rattle.type_table.proofs.table.TypeTable.parameter.Goals as goal

pub returns-in-Some-clause-of : goal.returns-in-Some-clause-of
returns-in-Some-clause-of c =
    let table = c.args.self.now in
    let at : slice_get table.items.items c.args.i ≡ Some c.in-Some.entry.now =
    ap (λ (xs : List Entry). slice_get xs c.args.i) (sym c.deref.ensures.value) ∙ looked_up c.deref.result.now c.args.i c.in-Some.entry.now c.in-Some.ensures.lookup.0 c.in-Some.ensures.lookup.1 in
    c.entry_parameter.ensures.below (length table.nodes.keys) (all_at (entry_below (length table.nodes.keys)) table.items.items c.args.i c.in-Some.entry.now table.whole.below at)

pub returns-in-Some-clause-told : goal.returns-in-Some-clause-told
returns-in-Some-clause-told c =
    let table = c.args.self.now in
    let at : slice_get table.items.items c.args.i ≡ Some c.in-Some.entry.now =
    ap (λ (xs : List Entry). slice_get xs c.args.i) (sym c.deref.ensures.value) ∙ looked_up c.deref.result.now c.args.i c.in-Some.entry.now c.in-Some.ensures.lookup.0 c.in-Some.ensures.lookup.1 in
    let told = get_map (entry_told (table_types table)) table.items.items c.args.i ∙ ap (option_map {U = Told} (entry_told (table_types table))) at in
    c.entry_parameter.ensures.told (table_types table) ∙ ap parameter_told (sym told)

pub returns-in-None-clause-told : goal.returns-in-None-clause-told
returns-in-None-clause-told c =
    let table = c.args.self.now in
    let at : slice_get table.items.items c.args.i ≡ None =
    ap (λ (xs : List Entry). slice_get xs c.args.i) (sym c.deref.ensures.value) ∙ slice_get_past c.deref.result.now c.args.i c.in-None.ensures.lookup.3 in
    let told = get_map (entry_told (table_types table)) table.items.items c.args.i ∙ ap (option_map {U = Told} (entry_told (table_types table))) at in
    ap parameter_told (sym told)
