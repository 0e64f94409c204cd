use Rattle.std.proofs.Common.{◌≡◌, List, Option, Some, sym, ap, ◌∙◌}
use Rattle.std.specs.Prelude.{slice_get, option_map}
use Rattle.match_model.specs.Declarations.{MItem, item_variants}
use Rattle.type_names.proofs.Variants.{looked_up}
use Rattle.type_table.specs.declared.entries.Entry.{Entry}
use Rattle.type_table.specs.Entries.{entry_told}
use Rattle.type_table.specs.Tables.{table_types}
use Rattle.type_table.proofs.KindLemmas.{program_at}
use Rattle.type_table.specs.Parts.{entry_variant_at}
use Rattle.type_table.proofs.table.TypeTable.declared_variant.Goals as goal

pub returns-clause-is : goal.returns-clause-is
returns-clause-is c =
    let table = c.args.self.now in
    let at : slice_get table.items.items c.args.i ≡ Some c.in_ok-entry.entry.now =
    ap (λ (xs : List Entry). slice_get xs c.args.i) (sym c.deref.ensures.value) ∙ looked_up c.deref.result.now c.args.i c.in_ok-entry.entry.now c.in_ok-entry.ensures.lookup.0 c.in_ok-entry.ensures.lookup.1 in
    c.entry_variant.ensures.is ∙ ap (λ (o : Option Entry). entry_variant_at o c.args.k) (sym at)

pub returns-clause-variant : goal.returns-clause-variant
returns-clause-variant c =
    let table = c.args.self.now in
    let at : slice_get table.items.items c.args.i ≡ Some c.in_ok-entry.entry.now =
    ap (λ (xs : List Entry). slice_get xs c.args.i) (sym c.deref.ensures.value) ∙ looked_up c.deref.result.now c.args.i c.in_ok-entry.entry.now c.in_ok-entry.ensures.lookup.0 c.in_ok-entry.ensures.lookup.1 in
    let item = program_at table c.args.i ∙ ap (option_map {U = MItem} (λ e. (entry_told (table_types table) e).item)) at in
    c.entry_variant.ensures.variant (table_types table) ∙ ap (λ (o : Option MItem). slice_get (item_variants o) c.args.k) (sym item)
