use Rattle.std.proofs.Common.{◌≡◌, ◌<◌, ℕ, List, [], rules, true, length, map, refl, sym, ap, subst, ◌∙◌}
use Rattle.std.specs.List.{All}
use Rattle.decl_syntax.specs.Items.{ItemTree, item_view, file_view}
use Rattle.decl_syntax.specs.declared.items.Item.{Item}
use Rattle.type_names.specs.Meanings.{Means, means}
use Rattle.type_names.specs.FindingViews.{IsFinder}
use Rattle.type_names.specs.Views.{means_in}
use Rattle.type_names.proofs.Variants.{means_are}
use Rattle.type_table.specs.declared.nodes.Node.{Node}
use Rattle.type_table.specs.declared.entries.Entry.{Entry}
use Rattle.type_table.specs.Nodes.{AreNodes, types_in, type_at}
use Rattle.type_table.specs.Entries.{entry_told, items_told}
use Rattle.type_table.specs.Keeping.{KeepsItems}
use Rattle.type_table.specs.Known.{IsKnown, HasFewParts, IsFew}
use Rattle.type_table.specs.Possible.{TellsValues}
use Rattle.type_table.proofs.DeclaredNames.{nodes_known, file_declared}
use Rattle.type_table.proofs.OneNumber.{one_number}
use Rattle.type_table.proofs.draft.assemble.Goals as goal

pub returns : goal.returns
returns c =
    let told : map (entry_told (types_in c.all_entries.new.nodes.keys)) c.in_ok-items.items.items ≡ items_told (means (file_view c.args.file.now)) (file_view c.args.file.now) =
    c.in_ok-items.ensures.told
    ∙ (ap (λ (xs : List Item). items_told (means_in c.in_ok-names.names) (map item_view xs)) c.deref.ensures.value
    ∙ ap (λ (m : Means). items_told m (file_view c.args.file.now)) (means_are (file_view c.args.file.now) c.in_ok-names.names c.in_ok-names.ensures)) in
    let empty : c.new-nodes.result.keys ≡ [] = search rules in
    let keeps : KeepsItems c.in_ok-names.names (file_view c.args.file.now) [] c.all_entries.new.nodes.keys =
    subst (λ (ks : List Node). KeepsItems c.in_ok-names.names (file_view c.args.file.now) ks c.all_entries.new.nodes.keys) empty
    (subst (λ (xs : List Item). KeepsItems c.in_ok-names.names (map item_view xs) c.new-nodes.result.keys c.all_entries.new.nodes.keys) c.deref.ensures.value c.in_ok-items.ensures.declared) in
    let known : All (IsKnown c.in_ok-items.items.items) c.all_entries.new.nodes.keys =
    nodes_known c.in_ok-items.items.items c.all_entries.new.nodes.keys
    (file_declared c.in_ok-names.names (file_view c.args.file.now) (types_in c.all_entries.new.nodes.keys) c.in_ok-items.items.items c.all_entries.new.nodes.keys c.in_ok-names.ensures keeps told)
    (subst (All HasFewParts) c.as_slice.ensures.keys (c.are_few.ensures.nodes c.if-not-are_few.false)) in
    let few : All IsFew c.in_ok-items.items.items = subst (All IsFew) c.deref-2.ensures.value (c.are_few.ensures.items c.if-not-are_few.false) in
    let values : TellsValues true c.all_entries.new.nodes.keys c.in_ok-items.items.items c.in_ok-values.values.items =
    subst (λ (ns : List Node). TellsValues true ns c.in_ok-items.items.items c.in_ok-values.values.items) c.as_slice-2.ensures.keys
    (subst (λ (es : List Entry). TellsValues true c.as_slice-2.result.now es c.in_ok-values.values.items) c.deref-3.ensures.value c.in_ok-values.ensures) in
    let one : (i j : ℕ) → i < length c.all_entries.new.nodes.keys → j < length c.all_entries.new.nodes.keys →
    type_at (types_in c.all_entries.new.nodes.keys) i ≡ type_at (types_in c.all_entries.new.nodes.keys) j → i ≡ j =
    λ i j lt_i lt_j same. one_number c.all_entries.new.nodes.keys c.in_ok-items.ensures.are c.as_slice.ensures.unique (type_at (types_in c.all_entries.new.nodes.keys) j) i j lt_i lt_j same refl in
    record {
      whole = record { are = c.in_ok-items.ensures.are; one = one; below = c.in_ok-items.ensures.below; known = known; few = few; values = values };
      told = told;
      width_is = refl;
      names = c.in_ok-names.ensures;
      finder = subst (λ (xs : List ItemTree). IsFinder xs c.in_ok-finder.finder) (ap (map item_view) c.deref-4.ensures.value) c.in_ok-finder.ensures;
    }

pub counted_values-requires-clause-are : goal.counted_values-requires-clause-are
counted_values-requires-clause-are c = subst AreNodes (sym c.as_slice-2.ensures.keys) c.in_ok-items.ensures.are
