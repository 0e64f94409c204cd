-- The first fault of a file that has a table.
use Rattle.std.proofs.Common.{◌≡◌, ℕ, ◌<◌, true, List, map, length, Option, Some, None, refl, sym, ap, subst, ◌∙◌, arith, take, get_or}
use Rattle.std.specs.Prelude.{slice_get, option_map}
use Rattle.std.proofs.lemmas.List.{length-map}
use Rattle.std.proofs.lemmas.Option.{slice_get-map, slice_get_read}
use Rattle.match_model.specs.declared.Width.{Width}
use Rattle.match_model.specs.Declarations.{MItem, MProgram}
use Rattle.match_model.specs.RustTypes.{is_declared}
use Rattle.decl_syntax.specs.Items.{ItemTree, item_view}
use Rattle.decl_syntax.specs.declared.items.Item.{Item}
use Rattle.type_names.specs.Meanings.{means}
use Rattle.type_names.specs.FindingViews.{IsFinder}
use Rattle.type_names.specs.Views.{AreNames}
use Rattle.type_names.specs.Written.{item_of, program_of}
use Rattle.type_names.specs.NameRules.{is_named_twice}
use Rattle.type_names.specs.Rules.{item_test}
use Rattle.type_names.specs.declared.item_rules.ItemRule.TheVariants as item_rules
use Rattle.type_names.specs.declared.type_rules.TypeRule.TheVariants as type_rules
use Rattle.type_table.specs.declared.nodes.Node.{Node}
use Rattle.type_table.specs.declared.entries.Entry.{Entry}
use Rattle.type_table.specs.declared.draft.Draft.{Draft}
use Rattle.type_table.specs.declared.table.TypeTable.{TypeTable}
use Rattle.type_table.specs.Nodes.{types_in}
use Rattle.type_table.specs.Entries.{Told, entry_told, items_told}
use Rattle.type_table.specs.Empty.{NoneEndless}
use Rattle.type_table.specs.Faults.{Breaks, name_twice, variant_twice, field_twice, unknown_type, sizeless_place, contains_itself, array_length, argument_count, bad_use, unsupported_attribute, endless_type, IsEndless, BreaksNone, IsFirstFault, LeastFault}
use Rattle.type_table.specs.Possible.{program_in}
use Rattle.type_table.specs.Readings.{fault_pair}
use Rattle.type_table.specs.Tables.{IsDraftOf, IsTableOf, table_told}
use Rattle.type_table.proofs.AllRules.{passes_within}
use Rattle.type_table.proofs.ByValue.{contains_within}
use Rattle.type_table.proofs.EntryLemmas.{program_is, told_items}
use Rattle.type_table.proofs.NodeLemmas.{get_below}

-- the program of slices that have what the draft and the file have
pub program_read : (items : List ItemTree) (width : Width) (d : Draft) (ks : List Node) (es : List Entry) (is : List Item) →
    IsDraftOf items width d → ks ≡ d.nodes.keys → es ≡ d.items.items → map item_view is ≡ items → program_in width ks es ≡ program_of (map item_view is) width
program_read items width d ks es is h keys entries written =
    ap (λ (ns : List Node). program_in width ns es) keys
    ∙ (ap (program_in width d.nodes.keys) entries
    ∙ (program_is items width d h
    ∙ ap (λ (xs : List ItemTree). program_of xs width) (sym written)))

-- where no item breaks a rule, none is endless
pub none_endless : (items : List ItemTree) (width : Width) (d : Draft) → IsDraftOf items width d → BreaksNone items width → NoneEndless (program_in d.width d.nodes.keys d.items.items)
none_endless items width d h none i endless =
    none i 36 (endless_type refl (subst (λ (p : MProgram). IsEndless p i) (ap (λ (w : Width). program_in w d.nodes.keys d.items.items) h.width_is ∙ program_is items width d h) endless))

-- the table of such a draft is that of the file
pub draft_table : (items : List ItemTree) (width : Width) (d : Draft) (t : TypeTable) → IsDraftOf items width d → BreaksNone items width →
    t.nodes.keys ≡ d.nodes.keys → t.items.items ≡ d.items.items → t.width ≡ d.width → t.names ≡ d.names → t.finder ≡ d.finder → IsTableOf items width t
draft_table items width d t h none nodes entries same_width names finder =
    let told : table_told t ≡ items_told (means items) items =
    ap (λ (ks : List Node). map (entry_told (types_in ks)) t.items.items) nodes ∙ (ap (map {B = Told} (entry_told (types_in d.nodes.keys))) entries ∙ h.told) in
    let wide : t.width ≡ width = same_width ∙ h.width_is in
    record {
      told = told;
      width_is = wide;
      names = subst (AreNames items) (sym names) h.names;
      finder = subst (IsFinder items) (sym finder) h.finder;
      program = ap (λ (is : List MItem). program is t.width) (ap (map {B = MItem} (λ x. x.item)) told ∙ told_items (means items) 0 items)
          ∙ ap (λ (w : Width). program (map (item_of (means items)) items) w) wide;
      unbroken = none;
    }
  where
    program : List MItem → Width → MProgram
    program is w = record { items = is; width = w }

-- an item that breaks a rule is there
pub broken_below : (items : List ItemTree) (width : Width) (i rule : ℕ) → Breaks items width i rule → i < length items
broken_below items width i rule (name_twice e h) = passes_within (λ item. is_named_twice items (take i items) item.kind) items i h
broken_below items width i rule (variant_twice e h) = passes_within (item_test item_rules.VariantTwice items) items i h
broken_below items width i rule (field_twice e h) = passes_within (item_test item_rules.FieldTwice items) items i h
broken_below items width i rule (unknown_type e h) = passes_within (item_test (item_rules.Written type_rules.UnknownType) items) items i h
broken_below items width i rule (sizeless_place e h) = passes_within (item_test (item_rules.Written type_rules.SizelessPlace) items) items i h
broken_below items width i rule (contains_itself e h) =
    let same : length (map (item_of (means items)) items) ≡ length items = length-map _ _ in
    let lt : i < length (map (item_of (means items)) items) = contains_within (program_of items width) i h in
    omega arith
broken_below items width i rule (array_length e h) = passes_within (item_test (item_rules.Written type_rules.ArrayLength) items) items i h
broken_below items width i rule (argument_count e h) = passes_within (item_test (item_rules.Written type_rules.ArgumentCount) items) items i h
broken_below items width i rule (bad_use e h) = passes_within (item_test item_rules.BadUse items) items i h
broken_below items width i rule (unsupported_attribute e h) = passes_within (item_test item_rules.UnsupportedAttribute items) items i h
broken_below items width i rule (endless_type e h) =
    let same : length (map (item_of (means items)) items) ≡ length items = length-map _ _ in
    let lt : i < length (map (item_of (means items)) items) = declared_below (map (item_of (means items)) items) h.declared in
    omega arith
  where
    declared_below : (ms : List MItem) → is_declared (slice_get ms i) ≡ true → i < length ms
    declared_below ms d = by (slice_get ms i) refl d
      where
        by : (o : Option MItem) → slice_get ms i ≡ o → is_declared o ≡ true → i < length ms
        by None f g = absurd cc
        by (Some m) f g = get_below ms i m f

-- the least fault with the place of its item
pub first_fault_is : (items : List ItemTree) (width : Width) (rule i at : ℕ) (item : ItemTree) → slice_get items i ≡ Some item → item.from ≡ at →
    LeastFault (Breaks items width) (Some (rule, i)) → IsFirstFault items width rule i at
first_fault_is items width rule i at item there place least = record {
  item = item;
  there = there;
  place = place;
  broken = least.0;
  first = least.1;
  least = least.2;
}

-- the least fault that was found
pub found_least : (items : List ItemTree) (width : Width) (best : Option (ℕ × ℕ)) (rule i : ℕ) → best ≡ Some (rule, i) →
    LeastFault (Breaks items width) (option_map fault_pair best) → LeastFault (Breaks items width) (Some (rule, i))
found_least items width best rule i is least = subst (λ (b : Option (ℕ × ℕ)). LeastFault (Breaks items width) (option_map fault_pair b)) is least

-- none is found where none breaks a rule
pub none_broken : (items : List ItemTree) (width : Width) (best : Option (ℕ × ℕ)) → best ≡ None → LeastFault (Breaks items width) (option_map fault_pair best) → BreaksNone items width
none_broken items width best is least = subst (λ (b : Option (ℕ × ℕ)). LeastFault (Breaks items width) (option_map fault_pair b)) is least

-- its item is among those of the file
pub found_below : (items : List Item) (width : Width) (best : Option (ℕ × ℕ)) (rule i : ℕ) → best ≡ Some (rule, i) →
    LeastFault (Breaks (map item_view items) width) (option_map fault_pair best) → i < length items
found_below items width best rule i is least =
    let same : length (map item_view items) ≡ length items = length-map _ _ in
    let lt : i < length (map item_view items) = broken_below (map item_view items) width i rule (found_least (map item_view items) width best rule i is least).0 in
    omega arith

-- it is the first fault, and lies where its item begins
pub found_fault : (items : List Item) (width : Width) (best : Option (ℕ × ℕ)) (rule i : ℕ) (item : Item) → best ≡ Some (rule, i) →
    LeastFault (Breaks (map item_view items) width) (option_map fault_pair best) → item ≡ get_or items i item → IsFirstFault (map item_view items) width rule i item.from
found_fault items width best rule i item is least read =
    first_fault_is (map item_view items) width rule i item.from (item_view item)
    (slice_get-map item_view items i ∙ ap (option_map item_view) (slice_get_read items (length items) i item refl (found_below items width best rule i is least) read)) refl
    (found_least (map item_view items) width best rule i is least)
