-- Types of a table by the heads of their nodes.
use Rattle.std.proofs.Common.{◌≡◌, ℕ, true, false, List, [], ◌∷◌, map, length, Option, Some, None, refl, sym, ap, ◌∙◌, suc, zero, arith}
use Rattle.std.specs.Prelude.{slice_get, option_map}
use Rattle.std.proofs.lemmas.List.{length-map}
use Rattle.match_model.specs.Types.{MType, MTypes, DeclaredItem, NamedType, no_types, more_types, types_list, types_of}
use Rattle.match_model.specs.Declarations.{MItem, form_types, item_variants, item_is_marked}
use Rattle.type_names.specs.declared.meanings.FormKind.{FormKind}
use Rattle.type_names.specs.declared.meanings.FormKind.TheVariants as form_kinds
use Rattle.type_names.proofs.Variants.{get_map}
use Rattle.type_table.specs.declared.nodes.Node.{Node}
use Rattle.type_table.specs.declared.nodes.Head.{Head}
use Rattle.type_table.specs.declared.table.TypeTable.{TypeTable}
use Rattle.type_table.specs.declared.table.TyId.{TyId}
use Rattle.type_table.specs.declared.entries.Entry.{Entry}
use Rattle.type_table.specs.declared.entries.Entry.TheVariants as entries
use Rattle.type_table.specs.declared.entries.VariantEntry.{VariantEntry}
use Rattle.type_table.specs.declared.kinds.TyKind.{TyKind}
use Rattle.type_table.specs.declared.kinds.TyKind.TheVariants as kinds
use Rattle.type_table.specs.Nodes.{head_type, type_at, type_there, fits_head}
use Rattle.type_table.specs.Entries.{Told, entry_told, variant_entry, field_entry, form_with}
use Rattle.type_table.specs.Tables.{table_types, table_type, table_told, table_program, parts_at, type_parts, KindIs, ItemKindIs, is_struct, count_of_item, entry_count, fields_of_entry, fields_with}
use Rattle.type_table.proofs.NodeLemmas.{type_of_node}
use Rattle.type_table.proofs.TypeNodes.{list_back}

module _ (t : TypeTable) (ty : TyId) (n : Node) (at : slice_get t.nodes.keys ty.index ≡ Some n) where
  pub parts_are : type_parts t ty ≡ map (type_at (table_types t)) n.parts.items
  parts_are = ap (parts_at (table_types t)) at

  -- a type by its node's head
  pub shape_of : (h : Head) → n.head ≡ h → table_type t ty ≡ head_type h (type_parts t ty)
  shape_of h e =
      ap type_there (type_of_node t.nodes.keys ty.index n t.whole.are at)
      ∙ (ap (λ (g : Head). head_type g (map (type_at (table_types t)) n.parts.items)) e
      ∙ ap (head_type h) (sym parts_are))

  -- it has as many parts as the head says
  pub parts_fit : (h : Head) → n.head ≡ h → fits_head h (length (type_parts t ty)) ≡ true
  parts_fit h e =
      let count : length (type_parts t ty) ≡ length n.parts.items = ap length parts_are ∙ rw length-map refl in
      ap (fits_head h) count ∙ (ap (λ (g : Head). fits_head g (length n.parts.items)) (sym e) ∙ (t.whole.are ty.index n at).1)

pub count_back : (ts : List MType) → length (types_list (types_of ts)) ≡ length ts
count_back ts = ap length (list_back ts)

pub no_arguments : (ts : MTypes) → length (types_list ts) ≡ 0 → ts ≡ no_types
no_arguments no_types e = refl
no_arguments (more_types t ts) e = absurd (omega (arith, e))

-- the item with this number, by its entry
pub program_at : (t : TypeTable) (i : ℕ) → slice_get (table_program t).items i ≡ option_map (λ e. (entry_told (table_types t) e).item) (slice_get t.items.items i)
program_at t i =
    get_map (λ x. x.item) (table_told t) i
    ∙ (ap (option_map {U = MItem} (λ x. x.item)) (get_map (entry_told (table_types t)) t.items.items i)
    ∙ twice (slice_get t.items.items i))
  where
    twice : (o : Option Entry) → option_map {U = MItem} (λ x. x.item) (option_map {U = Told} (entry_told (table_types t)) o) ≡ option_map {U = MItem} (λ e. (entry_told (table_types t) e).item) o
    twice None = refl
    twice (Some e) = refl

-- how many fields a variant has
pub fields_count : (types : List MType) (v : VariantEntry) → length (types_list (form_types (variant_entry types v).form)) ≡ fields_of_entry v
fields_count types v = by v.form
  where
    listed : length (types_list (types_of (map (λ f. f.type) (map (field_entry types) v.fields.items)))) ≡ length v.fields.items
    listed = count_back (map (λ f. f.type) (map (field_entry types) v.fields.items)) ∙ (rw length-map (rw length-map refl))

    by : (k : FormKind) → length (types_list (form_types (form_with k (map (field_entry types) v.fields.items)))) ≡ fields_with k (length v.fields.items)
    by form_kinds.Unit = refl
    by _ = listed

pub entry_counted : (types : List MType) (e : Entry) → count_of_item (Some (entry_told types e).item) ≡ entry_count e
entry_counted types (entries.Struct id variant) = fields_count types variant
entry_counted types (entries.Enum id name later variants) = rw length-map refl
entry_counted types _ = refl

-- the kind of a type whose item is there
pub kind_of_item : (t : TypeTable) (i : ℕ) (item : MItem) (k : TyKind) → slice_get (table_program t).items i ≡ Some item → ItemKindIs item k → KindIs t (NamedType (DeclaredItem i) no_types) k
kind_of_item t i item (kinds.Struct n) at h = (i, h.0, refl, at ∙ ap Some h.1, h.2)
kind_of_item t i item (kinds.Enum count later) at h =
    (DeclaredItem i, no_types, refl, ap is_struct at ∙ h.0, length-map _ _ ∙ (ap (λ (o : Option MItem). length (item_variants o)) at ∙ h.1), ap item_is_marked at ∙ h.2)
kind_of_item t i item _ at h = absurd h

pub kind_of_none : (t : TypeTable) (i : ℕ) → slice_get (table_program t).items i ≡ None → KindIs t (NamedType (DeclaredItem i) no_types) (kinds.Enum 0 false)
kind_of_none t i at = (DeclaredItem i, no_types, refl, ap is_struct at, length-map _ _ ∙ ap (λ (o : Option MItem). length (item_variants o)) at, ap item_is_marked at)
