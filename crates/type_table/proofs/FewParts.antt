-- The types of a table have fewer than 2^32 parts and variants, and each variant fewer than 2^32 fields.
use Rattle.std.proofs.Common.{◌≡◌, ℕ, ◌<◌, zero, suc, true, List, map, Some, None, Option, length, refl, ap, sym, subst, ◌∙◌, arith}
use Rattle.std.specs.Prelude.{slice_get, option_map}
use Rattle.std.proofs.lemmas.Bool.{ltb-true}
use Rattle.std.proofs.lemmas.List.{length-map}
use Rattle.std.proofs.lemmas.List.Elements.{recursion_from_All}
use Rattle.match_model.specs.Types.{DeclaredItem, OptionOwner, ResultOwner, MType, TupleType, NamedType, MTypes, no_types, more_types}
use Rattle.match_model.specs.Declarations.{MVariant, MItem, form_types, variant_types, item_types}
use Rattle.match_model.specs.RustTypes.{is_type, count_of_types}
use Rattle.match_model.proofs.Basics.{both}
use Rattle.type_table.specs.declared.table.TypeTable.{TypeTable}
use Rattle.type_table.specs.declared.table.TyId.{TyId}
use Rattle.type_table.specs.declared.entries.Entry.{Entry}
use Rattle.type_table.specs.declared.entries.Entry.TheVariants as entries
use Rattle.type_table.specs.Entries.{entry_told, variant_entry}
use Rattle.type_table.specs.Known.{IsFew}
use Rattle.type_table.specs.Tables.{IsOf, table_types, table_type, table_program, count_of_item, count_of_type, fields_of_type}
use Rattle.type_table.proofs.KindLemmas.{program_at}
use Rattle.type_table.proofs.SoundTypes.{holds_at, fields_few, items_few}
use Rattle.type_table.proofs.PlainTypes.{same_items, table_variants}
use Rattle.type_table.proofs.EmptyTypes.{rust_types}

pub none_few : 0 < 4294967296
none_few = omega arith

pub one_few : 1 < 4294967296
one_few = omega arith

-- how many fields or variants the item of an entry has
pub entry_count_few : (types : List MType) (e : Entry) → IsFew e → count_of_item (Some (entry_told types e).item) < 4294967296
entry_count_few types (entries.Struct id v) few = fields_few types v few (form_types (variant_entry types v).form) refl
entry_count_few types (entries.Enum id name later variants) few =
    let count : length (map (variant_entry types) variants.items) ≡ length variants.items = length-map _ _ in
    let lt : length variants.items < 4294967296 = few.0 in
    omega (arith, count, lt)
entry_count_few types _ few = none_few

module _ (t : TypeTable) where
  -- the same of the item with this number
  pub item_count_few : (i : ℕ) → count_of_item (slice_get (table_program t).items i) < 4294967296
  item_count_few i = by (slice_get t.items.items i) refl
    where
      by : (o : Option Entry) → slice_get t.items.items i ≡ o → count_of_item (slice_get (table_program t).items i) < 4294967296
      by None e =
          let none : count_of_item (slice_get (table_program t).items i) ≡ 0 =
          ap count_of_item (program_at t i ∙ ap (option_map {U = MItem} (λ e. (entry_told (table_types t) e).item)) e) in
          omega (arith, none)
      by (Some x) e =
          let count : count_of_item (slice_get (table_program t).items i) ≡ count_of_item (Some (entry_told (table_types t) x).item) =
          ap count_of_item (program_at t i ∙ ap (option_map {U = MItem} (λ e. (entry_told (table_types t) e).item)) e) in
          let few : count_of_item (Some (entry_told (table_types t) x).item) < 4294967296 =
          entry_count_few (table_types t) x (holds_at IsFew t.items.items (recursion_from_All IsFew t.items.items t.whole.few) i x e) in
          omega (arith, count, few)

  -- how many fields a variant of the item with this number has
  item_fields_few : (i k : ℕ) → count_of_types (item_types (slice_get (table_program t).items i) k) < 4294967296
  item_fields_few i k = by (item_types (slice_get (table_program t).items i) k) refl
    where
      by : (o : Option MTypes) → item_types (slice_get (table_program t).items i) k ≡ o → count_of_types o < 4294967296
      by None e = none_few
      by (Some ts) e =
          items_few (table_types t) t.items.items (recursion_from_All IsFew t.items.items t.whole.few) i k ts
          (ap (λ (is : List MItem). item_types (slice_get is i) k) (same_items t) ∙ e)

  typed_count_few : (ty : MType) → is_type (table_program t) ty ≡ true → count_of_type (table_program t) ty < 4294967296
  typed_count_few (TupleType ts) h = ltb-true _ _ (both _ _ h).1
  typed_count_few (NamedType (DeclaredItem i) arguments) h = item_count_few i
  typed_count_few _ h = none_few

  option_fields_few : (arguments : MTypes) (k : ℕ) → fields_of_type (table_program t) (NamedType OptionOwner arguments) k < 4294967296
  option_fields_few arguments zero = none_few
  option_fields_few arguments (suc zero) = one_few
  option_fields_few arguments (suc (suc k)) = none_few

  result_fields_few : (arguments : MTypes) (k : ℕ) → fields_of_type (table_program t) (NamedType ResultOwner arguments) k < 4294967296
  result_fields_few arguments zero = one_few
  result_fields_few arguments (suc zero) = one_few
  result_fields_few arguments (suc (suc k)) = none_few

  typed_fields_few : (ty : MType) (k : ℕ) → is_type (table_program t) ty ≡ true → fields_of_type (table_program t) ty k < 4294967296
  typed_fields_few (TupleType ts) zero h = ltb-true _ _ (both _ _ h).1
  typed_fields_few (NamedType (DeclaredItem i) arguments) k h =
      subst (λ (n : ℕ). n < 4294967296) (ap (λ (vs : List MVariant). count_of_types (variant_types (slice_get vs k))) (sym (table_variants t i arguments))) (item_fields_few i k)
  typed_fields_few (NamedType OptionOwner arguments) k h = option_fields_few arguments k
  typed_fields_few (NamedType ResultOwner arguments) k h = result_fields_few arguments k
  typed_fields_few _ _ h = none_few

  -- how many parts or variants a type of the table has
  pub count_few : (ty : TyId) → IsOf t ty → count_of_type (table_program t) (table_type t ty) < 4294967296
  count_few ty of = typed_count_few (table_type t ty) (rust_types t ty of)

  -- how many fields a variant of it has
  pub fields_of_few : (ty : TyId) → IsOf t ty → (k : ℕ) → fields_of_type (table_program t) (table_type t ty) k < 4294967296
  fields_of_few ty of k = typed_fields_few (table_type t ty) k (rust_types t ty of)
