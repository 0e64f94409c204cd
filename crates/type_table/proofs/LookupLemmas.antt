-- The first place at which a test passes, and the names of fields by their numbers.
use Rattle.std.proofs.Common.{◌≡◌, ℕ, ◌+◌, ◌<◌, zero, suc, Bool, true, false, List, [], ◌∷◌, map, length, Option, Some, None, refl, sym, ap, ◌∙◌, arith, ◌≤◌}
use Rattle.std.specs.Prelude.{slice_get, position, option_map}
use Rattle.std.specs.Fmt.{decimal}
use Rattle.std.specs.Str.{bytes_eq}
use Rattle.std.proofs.lemmas.List.{length-map}
use Rattle.match_model.specs.Types.{MType, DeclaredItem, OptionOwner, ResultOwner, NamedType, no_types, more_types, types_list}
use Rattle.match_model.specs.Declarations.{MField, MForm, UnitForm, TupleForm, BraceForm, MVariant, MItem, StructItem, EnumItem, OtherItem, MProgram, form_types, variants_of, item_variants, variant_types}
use Rattle.match_model.specs.RustTypes.{count_of_types}
use Rattle.type_names.proofs.Places.{position_hit, position_skip}
use Rattle.type_names.proofs.Variants.{get_map}
use Rattle.type_table.specs.declared.table.TypeTable.{TypeTable}
use Rattle.type_table.specs.Lookups.{numbered_names, form_names, field_names, name_or_number}
use Rattle.type_table.specs.Tables.{table_program, count_of_item, type_variant, variant_name_of, form_field_name, field_name_of, fields_of_type}
use Rattle.type_table.proofs.KindLemmas.{count_back}
use Rattle.type_table.proofs.FewParts.{none_few, one_few, item_count_few}
use Rattle.type_table.proofs.NodeLemmas.{get_below, item_at}

-- the test passes at the element and at none before
pub position_found : {A : Type 0} (p : A → Bool) (xs : List A) (k : ℕ) (x : A) → slice_get xs k ≡ Some x → p x ≡ true →
    ((j : ℕ) (y : A) → j < k → slice_get xs j ≡ Some y → p y ≡ false) → position p xs ≡ Some k
position_found p [] k x at here before = absurd cc
position_found p (y ∷ ys) zero x at here before = let same : y ≡ x = cc in position_hit p y ys (ap p same ∙ here)
position_found p (y ∷ ys) (suc k) x at here before =
    position_skip p y ys (before 0 y (omega arith) refl)
    ∙ ap (option_map suc) (position_found p ys k x at here (λ j z lt there. before (suc j) z (omega (arith, lt)) there))

-- the test passes at none
pub position_none : {A : Type 0} (p : A → Bool) (xs : List A) → ((j : ℕ) (y : A) → slice_get xs j ≡ Some y → p y ≡ false) → position p xs ≡ None
position_none p [] none = refl
position_none p (y ∷ ys) none = position_skip p y ys (none 0 y refl) ∙ ap (option_map suc) (position_none p ys (λ j z there. none (suc j) z there))

-- a name that was found is that of a variant
pub named_variant : (vs : List MVariant) (k : ℕ) (name : List ℕ) → Some name ≡ variant_name_of (slice_get vs k) → (v : MVariant) × (slice_get vs k ≡ Some v) × (v.name ≡ name)
named_variant vs k name = by (slice_get vs k) refl
  where
    by : (o : Option MVariant) → slice_get vs k ≡ o → Some name ≡ variant_name_of o → (v : MVariant) × (slice_get vs k ≡ Some v) × (v.name ≡ name)
    by None at e = absurd cc
    by (Some v) at e = (v, at, cc)

-- where there is no name there is no variant
pub no_variant : (o : Option MVariant) → None ≡ variant_name_of o → o ≡ None
no_variant None e = refl
no_variant (Some v) e = absurd cc

past_end : {A : Type 0} (xs : List A) (k j : ℕ) (y : A) → slice_get xs k ≡ None → slice_get xs j ≡ Some y → j < k
past_end (x ∷ xs) (suc k) zero y e at = omega arith
past_end (x ∷ xs) (suc k) (suc j) y e at = let lt : j < k = past_end xs k j y e at in omega (arith, lt)
past_end _ _ j y e at = absurd cc

-- none of the variants up to that number is of that name
abbrev pub NoneNamed : List MVariant → (name : List ℕ) → ℕ → Type 0
NoneNamed vs name k = (j : ℕ) (v : MVariant) → j < k → slice_get vs j ≡ Some v → bytes_eq name v.name ≡ false

pub none_named_past : (vs : List MVariant) (name : List ℕ) (k : ℕ) → NoneNamed vs name k → slice_get vs k ≡ None → position (λ v. bytes_eq name v.name) vs ≡ None
none_named_past vs name k before e = position_none (λ v. bytes_eq name v.name) vs (λ j v at. before j v (past_end vs k j v e at) at)

pub none_named_few : (vs : List MVariant) (name : List ℕ) (k : ℕ) → NoneNamed vs name k → length vs ≤ k → position (λ v. bytes_eq name v.name) vs ≡ None
none_named_few vs name k before few = position_none (λ v. bytes_eq name v.name) vs (λ j v at. let lt : j < length vs = get_below vs j v at in before j v (omega (arith, lt)) at)

-- one of that name is the first
pub first_named : (vs : List MVariant) (name other : List ℕ) (k : ℕ) → NoneNamed vs name k → Some other ≡ variant_name_of (slice_get vs k) → bytes_eq name other ≡ true →
    position (λ v. bytes_eq name v.name) vs ≡ Some k
first_named vs name other k before e same =
    let here = named_variant vs k other e in
    position_found (λ v. bytes_eq name v.name) vs k here.0 here.1 (ap (bytes_eq name) here.2 ∙ same) before

-- a type of a table has few variants
pub variants_few : (t : TypeTable) (u : MType) → length (variants_of (table_program t) u) < 4294967296
variants_few t (NamedType (DeclaredItem i) arguments) =
    let count : length (variants_of (table_program t) (NamedType (DeclaredItem i) arguments)) ≡ length (item_variants (slice_get (table_program t).items i)) = length-map _ _ in
    let few : length (item_variants (slice_get (table_program t).items i)) < 4294967296 = by (slice_get (table_program t).items i) (item_count_few t i) in
    omega (arith, count, few)
  where
    by : (o : Option MItem) → count_of_item o < 4294967296 → length (item_variants o) < 4294967296
    by None few = none_few
    by (Some OtherItem) few = none_few
    by (Some (StructItem v)) few = one_few
    by (Some (EnumItem name marked variants)) few = few
variants_few t (NamedType OptionOwner arguments) = omega arith
variants_few t (NamedType ResultOwner arguments) = omega arith
variants_few t _ = none_few

numbered_count : (i : ℕ) (ts : List MType) → length (numbered_names i ts) ≡ length ts
numbered_count i [] = refl
numbered_count i (t ∷ ts) = ap suc (numbered_count (suc i) ts)

numbered_at : (n i : ℕ) (ts : List MType) → i < length ts → slice_get (numbered_names n ts) i ≡ Some (decimal (n + i))
numbered_at n i [] lt = absurd (omega arith)
numbered_at n zero (t ∷ ts) lt = ap number (omega arith)
  where
    number : ℕ → Option (List ℕ)
    number m = Some (decimal m)
numbered_at n (suc i) (t ∷ ts) lt = numbered_at (suc n) i ts (omega arith) ∙ ap number (omega arith)
  where
    number : ℕ → Option (List ℕ)
    number m = Some (decimal m)

-- a form has as many names as types
form_count : (form : MForm) → length (types_list (form_types form)) ≡ length (form_names form)
form_count UnitForm = refl
form_count (TupleForm types) = count_back types ∙ sym (numbered_count 0 types)
form_count (BraceForm fields) = count_back (map (λ f. f.type) fields) ∙ (length-map _ _ ∙ sym (length-map _ _))

-- so has a variant of a type
pub fields_counted : (program : MProgram) (t : MType) (k : ℕ) (v : MVariant) → type_variant program t k ≡ Some v → fields_of_type program t k ≡ length (field_names (Some v))
fields_counted program (NamedType o arguments) k v e = ap (λ (w : Option MVariant). count_of_types (variant_types w)) e ∙ form_count v.form
fields_counted program _ k v e = absurd cc

-- the name of a field by its number
pub name_at : (v : MVariant) (i : ℕ) → i < length (form_names v.form) → slice_get (form_names v.form) i ≡ Some (name_or_number (form_field_name v.form i) i)
name_at v i lt = by v.form lt
  where
    named : (fields : List MField) → (o : Option MField) → slice_get fields i ≡ o → i < length fields →
        slice_get (map (λ f. f.name) fields) i ≡ Some (name_or_number (option_map (λ f. f.name) (slice_get fields i)) i)
    named fields None e below =
        let there = item_at fields i below in absurd (nothing (sym e ∙ there.1))
      where
        nothing : {x : MField} → None ≡ Some x → ⊥
        nothing h = cc
    named fields (Some f) e below =
        get_map (λ g. g.name) fields i
        ∙ (ap (option_map {U = List ℕ} (λ g. g.name)) e
        ∙ ap (λ (o : Option MField). Some (name_or_number (option_map (λ g. g.name) o) i)) (sym e))

    by : (form : MForm) → i < length (form_names form) → slice_get (form_names form) i ≡ Some (name_or_number (form_field_name form i) i)
    by UnitForm below = absurd (omega arith)
    by (TupleForm types) below =
        let count : length (numbered_names 0 types) ≡ length types = numbered_count 0 types in
        numbered_at 0 i types (omega (arith, count, below)) ∙ ap number (omega arith)
      where
        number : ℕ → Option (List ℕ)
        number m = Some (decimal m)
    by (BraceForm fields) below =
        let count : length (map (λ f. f.name) fields) ≡ length fields = length-map _ _ in
        named fields (slice_get fields i) refl (omega (arith, count, below))

-- none of the fields up to that number is of that name
abbrev pub NoFieldNamed : Option MVariant → (name : List ℕ) → ℕ → Type 0
NoFieldNamed variant name i = (j : ℕ) → j < i → bytes_eq name (name_or_number (field_name_of variant j) j) ≡ false

module _ (name : List ℕ) (v : MVariant) where
  name_is : (j : ℕ) (y : List ℕ) → slice_get (form_names v.form) j ≡ Some y → y ≡ name_or_number (form_field_name v.form j) j
  name_is j y at = some_same (sym at ∙ name_at v j (get_below (form_names v.form) j y at))
    where
      some_same : {w u : List ℕ} → Some w ≡ Some u → w ≡ u
      some_same x = cc

  -- a field of that name is the first
  pub first_field : (i : ℕ) → i < length (form_names v.form) → NoFieldNamed (Some v) name i → bytes_eq name (name_or_number (form_field_name v.form i) i) ≡ true →
      position (λ n. bytes_eq name n) (form_names v.form) ≡ Some i
  first_field i lt before here =
      position_found (λ n. bytes_eq name n) (form_names v.form) i (name_or_number (form_field_name v.form i) i) (name_at v i lt) here
      (λ j y below at. ap (bytes_eq name) (name_is j y at) ∙ before j below)

  -- or there is none
  pub no_field : (n : ℕ) → length (form_names v.form) ≤ n → NoFieldNamed (Some v) name n → position (λ n. bytes_eq name n) (form_names v.form) ≡ None
  no_field n few before =
      position_none (λ n. bytes_eq name n) (form_names v.form)
      (λ j y at. let lt : j < length (form_names v.form) = get_below (form_names v.form) j y at in ap (bytes_eq name) (name_is j y at) ∙ before j (omega (arith, lt)))
