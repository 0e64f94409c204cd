-- The fields of what is declared with named ones.
use Rattle.std.proofs.Common.{◌≡◌, ℕ, zero, suc, Bool, true, false, List, [], ◌∷◌, map, length, Option, Some, None, is_some, refl, sym, ap, subst, ◌∙◌}
use Rattle.std.specs.Prelude.{position, slice_get, option_map}
use Rattle.std.specs.Str.{bytes_eq}
use Rattle.std.proofs.lemmas.Option.{slice_get-map}
use Rattle.match_model.specs.Types.{MType, types_list, types_of}
use Rattle.match_model.specs.Declarations.{MField, MForm, UnitForm, TupleForm, BraceForm, MVariant, MProgram, node_types, variant_types}
use Rattle.match_model.specs.RustTypes.{count_of_types}
use Rattle.type_names.proofs.Places.{position_map, position_hit, position_skip}
use Rattle.type_names.specs.declared.meanings.FormKind.TheVariants as kinds
use Rattle.type_table.specs.Lookups.{field_names, field_named}
use Rattle.type_table.specs.Tables.{type_variant, field_type, fields_of_type, part_of}
use Rattle.value_text.specs.Names.{field_numbered, field_found}
use Rattle.value_text.specs.Lookups.{kind_of_form, kind_there, fields_there, brace_fields, IsBrace}
use Rattle.value_text.proofs.MeantValues.{form_types_are, types_back}

-- a first that passes is there
there : {A : Type 0} (p : A → Bool) (xs : List A) (k : ℕ) → position p xs ≡ Some k → is_some (slice_get xs k) ≡ true
there p [] k h = absurd cc
there {A} p (x ∷ xs) k h = by (p x) refl (there p xs) k h
  where
    moved : (o : Option ℕ) → ((n : ℕ) → o ≡ Some n → is_some (slice_get xs n) ≡ true) → (k : ℕ) → option_map suc o ≡ Some k → is_some (slice_get (x ∷ xs) k) ≡ true
    moved None rest k h = absurd cc
    moved (Some n) rest k h = let e : suc n ≡ k = cc in ap (λ (j : ℕ). is_some (slice_get (x ∷ xs) j)) (sym e) ∙ rest n refl

    by : (b : Bool) → p x ≡ b → ((n : ℕ) → position p xs ≡ Some n → is_some (slice_get xs n) ≡ true) →
        (k : ℕ) → position p (x ∷ xs) ≡ Some k → is_some (slice_get (x ∷ xs) k) ≡ true
    by true e rest k h = let z : Some 0 ≡ Some k = sym (position_hit p x xs e) ∙ h in let f : 0 ≡ k = cc in ap (λ (j : ℕ). is_some (slice_get (x ∷ xs) j)) (sym f)
    by false e rest k h = moved (position p xs) rest k (sym (position_skip p x xs e) ∙ h)

counted_map : (fs : List MField) → length (map (λ f. f.type) fs) ≡ length fs
counted_map [] = refl
counted_map (f ∷ fs) = ap suc (counted_map fs)

module _ (program : MProgram) (t : MType) (k : ℕ) (brace : IsBrace program t k) where
  found : (v : MVariant) × (fs : List MField) × (type_variant program t k ≡ Some v) × (v.form ≡ BraceForm fs)
  found = by (type_variant program t k) refl brace
    where
      form_by : (v : MVariant) → type_variant program t k ≡ Some v → (f : MForm) → v.form ≡ f → Some (kind_of_form f) ≡ Some kinds.Brace →
          (v : MVariant) × (fs : List MField) × (type_variant program t k ≡ Some v) × (v.form ≡ BraceForm fs)
      form_by v e UnitForm f h = absurd cc
      form_by v e (TupleForm types) f h = absurd cc
      form_by v e (BraceForm fs) f h = (v, fs, e, f)

      by : (o : Option MVariant) → type_variant program t k ≡ o → kind_there o ≡ Some kinds.Brace →
          (v : MVariant) × (fs : List MField) × (type_variant program t k ≡ Some v) × (v.form ≡ BraceForm fs)
      by None e h = absurd cc
      by (Some v) e h = form_by v e v.form refl h

  fields_are : fields_there program t k ≡ found.1
  fields_are = rw (found.2, found.3) refl

  types_are : (i : ℕ) → field_type program t k i ≡ option_map (λ f. f.type) (slice_get (fields_there program t k) i)
  types_are i =
      ap (λ o. part_of o i) (form_types_are program t k found.0 found.2)
      ∙ (rw found.3 (ap (λ (ts : List MType). slice_get ts i) (types_back (map (λ f. f.type) found.1))
      ∙ slice_get-map (λ (f : MField). f.type) found.1 i)
      ∙ ap (λ (fs : List MField). option_map (λ f. f.type) (slice_get fs i)) (sym fields_are))

  numbers_are : (name : List ℕ) → field_named (type_variant program t k) name ≡ position (λ f. bytes_eq name f.name) (fields_there program t k)
  numbers_are name =
      ap (λ (o : Option MVariant). field_named o name) found.2
      ∙ (rw found.3 (position_map (λ (f : MField). f.name) (λ n. bytes_eq name n) found.1)
      ∙ ap (λ (fs : List MField). position (λ f. bytes_eq name f.name) fs) (sym fields_are))

  -- there is no such field
  pub none_found : (name : List ℕ) → None ≡ field_named (type_variant program t k) name → None ≡ field_found (fields_there program t k) name
  none_found name h = ap (field_numbered (fields_there program t k)) (h ∙ numbers_are name)

  -- a field that is found is there
  pub found_there : (name : List ℕ) (i : ℕ) → Some i ≡ field_named (type_variant program t k) name → is_some (field_type program t k i) ≡ true
  found_there name i h =
      let at = there (λ (f : MField). bytes_eq name f.name) (fields_there program t k) i (sym (h ∙ numbers_are name)) in
      ap is_some (types_are i) ∙ by (slice_get (fields_there program t k) i) at
    where
      by : (o : Option MField) → is_some o ≡ true → is_some (option_map (λ (f : MField). f.type) o) ≡ true
      by None h = absurd cc
      by (Some f) h = refl

  -- its number and its type
  pub found_is : (name : List ℕ) (i : ℕ) (u : MType) → Some i ≡ field_named (type_variant program t k) name → field_type program t k i ≡ Some u →
      Some (i, u) ≡ field_found (fields_there program t k) name
  found_is name i u h e =
      by (slice_get (fields_there program t k) i) (sym e ∙ types_are i) ∙ ap (field_numbered (fields_there program t k)) (h ∙ numbers_are name)
    where
      by : (o : Option MField) → Some u ≡ option_map (λ (f : MField). f.type) o → Some (i, u) ≡ option_map {U = ℕ × MType} (λ (f : MField). (i, f.type)) o
      by None h = absurd cc
      by (Some f) h = let same : u ≡ f.type = cc in ap (λ v. Some (i, v)) same

  -- it has as many parts as fields
  pub fields_counted : fields_of_type program t k ≡ length (fields_there program t k)
  fields_counted =
      ap count_of_types (form_types_are program t k found.0 found.2)
      ∙ (rw found.3 (ap (λ (ts : List MType). length ts) (types_back (map (λ f. f.type) found.1)) ∙ counted_map found.1)
      ∙ ap (λ (fs : List MField). length fs) (sym fields_are))
