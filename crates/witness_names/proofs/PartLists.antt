-- What is left of a list behind a place in it.
use Rattle.std.proofs.Common.{◌≡◌, ℕ, zero, suc, ◌<◌, ◌≤◌, true, is_some, List, [], ◌∷◌, ◌++◌, length, drop, Option, Some, None, slice_get, refl, sym, ap, ◌∙◌, append_assoc, append-nil, map, get_or, ◌+◌, arith}
use Rattle.std.proofs.lemmas.List.{drop_all}
use Rattle.std.proofs.Math.Seq.{drop-cons}
use Rattle.std.specs.Prelude.{option_map}
use Rattle.match_model.specs.Types.{MType, MTypes, types_list}
use Rattle.match_model.specs.Declarations.{MField, MForm, UnitForm, TupleForm, BraceForm, MVariant, MProgram}
use Rattle.match_model.specs.RustTypes.{count_of_types}
use Rattle.match_model.specs.Witness.{MWitnesses, no_witnesses, more_witnesses, witnesses_of}
use Rattle.type_table.specs.Tables.{part_of, form_field_name, field_name_of}
use Rattle.witnesses.specs.Views.{plain_witness}
use Rattle.witnesses.specs.declared.witness.Witness.{Witness}
use Rattle.witness_text.specs.Trees.{WitnessTree, FieldTree}
use Rattle.witness_names.specs.declared.paths.Paths.{Paths}
use Rattle.witness_names.specs.Named.{named_fields, types_there, named_by, parts_by}
use Rattle.witness_names.specs.Lookups.{fields_of_form, brace_fields}

pub left_from : {A : Type 0} (xs : List A) (i : ℕ) (x : A) → slice_get xs i ≡ Some x → drop i xs ≡ x ∷ drop (suc i) xs
left_from [] i x h = cc
left_from (y ∷ ys) zero x h = cc
left_from (y ∷ ys) (suc i) x h = left_from ys i x h

pub none_left : {A : Type 0} (xs : List A) (i : ℕ) → slice_get xs i ≡ None → drop i xs ≡ []
none_left [] zero h = refl
none_left [] (suc i) h = refl
none_left (y ∷ ys) zero h = cc
none_left (y ∷ ys) (suc i) h = none_left ys i h

none_past : {A : Type 0} (xs : List A) (i : ℕ) → length xs ≤ i → drop i xs ≡ []
none_past [] zero h = refl
none_past [] (suc i) h = refl
none_past (y ∷ ys) zero h = absurd (omega (arith, h))
none_past (y ∷ ys) (suc i) h = none_past ys i (omega (arith, h))

-- the types from that of a field on
pub types_from : (o : Option MTypes) (i : ℕ) (t : MType) → part_of o i ≡ Some t →
    drop i (types_there o) ≡ t ∷ drop (suc i) (types_there o)
types_from None i t h = cc
types_from (Some ts) i t h = left_from (types_list ts) i t h

pub types_past : (o : Option MTypes) (i : ℕ) → count_of_types o ≤ i → drop i (types_there o) ≡ []
types_past None i h = none_past [] i h
types_past (Some ts) i h = none_past (types_list ts) i h

-- the fields from one with this name on
form_from : (form : MForm) (i : ℕ) (name : List ℕ) → form_field_name form i ≡ Some name →
    (f : MField) × (drop i (fields_of_form form) ≡ f ∷ drop (suc i) (fields_of_form form)) × (f.name ≡ name)
form_from UnitForm i name h = cc
form_from (TupleForm types) i name h = cc
form_from (BraceForm fields) i name h = at (slice_get fields i) refl h
  where
    at : (o : Option MField) → slice_get fields i ≡ o → option_map (λ f. f.name) o ≡ Some name →
        (f : MField) × (drop i fields ≡ f ∷ drop (suc i) fields) × (f.name ≡ name)
    at None e k = cc
    at (Some f) e k = (f, left_from fields i f e, cc)

pub fields_from : (o : Option MVariant) (i : ℕ) (name : List ℕ) → field_name_of o i ≡ Some name →
    (f : MField) × (drop i (brace_fields o) ≡ f ∷ drop (suc i) (brace_fields o)) × (f.name ≡ name)
fields_from None i name h = cc
fields_from (Some v) i name h = form_from v.form i name h

form_past : (form : MForm) (i : ℕ) → form_field_name form i ≡ None → drop i (fields_of_form form) ≡ []
form_past UnitForm i h = none_left [] i refl
form_past (TupleForm types) i h = none_left [] i refl
form_past (BraceForm fields) i h = at (slice_get fields i) refl h
  where
    at : (o : Option MField) → slice_get fields i ≡ o → option_map (λ f. f.name) o ≡ None → drop i fields ≡ []
    at None e k = none_left fields i e
    at (Some f) e k = cc

pub fields_past : (o : Option MVariant) (i : ℕ) → field_name_of o i ≡ None → drop i (brace_fields o) ≡ []
fields_past None i h = none_left [] i refl
fields_past (Some v) i h = form_past v.form i h

item_there : {A : Type 0} (xs : List A) (i : ℕ) → i < length xs → is_some (slice_get xs i) ≡ true
item_there [] i h = absurd (omega (arith, h))
item_there (x ∷ xs) zero h = refl
item_there (x ∷ xs) (suc i) h = item_there xs i (omega (arith, h))

-- a part below the count is there
pub part_there : (o : Option MTypes) (i : ℕ) → i < count_of_types o → is_some (part_of o i) ≡ true
part_there None i h = absurd (omega (arith, h))
part_there (Some ts) i h = item_there (types_list ts) i h

-- the witnesses from one on
witnesses_from : (ps : List Witness) (i : ℕ) (p : Witness) → i < length ps → p ≡ get_or ps i p →
    witnesses_of (map plain_witness (drop i ps)) ≡ more_witnesses (plain_witness p) (witnesses_of (map plain_witness
    (drop (i + 1) ps)))
witnesses_from ps i p h e =
    let step : drop i ps ≡ get_or ps i p ∷ drop (suc i) ps = drop-cons ps i p h in
    let next : suc i ≡ i + 1 = omega arith in
    ap (λ qs. witnesses_of (map plain_witness qs)) step
    ∙ (ap (λ q. more_witnesses (plain_witness q) (witnesses_of (map plain_witness (drop (suc i) ps)))) (sym e)
    ∙ ap (λ k. more_witnesses (plain_witness p) (witnesses_of (map plain_witness (drop k ps)))) next)

-- the trees of the parts from one of them on, the first of which has this number
abbrev pub parts_from : Paths → MProgram → Option MTypes → List Witness → (i k : ℕ) → List WitnessTree
parts_from paths program o ps i k = parts_by paths program (drop i (types_there o)) (witnesses_of (map plain_witness (drop k
    ps)))

-- the same as fields
abbrev pub trees_from : Paths → MProgram → Option MVariant → Option MTypes → List Witness → (i k : ℕ) → List FieldTree
trees_from paths program v o ps i k = named_fields (drop i (brace_fields v)) (parts_from paths program o ps i k)

-- one element goes from the rest to what is there
pub moved : {A : Type 0} (before after : List A) (x : A) (rest left all : List A) → after ≡ before ++ x ∷ [] →
    rest ≡ x ∷ left → before ++ rest ≡ all → after ++ left ≡ all
moved before after x rest left all a r h =
    ap (λ ys. ys ++ left) a ∙ (append_assoc before (x ∷ []) left ∙ (ap (λ ys. before ++ ys) (sym r) ∙ h))

module _ (paths : Paths) (program : MProgram) (o : Option MTypes) (ps : List Witness) (i k : ℕ) where
  -- the first of the rest has its type
  pub next_part : (p : Witness) (t : MType) (w : WitnessTree) → k < length ps → p ≡ get_or ps k p →
      part_of o i ≡ Some t → w ≡ named_by paths program t (plain_witness p) →
      parts_from paths program o ps i k ≡ w ∷ parts_from paths program o ps (suc i) (k + 1)
  next_part p t w below is h e =
      let us = witnesses_of (map plain_witness (drop (k + 1) ps)) in
      ap (parts_by paths program (drop i (types_there o))) (witnesses_from ps k p below is)
      ∙ (ap (λ ts. parts_by paths program ts (more_witnesses (plain_witness p) us)) (types_from o i t h)
      ∙ ap (λ v. v ∷ parts_from paths program o ps (suc i) (k + 1)) (sym e))

  no_types_left : (us : MWitnesses) → parts_by paths program [] us ≡ []
  no_types_left no_witnesses = refl
  no_types_left (more_witnesses u us) = refl

  -- without a type there are none
  pub no_part : count_of_types o ≤ i → parts_from paths program o ps i k ≡ []
  no_part h = let us = witnesses_of (map plain_witness (drop k ps)) in
      ap (λ ts. parts_by paths program ts us) (types_past o i h) ∙ no_types_left us

  -- the first of the rest has its type and its name
  pub next_field : (v : Option MVariant) (p : Witness) (t : MType) (w : WitnessTree) (name : List ℕ) → k < length ps →
      p ≡ get_or ps k p → part_of o i ≡ Some t →
      w ≡ named_by paths program t (plain_witness p) → field_name_of v i ≡ Some name →
      trees_from paths program v o ps i k ≡ record { name = name; witness = w } ∷ trees_from paths program v o ps (suc i) (k + 1)
  next_field v p t w name below is h e n =
      let f = fields_from v i name n in
      let left = trees_from paths program v o ps (suc i) (k + 1) in
      ap (named_fields (drop i (brace_fields v))) (next_part p t w below is h e)
      ∙ (ap (λ fs. named_fields fs (w ∷ parts_from paths program o ps (suc i) (k + 1))) f.1
      ∙ ap (λ m. record { name = m; witness = w } ∷ left) f.2)

no_parts_left : (fs : List MField) → named_fields fs [] ≡ []
no_parts_left [] = refl
no_parts_left (f ∷ fs) = refl

-- without a type there is no field
pub no_field : (paths : Paths) (program : MProgram) (v : Option MVariant) (o : Option MTypes) (ps : List Witness) (i k : ℕ) →
    count_of_types o ≤ i → trees_from paths program v o ps i k ≡ []
no_field paths program v o ps i k h = ap (named_fields (drop i (brace_fields v))) (no_part paths program o ps i k h)
    ∙ no_parts_left (drop i (brace_fields v))

-- nor without a name
pub no_name : (paths : Paths) (program : MProgram) (v : Option MVariant) (o : Option MTypes) (ps : List Witness) (i k : ℕ) →
    field_name_of v i ≡ None → trees_from paths program v o ps i k ≡ []
no_name paths program v o ps i k h = ap (λ fs. named_fields fs (parts_from paths program o ps i k)) (fields_past v i h)

-- nor behind all witnesses
pub no_witness : (paths : Paths) (program : MProgram) (v : Option MVariant) (o : Option MTypes) (ps : List Witness) (i k : ℕ) →
    length ps ≤ k → trees_from paths program v o ps i k ≡ []
no_witness paths program v o ps i k h = ap (λ (qs : List Witness). named_fields (drop i (brace_fields v)) (parts_by paths
    program (drop i (types_there o)) (witnesses_of (map plain_witness qs)))) (drop_all k ps h)
    ∙ no_parts_left (drop i (brace_fields v))

-- nothing is left
pub ended : {A : Type 0} (before rest all : List A) → rest ≡ [] → before ++ rest ≡ all → before ≡ all
ended before rest all r h = sym (append-nil before) ∙ (ap (λ ys. before ++ ys) (sym r) ∙ h)

pub stayed : {A : Type 0} (before after rest left all : List A) → after ≡ before → rest ≡ [] → left ≡ [] →
    before ++ rest ≡ all → after ++ left ≡ all
stayed before after rest left all a r l h = ap (λ ys. ys ++ left) a ∙ (ap (λ ys. before ++ ys) (l ∙ sym r) ∙ h)
