-- What is left of the values of a list behind a place in it.
use Rattle.std.proofs.Common.{◌≡◌, ℕ, suc, ◌<◌, ◌≤◌, List, [], ◌∷◌, length, drop, Option, None, Some, refl, sym, ap, ◌∙◌, map, get_or, ◌+◌, arith}
use Rattle.std.proofs.lemmas.List.{drop_all}
use Rattle.std.proofs.Math.Seq.{drop-cons}
use Rattle.match_model.specs.Types.{MType, MTypes}
use Rattle.match_model.specs.Declarations.{MField, MVariant, MProgram}
use Rattle.match_model.specs.RustTypes.{count_of_types}
use Rattle.match_model.specs.Values.{MValues, no_values, more_values, values_of}
use Rattle.tree_eval.specs.Views.{plain_value}
use Rattle.tree_eval.specs.declared.value.Value.{Value}
use Rattle.type_table.specs.Tables.{part_of, field_name_of}
use Rattle.value_syntax.specs.Trees.{WrittenTree, FieldTree}
use Rattle.witness_names.specs.Named.{types_there}
use Rattle.witness_names.specs.NamedValues.{written_fields, written_value, written_parts}
use Rattle.witness_names.specs.Lookups.{brace_fields}
use Rattle.witness_names.proofs.PartLists.{types_from, types_past, fields_from, fields_past}

-- the values from one on
values_from_there : (ps : List Value) (i : ℕ) (p : Value) → i < length ps → p ≡ get_or ps i p →
    values_of (map plain_value (drop i ps))
    ≡ more_values (plain_value p) (values_of (map plain_value (drop (i + 1) ps)))
values_from_there ps i p h e =
    let step : drop i ps ≡ get_or ps i p ∷ drop (suc i) ps = drop-cons ps i p h in
    let next : suc i ≡ i + 1 = omega arith in
    ap (λ qs. values_of (map plain_value qs)) step
    ∙ (ap (λ q. more_values (plain_value q) (values_of (map plain_value (drop (suc i) ps)))) (sym e)
    ∙ ap (λ k. more_values (plain_value p) (values_of (map plain_value (drop k ps)))) next)

-- the trees of the parts from one of them on, the first of which has this number
abbrev pub parts_on : MProgram → Option MTypes → List Value → (i k : ℕ) → List WrittenTree
parts_on program o ps i k = written_parts program (drop i (types_there o)) (values_of (map plain_value (drop k ps)))

-- the same as fields
abbrev pub fields_on : MProgram → Option MVariant → Option MTypes → List Value → (i k : ℕ) → List FieldTree
fields_on program v o ps i k = written_fields (drop i (brace_fields v)) (parts_on program o ps i k)

module _ (program : MProgram) (o : Option MTypes) (ps : List Value) (i k : ℕ) where
  -- the first of the rest has its type
  pub next_value : (p : Value) (t : MType) (w : WrittenTree) → k < length ps → p ≡ get_or ps k p →
      part_of o i ≡ Some t → w ≡ written_value program t (plain_value p) →
      parts_on program o ps i k ≡ w ∷ parts_on program o ps (suc i) (k + 1)
  next_value p t w below is h e =
      let us = values_of (map plain_value (drop (k + 1) ps)) in
      ap (written_parts program (drop i (types_there o))) (values_from_there ps k p below is)
      ∙ (ap (λ ts. written_parts program ts (more_values (plain_value p) us)) (types_from o i t h)
      ∙ ap (λ v. v ∷ parts_on program o ps (suc i) (k + 1)) (sym e))

  no_types_left : (us : MValues) → written_parts program [] us ≡ []
  no_types_left no_values = refl
  no_types_left (more_values u us) = refl

  -- without a type there are none
  pub no_value : count_of_types o ≤ i → parts_on program o ps i k ≡ []
  no_value h =
      let us = values_of (map plain_value (drop k ps)) in
      ap (λ ts. written_parts program ts us) (types_past o i h) ∙ no_types_left us

  -- the first of the rest has its type and its name
  pub next_named : (v : Option MVariant) (p : Value) (t : MType) (w : WrittenTree) (name : List ℕ) → k < length ps →
      p ≡ get_or ps k p → part_of o i ≡ Some t → w ≡ written_value program t (plain_value p) →
      field_name_of v i ≡ Some name →
      fields_on program v o ps i k ≡ record { name = name; value = w } ∷ fields_on program v o ps (suc i) (k + 1)
  next_named v p t w name below is h e n =
      let f = fields_from v i name n in
      let left = fields_on program v o ps (suc i) (k + 1) in
      ap (written_fields (drop i (brace_fields v))) (next_value p t w below is h e)
      ∙ (ap (λ fs. written_fields fs (w ∷ parts_on program o ps (suc i) (k + 1))) f.1
      ∙ ap (λ m. record { name = m; value = w } ∷ left) f.2)

no_parts_left : (fs : List MField) → written_fields fs [] ≡ []
no_parts_left [] = refl
no_parts_left (f ∷ fs) = refl

module _ (program : MProgram) (v : Option MVariant) (o : Option MTypes) (ps : List Value) (i k : ℕ) where
  -- without a type there is no field
  pub no_typed : count_of_types o ≤ i → fields_on program v o ps i k ≡ []
  no_typed h =
      ap (written_fields (drop i (brace_fields v))) (no_value program o ps i k h)
      ∙ no_parts_left (drop i (brace_fields v))

  -- nor without a name
  pub no_named : field_name_of v i ≡ None → fields_on program v o ps i k ≡ []
  no_named h = ap (λ fs. written_fields fs (parts_on program o ps i k)) (fields_past v i h)

  -- nor behind all values
  pub no_more : length ps ≤ k → fields_on program v o ps i k ≡ []
  no_more h =
      ap (λ (qs : List Value). written_fields (drop i (brace_fields v)) (written_parts program (drop i (types_there o))
      (values_of (map plain_value qs)))) (drop_all k ps h) ∙ no_parts_left (drop i (brace_fields v))
