-- A type whose parameters are all the declaration's own is itself where each parameter stands for itself. One without parameters is
-- itself whatever the arguments are.
use Rattle.std.proofs.Common.{◌≡◌, ℕ, suc, ◌<◌, Bool, true, false, ◌&&◌, List, [], ◌∷◌, map, Some, refl, ap, ◌∙◌, arith, slice_get}
use Rattle.std.specs.Prelude.{nat_lt}
use Rattle.std.proofs.lemmas.Bool.{ltb-true}
use Rattle.match_model.specs.Types.{DeclaredItem, MOpaque, StringName, F32Name, F64Name, BoxName, VecName, RcName, ArcName, ParameterName, MType, BoolType, CharType, StrType, NeverType, IntType, OpaqueType, TupleType, PointType, SliceType, ArrayType, NamedType, MTypes, no_types, more_types, types_of}
use Rattle.match_model.specs.Declarations.{MField, MForm, UnitForm, TupleForm, BraceForm, MVariant, MProgram, form_types, variant_types, item_variants, item_types, argument, parameter, filled, filled_all, filled_field, filled_form, filled_variant, variants_of}
use Rattle.match_model.proofs.Basics.{both, untrue}

-- a name of a type with these arguments, of which it is told whether their parameters are below that, as its own is
abbrev pub name_below : (n : ℕ) → MOpaque → MTypes → (rest : Bool) → Bool
name_below n (ParameterName k) no_types rest = nat_lt k n
name_below n (ParameterName k) (more_types t ts) rest = false
name_below n _ ts rest = rest

abbrev mutual
  -- each parameter of the type has a number below that
  pub parameters_below : (n : ℕ) → MType → Bool
  parameters_below n (OpaqueType name ts) = name_below n name ts (all_below n ts)
  parameters_below n (TupleType ts) = all_below n ts
  parameters_below n (PointType mutable t) = parameters_below n t
  parameters_below n (SliceType t) = parameters_below n t
  parameters_below n (ArrayType t len) = parameters_below n t
  parameters_below n (NamedType owner ts) = all_below n ts
  parameters_below n _ = true

  -- the same of types
  pub all_below : (n : ℕ) → MTypes → Bool
  all_below n no_types = true
  all_below n (more_types t ts) = parameters_below n t && all_below n ts

module _ (n : ℕ) (args : MTypes) (own : (k : ℕ) → k < n → argument args k ≡ parameter k) where
  opaque_itself : (name : MOpaque) (ts : MTypes) → name_below n name ts (all_below n ts) ≡ true → (all_below n ts ≡ true → filled_all args ts ≡ ts) →
      filled args (OpaqueType name ts) ≡ OpaqueType name ts
  opaque_itself (ParameterName k) no_types h rest = own k (ltb-true k n h)
  opaque_itself (ParameterName k) (more_types t ts) h rest = absurd (untrue h)
  opaque_itself StringName ts h rest = ap (OpaqueType StringName) (rest h)
  opaque_itself F32Name ts h rest = ap (OpaqueType F32Name) (rest h)
  opaque_itself F64Name ts h rest = ap (OpaqueType F64Name) (rest h)
  opaque_itself BoxName ts h rest = ap (OpaqueType BoxName) (rest h)
  opaque_itself VecName ts h rest = ap (OpaqueType VecName) (rest h)
  opaque_itself RcName ts h rest = ap (OpaqueType RcName) (rest h)
  opaque_itself ArcName ts h rest = ap (OpaqueType ArcName) (rest h)

  mutual
    pub type_itself : (t : MType) → parameters_below n t ≡ true → filled args t ≡ t
    type_itself BoolType h = refl
    type_itself CharType h = refl
    type_itself StrType h = refl
    type_itself NeverType h = refl
    type_itself (IntType kind) h = refl
    type_itself (OpaqueType name ts) h = opaque_itself name ts h (λ g. types_itself ts g)
    type_itself (TupleType ts) h = ap TupleType (types_itself ts h)
    type_itself (PointType mutable t) h = ap (PointType mutable) (type_itself t h)
    type_itself (SliceType t) h = ap SliceType (type_itself t h)
    type_itself (ArrayType t len) h = ap (λ u. ArrayType u len) (type_itself t h)
    type_itself (NamedType owner ts) h = ap (NamedType owner) (types_itself ts h)

    pub types_itself : (ts : MTypes) → all_below n ts ≡ true → filled_all args ts ≡ ts
    types_itself no_types h = refl
    types_itself (more_types t ts) h =
        let b = both (parameters_below n t) _ h in
        ap (λ u. more_types u (filled_all args ts)) (type_itself t b.0) ∙ ap (more_types t) (types_itself ts b.1)

  list_itself : (ts : List MType) → all_below n (types_of ts) ≡ true → map (filled args) ts ≡ ts
  list_itself [] h = refl
  list_itself (t ∷ ts) h =
      let b = both (parameters_below n t) _ h in
      ap (λ u. u ∷ map (filled args) ts) (type_itself t b.0) ∙ ap (λ us. t ∷ us) (list_itself ts b.1)

  field_itself : (f : MField) → parameters_below n f.type ≡ true → filled_field args f ≡ f
  field_itself f h = ap with_type (type_itself f.type h)
    where
      with_type : MType → MField
      with_type t = record { name = f.name; type = t }

  fields_itself : (fs : List MField) → all_below n (types_of (map (λ f. f.type) fs)) ≡ true → map (filled_field args) fs ≡ fs
  fields_itself [] h = refl
  fields_itself (f ∷ fs) h =
      let b = both (parameters_below n f.type) _ h in
      ap (λ g. g ∷ map (filled_field args) fs) (field_itself f b.0) ∙ ap (λ gs. f ∷ gs) (fields_itself fs b.1)

  form_itself : (form : MForm) → all_below n (form_types form) ≡ true → filled_form args form ≡ form
  form_itself UnitForm h = refl
  form_itself (TupleForm ts) h = ap TupleForm (list_itself ts h)
  form_itself (BraceForm fs) h = ap BraceForm (fields_itself fs h)

  variant_itself : (v : MVariant) → all_below n (form_types v.form) ≡ true → filled_variant args v ≡ v
  variant_itself v h = ap with_form (form_itself v.form h)
    where
      with_form : MForm → MVariant
      with_form form = record { name = v.name; form = form }

  pub variants_itself : (vs : List MVariant) → ((k : ℕ) (ts : MTypes) → variant_types (slice_get vs k) ≡ Some ts → all_below n ts ≡ true) → map (filled_variant args) vs ≡ vs
  variants_itself [] h = refl
  variants_itself (v ∷ vs) h =
      ap (λ w. w ∷ map (filled_variant args) vs) (variant_itself v (h 0 (form_types v.form) refl))
      ∙ ap (λ ws. v ∷ ws) (variants_itself vs (λ k ts e. h (suc k) ts e))

-- the field types of all items are without parameters
abbrev pub FieldsArePlain : MProgram → Type 0
FieldsArePlain program = (i k : ℕ) (ts : MTypes) → item_types (slice_get program.items i) k ≡ Some ts → all_below 0 ts ≡ true

-- so the variants of a declared type are those of its item
pub plain_variants : (program : MProgram) → FieldsArePlain program → (i : ℕ) (args : MTypes) →
    variants_of program (NamedType (DeclaredItem i) args) ≡ item_variants (slice_get program.items i)
plain_variants program plain i args = variants_itself 0 args (λ k lt. absurd (omega (arith, lt))) (item_variants (slice_get program.items i)) (λ k ts e. plain i k ts e)
