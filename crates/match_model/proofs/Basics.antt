-- Small facts on tests and options.
use Rattle.std.proofs.Common.{◌≡◌, ◌⊎◌, inl, inr, ℕ, zero, suc, ℤ, ◌<◌, Bool, true, false, ◌&&◌, ◌||◌, List, [], ◌∷◌, length, map, Option, Some, None, is_some, nat_eq, int_eq, refl, ap, sym, ◌∙◌, arith, slice_get}
use Rattle.std.specs.Prelude.{option_map}
use Rattle.std.proofs.lemmas.Bool.Decides.{nat_tests}
use Rattle.std.proofs.lemmas.Option.{slice_get_within}
use Rattle.std.proofs.lemmas.Slice.Eq.{bytes_eq-Decides}
use Rattle.std.specs.Cmp.{signed_Decides, booleans_Decides}
use mathlib.Core.Bool.{beq}
use Rattle.match_model.specs.Types.{MOwner, MType, NamedType, MTypes, no_types, more_types, types_list, types_of}
use Rattle.match_model.specs.Declarations.{MField, MForm, UnitForm, TupleForm, BraceForm, MVariant, MProgram, form_types, variant_types, item_variants, item_types, filled, filled_all, filled_field, filled_form, filled_variant, declared, node_types}
use Rattle.match_model.specs.Texts.{text_eq}

pub flag_equal : (a b : Bool) → beq a b ≡ true → a ≡ b
flag_equal a b h = (booleans_Decides a b).0 h

pub flag_itself : (a : Bool) → beq a a ≡ true
flag_itself a = (booleans_Decides a a).1 refl

pub int_equal : (a b : ℤ) → int_eq a b ≡ true → a ≡ b
int_equal a b h = (signed_Decides a b).0 h

pub int_itself : (a : ℤ) → int_eq a a ≡ true
int_itself a = (signed_Decides a a).1 refl

pub text_equal : (t u : List ℕ) → text_eq t u ≡ true → t ≡ u
text_equal t u h = (bytes_eq-Decides t u).0 h

pub text_itself : (t : List ℕ) → text_eq t t ≡ true
text_itself t = (bytes_eq-Decides t t).1 refl

pub nat_equal : (a b : ℕ) → nat_eq a b ≡ true → a ≡ b
nat_equal a b h = grind (arith, nat_tests)

pub nat_itself : (a : ℕ) → nat_eq a a ≡ true
nat_itself a = grind (arith, nat_tests)

pub both : (a b : Bool) → (a && b) ≡ true → (a ≡ true) × (b ≡ true)
both true b h = (refl, h)
both false b h = cc

pub and_true : (a b : Bool) → a ≡ true → b ≡ true → (a && b) ≡ true
and_true a b h k = rw (h, k) refl

pub or_left : (a b : Bool) → a ≡ true → (a || b) ≡ true
or_left true b h = refl
or_left false b h = cc

pub or_right : (a b : Bool) → b ≡ true → (a || b) ≡ true
or_right true b h = refl
or_right false b h = h

pub either : (a b : Bool) → (a || b) ≡ true → (a ≡ true) ⊎ (b ≡ true)
either true b h = inl refl
either false b h = inr h

pub untrue : {A : Type 0} → false ≡ true → A
untrue e = cc

-- what was found, where a test of it holds
pub found : {A : Type 0} (o : Option A) (f : A → Bool) → (elim o [ None ↦ false | Some x ↦ f x ]) ≡ true →
    (x : A) × (o ≡ Some x) × (f x ≡ true)
found None f h = absurd (not_true h)
  where
    not_true : false ≡ true → ⊥
    not_true e = cc
found (Some x) f h = (x, refl, h)

pub within : {A : Type 0} (xs : List A) (i : ℕ) → is_some (slice_get xs i) ≡ true → i < length xs
within {A = A} xs i h = go (slice_get xs i) refl h
  where
    go : (o : Option A) → slice_get xs i ≡ o → is_some o ≡ true → i < length xs
    go None e k = cc
    go (Some x) e k = slice_get_within xs i x e

-- nothing is not something
pub nothing : {A : Type 0} (x : A) → None ≡ Some x → ⊥
nothing x e = cc

-- ---- arguments in the place of parameters

list_filled : (args : MTypes) (ts : List MType) → types_of (map (filled args) ts) ≡ filled_all args (types_of ts)
list_filled args [] = refl
list_filled args (t ∷ ts) = ap (more_types (filled args t)) (list_filled args ts)

fields_filled : (args : MTypes) (fs : List MField) →
    types_of (map (λ f. f.type) (map (filled_field args) fs)) ≡ filled_all args (types_of (map (λ f. f.type) fs))
fields_filled args [] = refl
fields_filled args (f ∷ fs) = ap (more_types (filled args f.type)) (fields_filled args fs)

-- the types of the fields of a form are filled
pub form_filled : (args : MTypes) (form : MForm) → form_types (filled_form args form) ≡ filled_all args (form_types form)
form_filled args UnitForm = refl
form_filled args (TupleForm ts) = list_filled args ts
form_filled args (BraceForm fs) = fields_filled args fs

-- so are those of a variant in a list
pub variants_filled : (args : MTypes) (vs : List MVariant) (k : ℕ) →
    variant_types (slice_get (map (filled_variant args) vs) k) ≡ option_map (filled_all args) (variant_types (slice_get vs k))
variants_filled args [] k = refl
variants_filled args (v ∷ vs) zero = ap Some (form_filled args v.form)
variants_filled args (v ∷ vs) (suc k) = variants_filled args vs k

-- no type is taken away
pub filled_count : (args ts : MTypes) → length (types_list (filled_all args ts)) ≡ length (types_list ts)
filled_count args no_types = refl
filled_count args (more_types t ts) = ap suc (filled_count args ts)

-- so a form has as many field types as before
pub form_counted : (args : MTypes) (form : MForm) → length (types_list (form_types (filled_form args form))) ≡ length (types_list (form_types form))
form_counted args form = ap (λ ts. length (types_list ts)) (form_filled args form) ∙ filled_count args (form_types form)

-- the variant with this number is filled
pub variant_filled : (args : MTypes) (vs : List MVariant) (k : ℕ) → slice_get (map (filled_variant args) vs) k ≡ option_map (filled_variant args) (slice_get vs k)
variant_filled args [] k = refl
variant_filled args (v ∷ vs) zero = refl
variant_filled args (v ∷ vs) (suc k) = variant_filled args vs k

-- the field types of a named type's variant are those of the item that declares it, filled
pub named_types : (program : MProgram) (owner : MOwner) (args : MTypes) (k : ℕ) →
    node_types program (NamedType owner args) k ≡ option_map (filled_all args) (item_types (declared program owner) k)
named_types program owner args k = variants_filled args (item_variants (declared program owner)) k

-- where they are there, so are those of the item
pub named_there : (program : MProgram) (owner : MOwner) (args : MTypes) (k : ℕ) (ts : MTypes) →
    node_types program (NamedType owner args) k ≡ Some ts →
    (us : MTypes) × (item_types (declared program owner) k ≡ Some us) × (filled_all args us ≡ ts)
named_there program owner args k ts e = go (item_types (declared program owner) k) refl (sym (named_types program owner args k) ∙ e)
  where
    go : (o : Option MTypes) → item_types (declared program owner) k ≡ o → option_map (filled_all args) o ≡ Some ts →
        (us : MTypes) × (item_types (declared program owner) k ≡ Some us) × (filled_all args us ≡ ts)
    go None i f = cc
    go (Some us) i f = (us, i, cc)

-- a variant is there exactly where the item has it
pub named_some : (program : MProgram) (owner : MOwner) (args : MTypes) (k : ℕ) →
    is_some (node_types program (NamedType owner args) k) ≡ is_some (item_types (declared program owner) k)
named_some program owner args k = ap is_some (named_types program owner args k) ∙ go (item_types (declared program owner) k)
  where
    go : (o : Option MTypes) → is_some (option_map (filled_all args) o) ≡ is_some o
    go None = refl
    go (Some us) = refl
