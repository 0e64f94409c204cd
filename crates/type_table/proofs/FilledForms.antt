-- Arguments in the place of parameters change no name of a field.
use Rattle.std.proofs.Common.{◌≡◌, ℕ, suc, List, [], ◌∷◌, map, Option, Some, None, refl, ap, ◌∙◌}
use Rattle.std.specs.Prelude.{slice_get, option_map}
use Rattle.std.specs.Fmt.{decimal}
use Rattle.match_model.specs.Types.{MType, MTypes}
use Rattle.match_model.specs.Declarations.{MField, MForm, UnitForm, TupleForm, BraceForm, MVariant, filled, filled_field, filled_form, filled_variant}
use Rattle.match_model.proofs.Basics.{variant_filled}
use Rattle.type_table.specs.Lookups.{numbered_names, form_names, field_names}

numbered_filled : (args : MTypes) (i : ℕ) (ts : List MType) → numbered_names i (map (filled args) ts) ≡ numbered_names i ts
numbered_filled args i [] = refl
numbered_filled args i (t ∷ ts) = ap (λ (ns : List (List ℕ)). decimal i ∷ ns) (numbered_filled args (suc i) ts)

fields_filled : (args : MTypes) (fs : List MField) → map (λ f. f.name) (map (filled_field args) fs) ≡ map (λ f. f.name) fs
fields_filled args [] = refl
fields_filled args (f ∷ fs) = ap (λ (ns : List (List ℕ)). f.name ∷ ns) (fields_filled args fs)

form_filled : (args : MTypes) (form : MForm) → form_names (filled_form args form) ≡ form_names form
form_filled args UnitForm = refl
form_filled args (TupleForm ts) = numbered_filled args 0 ts
form_filled args (BraceForm fs) = fields_filled args fs

-- the names of the fields of the variant with this number
pub names_filled : (args : MTypes) (vs : List MVariant) (k : ℕ) → field_names (slice_get (map (filled_variant args) vs) k) ≡ field_names (slice_get vs k)
names_filled args vs k = ap field_names (variant_filled args vs k) ∙ by (slice_get vs k)
  where
    by : (o : Option MVariant) → field_names (option_map (filled_variant args) o) ≡ field_names o
    by None = refl
    by (Some v) = form_filled args v.form
