-- What is found by a name in a type: a variant, or a field of a variant (Rust Reference, Struct expressions: the fields of a tuple
-- form are named `0`, `1` and so on).
use Rattle.std.specs.Prelude.{ℕ, suc, List, [], ◌∷◌, map, position, Option, Some, None}
use Rattle.std.specs.Fmt.{decimal}
use Rattle.std.specs.Str.{bytes_eq}
use Rattle.match_model.specs.Types.{MType}
use Rattle.match_model.specs.Declarations.{MForm, UnitForm, TupleForm, BraceForm, MVariant}

-- the number of the first variant of this name
abbrev pub variant_named : List MVariant → (name : List ℕ) → Option ℕ
variant_named variants name = position (λ v. bytes_eq name v.name) variants

-- the names of as many fields as there are types, numbered from `i` on
abbrev pub numbered_names : (i : ℕ) → List MType → List (List ℕ)
numbered_names i [] = []
numbered_names i (t ∷ ts) = decimal i ∷ numbered_names (suc i) ts

-- the names of the fields of a form, in order of declaration; those of a tuple form are `0`, `1` and so on
abbrev pub form_names : MForm → List (List ℕ)
form_names UnitForm = []
form_names (TupleForm types) = numbered_names 0 types
form_names (BraceForm fields) = map (λ f. f.name) fields

-- the names of the fields of a variant that may be there
abbrev pub field_names : Option MVariant → List (List ℕ)
field_names None = []
field_names (Some v) = form_names v.form

-- the number of the first field of this name
abbrev pub field_named : Option MVariant → (name : List ℕ) → Option ℕ
field_named variant name = position (λ n. bytes_eq name n) (field_names variant)

-- No meaning: the name of a field, which is its number where it has none.
abbrev pub name_or_number : Option (List ℕ) → (i : ℕ) → List ℕ
name_or_number None i = decimal i
name_or_number (Some name) i = name
