-- Programs whose names are identifiers, as the lexer gives them (the Rust Reference, "Identifiers").
use Rattle.std.specs.Prelude.{◌≡◌, ℕ, List, [], ◌∷◌, slice_get, Some}
use Rattle.match_model.specs.Declarations.{MField, MForm, UnitForm, TupleForm, BraceForm, MVariant, MItem, StructItem}
use Rattle.match_model.specs.Declarations.{EnumItem, OtherItem, MProgram}
use Rattle.value_syntax.specs.Canonical.{IsName}

-- those of the fields
abbrev pub AreFieldNames : List MField → Type 0
AreFieldNames [] = Unit {0}
AreFieldNames (f ∷ fs) = IsName f.name × AreFieldNames fs

-- those of a form
abbrev pub IsNamedForm : MForm → Type 0
IsNamedForm UnitForm = Unit {0}
IsNamedForm (TupleForm types) = Unit {0}
IsNamedForm (BraceForm fields) = AreFieldNames fields

-- that of a variant, and those of its fields
abbrev pub IsNamedVariant : MVariant → Type 0
IsNamedVariant v = IsName v.name × IsNamedForm v.form

-- the same of each variant
abbrev pub AreNamedVariants : List MVariant → Type 0
AreNamedVariants [] = Unit {0}
AreNamedVariants (v ∷ vs) = IsNamedVariant v × AreNamedVariants vs

-- those of an item
abbrev pub IsNamedItem : MItem → Type 0
IsNamedItem (StructItem v) = IsNamedVariant v
IsNamedItem (EnumItem name marked variants) = IsName name × AreNamedVariants variants
IsNamedItem OtherItem = Unit {0}

-- those of all items
abbrev pub AreNames : MProgram → Type 0
AreNames program = (i : ℕ) (item : MItem) → slice_get program.items i ≡ Some item → IsNamedItem item
