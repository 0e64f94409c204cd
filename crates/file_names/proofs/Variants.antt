-- The variants of a type have names that are identifiers, and so has the enum that declares them.
use Rattle.std.proofs.Common.{◌≡◌, ℕ, zero, suc, List, [], ◌∷◌, Option, Some, None, refl, sym, subst, ◌∙◌}
use Rattle.std.specs.Prelude.{map, slice_get, option_map}
use Rattle.match_model.specs.Declarations.{MField, MForm, UnitForm, TupleForm, BraceForm, MVariant, MItem}
use Rattle.match_model.specs.Declarations.{StructItem, EnumItem, OtherItem, MProgram, item_variants, filled_field}
use Rattle.match_model.specs.Declarations.{filled_form, filled_variant, option_item, result_item, variants_of}
use Rattle.match_model.specs.Types.{DeclaredItem, OptionOwner, ResultOwner, MType, NamedType, MTypes}
use Rattle.match_model.proofs.Basics.{variant_filled}
use Rattle.value_syntax.specs.Canonical.{IsName}
use Rattle.file_names.specs.Named.{AreFieldNames, IsNamedForm, IsNamedVariant, AreNamedVariants, IsNamedItem}
use Rattle.file_names.specs.Named.{AreNames}
use Rattle.file_names.proofs.BuiltIn.{option_named, result_named}

-- ---- variants with arguments in the place of parameters

no_variant : (args : MTypes) (k : ℕ) (v : MVariant) → slice_get (map (filled_variant args) []) k ≡ Some v → ⊥
no_variant args k v e = cc

found : (vs : List MVariant) (k : ℕ) (v : MVariant) → AreNamedVariants vs → slice_get vs k ≡ Some v → IsNamedVariant v
found [] k v a e = absurd cc
found (u ∷ vs) zero v a e = let same : u ≡ v = cc in subst IsNamedVariant same a.0
found (u ∷ vs) (suc k) v a e = found vs k v a.1 e

fields_filled : (args : MTypes) (fs : List MField) → AreFieldNames fs → AreFieldNames (map (filled_field args) fs)
fields_filled args [] a = tt
fields_filled args (f ∷ fs) a = (a.0, fields_filled args fs a.1)

form_filled : (args : MTypes) (form : MForm) → IsNamedForm form → IsNamedForm (filled_form args form)
form_filled args UnitForm a = tt
form_filled args (TupleForm types) a = tt
form_filled args (BraceForm fs) a = fields_filled args fs a

filled_found : (args : MTypes) (vs : List MVariant) (k : ℕ) (v : MVariant) → AreNamedVariants vs
    → slice_get (map (filled_variant args) vs) k ≡ Some v → IsNamedVariant v
filled_found args vs k v a e = by_case (slice_get vs k) refl (sym (variant_filled args vs k) ∙ e)
  where
    by_case : (o : Option MVariant) → slice_get vs k ≡ o → option_map (filled_variant args) o ≡ Some v
        → IsNamedVariant v
    by_case None f g = absurd cc
    by_case (Some u) f g =
        let same : filled_variant args u ≡ v = cc in
        let b = found vs k u a f in
        subst IsNamedVariant same (b.0, form_filled args u.form b.1)

-- ---- what declares a type

-- the name of the enum, if it is one, is a name
abbrev pub IsOwnerNamed : Option MItem → Type 0
IsOwnerNamed (Some (EnumItem name marked vs)) = IsName name
IsOwnerNamed _ = Unit {0}

-- so is that of the item that declares the type
abbrev pub IsTypeNamed : MProgram → MType → Type 0
IsTypeNamed program (NamedType (DeclaredItem i) args) = IsOwnerNamed (slice_get program.items i)
IsTypeNamed program _ = Unit {0}

owner_named : (o : Option MItem) → ((item : MItem) → o ≡ Some item → IsNamedItem item) → IsOwnerNamed o
owner_named None names = tt
owner_named (Some OtherItem) names = tt
owner_named (Some (StructItem u)) names = tt
owner_named (Some (EnumItem name marked vs)) names = (names (EnumItem name marked vs) refl).0

pub type_named : (program : MProgram) (t : MType) → AreNames program → IsTypeNamed program t
type_named program (NamedType (DeclaredItem i) args) names = owner_named (slice_get program.items i) (names i)
type_named program _ names = tt

declared_found : (args : MTypes) (k : ℕ) (v : MVariant) (o : Option MItem)
    → ((item : MItem) → o ≡ Some item → IsNamedItem item)
    → slice_get (map (filled_variant args) (item_variants o)) k ≡ Some v → IsNamedVariant v
declared_found args k v None names e = absurd (no_variant args k v e)
declared_found args k v (Some OtherItem) names e = absurd (no_variant args k v e)
declared_found args k v (Some (StructItem u)) names e =
    filled_found args (u ∷ []) k v (names (StructItem u) refl, tt) e
declared_found args k v (Some (EnumItem name marked vs)) names e =
    filled_found args vs k v (names (EnumItem name marked vs) refl).1 e

-- a variant of the type
pub variant_named : (program : MProgram) (t : MType) (k : ℕ) (v : MVariant) → AreNames program
    → slice_get (variants_of program t) k ≡ Some v → IsNamedVariant v
variant_named program (NamedType (DeclaredItem i) args) k v names e =
    declared_found args k v (slice_get program.items i) (names i) e
variant_named program (NamedType OptionOwner args) k v names e =
    filled_found args (item_variants (Some option_item)) k v option_named e
variant_named program (NamedType ResultOwner args) k v names e =
    filled_found args (item_variants (Some result_item)) k v result_named e
variant_named program _ k v names e = absurd cc
