-- What callers see of meanings and of the names of a file.
use Rattle.std.specs.Prelude.{◌≡◌, ℕ, Bool, true, false, List, map, position, Option, Some, None, option_map}
use Rattle.std.specs.Rc.{rc_str_bytes}
use Rattle.std.specs.declared.rc.RcStr.{RcStr}
use Rattle.std.specs.Str.{bytes_eq}
use Rattle.std.specs.Global.{Global}
use denote.Ref.{Bor}
use Rattle.type_names.specs.NameMaps.{get_by_name}
use Rattle.match_model.specs.declared.IntKind.TheVariants as ints
use Rattle.match_model.specs.Types.{MOwner, DeclaredItem, OptionOwner, ResultOwner, MOpaque, StringName, F32Name, F64Name, BoxName, VecName, RcName, ArcName, MType, BoolType, CharType, StrType, NeverType, IntType}
use Rattle.decl_syntax.specs.Items.{VariantTree, ItemTree}
use Rattle.type_names.specs.declared.names.Names as declared_names
use Rattle.type_names.specs.declared.names.VariantNames.{VariantNames}
use Rattle.type_names.specs.declared.names.VariantNames.TheVariants as kept
use Rattle.type_names.specs.declared.name_rules.Taken as declared_taken
use Rattle.type_names.specs.NameMaps.{contains_name}
use Rattle.type_names.specs.NameRules.{is_among}
use Rattle.type_names.specs.declared.meanings.Base.{Base}
use Rattle.type_names.specs.declared.meanings.Base.TheVariants as bases
use Rattle.type_names.specs.declared.meanings.Opaque.{Opaque}
use Rattle.type_names.specs.declared.meanings.Opaque.TheVariants as opaques
use Rattle.type_names.specs.declared.meanings.Meaning as declared_meaning
use Rattle.type_names.specs.declared.meanings.Meaning.TheVariants as meanings
use Rattle.type_names.specs.declared.meanings.Owner.{Owner}
use Rattle.type_names.specs.declared.meanings.Owner.TheVariants as owners
use Rattle.type_names.specs.Meanings.{Meaning, Means, ItemName, BaseName, OpaqueName, OptionName, ResultName, declared_at, is_name, first_of_two, built_in}
use Rattle.type_names.specs.Imports.{kind_variants}

-- the type without arguments
abbrev pub base_view : Base → MType
base_view bases.Bool = BoolType
base_view bases.Char = CharType
base_view bases.Str = StrType
base_view bases.Never = NeverType
base_view bases.U8 = IntType ints.U8
base_view bases.U16 = IntType ints.U16
base_view bases.U32 = IntType ints.U32
base_view bases.U64 = IntType ints.U64
base_view bases.U128 = IntType ints.U128
base_view bases.USize = IntType ints.USize
base_view bases.I8 = IntType ints.I8
base_view bases.I16 = IntType ints.I16
base_view bases.I32 = IntType ints.I32
base_view bases.I64 = IntType ints.I64
base_view bases.I128 = IntType ints.I128
base_view bases.ISize = IntType ints.ISize

-- the opaque type
abbrev pub opaque_view : Opaque → MOpaque
opaque_view opaques.Text = StringName
opaque_view opaques.F32 = F32Name
opaque_view opaques.F64 = F64Name
opaque_view opaques.Box = BoxName
opaque_view opaques.Vec = VecName
opaque_view opaques.Rc = RcName
opaque_view opaques.Arc = ArcName

-- what a name means
abbrev pub meaning_view : declared_meaning.Meaning → Meaning
meaning_view (meanings.Item i) = ItemName i
meaning_view (meanings.Base b) = BaseName (base_view b)
meaning_view (meanings.Opaque o) = OpaqueName (opaque_view o)
meaning_view meanings.Option = OptionName
meaning_view meanings.Result = ResultName

-- who declares an enum
abbrev pub owner_view : Owner → MOwner
owner_view (owners.Item i) = DeclaredItem i
owner_view owners.Option = OptionOwner
owner_view owners.Result = ResultOwner

-- the text that may be there
abbrev pub text_of : Option (Bor (RcStr Global)) → Option (List ℕ)
text_of o = option_map (λ s. rc_str_bytes s.now) o

-- No meaning: the place that a name has, or else this place where the name is the same.
abbrev pub first_place : Option ℕ → (same : Bool) → ℕ → Option ℕ
first_place (Some p) same at = Some p
first_place None true at = Some at
first_place None false at = None

-- No meaning: a look-up, with one more name at a place, unless the name has one.
abbrev pub with_place : (List ℕ → Option ℕ) → Option (List ℕ) → ℕ → List ℕ → Option ℕ
with_place old name at q = first_place (old q) (is_name q name) at

-- the number of the first variant of this name
abbrev pub variant_at : List VariantTree → (name : List ℕ) → Option ℕ
variant_at variants name = position (λ v. is_name name (Some v.name)) variants

-- No meaning: the first place of a name among the names of variants.
abbrev pub places_of : VariantNames → (name : List ℕ) → Option ℕ
places_of (kept.Few names) = λ name. position (bytes_eq name) (map rc_str_bytes names.items)
places_of (kept.Many places) = get_by_name places.value

-- the names are those of the items
pub record AreNames (items : List ItemTree) (names : declared_names.Names) : Type 0 where
  pub declared : get_by_name names.declared ≡ declared_at items
  pub variants : map places_of names.variants.items ≡ map (λ i. variant_at (kind_variants i.kind)) items

-- what names mean as types, by the look-ups
abbrev pub means_in : declared_names.Names → Means
means_in names name = first_of_two (option_map ItemName (get_by_name names.declared name)) (built_in name)

-- No meaning: the name is one of these.
abbrev pub among : List (List ℕ) → List ℕ → Bool
among names q = is_among q names

-- No meaning: these names are in the sets.
pub record AreTaken (types functions values : List (List ℕ)) (taken : declared_taken.Taken) : Type 0 where
  pub types_are : contains_name taken.types ≡ among types
  pub functions_are : contains_name taken.functions ≡ among functions
  pub values_are : contains_name taken.values ≡ among values

-- No meaning: the place of a name among the variants of an item that may be there.
abbrev pub place_in : Option VariantNames → (name : List ℕ) → Option ℕ
place_in None name = None
place_in (Some names) name = places_of names name
