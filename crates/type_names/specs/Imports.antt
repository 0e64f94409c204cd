-- Which variants `use E::..;` and paths `E::V` name.
use Rattle.std.specs.Prelude.{ℕ, Bool, true, false, List, [], ◌∷◌, map, codes, position, slice_get, Option, Some, None, option_map}
use Rattle.match_model.specs.Types.{MOwner, DeclaredItem, OptionOwner, ResultOwner}
use Rattle.decl_syntax.specs.Items.{FormTree, Unit, VariantTree, KindTree, Enum, ItemTree}
use Rattle.decl_syntax.specs.Items as forms
use Rattle.type_names.specs.declared.meanings.FormKind.{FormKind}
use Rattle.type_names.specs.declared.meanings.FormKind.TheVariants as kinds
use Rattle.type_names.specs.Meanings.{Meaning, ItemName, OptionName, ResultName, means, is_name}

-- the kind of a form
abbrev pub form_kind : FormTree → FormKind
form_kind Unit = kinds.Unit
form_kind (forms.Tuple fields) = kinds.Tuple
form_kind (forms.Brace fields) = kinds.Brace

-- the variants of an enum
abbrev pub kind_variants : KindTree → List VariantTree
kind_variants (Enum name variants) = variants
kind_variants _ = []

-- the variants of the enum that may be there
abbrev pub item_variants : Option ItemTree → List VariantTree
item_variants None = []
item_variants (Some i) = kind_variants i.kind

-- a variant's name with the kind of its form
abbrev pub named_variant : VariantTree → List ℕ × FormKind
named_variant v = (v.name, form_kind v.form)

-- the variants of an enum by their names, in order of declaration; std declares those of the built-in ones
abbrev pub owner_variants : List ItemTree → MOwner → List (List ℕ × FormKind)
owner_variants items (DeclaredItem i) = map named_variant (item_variants (slice_get items i))
owner_variants items OptionOwner = (codes "None", kinds.Unit) ∷ (codes "Some", kinds.Tuple) ∷ []
owner_variants items ResultOwner = (codes "Ok", kinds.Tuple) ∷ (codes "Err", kinds.Tuple) ∷ []

-- the item is an enum
abbrev pub is_enum : KindTree → Bool
is_enum (Enum name variants) = true
is_enum _ = false

-- the item with this number, if it is an enum
abbrev pub enum_item : ℕ → Option ItemTree → Option MOwner
enum_item i None = None
enum_item i (Some item) = elim (is_enum item.kind) [ true ↦ Some (DeclaredItem i) | false ↦ None ]

-- the enum that a name means, if it means one
abbrev pub meant_enum : List ItemTree → Option Meaning → Option MOwner
meant_enum items (Some (ItemName i)) = enum_item i (slice_get items i)
meant_enum items (Some OptionName) = Some OptionOwner
meant_enum items (Some ResultName) = Some ResultOwner
meant_enum items _ = None

-- the enum whose variants are named behind `E::`
abbrev pub enum_of : List ItemTree → (name : List ℕ) → Option MOwner
enum_of items name = meant_enum items (means items name)

-- the number of the first variant of this name
abbrev pub variant_number : List ItemTree → MOwner → (name : List ℕ) → Option ℕ
variant_number items o name = position (λ v. is_name name (Some v.0)) (owner_variants items o)

-- the form of the variant that is there
abbrev pub form_at : List (List ℕ × FormKind) → Option ℕ → Option FormKind
form_at variants None = None
form_at variants (Some k) = option_map (λ v. v.1) (slice_get variants k)

-- the form of the first variant of this name
abbrev pub variant_form : List ItemTree → Option MOwner → (name : List ℕ) → Option FormKind
variant_form items None name = None
variant_form items (Some o) name = form_at (owner_variants items o) (variant_number items o name)
