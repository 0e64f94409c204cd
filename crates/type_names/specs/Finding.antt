-- What a path in a pattern finds (the Rust Reference, "Path patterns" and "Use declarations"; that imports name variants in
-- patterns only is our own choice).
use Rattle.std.specs.Prelude.{ℕ, ◌+◌, Bool, true, false, ◌&&◌, nat_eq, List, [], ◌∷◌, codes, slice_get, Option, Some, None, if◌then◌else◌}
use Rattle.std.specs.List.{list_all}
use Rattle.std.specs.Str.{bytes_eq}
use Rattle.match_model.specs.Types.{MOwner, DeclaredItem, OptionOwner, ResultOwner}
use Rattle.decl_syntax.specs.Patterns.{PathTree}
use Rattle.decl_syntax.specs.Items.{KindTree, Struct, Import, ItemTree}
use Rattle.type_names.specs.declared.meanings.FormKind.{FormKind}
use Rattle.type_names.specs.Imports.{enum_of, variant_number, owner_variants, form_kind, form_at}
use Rattle.type_names.specs.NameRules.{is_among}

-- what a path finds: nothing, two different variants, the struct that this item declares, or a variant
pub data FoundTree : Type 0 where
  FoundNothing FoundTwice : FoundTree
  FoundStruct : (item : ℕ) → FoundTree
  FoundVariant : (owner : MOwner) → (variant : ℕ) → FoundTree

-- the variant of this number, if there is one
abbrev pub numbered : MOwner → Option ℕ → FoundTree
numbered o None = FoundNothing
numbered o (Some k) = FoundVariant o k

-- the variant of this name of the enum that may be there
abbrev pub variant_in : List ItemTree → Option MOwner → (name : List ℕ) → FoundTree
variant_in items None name = FoundNothing
variant_in items (Some o) name = numbered o (variant_number items o name)

-- the variant of this name of the enum that the other name means
abbrev pub path_variant : List ItemTree → (owner name : List ℕ) → FoundTree
path_variant items owner name = variant_in items (enum_of items owner) name

-- what an item gives to a name by itself: the struct of this name that it declares, or the variant of this name that it lists
abbrev pub given_by : List ItemTree → (name : List ℕ) → ℕ → KindTree → FoundTree
given_by items name i (Struct n form) = if bytes_eq name n then FoundStruct i else FoundNothing
given_by items name i (Import owner (Some names)) = if is_among name names then path_variant items owner name else FoundNothing
given_by items name i _ = FoundNothing

-- the first of the two that is something
abbrev pub or_else : FoundTree → FoundTree → FoundTree
or_else FoundNothing other = other
or_else FoundTwice other = FoundTwice
or_else (FoundStruct i) other = FoundStruct i
or_else (FoundVariant o k) other = FoundVariant o k

-- what the items, numbered from this number on, give to a name: the first that gives something counts
abbrev pub given_from : List ItemTree → (name : List ℕ) → ℕ → List ItemTree → FoundTree
given_from items name i [] = FoundNothing
given_from items name i (x ∷ xs) = or_else (given_by items name i x.kind) (given_from items name (i + 1) xs)

-- the owner that may be there, before others
abbrev pub and_owner : Option MOwner → List MOwner → List MOwner
and_owner None os = os
and_owner (Some o) os = o ∷ os

-- the enum that `use E::*` names
abbrev pub glob_owner : List ItemTree → KindTree → Option MOwner
glob_owner items (Import owner None) = enum_of items owner
glob_owner items _ = None

-- the enums that these of all items name by `use E::*`, in order
abbrev pub glob_owners : (all : List ItemTree) → List ItemTree → List MOwner
glob_owners all [] = []
glob_owners all (x ∷ xs) = and_owner (glob_owner all x.kind) (glob_owners all xs)

-- the variant, before others, if there is one
abbrev pub and_variant : MOwner → Option ℕ → List (MOwner × ℕ) → List (MOwner × ℕ)
and_variant o None vs = vs
and_variant o (Some k) vs = (o, k) ∷ vs

-- the variants of this name that the enums have
abbrev pub variants_named : List ItemTree → (name : List ℕ) → List MOwner → List (MOwner × ℕ)
variants_named items name [] = []
variants_named items name (o ∷ os) = and_variant o (variant_number items o name) (variants_named items name os)

-- the two are one enum
abbrev pub same_owner : MOwner → MOwner → Bool
same_owner (DeclaredItem i) (DeclaredItem j) = nat_eq i j
same_owner OptionOwner OptionOwner = true
same_owner ResultOwner ResultOwner = true
same_owner _ _ = false

-- the two are one variant
abbrev pub same_variant : MOwner × ℕ → MOwner × ℕ → Bool
same_variant v w = same_owner v.0 w.0 && nat_eq v.1 w.1

-- what variants of one name come to: nothing where there is none, the variant where they are all one, else twice
abbrev pub agreed : List (MOwner × ℕ) → FoundTree
agreed [] = FoundNothing
agreed (v ∷ vs) = if list_all (same_variant v) vs then FoundVariant v.0 v.1 else FoundTwice

-- what `use E::*` of the file give to a name
abbrev pub globbed : List ItemTree → (name : List ℕ) → FoundTree
globbed items name = agreed (variants_named items name (glob_owners items items))

-- the variants that every file has
abbrev pub prelude_variant : (name : List ℕ) → FoundTree
prelude_variant name =
    if bytes_eq name (codes "Some") then FoundVariant OptionOwner 1
    else (if bytes_eq name (codes "None") then FoundVariant OptionOwner 0
    else (if bytes_eq name (codes "Ok") then FoundVariant ResultOwner 0
    else (if bytes_eq name (codes "Err") then FoundVariant ResultOwner 1
    else FoundNothing)))

-- what a name alone finds: a declared struct or a listed variant, else a variant by `use E::*`, else one that every file has
abbrev pub name_finds : List ItemTree → (name : List ℕ) → FoundTree
name_finds items name = or_else (given_from items name 0 items) (or_else (globbed items name) (prelude_variant name))

-- what the names of a path find: one is looked up, and of two the first names the enum
abbrev pub names_find : List ItemTree → List (List ℕ) → FoundTree
names_find items (name ∷ []) = name_finds items name
names_find items (owner ∷ name ∷ []) = path_variant items owner name
names_find items _ = FoundNothing

-- what a path finds; one with `crate`, `self`, `super` or `Self` finds nothing
abbrev pub path_finds : List ItemTree → PathTree → FoundTree
path_finds items path = if path.plain then names_find items path.names else FoundNothing

-- the form of a struct
abbrev pub kind_form : KindTree → Option FormKind
kind_form (Struct n form) = Some (form_kind form)
kind_form _ = None

-- the form of the struct that the item declares
abbrev pub struct_form : Option ItemTree → Option FormKind
struct_form None = None
struct_form (Some i) = kind_form i.kind

-- the form of the struct or variant that was found
abbrev pub found_form : List ItemTree → FoundTree → Option FormKind
found_form items (FoundStruct i) = struct_form (slice_get items i)
found_form items (FoundVariant o k) = form_at (owner_variants items o) (Some k)
found_form items _ = None

-- a struct or a variant was found
abbrev pub is_found : FoundTree → Bool
is_found (FoundStruct i) = true
is_found (FoundVariant o k) = true
is_found _ = false
