-- What a path or a name finds is declared: a struct, or a variant of its enum.
use Rattle.std.proofs.Common.{◌≡◌, ℕ, suc, ◌+◌, ◌<◌, Bool, true, false, List, [], ◌∷◌, length, Option, Some, None, slice_get, nat_lt, refl, sym, ap, ◌∙◌, arith, if◌then◌else◌, codes}
use Rattle.std.proofs.lemmas.Bool.Decides.{nat_tests}
use Rattle.std.specs.List.{list_all}
use Rattle.std.specs.Str.{bytes_eq}
use Rattle.std.proofs.lemmas.List.Quantifiers.{position-Some}
use Rattle.match_model.specs.Types.{MOwner, OptionOwner, ResultOwner}
use Rattle.decl_syntax.specs.Patterns.{PathTree}
use Rattle.decl_syntax.specs.Items.{KindTree, Enum, Struct, Import, Function, ItemTree}
use Rattle.type_names.specs.declared.meanings.FormKind.TheVariants as kinds
use Rattle.type_names.specs.Meanings.{is_name}
use Rattle.type_names.specs.Imports.{enum_of, variant_number, owner_variants}
use Rattle.type_names.specs.NameRules.{is_among}
use Rattle.type_names.specs.Finding.{FoundTree, FoundNothing, FoundTwice, FoundStruct, FoundVariant, numbered, variant_in, path_variant, given_by, given_from, or_else, glob_owners, and_variant, variants_named, same_variant, agreed, globbed, prelude_variant, name_finds, names_find, path_finds}

-- the item is a struct
abbrev pub is_struct : KindTree → Bool
is_struct (Struct name form) = true
is_struct (Enum name variants) = false
is_struct (Import owner names) = false
is_struct (Function name parameter deref arms) = false

-- the item that may be there is a struct
abbrev pub is_struct_there : Option ItemTree → Bool
is_struct_there None = false
is_struct_there (Some i) = is_struct i.kind

-- what was found is declared
abbrev pub is_there : List ItemTree → FoundTree → Bool
is_there items (FoundStruct i) = is_struct_there (slice_get items i)
is_there items (FoundVariant o k) = nat_lt k (length (owner_variants items o))
is_there items FoundNothing = true
is_there items FoundTwice = true

numbered_there : (items : List ItemTree) (o : MOwner) (name : List ℕ) →
    is_there items (numbered o (variant_number items o name)) ≡ true
numbered_there items o name = go (variant_number items o name) refl
  where
    go : (k : Option ℕ) → variant_number items o name ≡ k → is_there items (numbered o k) ≡ true
    go None e = refl
    go (Some k) e =
        let lt : k < length (owner_variants items o) =
        (position-Some (λ v. is_name name (Some v.0)) (owner_variants items o) k ([], kinds.Unit) e).0 in
        grind (arith, nat_tests, lt)

variant_there : (items : List ItemTree) (o : Option MOwner) (name : List ℕ) → is_there items (variant_in items o name)
    ≡ true
variant_there items None name = refl
variant_there items (Some o) name = numbered_there items o name

or_there : (items : List ItemTree) (f g : FoundTree) → is_there items f ≡ true → is_there items g ≡ true →
    is_there items (or_else f g) ≡ true
or_there items FoundNothing g h k = k
or_there items FoundTwice g h k = refl
or_there items (FoundStruct i) g h k = h
or_there items (FoundVariant o v) g h k = h

if_there : (items : List ItemTree) (b : Bool) (f g : FoundTree) → is_there items f ≡ true → is_there items g ≡ true →
    is_there items (if b then f else g) ≡ true
if_there items true f g h k = h
if_there items false f g h k = k

given_there : (items : List ItemTree) (name : List ℕ) (i : ℕ) (x : ItemTree) → slice_get items i ≡ Some x →
    (kind : KindTree) → x.kind ≡ kind →
    is_there items (given_by items name i kind) ≡ true
given_there items name i x e (Struct n form) k =
    let found : is_there items (FoundStruct i) ≡ true = rw (e, k) refl in
    if_there items (bytes_eq name n) (FoundStruct i) FoundNothing found refl
given_there items name i x e (Import owner (Some names)) k =
    if_there items (is_among name names) (path_variant items owner name) FoundNothing
    (variant_there items (enum_of items owner) name) refl
given_there items name i x e (Import owner None) k = refl
given_there items name i x e (Enum n variants) k = refl
given_there items name i x e (Function n parameter deref arms) k = refl

from_there : (items : List ItemTree) (name : List ℕ) (i : ℕ) (xs : List ItemTree) →
    ((j : ℕ) (x : ItemTree) → slice_get xs j ≡ Some x → slice_get items (i + j) ≡ Some x) →
    is_there items (given_from items name i xs) ≡ true
from_there items name i [] at = refl
from_there items name i (x ∷ xs) at =
    or_there items (given_by items name i x.kind) (given_from items name (i + 1) xs)
    (given_there items name i x (ap (slice_get items) here ∙ at 0 x refl) x.kind refl)
    (from_there items name (i + 1) xs (λ j y e. ap (slice_get items) (shift j) ∙ at (suc j) y e))
  where
    here : i ≡ i + 0
    here = omega arith

    shift : (j : ℕ) → (i + 1) + j ≡ i + suc j
    shift j = omega arith

zero_more : (j : ℕ) → 0 + j ≡ j
zero_more j = omega arith

agreed_there : (items : List ItemTree) (name : List ℕ) (os : List MOwner) →
    is_there items (agreed (variants_named items name os)) ≡ true
agreed_there items name [] = refl
agreed_there items name (o ∷ os) = go (variant_number items o name) refl (agreed_there items name os)
  where
    go : (k : Option ℕ) → variant_number items o name ≡ k → is_there items (agreed (variants_named items name os))
        ≡ true →
        is_there items (agreed (and_variant o k (variants_named items name os))) ≡ true
    go None e rest = rest
    go (Some k) e rest =
        let found : is_there items (FoundVariant o k) ≡ true = ap (λ n. is_there items (numbered o n)) (sym e)
        ∙ numbered_there items o name in
        if_there items (list_all (same_variant (o, k)) (variants_named items name os))
        (FoundVariant o k) FoundTwice found refl

prelude_there : (items : List ItemTree) (name : List ℕ) → is_there items (prelude_variant name) ≡ true
prelude_there items name =
    if_there items (bytes_eq name (codes "Some")) (FoundVariant OptionOwner 1)
    (if bytes_eq name (codes "None") then FoundVariant OptionOwner 0
    else (if bytes_eq name (codes "Ok") then FoundVariant ResultOwner 0
    else (if bytes_eq name (codes "Err") then FoundVariant ResultOwner 1
    else FoundNothing))) refl
    (if_there items (bytes_eq name (codes "None")) (FoundVariant OptionOwner 0)
    (if bytes_eq name (codes "Ok") then FoundVariant ResultOwner 0
    else (if bytes_eq name (codes "Err") then FoundVariant ResultOwner 1
    else FoundNothing)) refl
    (if_there items (bytes_eq name (codes "Ok")) (FoundVariant ResultOwner 0)
    (if bytes_eq name (codes "Err") then FoundVariant ResultOwner 1 else FoundNothing) refl
    (if_there items (bytes_eq name (codes "Err")) (FoundVariant ResultOwner 1) FoundNothing refl refl)))

-- what a name finds
pub name_there : (items : List ItemTree) (name : List ℕ) → is_there items (name_finds items name) ≡ true
name_there items name =
    or_there items (given_from items name 0 items) (or_else (globbed items name) (prelude_variant name))
    (from_there items name 0 items (λ j x e. ap (slice_get items) (zero_more j) ∙ e))
    (or_there items (globbed items name) (prelude_variant name) (agreed_there items name (glob_owners items items))
    (prelude_there items name))

names_there : (items : List ItemTree) (names : List (List ℕ)) → is_there items (names_find items names) ≡ true
names_there items [] = refl
names_there items (name ∷ []) = name_there items name
names_there items (owner ∷ name ∷ []) = variant_there items (enum_of items owner) name
names_there items (a ∷ b ∷ c ∷ names) = refl

-- what a path finds
pub path_there : (items : List ItemTree) (path : PathTree) → is_there items (path_finds items path) ≡ true
path_there items path = if_there items path.plain (names_find items path.names) FoundNothing
    (names_there items path.names) refl
