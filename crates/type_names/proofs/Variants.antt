-- The variants of items by name.
use Rattle.std.proofs.Common.{◌≡◌, ℕ, List, [], ◌∷◌, map, Option, Some, None, refl, sym, ap, ◌∙◌, suc, zero, true, ltb, length, get_or}
use borrow.Author.Tests.{ltb-true}
use Rattle.std.proofs.lemmas.Option.{slice_get_read}
use Rattle.std.specs.Prelude.{slice_get, position, option_map}
use Rattle.std.specs.Str.{bytes_eq}
use Rattle.std.specs.Rc.{rc_str_bytes}
use Rattle.std.specs.Global.{Global}
use Rattle.std.specs.declared.rc.RcStr.{RcStr}
use Rattle.match_model.specs.Types.{DeclaredItem}
use Rattle.decl_syntax.specs.Items.{VariantTree, ItemTree}
use Rattle.type_names.specs.declared.names.Names.{Names}
use Rattle.type_names.specs.declared.names.VariantNames.{VariantNames}
use Rattle.type_names.specs.Meanings.{Means, ItemName, is_name, first_of_two, built_in, means}
use Rattle.type_names.specs.Imports.{named_variant, item_variants, kind_variants, variant_number, form_kind, form_at, owner_variants}
use Rattle.type_names.specs.Views.{places_of, means_in, AreNames, place_in, variant_at}
use Rattle.type_names.proofs.Places.{position_map, same_functions}

-- the names of the variants, in order
pub listed_at : (names : List (RcStr Global)) (vs : List VariantTree) → map rc_str_bytes names ≡ map (λ v. v.name) vs →
    (λ q. position (bytes_eq q) (map rc_str_bytes names)) ≡ variant_at vs
listed_at names vs are = same_functions (λ q. ap (position (bytes_eq q)) are ∙ position_map (λ (v : VariantTree). v.name) (bytes_eq q) vs)

-- an item of a list that is mapped
pub get_map : {A B : Type 0} (f : A → B) (xs : List A) (i : ℕ) → slice_get (map f xs) i ≡ option_map f (slice_get xs i)
get_map f (x ∷ xs) (suc i) = get_map f xs i
get_map f _ _ = refl

at_or : Option (List ℕ → Option ℕ) → List ℕ → Option ℕ
at_or None q = None
at_or (Some f) q = f q

by_map : (o : Option VariantNames) (q : List ℕ) → place_in o q ≡ at_or (option_map places_of o) q
unfolding at_or
by_map None q = refl
by_map (Some m) q = refl

by_item : (o : Option ItemTree) (q : List ℕ) → at_or (option_map (λ i. variant_at (kind_variants i.kind)) o) q ≡ variant_at (item_variants o) q
unfolding at_or
by_item None q = refl
by_item (Some i) q = refl

by_name : (vs : List VariantTree) (q : List ℕ) → variant_at vs q ≡ position (λ v. is_name q (Some v.0)) (map named_variant vs)
by_name vs q = sym (position_map named_variant (λ v. is_name q (Some v.0)) vs)

pub item_variant_is : (items : List ItemTree) (names : Names) → AreNames items names → (i : ℕ) (q : List ℕ) →
    place_in (slice_get names.variants.items i) q ≡ variant_number items (DeclaredItem i) q
item_variant_is items names are i q =
    by_map (slice_get names.variants.items i) q
    ∙ (ap (λ (o : Option (List ℕ → Option ℕ)). at_or o q) (sym (get_map places_of names.variants.items i) ∙ (ap (λ (fs : List (List ℕ → Option ℕ)). slice_get fs i) are.variants ∙ get_map (λ i. variant_at (kind_variants i.kind)) items i))
    ∙ (by_item (slice_get items i) q ∙ by_name (item_variants (slice_get items i)) q))

-- the form of a variant that is there
pub form_there : (items : List ItemTree) (i k : ℕ) (item : ItemTree) (vs : List VariantTree) (v : VariantTree) →
    slice_get items i ≡ Some item → vs ≡ kind_variants item.kind → slice_get vs k ≡ Some v →
    Some (form_kind v.form) ≡ form_at (owner_variants items (DeclaredItem i)) (Some k)
form_there items i k item vs v at_item same at_variant = rw (at_item, get_map, ← same, at_variant) refl

-- an item that a look-up told
pub looked_up : {A : Type 0} (xs : List A) (i : ℕ) (x : A) → true ≡ ltb i (length xs) → x ≡ get_or xs i x → slice_get xs i ≡ Some x
looked_up xs i x lt is = slice_get_read xs (length xs) i x refl (ltb-true i (length xs) (sym lt)) is

-- what names mean, by the look-ups
pub means_are : (items : List ItemTree) (names : Names) → AreNames items names → means_in names ≡ means items
means_are items names are = ap lookup are.declared
  where
    lookup : (List ℕ → Option ℕ) → Means
    lookup d name = first_of_two (option_map ItemName (d name)) (built_in name)
