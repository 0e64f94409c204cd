-- The first item that breaks a rule, in loops over the items.
use Rattle.std.proofs.Common.{◌≡◌, ℕ, ◌+◌, ◌<◌, Bool, List, [], ◌∷◌, ◌++◌, map, length, Some, refl, sym, ap, ◌∙◌, append_assoc, suc, zero, take, get_or, add-one}
use Rattle.std.specs.Prelude.{slice_get, option_map}
use Rattle.std.proofs.lemmas.Option.{slice_get_read}
use Rattle.std.proofs.lemmas.List.{append-nil, length-map}
use Rattle.decl_syntax.specs.Items.{KindTree, ItemTree}
use Rattle.type_names.specs.NameRules.{all_names, is_taken, is_named_twice, taken_names, function_names, value_names}
use Rattle.type_names.specs.Rules.{passes, named_twice_at}
use Rattle.type_names.specs.Views.{among, AreTaken}
use Rattle.type_names.specs.declared.name_rules.Taken.{Taken}
use Rattle.type_names.proofs.Variants.{get_map}

-- the item of a list that is mapped
pub get_item : {A B : Type 0} (f : A → B) (xs : List A) (i : ℕ) (x : A) → i < length xs → x ≡ get_or xs i x → slice_get (map f xs) i ≡ Some (f x)
get_item {A} {B} f xs i x lt is = get_map f xs i ∙ ap (option_map {U = B} f) (slice_get_read xs (length xs) i x refl lt is)

take_suc : {B : Type 0} (ys : List B) (i : ℕ) (y : B) → slice_get ys i ≡ Some y → take (suc i) ys ≡ take i ys ++ y ∷ []
take_suc [] i y h = absurd cc
take_suc (x ∷ xs) zero y h = ap (λ z. z ∷ []) (cc)
take_suc (x ∷ xs) (suc i) y h = ap (λ zs. x ∷ zs) (take_suc xs i y h)

pub take_item : {B : Type 0} (ys : List B) (i : ℕ) (y : B) → slice_get ys i ≡ Some y → take (i + 1) ys ≡ take i ys ++ y ∷ []
take_item ys i y h = rw add-one (take_suc ys i y h)

names_push : (names : KindTree → List (List ℕ)) (xs : List ItemTree) (y : ItemTree) → all_names names (xs ++ y ∷ []) ≡ all_names names xs ++ names y.kind
names_push names [] y = append-nil (names y.kind)
names_push names (x ∷ xs) y = ap (λ zs. names x.kind ++ zs) (names_push names xs y) ∙ sym (append_assoc (names x.kind) (all_names names xs) (names y.kind))

pub names_more : (names : KindTree → List (List ℕ)) (items : List ItemTree) (i : ℕ) (item : ItemTree) → slice_get items i ≡ Some item →
    all_names names (take (i + 1) items) ≡ all_names names (take i items) ++ names item.kind
names_more names items i item at = ap (all_names names) (take_item items i item at) ∙ names_push names (take i items) item

pub taken_at : (items : List ItemTree) (i : ℕ) (item : ItemTree) (b : Bool) → slice_get items i ≡ Some item →
    b ≡ is_taken items (all_names taken_names (take i items)) (all_names function_names (take i items)) (all_names (value_names items) (take i items)) item.kind →
    named_twice_at items i ≡ b
taken_at items i item b at h = ap (passes (λ x. is_named_twice items (take i items) x.kind)) at ∙ sym h

pub taken_after : (items : List ItemTree) (i : ℕ) (item : ItemTree) (new : Taken) → slice_get items i ≡ Some item →
    AreTaken (all_names taken_names (take i items) ++ taken_names item.kind) (all_names function_names (take i items) ++ function_names item.kind)
    (all_names (value_names items) (take i items) ++ value_names items item.kind) new →
    AreTaken (all_names taken_names (take (i + 1) items)) (all_names function_names (take (i + 1) items)) (all_names (value_names items) (take (i + 1) items)) new
taken_after items i item new at h = record {
  types_are = h.types_are ∙ ap among (sym (names_more taken_names items i item at));
  functions_are = h.functions_are ∙ ap among (sym (names_more function_names items i item at));
  values_are = h.values_are ∙ ap among (sym (names_more (value_names items) items i item at));
}

pub below_map : {A B : Type 0} (f : A → B) (xs : List A) (j : ℕ) → j < length (map f xs) → j < length xs
below_map f xs j h = rw length-map at h

pub within_map : {A B : Type 0} (f : A → B) (xs : List A) (j : ℕ) → j < length xs → j < length (map f xs)
within_map f xs j h = rw length-map h
