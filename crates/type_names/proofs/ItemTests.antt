-- Tests of the items of lists, in loops that stop at the first that passes.
use Rattle.std.proofs.Common.{◌≡◌, ℕ, ◌+◌, ◌<◌, ◌≤◌, Bool, true, false, ◌||◌, List, [], ◌∷◌, ◌++◌, map, length, Some, None, refl, sym, ap, ◌∙◌, suc, take, drop, get_or, take-append-drop, drop-cons, add-one}
use Rattle.std.specs.Prelude.{position}
use Rattle.std.specs.List.{list_any}
use Rattle.std.proofs.lemmas.List.{map-append, take_all}
use Rattle.std.proofs.Math.Bool.{or-true}
use Rattle.std.proofs.lemmas.List.Folds.{list_any-append}
use Rattle.type_names.proofs.Places.{front_more, position_hit, position_skip, length_front}

-- a list with the item at a place between its front and its rest
pub parted : {A : Type 0} (xs : List A) (i : ℕ) (x : A) → i < length xs → x ≡ get_or xs i x → xs ≡ take i xs ++ x ∷ drop (i + 1) xs
parted {A} xs i x lt is = sym (take-append-drop i xs) ∙ ap (λ (ys : List A). take i xs ++ ys) (rw add-one (drop-cons xs i x lt ∙ ap (λ (y : A). y ∷ drop (suc i) xs) (sym is)))

-- no item of a front that is one longer passes
pub any_more : {A B : Type 0} (f : A → B) (p : B → Bool) (xs : List A) (i : ℕ) (x : A) → i < length xs → x ≡ get_or xs i x →
    list_any p (map f (take i xs)) ≡ false → p (f x) ≡ false → list_any p (map f (take (i + 1) xs)) ≡ false
any_more {A} {B} f p xs i x lt is before here =
    ap (list_any p) (front_more f xs i x lt is) ∙ (list_any-append p (map f (take i xs)) (f x ∷ []) ∙ rw (before, here) refl)

-- an item passes
pub any_found : {A B : Type 0} (f : A → B) (p : B → Bool) (xs : List A) (i : ℕ) (x : A) → i < length xs → x ≡ get_or xs i x →
    p (f x) ≡ true → true ≡ list_any p (map f xs)
any_found {A} {B} f p xs i x lt is here =
    sym (ap (λ (ys : List A). list_any p (map f ys)) (parted xs i x lt is)
    ∙ (ap (list_any p) (map-append f (take i xs) (x ∷ drop (i + 1) xs))
    ∙ (list_any-append p (map f (take i xs)) (f x ∷ map f (drop (i + 1) xs)) ∙ rw here (or-true (list_any p (map f (take i xs)))))))

-- where none passes there is no first
pub none_first : {A : Type 0} (p : A → Bool) (xs : List A) → list_any p xs ≡ false → position p xs ≡ None
none_first p [] h = refl
none_first {A} p (x ∷ xs) h = by (p x) refl (none_first p xs)
  where
    by : (b : Bool) → p x ≡ b → (list_any p xs ≡ false → position p xs ≡ None) → position p (x ∷ xs) ≡ None
    by true e rest = let clash : (p x || list_any p xs) ≡ true = rw e refl in absurd cc
    by false e rest = position_skip p x xs e ∙ rw (rest (rw e at h)) refl

position_front : {A : Type 0} (p : A → Bool) (xs ys : List A) (y : A) → list_any p xs ≡ false → p y ≡ true → position p (xs ++ y ∷ ys) ≡ Some (length xs)
position_front p [] ys y h here = position_hit p y ys here
position_front {A} p (x ∷ xs) ys y h here = by (p x) refl (position_front p xs ys y)
  where
    by : (b : Bool) → p x ≡ b → (list_any p xs ≡ false → p y ≡ true → position p (xs ++ y ∷ ys) ≡ Some (length xs)) → position p (x ∷ (xs ++ y ∷ ys)) ≡ Some (suc (length xs))
    by true e rest = let clash : (p x || list_any p xs) ≡ true = rw e refl in absurd cc
    by false e rest = position_skip p x (xs ++ y ∷ ys) e ∙ rw (rest (rw e at h) here) refl

-- the first item that passes
pub first_found : {A B : Type 0} (f : A → B) (p : B → Bool) (xs : List A) (i : ℕ) (x : A) → i < length xs → x ≡ get_or xs i x →
    list_any p (map f (take i xs)) ≡ false → p (f x) ≡ true → Some i ≡ position p (map f xs)
first_found {A} {B} f p xs i x lt is before here =
    sym (ap (λ (ys : List A). position p (map f ys)) (parted xs i x lt is)
    ∙ (ap (position p) (map-append f (take i xs) (x ∷ drop (i + 1) xs))
    ∙ (position_front p (map f (take i xs)) (map f (drop (i + 1) xs)) (f x) before here ∙ ap Some (length_front f xs i lt))))

-- no item passes, where none of a front that is the whole does
pub any_none : {A B : Type 0} (f : A → B) (p : B → Bool) (xs : List A) (i : ℕ) → length xs ≤ i → list_any p (map f (take i xs)) ≡ false → false ≡ list_any p (map f xs)
any_none {A} f p xs i all h = sym (ap (λ (ys : List A). list_any p (map f ys)) (sym (take_all i xs all)) ∙ h)
