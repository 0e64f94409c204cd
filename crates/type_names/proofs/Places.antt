-- First places in lists that grow at their end.
use Rattle.std.proofs.Common.{◌≡◌, ℕ, ◌+◌, ◌<◌, Bool, true, false, cond, not, List, [], ◌∷◌, ◌++◌, map, length, Option, Some, None, refl, sym, ap, ◌∙◌, suc, take, get_or, arith}
use Rattle.std.specs.Prelude.{position, nat_lt, option_map, unwrap_or}
use Rattle.std.specs.Str.{bytes_eq}
use Rattle.std.proofs.lemmas.Slice.Eq.{bytes_eq-Decides}
use Rattle.std.specs.List.{prefix_len, position_or_len}
use Rattle.std.proofs.lemmas.List.{length-map, length-take-le, take_more, map-append}
use Rattle.std.specs.Cmp.Lexicographic.{nat_list_eq_equiv}
use Rattle.type_names.specs.Views.{first_place, with_place}
use Rattle.type_names.specs.Meanings.{is_name}

-- equal at each argument, equal as functions
pub same_functions : {A B : Type 0} {f g : A → B} → ((x : A) → f x ≡ g x) → f ≡ g
same_functions h = λ i x. h x i

some_if : Bool → ℕ → Option ℕ
some_if b n = cond b (Some n) None

prefix-map : {A B : Type 0} (f : A → B) (p : B → Bool) (xs : List A) → prefix_len p (map f xs) ≡ prefix_len (λ x. p (f x)) xs
prefix-map f p [] = refl
prefix-map f p (x ∷ xs) = ap (λ n. cond (p (f x)) (1 + n) 0) (prefix-map f p xs)

pub position_map : {A B : Type 0} (f : A → B) (p : B → Bool) (xs : List A) → position p (map f xs) ≡ position (λ x. p (f x)) xs
position_map f p xs =
    ap (λ n. cond (nat_lt n (length (map f xs))) (Some n) None) (prefix-map f (λ y. not (p y)) xs)
    ∙ rw length-map refl

pub position_hit : {A : Type 0} (p : A → Bool) (x : A) (xs : List A) → p x ≡ true → position p (x ∷ xs) ≡ Some 0
position_hit p x xs e = rw e (there (length xs))
  where
    there : (n : ℕ) → cond {A = Option ℕ} (nat_lt 0 (suc n)) (Some 0) None ≡ Some 0
    there n = grind arith

moved : (n m : ℕ) → cond (nat_lt (1 + n) (suc m)) (Some (1 + n)) None ≡ option_map suc (cond (nat_lt n m) (Some n) None)
moved n m = grind arith

pub position_skip : {A : Type 0} (p : A → Bool) (x : A) (xs : List A) → p x ≡ false → position p (x ∷ xs) ≡ option_map suc (position p xs)
position_skip p x xs e = rw e (moved (position_or_len p xs) (length xs))

first_suc : (o : Option ℕ) (b : Bool) (n : ℕ) → first_place (option_map suc o) b (suc n) ≡ option_map suc (first_place o b n)
first_suc None true n = refl
first_suc _ _ n = refl

pub position_push : {A : Type 0} (p : A → Bool) (xs : List A) (y : A) → position p (xs ++ y ∷ []) ≡ first_place (position p xs) (p y) (length xs)
position_push p [] y = by (p y) refl
  where
    by : (b : Bool) → p y ≡ b → position p (y ∷ []) ≡ first_place None b 0
    by true e = position_hit p y [] e
    by false e = position_skip p y [] e
position_push {A} p (x ∷ xs) y = by (p x) refl (position_push p xs y)
  where
    by : (b : Bool) → p x ≡ b → position p (xs ++ y ∷ []) ≡ first_place (position p xs) (p y) (length xs) →
        position p (x ∷ (xs ++ y ∷ [])) ≡ first_place (position p (x ∷ xs)) (p y) (suc (length xs))
    by true e h = position_hit p x (xs ++ y ∷ []) e ∙ ap (λ o. first_place o (p y) (suc (length xs))) (sym (position_hit p x xs e))
    by false e h =
        position_skip p x (xs ++ y ∷ []) e
        ∙ (ap (option_map suc) h
        ∙ (sym (first_suc (position p xs) (p y) (length xs))
        ∙ ap (λ o. first_place o (p y) (suc (length xs))) (sym (position_skip p x xs e))))

-- the front with one item more
pub front_more : {A B : Type 0} (f : A → B) (xs : List A) (i : ℕ) (x : A) → i < length xs → x ≡ get_or xs i x → map f (take (i + 1) xs) ≡ map f (take i xs) ++ f x ∷ []
front_more {A} f xs i x lt is =
    ap (map f) (take_more xs i x lt ∙ ap (λ (y : A). take i xs ++ y ∷ []) (sym is)) ∙ map-append f (take i xs) (x ∷ [])

pub length_front : {A B : Type 0} (f : A → B) (xs : List A) (i : ℕ) → i < length xs → length (map f (take i xs)) ≡ i
length_front f xs i lt = rw length-map (length-take-le i xs (omega arith))

pub position_more : {A B : Type 0} (f : A → B) (p : B → Bool) (xs : List A) (i : ℕ) (x : A) → i < length xs → x ≡ get_or xs i x →
    position p (map f (take (i + 1) xs)) ≡ first_place (position p (map f (take i xs))) (p (f x)) i
position_more {A} {B} f p xs i x lt is =
    ap (position p) (front_more f xs i x lt is)
    ∙ (position_push p (map f (take i xs)) (f x) ∙ ap (first_place (position p (map f (take i xs))) (p (f x))) (length_front f xs i lt))

flipped : (x y : List ℕ) → bytes_eq x y ≡ false → bytes_eq y x ≡ false
flipped x y e = nat_list_eq_equiv.symm y x ∙ e

-- a look-up after a name is given the place that it has, or else this one
pub with_entry : (old : List ℕ → Option ℕ) (name q : List ℕ) (at : ℕ) →
    cond (bytes_eq name q) (Some (unwrap_or (old name) at)) (old q) ≡ first_place (old q) (bytes_eq q name) at
with_entry old name q at = by (bytes_eq name q) refl
  where
    stays : (o : Option ℕ) → o ≡ first_place o false at
    stays None = refl
    stays (Some x) = refl

    put : (o : Option ℕ) → Some (unwrap_or o at) ≡ first_place o true at
    put None = refl
    put (Some x) = refl

    by : (b : Bool) → bytes_eq name q ≡ b → cond b (Some (unwrap_or (old name) at)) (old q) ≡ first_place (old q) (bytes_eq q name) at
    by true e =
        let same : name ≡ q = (bytes_eq-Decides name q).0 e in
        let there : bytes_eq q name ≡ true = (bytes_eq-Decides q name).1 (sym same) in
        rw there (ap (λ (n : List ℕ). Some (unwrap_or (old n) at)) same ∙ put (old q))
    by false e = rw (flipped name q e) (stays (old q))

-- the first places of names in a front that is one item longer
pub places_more : {A B : Type 0} (f : A → B) (named : B → Option (List ℕ)) (xs : List A) (i : ℕ) (x : A) (old new : List ℕ → Option ℕ) (name : Option (List ℕ)) →
    i < length xs → x ≡ get_or xs i x →
    old ≡ (λ q. position (λ b. is_name q (named b)) (map f (take i xs))) → name ≡ named (f x) → new ≡ with_place old name i →
    new ≡ (λ q. position (λ b. is_name q (named b)) (map f (take (i + 1) xs)))
places_more f named xs i x old new name lt is old_is name_is new_is =
    same_functions (λ q.
    ap (λ (g : List ℕ → Option ℕ). g q) new_is
    ∙ (ap (λ (g : List ℕ → Option ℕ). first_place (g q) (is_name q name) i) old_is
    ∙ (ap (λ (n : Option (List ℕ)). first_place (position (λ b. is_name q (named b)) (map f (take i xs))) (is_name q n) i) name_is
    ∙ sym (position_more f (λ b. is_name q (named b)) xs i x lt is))))
