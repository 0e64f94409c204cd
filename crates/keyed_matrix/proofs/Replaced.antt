-- What stands in place of a head.
use Rattle.std.proofs.Common.{◌≡◌, ◌<◌, ℕ, zero, suc, ◌+◌, List, [], ◌∷◌, ◌++◌, map, take, drop, length, get_or, replicate, refl, ap, sym, ◌∙◌, arith, None, add-one}
use Rattle.std.proofs.lemmas.List.{map-append}
use Rattle.match_model.specs.Rows.{Head, wildcards}
use Rattle.match_model.specs.Steps.{Replacement, with_head, replacements_at, replaced_at}
use Rattle.keyed_matrix.specs.Steps.{put_at}

pub map-map : {A B C : Type 0} (f : B → C) (g : A → B) (h : A → C) (xs : List A) → ((x : A) → f (g x) ≡ h x) →
    map f (map g xs) ≡ map h xs
map-map f g h [] e = refl
map-map f g h (x ∷ xs) e = ap (λ y. y ∷ map f (map g xs)) (e x) ∙ ap (λ ys. h x ∷ ys) (map-map f g h xs e)

-- a head is replaced by what the step says of it
pub replacements-of : {T : Type 0} (f : Head T → List (Replacement T)) (i : ℕ) (heads : List (Head T)) (d : Head T) →
    i < length heads → replacements_at f i heads ≡ map (put_at i heads) (f (get_or heads i d))
replacements-of f i [] d l = absurd (omega (arith, l))
replacements-of f zero (h ∷ hs) d l = refl
replacements-of {T} f (suc i) (h ∷ hs) d l =
    ap (map (with_head h)) (replacements-of f i hs d (omega (arith, l)))
    ∙ map-map (with_head h) (put_at i hs) (put_at (suc i) (h ∷ hs)) (f (get_or hs i d)) (λ y. refl)

-- the list in parts
pub replaced-parts : {A : Type 0} (i : ℕ) (xs new : List A) → i < length xs →
    (take i xs ++ new) ++ drop (i + 1) xs ≡ replaced_at i xs new
replaced-parts i [] new l = absurd (omega (arith, l))
replaced-parts zero (x ∷ xs) new l = refl
replaced-parts (suc i) (x ∷ xs) new l =
    ap (λ k. (take (suc i) (x ∷ xs) ++ new) ++ drop k (x ∷ xs)) (step i)
    ∙ ap (λ ys. x ∷ ys) (replaced-parts i xs new (omega (arith, l)))
  where
    step : (k : ℕ) → suc k + 1 ≡ suc (k + 1)
    step k = omega arith

pub map-replaced : {A B : Type 0} (f : A → B) (i : ℕ) (xs new : List A) →
    map f (replaced_at i xs new) ≡ replaced_at i (map f xs) (map f new)
map-replaced f i [] new = refl
map-replaced f zero (x ∷ xs) new = map-append f new xs
map-replaced f (suc i) (x ∷ xs) new = ap (λ ys. f x ∷ ys) (map-replaced f i xs new)

pub get-map : {A B : Type 0} (f : A → B) (xs : List A) (i : ℕ) (d : A) → get_or (map f xs) i (f d) ≡ f (get_or xs i d)
get-map f [] zero d = refl
get-map f [] (suc i) d = refl
get-map f (x ∷ xs) zero d = refl
get-map f (x ∷ xs) (suc i) d = get-map f xs i d

pushed : {A : Type 0} (n : ℕ) (x : A) → replicate n x ++ x ∷ [] ≡ replicate (suc n) x
pushed zero x = refl
pushed (suc n) x = ap (λ ys. x ∷ ys) (pushed n x)

pub more-wild : {T : Type 0} (n : ℕ) → wildcards {T = T} n ++ None ∷ [] ≡ wildcards (n + 1)
more-wild n = pushed n None ∙ ap (λ k. replicate k None) (sym (add-one n))

pub ruleset more_wilds = more-wild
