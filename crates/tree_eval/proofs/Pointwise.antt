-- Tests over lists, and what they tell.
use Rattle.std.proofs.Common.{◌≡◌, ℕ, Bool, true, false, ◌&&◌, List, [], ◌∷◌, map, refl, ap, ◌∙◌, arith, nat_eq}
use Rattle.std.proofs.lemmas.Bool.Decides.{nat_tests}
use Rattle.std.specs.Cmp.Lexicographic.{pointwise}

-- both of two tests hold
pub both : (a b : Bool) → (a && b) ≡ true → (a ≡ true) × (b ≡ true)
both true b h = (refl, h)
both false b h = cc

pub and_true : (a b : Bool) → a ≡ true → b ≡ true → (a && b) ≡ true
and_true a b h k = rw (h, k) refl

pub nat-same : (a b : ℕ) → nat_eq a b ≡ true → a ≡ b
nat-same a b h = grind (arith, nat_tests)

pub nat-itself : (a b : ℕ) → a ≡ b → nat_eq a b ≡ true
nat-itself a b h = grind (arith, nat_tests)

-- lists that are equal item by item show the same, where equal items do
pub pointwise-map : {A B : Type 0} (E : A → A → Bool) (f : A → B) (xs ys : List A) →
    ((x y : A) → E x y ≡ true → f x ≡ f y) → pointwise E xs ys ≡ true → map f xs ≡ map f ys
pointwise-map E f [] [] k h = refl
pointwise-map E f [] (y ∷ ys) k h = cc
pointwise-map E f (x ∷ xs) [] k h = cc
pointwise-map E f (x ∷ xs) (y ∷ ys) k h =
    let b = both (E x y) (pointwise E xs ys) h in
    let here : f x ≡ f y = k x y b.0 in
    let rest : map f xs ≡ map f ys = pointwise-map E f xs ys k b.1 in
    ap (λ z. z ∷ map f xs) here ∙ ap (λ zs. f y ∷ zs) rest

-- and the other way round
pub pointwise-from : {A B : Type 0} (E : A → A → Bool) (f : A → B) (xs ys : List A) →
    ((x y : A) → f x ≡ f y → E x y ≡ true) → map f xs ≡ map f ys → pointwise E xs ys ≡ true
pointwise-from E f [] [] k h = refl
pointwise-from E f [] (y ∷ ys) k h = cc
pointwise-from E f (x ∷ xs) [] k h = cc
pointwise-from E f (x ∷ xs) (y ∷ ys) k h =
    let here : f x ≡ f y = cc in
    let rest : map f xs ≡ map f ys = cc in
    and_true (E x y) (pointwise E xs ys) (k x y here) (pointwise-from E f xs ys k rest)
