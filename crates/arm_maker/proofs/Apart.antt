-- Lists of which each two stand in a relation.
use Rattle.std.proofs.Common.{◌≡◌, ◌<◌, ◌⊎◌, inl, inr, ℕ, zero, suc, Bool, true, false, List, [], ◌∷◌, length, get_or, nat_eq, refl, sym, ap, subst, ◌∙◌, arith, true≢false}
use Rattle.std.proofs.lemmas.Bool.Decides.{nat_tests}
use Rattle.std.proofs.lemmas.List.Edits.{swapped_from_swap, length-swap}
use Rattle.std.specs.List.{swap}
use Rattle.match_model.specs.Lists.{Every, Ordered}

-- each two at different numbers stand so to each other
abbrev pub AreApart : {A : Type 0} → (A → A → Type 0) → List A → Type 0
AreApart {A} R xs = (i j : ℕ) (d : A) → i < length xs → j < length xs → ¬ (i ≡ j) → R (get_or xs i d) (get_or xs j d)

every_at : {A : Type 0} (P : A → Type 0) (xs : List A) (i : ℕ) (d : A) → Every P xs → i < length xs → P (get_or xs i d)
every_at P [] i d p l = absurd (omega (arith, l))
every_at P (x ∷ xs) zero d p l = p.0
every_at P (x ∷ xs) (suc i) d p l = every_at P xs i d p.1 (omega (arith, l))

at_every : {A : Type 0} (P : A → Type 0) (xs : List A) → ((i : ℕ) (d : A) → i < length xs → P (get_or xs i d)) →
    Every P xs
at_every P [] h = tt
at_every P (x ∷ xs) h = (h zero x (omega arith), at_every P xs (λ i d l. h (suc i) d (omega (arith, l))))

pub ordered_apart : {A : Type 0} (R : A → A → Type 0) → ((x y : A) → R x y → R y x) → (xs : List A) → Ordered R xs →
    AreApart R xs
ordered_apart R turn [] o i j d l m n = absurd (omega (arith, l))
ordered_apart R turn (x ∷ xs) o zero zero d l m n = absurd (n refl)
ordered_apart R turn (x ∷ xs) o zero (suc j) d l m n = every_at (R x) xs j d o.0 (omega (arith, m))
ordered_apart R turn (x ∷ xs) o (suc i) zero d l m n =
    turn x (get_or xs i d) (every_at (R x) xs i d o.0 (omega (arith, l)))
ordered_apart R turn (x ∷ xs) o (suc i) (suc j) d l m n =
    ordered_apart R turn xs o.1 i j d (omega (arith, l)) (omega (arith, m)) (λ e. n (ap suc e))

-- in a list in which each stands so to every later one
pub pairs_ordered : {A : Type 0} (R : A → A → Type 0) (xs : List A) →
    ((i j : ℕ) (d : A) → i < j → j < length xs → R (get_or xs i d) (get_or xs j d)) → Ordered R xs
pairs_ordered R [] h = tt
pairs_ordered R (x ∷ xs) h = (
  at_every (R x) xs (λ j d l. h zero (suc j) d (omega arith) (omega (arith, l))),
  pairs_ordered R xs (λ i j d l m. h (suc i) (suc j) d (omega (arith, l)) (omega (arith, m))),
)

three : (a b : ℕ) → (a ≡ b) ⊎ (¬ (a ≡ b))
three a b = go (nat_eq a b) refl
  where
    go : (t : Bool) → nat_eq a b ≡ t → (a ≡ b) ⊎ (¬ (a ≡ b))
    go true e = inl (grind (arith, nat_tests))
    go false e = inr (λ f. true≢false (sym (grind (arith, nat_tests)) ∙ e))

-- an exchange keeps them apart
pub exchanged : {A : Type 0} (R : A → A → Type 0) (xs : List A) (a b : ℕ) → a < length xs → b < length xs →
    AreApart R xs → AreApart R (swap xs a b)
exchanged {A} R xs a b la lb p i j d l m n = go (three i a) (three i b) (three j a) (three j b)
  where
    f : ℕ → A
    f k = get_or xs k d

    g : ℕ → A
    g k = get_or (swap xs a b) k d

    s : (g a ≡ f b) × (g b ≡ f a) × ((k : ℕ) → ¬ (k ≡ a) → ¬ (k ≡ b) → g k ≡ f k)
    s = swapped_from_swap xs (swap xs a b) a b d la lb refl

    li : i < length xs
    li = omega (arith, l, length-swap xs a b)

    lj : j < length xs
    lj = omega (arith, m, length-swap xs a b)

    at : (k h : ℕ) → k < length xs → h < length xs → ¬ (k ≡ h) → g i ≡ f k → g j ≡ f h → R (g i) (g j)
    at k h u v w e o = subst (λ x. R x (g j)) (sym e) (subst (λ x. R (f k) x) (sym o) (p k h d u v w))

    go : (i ≡ a) ⊎ (¬ (i ≡ a)) → (i ≡ b) ⊎ (¬ (i ≡ b)) → (j ≡ a) ⊎ (¬ (j ≡ a)) → (j ≡ b) ⊎ (¬ (j ≡ b)) →
        R (g i) (g j)
    go (inl e) q (inl o) r = absurd (n (e ∙ sym o))
    go (inl e) q (inr o) (inl r) = at b a lb la (λ h. n (e ∙ sym h ∙ sym r)) (ap g e ∙ s.0) (ap g r ∙ s.1)
    go (inl e) q (inr o) (inr r) = at b j lb lj (λ h. r (sym h)) (ap g e ∙ s.0) (s.2 j o r)
    go (inr e) (inl q) (inl o) r = at a b la lb (λ h. n (q ∙ sym h ∙ sym o)) (ap g q ∙ s.1) (ap g o ∙ s.0)
    go (inr e) (inl q) (inr o) (inl r) = absurd (n (q ∙ sym r))
    go (inr e) (inl q) (inr o) (inr r) = at a j la lj (λ h. o (sym h)) (ap g q ∙ s.1) (s.2 j o r)
    go (inr e) (inr q) (inl o) r = at i b li lb q (s.2 i e q) (ap g o ∙ s.0)
    go (inr e) (inr q) (inr o) (inl r) = at i a li la e (s.2 i e q) (ap g r ∙ s.1)
    go (inr e) (inr q) (inr o) (inr r) = at i j li lj n (s.2 i e q) (s.2 j o r)
