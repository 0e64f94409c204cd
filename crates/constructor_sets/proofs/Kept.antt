-- A test that passes same elements alike passes as many when each is kept once.
use Rattle.std.proofs.Common.{◌≡◌, Bool, true, false, ◌||◌, List, [], ◌∷◌, cond, refl, sym, ap, ◌∙◌}
use Rattle.std.specs.List.{list_any, dedup, dedup_from}

kept : {X : Type 0} (E : X → X → Bool) (p : X → Bool) → ((x y : X) → E x y ≡ true → p x ≡ p y) → (k : X) (xs : List X) →
    list_any p (dedup_from E k xs) ≡ (p k || list_any p xs)
kept E p same k [] = refl
kept E p same k (x ∷ xs) = go (E x k) refl (kept E p same k xs) (kept E p same x xs)
  where
    again : (a b : Bool) → (a || b) ≡ (a || (a || b))
    again true b = refl
    again false b = refl

    go : (b : Bool) → E x k ≡ b → list_any p (dedup_from E k xs) ≡ (p k || list_any p xs) → list_any p (dedup_from E x xs) ≡ (p x || list_any p xs) →
        list_any p (cond b (dedup_from E k xs) (k ∷ dedup_from E x xs)) ≡ (p k || (p x || list_any p xs))
    go true e ih jh = ih ∙ again (p k) (list_any p xs) ∙ ap (λ b. p k || (b || list_any p xs)) (sym (same x k e))
    go false e ih jh = ap (λ b. p k || b) jh

pub kept_once : {X : Type 0} (E : X → X → Bool) (p : X → Bool) → ((x y : X) → E x y ≡ true → p x ≡ p y) → (xs : List X) →
    list_any p (dedup E xs) ≡ list_any p xs
kept_once E p same [] = refl
kept_once E p same (x ∷ xs) = kept E p same x xs
