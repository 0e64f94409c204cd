-- `f` of numbers, from the first one on.
use Rattle.std.proofs.Common.{◌≡◌, ℕ, zero, suc, ◌+◌, List, [], ◌∷◌, ◌++◌, refl, sym, ap, ◌∙◌, arith}
use Rattle.match_model.specs.Pieces.{each_below}

-- `f` of so many numbers from this one on
unfoldable pub each_from : {A : Type 0} → (ℕ → A) → ℕ → ℕ → List A
each_from f i zero = []
each_from f i (suc n) = f i ∷ each_from f (suc i) n

from-snoc : {A : Type 0} (f : ℕ → A) (n i : ℕ) → each_from f i n ++ f (i + n) ∷ [] ≡ each_from f i (suc n)
unfolding each_from
from-snoc f zero i = let e : i + 0 ≡ i = omega arith in ap (λ k. f k ∷ []) e
from-snoc f (suc n) i = let e : i + suc n ≡ suc i + n = omega arith in ap (λ xs. f i ∷ xs) (ap (λ k. each_from f (suc i) n ++ f k ∷ []) e ∙ from-snoc f n (suc i))

pub below_from : {A : Type 0} (f : ℕ → A) (n : ℕ) → each_below f n ≡ each_from f 0 n
unfolding each_from
below_from f zero = refl
below_from f (suc n) = let e : 0 + n ≡ n = omega arith in ap (λ xs. xs ++ f n ∷ []) (below_from f n) ∙ ap (λ k. each_from f 0 n ++ f k ∷ []) (sym e) ∙ from-snoc f n 0
