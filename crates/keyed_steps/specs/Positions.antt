-- Positions of which none lies in another.
use Rattle.std.specs.Prelude.{◌≡◌, ⊤, ℕ, List, [], ◌∷◌, ◌++◌, Some}
use Rattle.match_model.specs.Values.{MValue}
use Rattle.match_model.specs.Places.{position_at}
use Rattle.match_model.specs.Matrices.{MColumn}
use Rattle.match_model.specs.Lists.{Every, Ordered}

-- the second position is the first, or lies in it
abbrev pub IsIn : List ℕ → List ℕ → Type 0
IsIn p q = (rest : List ℕ) × (q ≡ p ++ rest)

-- neither lies in the other
abbrev pub AreApart : List ℕ → List ℕ → Type 0
AreApart p q = (¬ IsIn p q) × (¬ IsIn q p)

-- no open position has one in it that was looked at, and they lie apart
pub record IsSpread (seen open_positions : List (List ℕ)) : Type 0 where
  pub fresh : Every (λ p. Every (λ s. ¬ IsIn p s) seen) open_positions
  pub apart : Ordered AreApart open_positions

-- the position one number further in
abbrev pub inside : List ℕ → ℕ → List ℕ
inside p k = p ++ k ∷ []

-- the positions of the columns in the value
abbrev pub ArePositions : {T : Type 0} → MValue → List (MColumn T) → List (List ℕ) → Type 0
ArePositions v [] [] = ⊤
ArePositions v [] (p ∷ ps) = ⊥
ArePositions v (c ∷ cs) [] = ⊥
ArePositions v (c ∷ cs) (p ∷ ps) = (position_at c.place v ≡ Some p) × ArePositions v cs ps
