-- Which members lists have, by a test of whether two are equal.
use Rattle.std.specs.Prelude.{Bool, false, ◌&&◌, ◌||◌, List, [], ◌∷◌, ◌++◌}
use Rattle.std.specs.List.{list_any, list_all}

-- it is one of these
abbrev pub is_among : {K : Type 0} → (eq : K → K → Bool) → K → List K → Bool
is_among eq x xs = list_any (eq x) xs

-- all of the first list are among the second
abbrev pub are_among : {K : Type 0} → (eq : K → K → Bool) → List K → List K → Bool
are_among eq xs ys = list_all (λ x. is_among eq x ys) xs

-- each of the two lists has all members of the other, in any order and number
abbrev pub have_same_members : {K : Type 0} → (eq : K → K → Bool) → List K → List K → Bool
have_same_members eq xs ys = are_among eq xs ys && are_among eq ys xs

-- one of them is among those before it
abbrev pub repeats : {K : Type 0} → (eq : K → K → Bool) → (before xs : List K) → Bool
repeats eq before [] = false
repeats eq before (x ∷ xs) = is_among eq x before || repeats eq (before ++ x ∷ []) xs
