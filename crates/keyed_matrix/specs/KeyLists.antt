-- Keys as lists of decisions, ascending by the number of the or-pattern, and their lexicographic order.
use Rattle.std.specs.Prelude.{◌≡◌, ⊤, ◌⊎◌, ◌<◌, List, [], ◌∷◌, nat_eq, nat_lt, cond}
use Rattle.match_model.specs.Lists.{Ordered}
use Rattle.match_model.specs.Keys.{Decision}

-- each or-pattern once, ascending
abbrev pub DoAscend : List Decision → Type 0
DoAscend ds = Ordered (λ d e. d.number < e.number) ds

-- the decision in its place among ascending ones, where nothing is decided of its or-pattern
abbrev pub put_decision : Decision → List Decision → List Decision
put_decision d [] = d ∷ []
put_decision d (e ∷ es) =
    cond (nat_eq e.number d.number) (e ∷ es) (cond (nat_lt d.number e.number) (d ∷ e ∷ es) (e ∷ put_decision d es))

-- the first list is less: by the first number or alternative that differs, or it ends first
abbrev pub IsLess : List Decision → List Decision → Type 0
IsLess [] [] = ⊥
IsLess [] (y ∷ ys) = ⊤
IsLess (x ∷ xs) [] = ⊥
IsLess (x ∷ xs) (y ∷ ys) = (x.number < y.number)
    ⊎ ((x.number ≡ y.number) × ((x.alternative < y.alternative) ⊎ ((x.alternative ≡ y.alternative) × IsLess xs ys)))
