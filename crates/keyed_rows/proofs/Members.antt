-- What a list contains, by number and by recursion.
use Rattle.std.proofs.Common.{◌<◌, inl, inr, zero, suc, List, [], ◌∷◌, length, sym, arith}
use Rattle.std.specs.List.{Contains}
use Rattle.match_model.specs.Lists.{Among}

pub among-contains : {A : Type 0} (xs : List A) (x : A) → Among x xs → Contains xs x
among-contains [] x a = elim a [ ]
among-contains (y ∷ xs) x (inl e) = (0, omega arith, sym e)
among-contains (y ∷ xs) x (inr a) =
    let r = among-contains xs x a in let l : r.0 < length xs = r.1 in (suc r.0, omega (arith, l), r.2)

pub contains-among : {A : Type 0} (xs : List A) (x : A) → Contains xs x → Among x xs
contains-among [] x c = let h : c.0 < 0 = c.1 in absurd (omega (arith, h))
contains-among (y ∷ xs) x (zero, h, e) = inl (sym e)
contains-among (y ∷ xs) x (suc k, h, e) = inr (contains-among xs x (k, omega (arith, h), e))
