-- What stands at a number of a list.
use Rattle.std.proofs.Common.{◌≡◌, ℕ, zero, suc, ◌+◌, ◌<◌, List, [], ◌∷◌, map, length, Some, refl, ap, sym, arith, get_or, slice_get, drop, ◌∙◌}

-- what was read at a number is got there, also through a map
pub got : {X Y : Type 0} (f : X → Y) (xs : List X) (k : ℕ) (x : X) → k < length xs → x ≡ get_or xs k x → slice_get (map f xs) k ≡ Some (f x)
got f [] k x l e = absurd (omega arith)
got f (y ∷ ys) zero x l e = ap (λ z. Some (f z)) (sym e)
got f (y ∷ ys) (suc k) x l e = got f ys k x (omega arith) e

-- the same, where what is read past the end is known
pub got-read : {X Y : Type 0} (f : X → Y) (xs : List X) (k : ℕ) (d : X) → k < length xs → slice_get (map f xs) k ≡ Some (f (get_or xs k d))
got-read f [] k d l = absurd (omega arith)
got-read f (y ∷ ys) zero d l = refl
got-read f (y ∷ ys) (suc k) d l = got-read f ys k d (omega arith)

-- what is left of a list from where something stands
pub drop-got : {X : Type 0} (xs : List X) (k : ℕ) (x : X) → slice_get xs k ≡ Some x → drop k xs ≡ x ∷ drop (k + 1) xs
drop-got [] k x e = cc
drop-got (y ∷ ys) zero x e = let same : y ≡ x = cc in ap (λ z. z ∷ ys) same
drop-got (y ∷ ys) (suc k) x e = drop-got ys k x e ∙ ap (λ n. x ∷ drop n (y ∷ ys)) (let more : suc (k + 1) ≡ suc k + 1 = omega arith in more)
