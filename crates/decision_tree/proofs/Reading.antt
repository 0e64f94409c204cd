-- What is read from a list.
use Rattle.std.proofs.Common.{◌≡◌, ◌<◌, ℕ, zero, suc, List, [], ◌∷◌, map, length, get_or, Some, slice_get, refl, sym, ap, arith}

-- an element of a list, in a list that is made of it
pub read-map : {X Y : Type 0} (f : X → Y) (xs : List X) (i : ℕ) (x : X) → i < length xs → x ≡ get_or xs i x →
    slice_get (map f xs) i ≡ Some (f x)
read-map f [] i x l e = absurd (omega (arith, l))
read-map f (y ∷ xs) zero x l e = ap (λ z. Some (f z)) (sym e)
read-map f (y ∷ xs) (suc i) x l e = read-map f xs i x (omega (arith, l)) e

-- an element that is read in two ways
pub read-one : {X : Type 0} (xs : List X) (i : ℕ) (x y : X) → slice_get xs i ≡ Some y → x ≡ get_or xs i x → x ≡ y
read-one [] i x y g e = cc
read-one (z ∷ xs) zero x y g e = cc
read-one (z ∷ xs) (suc i) x y g e = read-one xs i x y g e

-- an element that is there, in a list that is made of it
pub there-map : {X Y : Type 0} (f : X → Y) (xs : List X) (i : ℕ) → i < length xs → (x : X) × (slice_get xs i ≡ Some x)
    × (slice_get (map f xs) i ≡ Some (f x))
there-map f [] i l = absurd (omega (arith, l))
there-map f (y ∷ xs) zero l = (y, refl, refl)
there-map f (y ∷ xs) (suc i) l = there-map f xs i (omega (arith, l))
