-- The first rows of a match.
use Rattle.std.proofs.Common.{◌≡◌, ◌<◌, ℕ, zero, suc, ◌+◌, List, [], ◌∷◌, map, drop, length, get_or, ap, sym, ◌∙◌, arith, drop-cons, add-one}
use Rattle.match_model.specs.ArenaPatterns.{MDeArm}
use Rattle.match_model.specs.Matrices.{MRow, first_rows}
use Rattle.keyed_matrix.specs.First.{first_row}

pub first-longer : {T : Type 0} (arms : List (MDeArm T)) (j k : ℕ) (d : MRow T) → k < length (first_rows j arms) →
    0 < length (get_or (first_rows j arms) k d).heads
first-longer [] j k d l = absurd (omega (arith, l))
first-longer (a ∷ arms) j zero d l = omega arith
first-longer (a ∷ arms) j (suc k) d l = first-longer arms (suc j) k d (omega (arith, l))

-- the rows of the arms from one on
pub first-drop : {A T : Type 0} (f : A → MDeArm T) (arms : List A) (i : ℕ) (a : A) → i < length arms → a ≡ get_or arms i a →
    first_rows i (map f (drop i arms)) ≡ first_row i (f a) ∷ first_rows (i + 1) (map f (drop (i + 1) arms))
first-drop f arms i a l e =
    ap (λ xs. first_rows i (map f xs)) (drop-cons arms i a l ∙ ap (λ r. r ∷ drop (suc i) arms) (sym e))
    ∙ ap (λ n. first_row i (f a) ∷ first_rows n (map f (drop n arms))) (sym (add-one i))
