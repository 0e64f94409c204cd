-- Ranges of pieces halved.
use Rattle.std.proofs.Common.{◌≡◌, ℕ, zero, suc, ◌+◌, ◌-◌, ◌≤◌, ◌<◌, Bool, true, false, ◌&&◌, nat_le, nat_lt, cond, List, [], ◌∷◌, ◌++◌, length, filter, Option, Some, None, slice_get, refl, ap, ◌∙◌, arith, take, get_or}
use Rattle.std.specs.List.{All, flat_map}
use Rattle.std.proofs.lemmas.List.Elements.{All-filter, All-nil, All-cons, filter-append}
use Rattle.std.proofs.lemmas.List.{take_more, reverse-append}
use Rattle.std.proofs.lemmas.Bool.Decides.{nat_tests}
use Rattle.pattern_matrix.specs.declared.halving.Part.{Part}
use Rattle.pattern_matrix.specs.Sparse.{columns_from}
use Rattle.pattern_matrix.specs.Halving.{span_has, span_meets, meeting, leaves_with, IsPart, one_meeting}
use Rattle.pattern_matrix.specs.Parts.{pieces_in, pieces_left}

-- a test that implies another passes the same of what the other passes
within_step : {X : Type 0} (p q : X → Bool) (x : X) (xs : List X) (b : Bool) → (q x ≡ false → p x ≡ false) → q x ≡ b → filter p (filter q xs) ≡ filter p xs →
    filter p (cond b (x ∷ filter q xs) (filter q xs)) ≡ filter p (x ∷ xs)
within_step p q x xs true none e ih = rw ih refl
within_step p q x xs false none e ih = rw (none e) ih

filter-within : {X : Type 0} (p q : X → Bool) → ((x : X) → q x ≡ false → p x ≡ false) → (xs : List X) → filter p (filter q xs) ≡ filter p xs
filter-within p q none [] = refl
filter-within p q none (x ∷ xs) = within_step p q x xs (q x) (none x) refl (filter-within p q none xs)

-- tests that agree pass the same
filter-same : {X : Type 0} (p q : X → Bool) → ((x : X) → p x ≡ q x) → (xs : List X) → filter p xs ≡ filter q xs
filter-same p q same [] = refl
filter-same p q same (x ∷ xs) = rw (same x, filter-same p q same xs) refl

-- a span that does not meet a range has no piece of it
lacks_all : (first end i a b : ℕ) → first ≤ i → i < end → (nat_lt a end && nat_lt first b) ≡ false → (nat_le a i && nat_lt i b) ≡ false
lacks_all first end i a b l m e = grind (arith, nat_tests)

span_lacks : (first end i : ℕ) (o : Option (ℕ × ℕ)) → first ≤ i → i < end → span_meets first end o ≡ false → span_has i o ≡ false
span_lacks first end i None l m e = refl
span_lacks first end i (Some s) l m e = lacks_all first end i s.0 s.1 l m e

-- in a range of one piece meeting is having
one_piece : (first end a b : ℕ) → first + 1 ≡ end → (nat_lt a end && nat_lt first b) ≡ (nat_le a first && nat_lt first b)
one_piece first end a b e = grind (arith, nat_tests)

span_one : (first end : ℕ) (o : Option (ℕ × ℕ)) → first + 1 ≡ end → span_meets first end o ≡ span_has first o
span_one first end None e = refl
span_one first end (Some s) e = one_piece first end s.0 s.1 e

-- the leaves of a part of one piece
pub one_left : (spans : List (ℕ × ℕ)) (first end : ℕ) (numbers : List ℕ) → IsPart spans first end numbers → first + 1 ≡ end →
    meeting spans first end numbers ≡ leaves_with spans first
one_left spans first end numbers is e =
    filter-same (λ k. span_meets first end (slice_get spans k)) (λ k. span_has first (slice_get spans k)) (λ k. span_one first end (slice_get spans k) e) numbers
    ∙ is.complete first (omega arith) is.some

-- what meets a range is enough for each part of it
pub half : (spans : List (ℕ × ℕ)) (first end low high : ℕ) (numbers : List ℕ) → IsPart spans first end numbers → first ≤ low → low < high → high ≤ end →
    IsPart spans low high (meeting spans first end numbers)
half spans first end low high numbers is below some above = record {
  some = some;
  within = All-filter (λ k. span_meets first end (slice_get spans k)) (λ k. k < length spans) numbers is.within;
  complete = λ i l m.
      filter-within (λ k. span_has i (slice_get spans k)) (λ k. span_meets first end (slice_get spans k))
      (λ k e. span_lacks first end i (slice_get spans k) (omega arith) (omega arith) e) numbers
      ∙ is.complete i (omega arith) (omega arith);
}

-- numbers in two runs
pub columns_from-add : (first m n : ℕ) → columns_from first (m + n) ≡ columns_from first m ++ columns_from (first + m) n
columns_from-add first zero n = let e : first ≡ first + 0 = omega arith in let z : 0 + n ≡ n = omega arith in rw (z) (ap (λ k. columns_from k n) e)
columns_from-add first (suc m) n =
    let z : suc m + n ≡ suc (m + n) = omega arith in
    let e : suc first + m ≡ first + suc m = omega arith in
    ap (columns_from first) z ∙ ap (λ xs. first ∷ xs) (columns_from-add (suc first) m n) ∙ ap (λ k. first ∷ (columns_from (suc first) m ++ columns_from k n)) e

pub split_pieces : (first middle end : ℕ) → first ≤ middle → middle ≤ end →
    columns_from first (end - first) ≡ columns_from first (middle - first) ++ columns_from middle (end - middle)
split_pieces first middle end l m =
    let a : end - first ≡ (middle - first) + (end - middle) = omega arith in
    let b : first + (middle - first) ≡ middle = omega arith in
    ap (columns_from first) a ∙ columns_from-add first (middle - first) (end - middle) ∙ ap (λ k. columns_from first (middle - first) ++ columns_from k (end - middle)) b

-- one number more
pub columns_from-more : (n : ℕ) → columns_from 0 (n + 1) ≡ columns_from 0 n ++ n ∷ []
columns_from-more n = columns_from-add 0 n 1 ∙ ap (λ k. columns_from 0 n ++ k ∷ []) (let same : 0 + n ≡ n = omega arith in same)

pub ruleset more_numbers = columns_from-more

-- one more number that is looked at
pub meeting-more : (spans : List (ℕ × ℕ)) (first end : ℕ) (numbers : List ℕ) (i : ℕ) (s : ℕ × ℕ) → i < length numbers →
    slice_get spans (get_or numbers i 0) ≡ Some s →
    meeting spans first end (take (i + 1) numbers) ≡ meeting spans first end (take i numbers) ++ one_meeting first end (get_or numbers i 0) s
meeting-more spans first end numbers i s h e =
    let n = get_or numbers i 0 in
    ap (meeting spans first end) (take_more numbers i 0 h)
    ∙ filter-append (λ k. span_meets first end (slice_get spans k)) (take i numbers) (n ∷ [])
    ∙ ap (λ b. meeting spans first end (take i numbers) ++ cond b (n ∷ []) []) (ap (span_meets first end) e)

-- the numbers from one on are below their end
below_all : (first n bound : ℕ) → first + n ≤ bound → All (λ k. k < bound) (columns_from first n)
below_all first zero bound h = All-nil (λ k. k < bound)
below_all first (suc n) bound h = All-cons (λ k. k < bound) first (columns_from (suc first) n) (omega arith) (below_all (suc first) n bound (omega arith))

-- all leaves, for all pieces
pub whole_part : (spans : List (ℕ × ℕ)) (count : ℕ) → 0 < count → IsPart spans 0 count (columns_from 0 (length spans))
whole_part spans count h = record { some = h; within = below_all 0 (length spans) (length spans) (omega arith); complete = λ i l m. refl }

-- the pieces of a part of one piece
pub pieces-one : (p : Part) → p.first + 1 ≡ p.end → pieces_in p ≡ p.first ∷ []
pieces-one p e = let one : p.end - p.first ≡ 1 = omega arith in ap (columns_from p.first) one

pub ruleset one_parts = pieces-one

-- a part that is put last comes first
pub left-push : (parts : List Part) (p : Part) → pieces_left (parts ++ p ∷ []) ≡ pieces_in p ++ pieces_left parts
left-push parts p = ap (flat_map pieces_in) (reverse-append parts (p ∷ []))
