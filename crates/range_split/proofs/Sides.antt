-- Where the ranges of a column are cut, and so which of them have a piece.
use Rattle.std.proofs.Common.{◌≡◌, ℤ, pos, ◌+ℤ◌, ◌-ℤ◌, Bool, true, false, ◌&&◌, ◌||◌, List, [], ◌∷◌, refl, arith, sym, ◌∙◌, ap, subst}
use Rattle.std.specs.Prelude.{IsTrue, int_le, int_lt}
use Rattle.std.specs.Ordering.{int_eq}
use Rattle.std.specs.List.{All, AllPairs, list_any}
use Rattle.std.proofs.lemmas.Int.{ints}
use Rattle.std.proofs.lemmas.Bool.Decides.{Decides-int_eq}
use Rattle.std.proofs.lemmas.List.Elements.{All-nil, All-cons, All-weaker}
use Rattle.std.proofs.lemmas.List.Kept.{AllPairs-cons}
use Rattle.std.proofs.lemmas.List.Folds.{list_any_at}
use Rattle.match_model.specs.Numbers.{MEnd, Free, At, MRange, in_range, is_from, is_up_to}
use Rattle.match_model.specs.Pieces.{Follow, last_one, one_more, is_at}
use Rattle.range_split.specs.Ranges.{IsBelow}
use Rattle.range_split.specs.Splits.{IsOnOneSide}
use Rattle.range_split.proofs.Basics.{both_true, and_true, either_false, same_bool}
use Rattle.range_split.proofs.Held.{not_equal}
use Rattle.range_split.specs.Walks.{range_of}
use Rattle.range_split.proofs.Following.{Follow-together}

pub lower : (a k n : ℤ) → IsTrue (int_le a n) → IsTrue (int_le n k) → IsTrue (int_le a k)
lower a k n p q = grind (arith, ints)

step_lower : (a k n : ℤ) → IsTrue (int_le a n) → IsTrue (int_le (n +ℤ pos 1) k) → IsTrue (int_le a k)
step_lower a k n p q = grind (arith, ints)

pub from_later : (low : MEnd) (k n : ℤ) → IsTrue (is_from low n) → IsTrue (int_le (n +ℤ pos 1) k) → IsTrue (is_from low k)
from_later Free k n p q = refl
from_later (At a) k n p q = step_lower a k n p q

-- all pieces that follow a low end have only numbers from there on
pub Follow-from : {low high : MEnd} {ps : List MRange} → Follow low high ps → All (λ p. (k : ℤ) → IsTrue (in_range p k) → IsTrue (is_from low k)) ps
Follow-from (last_one low high n h) =
    All-cons (λ p. (k : ℤ) → IsTrue (in_range p k) → IsTrue (is_from low k)) (range_of low high) [] (λ k q. (both_true _ _ q).0)
    (All-nil (λ p. (k : ℤ) → IsTrue (in_range p k) → IsTrue (is_from low k)))
Follow-from (one_more low high n rest h f) =
    All-cons (λ p. (k : ℤ) → IsTrue (in_range p k) → IsTrue (is_from low k)) (range_of low (At n)) rest (λ k q. (both_true _ _ q).0)
    (All-weaker (λ p. (k : ℤ) → IsTrue (in_range p k) → IsTrue (is_from (At (n +ℤ pos 1)) k)) (λ p. (k : ℤ) → IsTrue (in_range p k) → IsTrue (is_from low k))
    (λ p g k q. from_later low k n (both_true _ _ h).0 (g k q)) rest (Follow-from f))

-- each piece is below all later ones
pub Follow-pairs : {low high : MEnd} {ps : List MRange} → Follow low high ps → AllPairs IsBelow ps
Follow-pairs (last_one low high n h) = AllPairs-cons IsBelow (range_of low high) [] (All-nil (IsBelow (range_of low high))) (λ i j d l m. absurd (omega arith))
Follow-pairs (one_more low high n rest h f) =
    AllPairs-cons IsBelow (range_of low (At n)) rest
    (All-weaker (λ p. (k : ℤ) → IsTrue (in_range p k) → IsTrue (is_from (At (n +ℤ pos 1)) k)) (IsBelow (range_of low (At n)))
    (λ p g k m q r. below n k m (both_true _ _ q).1 (g m r)) rest (Follow-from f))
    (Follow-pairs f)
  where
    below : (n k m : ℤ) → IsTrue (int_le k n) → IsTrue (int_le (n +ℤ pos 1) m) → IsTrue (int_lt k m)
    below n k m p q = grind (arith, ints)

not_at : (a b : ℤ) → (a ≡ b → ⊥) → int_eq a b ≡ false
not_at a b h =
    elim (int_eq a b) as (λ t. int_eq a b ≡ t → int_eq a b ≡ false) [
      | true ↦ λ t. absurd (h ((Decides-int_eq a b).0 t))
      | false ↦ λ t. t
    ] refl

-- no later piece begins at or below the end of a piece
not_before : (k : ℤ) (low : MEnd) → (int_le_fails : (a : ℤ) → low ≡ At a → k ≡ a → ⊥) → is_at k low ≡ false
not_before k Free h = refl
not_before k (At a) h = not_at k a (h a refl)

pub Follow-starts_from : {low high : MEnd} {ps : List MRange} → Follow low high ps → (k l : ℤ) → low ≡ At l → IsTrue (int_lt k l) → list_any (λ q. is_at k q.low) ps ≡ false
Follow-starts_from (last_one low high n h) k l e below = ap (λ b. b || false) (not_before k low (λ a s t. differ low a l k e s t below))
  where
    differ : (low : MEnd) (a l k : ℤ) → low ≡ At l → low ≡ At a → k ≡ a → IsTrue (int_lt k l) → ⊥
    differ low a l k e s t below = let same : a ≡ l = cc in irreflexive k l (t ∙ same) below
      where
        irreflexive : (k l : ℤ) → k ≡ l → IsTrue (int_lt k l) → ⊥
        irreflexive k l e h = grind (arith, ints)
Follow-starts_from (one_more low high n rest h f) k l e below =
    ap (λ b. b || list_any (λ q. is_at k q.low) rest) (not_before k low (λ a s t. differ low a l k e s t below))
    ∙ Follow-starts_from f k (n +ℤ pos 1) refl (step k l n low e (both_true _ _ h).0 below)
  where
    differ : (low : MEnd) (a l k : ℤ) → low ≡ At l → low ≡ At a → k ≡ a → IsTrue (int_lt k l) → ⊥
    differ low a l k e s t below = let same : a ≡ l = cc in irreflexive k l (t ∙ same) below
      where
        irreflexive : (k l : ℤ) → k ≡ l → IsTrue (int_lt k l) → ⊥
        irreflexive k l e h = grind (arith, ints)

    step : (k l n : ℤ) (low : MEnd) → low ≡ At l → IsTrue (is_from low n) → IsTrue (int_lt k l) → IsTrue (int_lt k (n +ℤ pos 1))
    step k l n Free e p q = absurd (cc)
    step k l n (At a) e p q = let same : a ≡ l = cc in numbers k l n (subst (λ x. IsTrue (int_le x n)) same p) q
      where
        numbers : (k l n : ℤ) → IsTrue (int_le l n) → IsTrue (int_lt k l) → IsTrue (int_lt k (n +ℤ pos 1))
        numbers k l n p q = grind (arith, ints)

pub not_its_low : (low : MEnd) (k : ℤ) → IsTrue (is_from low (k -ℤ pos 1)) → is_at k low ≡ false
not_its_low Free k h = refl
not_its_low (At a) k h = not_at k a (apart a k h)
  where
    apart : (a k : ℤ) → IsTrue (int_le a (k -ℤ pos 1)) → k ≡ a → ⊥
    apart a k h e = grind (arith, ints)

-- no piece begins inside a piece
pub Follow-inside : {low high : MEnd} {ps : List MRange} → Follow low high ps →
    All (λ p. (k : ℤ) → IsTrue (in_range p (k -ℤ pos 1)) → IsTrue (in_range p k) → list_any (λ q. is_at k q.low) ps ≡ false) ps
Follow-inside (last_one low high n h) =
    let Q : MRange → Type 0 = λ p. (k : ℤ) → IsTrue (in_range p (k -ℤ pos 1)) → IsTrue (in_range p k) → list_any (λ (q : MRange). is_at k q.low) (range_of low high ∷ []) ≡ false in
    All-cons Q (range_of low high) [] (λ k p q. ap (λ b. b || false) (not_its_low low k (both_true _ _ p).0)) (All-nil Q)
Follow-inside (one_more low high n rest h f) =
    let ps : List MRange = range_of low (At n) ∷ rest in
    let Q : MRange → Type 0 = λ p. (k : ℤ) → IsTrue (in_range p (k -ℤ pos 1)) → IsTrue (in_range p k) → list_any (λ (q : MRange). is_at k q.low) ps ≡ false in
    let later = Follow-from f in
    let inner = Follow-inside f in
    All-cons Q (range_of low (At n)) rest
    (λ k p q. ap (λ b. b || list_any (λ (r : MRange). is_at k r.low) rest) (not_its_low low k (both_true _ _ p).0)
    ∙ Follow-starts_from f k (n +ℤ pos 1) refl (less k n (both_true _ _ q).1))
    (λ i d l k p q. ap (λ b. b || list_any (λ (r : MRange). is_at k r.low) rest)
    (not_its_low low k (from_later low (k -ℤ pos 1) n (both_true _ _ h).0 (later i d l (k -ℤ pos 1) p))) ∙ inner i d l k p q)
  where
    less : (k n : ℤ) → IsTrue (int_le k n) → IsTrue (int_lt k (n +ℤ pos 1))
    less k n h = grind (arith, ints)

-- each number of a piece is one of the whole
pub Follow-within : {low high : MEnd} {ps : List MRange} → Follow low high ps → All (λ p. (k : ℤ) → IsTrue (in_range p k) → IsTrue (in_range (range_of low high) k)) ps
Follow-within {low} {high} {ps} f = λ i d l k h. sym (Follow-together f k) ∙ list_any_at (λ p. in_range p k) ps i d l h

pub none_any : {A : Type 0} (p : A → Bool) (xs : List A) → list_any p xs ≡ false → All (λ x. p x ≡ false) xs
none_any p [] h = All-nil (λ x. p x ≡ false)
none_any p (x ∷ xs) h = let s = either_false (p x) (list_any p xs) h in All-cons (λ x. p x ≡ false) x xs s.0 (none_any p xs s.1)

convex : (p : MRange) (m k n : ℤ) → IsTrue (in_range p m) → IsTrue (in_range p n) → IsTrue (int_le m k) → IsTrue (int_le k n) → IsTrue (in_range p k)
convex p m k n h i below above = and_true _ _ (from p.low m k (both_true _ _ h).0 below) (up_to p.high k n (both_true _ _ i).1 above)
  where
    from : (low : MEnd) (m k : ℤ) → IsTrue (is_from low m) → IsTrue (int_le m k) → IsTrue (is_from low k)
    from Free m k p q = refl
    from (At a) m k p q = grind (arith, ints)

    up_to : (high : MEnd) (k n : ℤ) → IsTrue (is_up_to high n) → IsTrue (int_le k n) → IsTrue (is_up_to high k)
    up_to Free k n p q = refl
    up_to (At b) k n p q = grind (arith, ints)

-- no end of the range stands inside the piece
abbrev pub HasNoEndIn : (p r : MRange) → Type 0
HasNoEndIn p r = (k : ℤ) → IsTrue (in_range p (k -ℤ pos 1)) → IsTrue (in_range p k) → (is_at k r.low || is_at (k -ℤ pos 1) r.high) ≡ false

module _ (p : MRange) where
  low_side : (low : MEnd) → ((k : ℤ) → IsTrue (in_range p (k -ℤ pos 1)) → IsTrue (in_range p k) → is_at k low ≡ false) →
      (m n : ℤ) → IsTrue (in_range p m) → IsTrue (in_range p n) → IsTrue (is_from low m) → IsTrue (is_from low n)
  low_side Free none m n h i t = refl
  low_side (At a) none m n h i t =
      elim (int_le a n) as (λ b. int_le a n ≡ b → IsTrue (int_le a n)) [
        | true ↦ λ e. e
        | false ↦ λ e.
            let before = convex p n (a -ℤ pos 1) m i h (before_end a n e) (before_last a m t) in
            let at = convex p n a m i h (above a n e) t in
            absurd (not_equal a a (none a before at) refl)
      ] refl
    where
      before_end : (a n : ℤ) → int_le a n ≡ false → IsTrue (int_le n (a -ℤ pos 1))
      before_end a n e = grind (arith, ints)

      before_last : (a m : ℤ) → IsTrue (int_le a m) → IsTrue (int_le (a -ℤ pos 1) m)
      before_last a m e = grind (arith, ints)

      above : (a n : ℤ) → int_le a n ≡ false → IsTrue (int_le n a)
      above a n e = grind (arith, ints)

  high_side : (high : MEnd) → ((k : ℤ) → IsTrue (in_range p (k -ℤ pos 1)) → IsTrue (in_range p k) → is_at (k -ℤ pos 1) high ≡ false) →
      (m n : ℤ) → IsTrue (in_range p m) → IsTrue (in_range p n) → IsTrue (is_up_to high m) → IsTrue (is_up_to high n)
  high_side Free none m n h i t = refl
  high_side (At b) none m n h i t =
      elim (int_le n b) as (λ t. int_le n b ≡ t → IsTrue (int_le n b)) [
        | true ↦ λ e. e
        | false ↦ λ e.
            let at : IsTrue (in_range p (b +ℤ pos 1 -ℤ pos 1)) = convex p m (b +ℤ pos 1 -ℤ pos 1) n h i (back m b t) (past n b e) in
            let behind = convex p m (b +ℤ pos 1) n h i (later m b t) (next n b e) in
            absurd (not_equal (b +ℤ pos 1 -ℤ pos 1) b (none (b +ℤ pos 1) at behind) (same b))
      ] refl
    where
      same : (b : ℤ) → b +ℤ pos 1 -ℤ pos 1 ≡ b
      same b = omega (arith, ints)

      back : (m b : ℤ) → IsTrue (int_le m b) → IsTrue (int_le m (b +ℤ pos 1 -ℤ pos 1))
      back m b e = grind (arith, ints)

      past : (n b : ℤ) → int_le n b ≡ false → IsTrue (int_le (b +ℤ pos 1 -ℤ pos 1) n)
      past n b e = grind (arith, ints)

      later : (m b : ℤ) → IsTrue (int_le m b) → IsTrue (int_le m (b +ℤ pos 1))
      later m b e = grind (arith, ints)

      next : (n b : ℤ) → int_le n b ≡ false → IsTrue (int_le (b +ℤ pos 1) n)
      next n b e = grind (arith, ints)

-- a range that neither begins nor ends inside a piece has all of it or nothing
pub one_side : (p r : MRange) → HasNoEndIn p r → IsOnOneSide p r
one_side p r none = λ m n h i.
    let low = low_side p r.low (λ k a b. (either_false _ _ (none k a b)).0) in
    let high = high_side p r.high (λ k a b. (either_false _ _ (none k a b)).1) in
    same_and _ _ _ _ (low m n h i) (low n m i h) (high m n h i) (high n m i h)
  where
    same_and : (a b c d : Bool) → (a ≡ true → c ≡ true) → (c ≡ true → a ≡ true) → (b ≡ true → d ≡ true) → (d ≡ true → b ≡ true) → (a && b) ≡ (c && d)
    same_and a b c d f g h i = let s = same_bool a c f g in let t = same_bool b d h i in ap (λ x. x && b) s ∙ ap (λ y. c && y) t
