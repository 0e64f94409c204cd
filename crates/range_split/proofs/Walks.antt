-- The pieces between ascending cuts.
use Rattle.std.proofs.Common.{◌≡◌, ℕ, ℤ, pos, ◌+◌, ◌+ℤ◌, ◌-ℤ◌, Bool, true, false, not, cond, ◌&&◌, ◌||◌, List, [], ◌∷◌, map, refl, arith, sym, ◌∙◌, ap, subst, add-zero, zero-add}
use Rattle.std.specs.Prelude.{IsTrue, int_le, int_lt, nat_eq}
use Rattle.std.specs.Ordering.{int_eq}
use Rattle.std.specs.List.{All, list_any}
use Rattle.std.proofs.lemmas.Int.{ints}
use Rattle.std.proofs.lemmas.Bool.Decides.{Decides-int_eq}
use Rattle.std.proofs.lemmas.List.Elements.{All-nil, All-cons, All-head, All-tail}
use Rattle.std.proofs.lemmas.List.Sums.{sum_by-cons}
use Rattle.match_model.specs.Numbers.{MEnd, Free, At, MRange, in_range, is_from, is_up_to}
use Rattle.match_model.specs.Pieces.{Follow, last_one, one_more, is_at}
use Rattle.range_split.specs.Ends.{ends_ascend}
use Rattle.range_split.specs.Cuts.{Rise, begun_at, ended_at, AreBetween}
use Rattle.range_split.specs.Walks.{bit, range_of, pieces_from}
use Rattle.range_split.proofs.Basics.{both_true, and_true, reflexive, piece_of}
use Rattle.range_split.proofs.Pairs.{some_number}
use Rattle.range_split.proofs.Held.{not_equal}

pub same_place : (low high : MEnd) (b e : ℕ) (c : ℤ × Bool) (cuts : List (ℤ × Bool)) → is_at c.0 low ≡ true →
    pieces_from low high b e (c ∷ cuts) ≡ pieces_from low high (b + bit c.1) (e + bit (not c.1)) cuts
same_place low high b e c cuts h =
    ap (λ t. cond t (pieces_from low high (b + bit c.1) (e + bit (not c.1)) cuts)
    ((range_of low (At (c.0 -ℤ pos 1)), not (nat_eq b e)) ∷ pieces_from (At c.0) high (b + bit c.1) (e + bit (not c.1)) cuts)) h

pub new_place : (low high : MEnd) (b e : ℕ) (c : ℤ × Bool) (cuts : List (ℤ × Bool)) → is_at c.0 low ≡ false →
    pieces_from low high b e (c ∷ cuts) ≡ (range_of low (At (c.0 -ℤ pos 1)), not (nat_eq b e)) ∷ pieces_from (At c.0) high (b + bit c.1) (e + bit (not c.1)) cuts
new_place low high b e c cuts h =
    ap (λ t. cond t (pieces_from low high (b + bit c.1) (e + bit (not c.1)) cuts)
    ((range_of low (At (c.0 -ℤ pos 1)), not (nat_eq b e)) ∷ pieces_from (At c.0) high (b + bit c.1) (e + bit (not c.1)) cuts)) h

-- an end at a number is that number
pub at_is : (n : ℤ) (low : MEnd) → is_at n low ≡ true → At n ≡ low
at_is n Free h = absurd (cc)
at_is n (At a) h = ap At ((Decides-int_eq n a).0 h)

pub Rise-same : (n : ℤ) (low : MEnd) (cuts : List (ℤ × Bool)) → is_at n low ≡ true → Rise (At n) cuts → Rise low cuts
Rise-same n low cuts h r = subst (λ (e : MEnd). Rise e cuts) (at_is n low h) r

-- behind a low end that is not the number itself
pub before_cut : (low : MEnd) (n : ℤ) → IsTrue (is_from low n) → is_at n low ≡ false → IsTrue (is_from low (n -ℤ pos 1))
before_cut Free n p q = refl
before_cut (At a) n p q = numbers a n p (not_equal n a q)
  where
    numbers : (a n : ℤ) → IsTrue (int_le a n) → (n ≡ a → ⊥) → IsTrue (int_le a (n -ℤ pos 1))
    numbers a n p q = grind (arith, ints)

pub ascend_to : (high : MEnd) (n : ℤ) → IsTrue (is_up_to high n) → IsTrue (ends_ascend (At n) high)
ascend_to Free n h = refl
ascend_to (At b) n h = h

pub by_place : (t : Bool) (P : Type 0) → (t ≡ true → P) → (t ≡ false → P) → P
by_place true P f g = f refl
by_place false P f g = g refl

walk_follow : (low high : MEnd) (b e : ℕ) (cuts : List (ℤ × Bool)) → IsTrue (ends_ascend low high) → Rise low cuts → All (λ c. IsTrue (is_up_to high c.0)) cuts →
    Follow low high (map piece_of (pieces_from low high b e cuts))
walk_follow low high b e [] up r inside = let n = some_number low high up in last_one low high n.0 n.1
walk_follow low high b e (c ∷ cuts) up r inside =
    let H : ℤ × Bool → Type 0 = λ c. IsTrue (is_up_to high c.0) in
    let tail = All-tail H c cuts inside in
    by_place (is_at c.0 low) (Follow low high (map piece_of (pieces_from low high b e (c ∷ cuts))))
    (λ t. subst (λ (ps : List (MRange × Bool)). Follow low high (map piece_of ps)) (sym (same_place low high b e c cuts t))
    (walk_follow low high (b + bit c.1) (e + bit (not c.1)) cuts up (Rise-same c.0 low cuts t r.1) tail))
    (λ t. subst (λ (ps : List (MRange × Bool)). Follow low high (map piece_of ps)) (sym (new_place low high b e c cuts t))
    (one_more low high (c.0 -ℤ pos 1) (map piece_of (pieces_from (At c.0) high (b + bit c.1) (e + bit (not c.1)) cuts))
    (and_true _ _ (before_cut low c.0 r.0 t) (reflexive (c.0 -ℤ pos 1)))
    (subst (λ (x : ℤ). Follow (At x) high (map piece_of (pieces_from (At c.0) high (b + bit c.1) (e + bit (not c.1)) cuts))) (again c.0)
    (walk_follow (At c.0) high (b + bit c.1) (e + bit (not c.1)) cuts (ascend_to high c.0 (All-head H c cuts inside)) r.1 tail))))
  where
    again : (n : ℤ) → n ≡ n -ℤ pos 1 +ℤ pos 1
    again n = omega (arith, ints)

walk_starts : (low high : MEnd) (b e : ℕ) (cuts : List (ℤ × Bool)) (n : ℤ) →
    list_any (λ p. is_at n p.low) (map piece_of (pieces_from low high b e cuts)) ≡ (is_at n low || list_any (λ c. int_eq n c.0) cuts)
walk_starts low high b e [] n = refl
walk_starts low high b e (c ∷ cuts) n =
    let rest = list_any (λ (c : ℤ × Bool). int_eq n c.0) cuts in
    by_place (is_at c.0 low) (list_any (λ p. is_at n p.low) (map piece_of (pieces_from low high b e (c ∷ cuts))) ≡ (is_at n low || (int_eq n c.0 || rest)))
    (λ t. ap (λ (ps : List (MRange × Bool)). list_any (λ p. is_at n p.low) (map piece_of ps)) (same_place low high b e c cuts t)
    ∙ walk_starts low high (b + bit c.1) (e + bit (not c.1)) cuts n
    ∙ twice (is_at n low) (int_eq n c.0) rest (ap (is_at n) (sym (at_is c.0 low t))))
    (λ t. ap (λ (ps : List (MRange × Bool)). list_any (λ p. is_at n p.low) (map piece_of ps)) (new_place low high b e c cuts t)
    ∙ ap (λ x. is_at n low || x) (walk_starts (At c.0) high (b + bit c.1) (e + bit (not c.1)) cuts n))
  where
    twice : (x y z : Bool) → x ≡ y → (x || z) ≡ (x || (y || z))
    twice true y z h = refl
    twice false true z h = absurd (cc)
    twice false false z h = refl

from_before : (low : MEnd) (m n : ℤ) → IsTrue (is_from low m) → IsTrue (int_le m n) → IsTrue (is_from low n)
from_before Free m n p q = refl
from_before (At a) m n p q = grind (arith, ints)

walk_from : (low high : MEnd) (b e : ℕ) (cuts : List (ℤ × Bool)) → Rise low cuts → All (λ p. (n : ℤ) → IsTrue (in_range p.0 n) → IsTrue (is_from low n)) (pieces_from low high b e cuts)
walk_from low high b e [] r =
    let Q : MRange × Bool → Type 0 = λ p. (n : ℤ) → IsTrue (in_range p.0 n) → IsTrue (is_from low n) in
    All-cons Q (range_of low high, not (nat_eq b e)) [] (λ n h. (both_true _ _ h).0) (All-nil Q)
walk_from low high b e (c ∷ cuts) r =
    let Q : MRange × Bool → Type 0 = λ p. (n : ℤ) → IsTrue (in_range p.0 n) → IsTrue (is_from low n) in
    by_place (is_at c.0 low) (All Q (pieces_from low high b e (c ∷ cuts)))
    (λ t. subst (All Q) (sym (same_place low high b e c cuts t)) (walk_from low high (b + bit c.1) (e + bit (not c.1)) cuts (Rise-same c.0 low cuts t r.1)))
    (λ t. subst (All Q) (sym (new_place low high b e c cuts t))
    (All-cons Q (range_of low (At (c.0 -ℤ pos 1)), not (nat_eq b e)) (pieces_from (At c.0) high (b + bit c.1) (e + bit (not c.1)) cuts) (λ n h. (both_true _ _ h).0)
    (λ k d l n h. from_before low c.0 n r.0 (walk_from (At c.0) high (b + bit c.1) (e + bit (not c.1)) cuts r.1 k d l n h))))

counts : (t : Bool) (m n : ℤ) → IsTrue (int_le m n) → bit (t && int_le m n) ≡ bit t
counts true m n h = ap bit h
counts false m n h = refl

counts_none : (t : Bool) (m n : ℤ) → IsTrue (int_lt n m) → bit (t && int_le m n) ≡ 0
counts_none true m n h = ap bit (above m n h)
  where
    above : (m n : ℤ) → IsTrue (int_lt n m) → int_le m n ≡ false
    above m n h = grind (arith, ints)
counts_none false m n h = refl

-- cuts above a number do not count there
none_yet : (l n : ℤ) (cuts : List (ℤ × Bool)) → IsTrue (int_lt n l) → Rise (At l) cuts → (begun_at n cuts ≡ 0) × (ended_at n cuts ≡ 0)
none_yet l n [] h r = (refl, refl)
none_yet l n (c ∷ cuts) h r =
    let above = later l c.0 n h r.0 in
    let rest = none_yet c.0 n cuts above r.1 in
    let x = sum_by-cons (λ (c : ℤ × Bool). bit (c.1 && int_le c.0 n)) c cuts in
    let y = sum_by-cons (λ (c : ℤ × Bool). bit (not c.1 && int_le c.0 n)) c cuts in
    let p = counts_none c.1 c.0 n above in
    let q = counts_none (not c.1) c.0 n above in
    (x ∙ ap (λ k. k + begun_at n cuts) p ∙ ap (λ k. 0 + k) rest.0, y ∙ ap (λ k. k + ended_at n cuts) q ∙ ap (λ k. 0 + k) rest.1)
  where
    later : (l m n : ℤ) → IsTrue (int_lt n l) → IsTrue (int_le l m) → IsTrue (int_lt n m)
    later l m n p q = grind (arith, ints)

-- a cut at or before a number counts there
one_counted : (b : ℕ) (n : ℤ) (c : ℤ × Bool) (cuts : List (ℤ × Bool)) → IsTrue (int_le c.0 n) → b + bit c.1 + begun_at n cuts ≡ b + begun_at n (c ∷ cuts)
one_counted b n c cuts h =
    let x = sum_by-cons (λ (c : ℤ × Bool). bit (c.1 && int_le c.0 n)) c cuts in
    let p = counts c.1 c.0 n h in
    plus b (bit c.1) (begun_at n cuts) (bit (c.1 && int_le c.0 n)) (begun_at n (c ∷ cuts)) x p
  where
    plus : (b c d k s : ℕ) → s ≡ k + d → k ≡ c → b + c + d ≡ b + s
    plus b c d k s x p = omega arith

one_ended : (e : ℕ) (n : ℤ) (c : ℤ × Bool) (cuts : List (ℤ × Bool)) → IsTrue (int_le c.0 n) → e + bit (not c.1) + ended_at n cuts ≡ e + ended_at n (c ∷ cuts)
one_ended e n c cuts h =
    let x = sum_by-cons (λ (c : ℤ × Bool). bit (not c.1 && int_le c.0 n)) c cuts in
    let p = counts (not c.1) c.0 n h in
    plus e (bit (not c.1)) (ended_at n cuts) (bit (not c.1 && int_le c.0 n)) (ended_at n (c ∷ cuts)) x p
  where
    plus : (b c d k s : ℕ) → s ≡ k + d → k ≡ c → b + c + d ≡ b + s
    plus b c d k s x p = omega arith

abbrev flag_at : (b e : ℕ) → List (ℤ × Bool) → ℤ → Bool
flag_at b e cuts n = not (nat_eq (b + begun_at n cuts) (e + ended_at n cuts))

abbrev HasFlag : (b e : ℕ) → List (ℤ × Bool) → MRange × Bool → Type 0
HasFlag b e cuts p = (n : ℤ) → IsTrue (in_range p.0 n) → p.1 ≡ flag_at b e cuts n

walk_flags : (low high : MEnd) (b e : ℕ) (cuts : List (ℤ × Bool)) → Rise low cuts → All (HasFlag b e cuts) (pieces_from low high b e cuts)
walk_flags low high b e [] r =
    All-cons (HasFlag b e []) (range_of low high, not (nat_eq b e)) []
    (λ n h. ap (λ x. not (nat_eq x e)) (sym (add-zero b)) ∙ ap (λ x. not (nat_eq (b + 0) x)) (sym (add-zero e))) (All-nil (HasFlag b e []))
walk_flags low high b e (c ∷ cuts) r =
    let Q = HasFlag b e (c ∷ cuts) in
    let step : (n : ℤ) → IsTrue (int_le c.0 n) → flag_at (b + bit c.1) (e + bit (not c.1)) cuts n ≡ flag_at b e (c ∷ cuts) n =
    λ n h. ap (λ x. not (nat_eq x (e + bit (not c.1) + ended_at n cuts))) (one_counted b n c cuts h) ∙ ap (λ x. not (nat_eq (b + begun_at n (c ∷ cuts)) x)) (one_ended e n c cuts h) in
    by_place (is_at c.0 low) (All Q (pieces_from low high b e (c ∷ cuts)))
    (λ t. subst (All Q) (sym (same_place low high b e c cuts t))
    (λ k d l n h.
    walk_flags low high (b + bit c.1) (e + bit (not c.1)) cuts (Rise-same c.0 low cuts t r.1) k d l n h
    ∙ step n (from_it c.0 low n (at_is c.0 low t) (walk_from low high (b + bit c.1) (e + bit (not c.1)) cuts (Rise-same c.0 low cuts t r.1) k d l n h))))
    (λ t. subst (All Q) (sym (new_place low high b e c cuts t))
    (All-cons Q (range_of low (At (c.0 -ℤ pos 1)), not (nat_eq b e)) (pieces_from (At c.0) high (b + bit c.1) (e + bit (not c.1)) cuts)
    (λ n h.
    let none = none_yet c.0 n (c ∷ cuts) (below c.0 n (both_true _ _ h).1) (reflexive c.0, r.1) in
    ap (λ x. not (nat_eq x e)) (sym (ap (λ k. b + k) none.0 ∙ add-zero b)) ∙ ap (λ x. not (nat_eq (b + begun_at n (c ∷ cuts)) x)) (sym (ap (λ k. e + k) none.1 ∙ add-zero e)))
    (λ k d l n h.
    walk_flags (At c.0) high (b + bit c.1) (e + bit (not c.1)) cuts r.1 k d l n h
    ∙ step n (walk_from (At c.0) high (b + bit c.1) (e + bit (not c.1)) cuts r.1 k d l n h))))
  where
    below : (m n : ℤ) → IsTrue (int_le n (m -ℤ pos 1)) → IsTrue (int_lt n m)
    below m n h = grind (arith, ints)

    from_it : (m : ℤ) (low : MEnd) (n : ℤ) → At m ≡ low → IsTrue (is_from low n) → IsTrue (int_le m n)
    from_it m low n e h = subst (λ (x : MEnd). IsTrue (is_from x n)) (sym e) h

-- the pieces from the low end of a whole are those between the cuts
pub walk_between : (whole : MRange) (begun : ℕ) (cuts : List (ℤ × Bool)) (pieces : List (MRange × Bool)) → IsTrue (ends_ascend whole.low whole.high) → Rise whole.low cuts →
    All (λ c. IsTrue (is_up_to whole.high c.0)) cuts → pieces ≡ pieces_from whole.low whole.high begun 0 cuts → AreBetween whole begun cuts pieces
walk_between whole begun cuts pieces up rise inside is =
    record {
      together = subst (λ (ps : List (MRange × Bool)). Follow whole.low whole.high (map piece_of ps)) (sym is) (walk_follow whole.low whole.high begun 0 cuts up rise inside);
      starts = λ n. ap (λ (ps : List (MRange × Bool)). list_any (λ (p : MRange). is_at n p.low) (map piece_of ps)) is ∙ walk_starts whole.low whole.high begun 0 cuts n;
      flags = subst (All (λ (p : MRange × Bool). (n : ℤ) → IsTrue (in_range p.0 n) → p.1 ≡ not (nat_eq (begun + begun_at n cuts) (ended_at n cuts)))) (sym is)
          (λ k d l n h. walk_flags whole.low whole.high begun 0 cuts rise k d l n h ∙ ap (λ x. not (nat_eq (begun + begun_at n cuts) x)) (zero-add (ended_at n cuts)));
    }
