-- The first bytes of texts, as numbers, are in the order of the texts.
use Rattle.std.proofs.Common.{◌≡◌, ℕ, zero, suc, ◌+◌, ◌*◌, ◌^◌, ◌<◌, List, [], ◌∷◌, get_or, refl, sym, ap, subst, ◌∙◌, arith}
use Rattle.std.proofs.Math.Nat.{mul_assoc, mul_comm}
use Rattle.std.proofs.lemmas.Cmp.{ranked}
use Rattle.std.specs.declared.cmp.Ordering.{Ordering}
use Rattle.std.specs.declared.cmp.Ordering.TheVariants.{Less, Equal, Greater}
use Rattle.std.specs.Ordering.{MatchOrdering, ordering_then, nat_cmp}
use Rattle.std.specs.Cmp.Lexicographic.{slice_cmp}
use Rattle.constructor_sets.specs.Texts.{weight, first_number, AreBytes}

-- one digit more

more_digits : (k : ℕ) (bytes : List ℕ) → first_number (suc k) bytes ≡ first_number k bytes * 256 + get_or bytes k 0
more_digits zero [] = refl
more_digits zero (b ∷ bytes) = let e : b * 1 + 0 ≡ 0 + b = omega arith in e
more_digits (suc k) [] = refl
more_digits (suc k) (b ∷ bytes) =
    let w = weight k in
    let e : b * (256 * w) ≡ b * w * 256 = ap (λ x. b * x) (mul_comm 256 w) ∙ sym (mul_assoc b w 256) in
    let h : first_number (suc k) bytes ≡ first_number k bytes * 256 + get_or bytes k 0 = more_digits k bytes in
    omega (arith, e, h)

pub one_more : (k n b : ℕ) (bytes : List ℕ) → n ≡ first_number k bytes → b ≡ get_or bytes k 0 → n * 256 + b ≡ first_number (k + 1) bytes
one_more k n b bytes e f =
    let next : suc k ≡ k + 1 = omega arith in
    ap (λ x. x * 256 + b) e ∙ ap (λ x. first_number k bytes * 256 + x) f ∙ sym (more_digits k bytes) ∙ ap (λ j. first_number j bytes) next

pub below_weight : (k n b : ℕ) → n < weight k → b < 256 → n * 256 + b < weight (k + 1)
below_weight k n b l m =
    let w = weight k in
    let next : suc k ≡ k + 1 = omega arith in
    let h : n * 256 + b < 256 * w = omega (arith, l, m) in
    subst (λ j. n * 256 + b < weight j) next h

pub has_room : (k n b : ℕ) → k < 8 → n < weight k → b < 256 → n * 256 + b < 2 ^ 64
has_room zero n b k l m = omega (arith, l, m)
has_room (suc zero) n b k l m = omega (arith, l, m)
has_room (suc (suc zero)) n b k l m = omega (arith, l, m)
has_room (suc (suc (suc zero))) n b k l m = omega (arith, l, m)
has_room (suc (suc (suc (suc zero)))) n b k l m = omega (arith, l, m)
has_room (suc (suc (suc (suc (suc zero))))) n b k l m = omega (arith, l, m)
has_room (suc (suc (suc (suc (suc (suc zero)))))) n b k l m = omega (arith, l, m)
has_room (suc (suc (suc (suc (suc (suc (suc zero))))))) n b k l m = omega (arith, l, m)
has_room (suc (suc (suc (suc (suc (suc (suc (suc k)))))))) n b l m o = absurd (omega (arith, l))

-- the order

first_counts : (a b w r s : ℕ) → a < b → r < w → a * w + r < b * w + s
first_counts a zero w r s l m = absurd (omega (arith, l))
first_counts zero (suc b) w r s l m = omega (arith, m)
first_counts (suc a) (suc b) w r s l m = let h : a * w + r < b * w + s = first_counts a b w r s (omega (arith, l)) m in omega (arith, h)

weight_some : (k : ℕ) → 0 < weight k
weight_some zero = omega arith
weight_some (suc k) = let l = weight_some k in omega (arith, l)

number_below : (k : ℕ) (bytes : List ℕ) → AreBytes bytes → first_number k bytes < weight k
number_below zero bytes h = omega arith
number_below (suc k) [] h = weight_some (suc k)
number_below (suc k) (b ∷ bytes) h =
    let w = weight k in
    let l : first_number k bytes < w = number_below k bytes (λ i. h (suc i)) in
    let m : b < 256 = h 0 in
    let g : b * w + first_number k bytes < 256 * w + 0 = first_counts b 256 w (first_number k bytes) 0 m l in
    omega (arith, g)

pub in_order : (k : ℕ) (xs ys : List ℕ) → AreBytes ys → first_number k xs < first_number k ys → slice_cmp nat_cmp xs ys ≡ Less
in_order zero xs ys h l = absurd (omega (arith, l))
in_order (suc k) xs [] h l = absurd (omega (arith, l))
in_order (suc k) [] (y ∷ ys) h l = refl
in_order (suc k) (x ∷ xs) (y ∷ ys) h l = go (nat_cmp x y) refl (ranked x y (nat_cmp x y) refl) (in_order k xs ys (λ i. h (suc i)))
  where
    w : ℕ
    w = weight k

    go : (o : Ordering) → nat_cmp x y ≡ o → MatchOrdering o (x < y) (x ≡ y) (y < x) → (first_number k xs < first_number k ys → slice_cmp nat_cmp xs ys ≡ Less) →
        ordering_then (nat_cmp x y) (slice_cmp nat_cmp xs ys) ≡ Less
    go Less e m rest = ap (λ o. ordering_then o (slice_cmp nat_cmp xs ys)) e
    go Equal e m rest =
        ap (λ o. ordering_then o (slice_cmp nat_cmp xs ys)) e
        ∙ rest (tail (ap (λ b. b * w) m))
      where
        tail : x * w ≡ y * w → first_number k xs < first_number k ys
        tail f = omega (arith, f, l)
    go Greater e m rest =
        let below : first_number k ys < w = number_below k ys (λ i. h (suc i)) in
        let g : y * w + first_number k ys < x * w + first_number k xs = first_counts y x w (first_number k ys) (first_number k xs) m below in
        absurd (omega (arith, g, l))
