-- A match has one list of overlaps.
use Rattle.std.proofs.Common.{◌≡◌, ◌⊎◌, inl, inr, ◌<◌, ℕ, zero, suc, ℤ, true, ◌&&◌, ◌||◌, List, [], ◌∷◌, slice_get, Some, IsTrue, nat_eq, nat_lt, int_lt, refl, sym, ap, ◌∙◌, arith, subst}
use Rattle.std.proofs.lemmas.Bool.Decides.{nat_tests}
use Rattle.std.proofs.lemmas.Option.{slice_get-get_or}
use Rattle.std.specs.List.{Contains}
use Rattle.match_model.specs.Values.{MValue}
use Rattle.match_model.specs.Match.{ArmWays}
use Rattle.match_model.specs.Overlaps.{MOverlap, overlap_before, IsOverlapList}
use Rattle.match_model.proofs.Basics.{both, either}

nat_not_below : (n : ℕ) → nat_lt n n ≡ true → ⊥
nat_not_below n h = grind (arith, nat_tests)

nat_not_both : (m n : ℕ) → nat_lt m n ≡ true → nat_lt n m ≡ true → ⊥
nat_not_both m n h k = grind (arith, nat_tests)

nat_no_other : (m n : ℕ) → nat_lt m n ≡ true → nat_eq n m ≡ true → ⊥
nat_no_other m n h k = grind (arith, nat_tests)

int_not_both : (m n : ℤ) → int_lt m n ≡ true → int_lt n m ≡ true → ⊥
int_not_both m n h k = grind arith

-- two overlaps do not stand before one another
numbers_not_both : (a b c d : ℕ) (x y : ℤ) →
    (nat_lt a b || (nat_eq a b && (nat_lt c d || (nat_eq c d && int_lt x y)))) ≡ true →
    (nat_lt b a || (nat_eq b a && (nat_lt d c || (nat_eq d c && int_lt y x)))) ≡ true → ⊥
numbers_not_both a b c d x y h k = first (either _ _ h) (either _ _ k)
  where
    third : (nat_lt c d ≡ true) ⊎ ((nat_eq c d && int_lt x y) ≡ true) → (nat_lt d c ≡ true) ⊎ ((nat_eq d c && int_lt y x) ≡ true) → ⊥
    third (inl p) (inl q) = nat_not_both c d p q
    third (inl p) (inr q) = nat_no_other c d p (both _ _ q).0
    third (inr p) (inl q) = nat_no_other d c q (both _ _ p).0
    third (inr p) (inr q) = int_not_both x y (both _ _ p).1 (both _ _ q).1

    first : (nat_lt a b ≡ true) ⊎ ((nat_eq a b && (nat_lt c d || (nat_eq c d && int_lt x y))) ≡ true) →
        (nat_lt b a ≡ true) ⊎ ((nat_eq b a && (nat_lt d c || (nat_eq d c && int_lt y x))) ≡ true) → ⊥
    first (inl p) (inl q) = nat_not_both a b p q
    first (inl p) (inr q) = nat_no_other a b p (both _ _ q).0
    first (inr p) (inl q) = nat_no_other b a q (both _ _ p).0
    first (inr p) (inr q) = third (either _ _ (both _ _ p).1) (either _ _ (both _ _ q).1)

not_both : (o p : MOverlap) → overlap_before o p ≡ true → overlap_before p o ≡ true → ⊥
not_both o p h k = numbers_not_both o.first p.first o.second p.second o.number p.number h k

-- each stands before those behind it
abbrev Ascends : List MOverlap → Type 0
Ascends os = (i j : ℕ) (o p : MOverlap) → slice_get os i ≡ Some o → slice_get os j ≡ Some p → i < j → IsTrue (overlap_before o p)

head_before : (o p : MOverlap) (os : List MOverlap) → Ascends (o ∷ os) → Contains os p → overlap_before o p ≡ true
head_before o p os a (n, l, e) = a 0 (suc n) o p refl (slice_get-get_or os n p l ∙ ap Some e) (omega arith)

tail_ascends : (o : MOverlap) (os : List MOverlap) → Ascends (o ∷ os) → Ascends os
tail_ascends o os a i j p q h k l = a (suc i) (suc j) p q h k (omega arith)

first_or_behind : (o p : MOverlap) (os : List MOverlap) → Contains (o ∷ os) p → (o ≡ p) ⊎ Contains os p
first_or_behind o p os (zero, l, e) = inl e
first_or_behind o p os (suc n, l, e) = inr (n, omega arith, e)

is_first : (o : MOverlap) (os : List MOverlap) → Contains (o ∷ os) o
is_first o os = (0, omega arith, refl)

is_behind : (o p : MOverlap) (os : List MOverlap) → Contains os p → Contains (o ∷ os) p
is_behind o p os (n, l, e) = (suc n, omega arith, e)

none_in : (o : MOverlap) → Contains [] o → ⊥
none_in o (n, l, e) = omega (arith, l)

-- what stands in the one list behind their common head stands in the other behind it
behind_too : (o : MOverlap) (os ps : List MOverlap) → Ascends (o ∷ os) → ((q : MOverlap) → Contains (o ∷ os) q → Contains (o ∷ ps) q) →
    (q : MOverlap) → Contains os q → Contains ps q
behind_too o os ps a h q c = go (first_or_behind o q ps (h q (is_behind o q os c)))
  where
    go : (o ≡ q) ⊎ Contains ps q → Contains ps q
    go (inr d) = d
    go (inl e) =
        let before : overlap_before o q ≡ true = head_before o q os a c in
        absurd (not_both q q (subst (λ x. overlap_before x q ≡ true) e before) (subst (λ x. overlap_before x q ≡ true) e before))

-- two lists begin with one overlap, and go on as one where what is behind does
joined : (o p : MOverlap) (os ps : List MOverlap) → Ascends (o ∷ os) → Ascends (p ∷ ps) →
    ((q : MOverlap) → Contains (o ∷ os) q → Contains (p ∷ ps) q) → ((q : MOverlap) → Contains (p ∷ ps) q → Contains (o ∷ os) q) →
    (Ascends os → Ascends ps → ((q : MOverlap) → Contains os q → Contains ps q) → ((q : MOverlap) → Contains ps q → Contains os q) → os ≡ ps) →
    o ∷ os ≡ p ∷ ps
joined o p os ps a b h k behind = go (first_or_behind p o ps (h o (is_first o os))) (first_or_behind o p os (k p (is_first p ps)))
  where
    same : o ≡ p → o ∷ os ≡ p ∷ ps
    same e =
        let b' : Ascends (o ∷ ps) = subst (λ x. Ascends (x ∷ ps)) (sym e) b in
        let h' : (q : MOverlap) → Contains (o ∷ os) q → Contains (o ∷ ps) q =
        subst (λ x. (q : MOverlap) → Contains (o ∷ os) q → Contains (x ∷ ps) q) (sym e) h in
        let k' : (q : MOverlap) → Contains (o ∷ ps) q → Contains (o ∷ os) q =
        subst (λ x. (q : MOverlap) → Contains (x ∷ ps) q → Contains (o ∷ os) q) (sym e) k in
        subst (λ x. o ∷ os ≡ x ∷ ps) e
        (ap (λ r. o ∷ r) (behind (tail_ascends o os a) (tail_ascends o ps b') (behind_too o os ps a h') (behind_too o ps os b' k')))

    go : (p ≡ o) ⊎ Contains ps o → (o ≡ p) ⊎ Contains os p → o ∷ os ≡ p ∷ ps
    go (inl e) q = same (sym e)
    go (inr c) (inl e) = same e
    go (inr c) (inr d) = absurd (not_both p o (head_before p o ps b c) (head_before o p os a d))

one_ascending : (os ps : List MOverlap) → Ascends os → Ascends ps → ((q : MOverlap) → Contains os q → Contains ps q) →
    ((q : MOverlap) → Contains ps q → Contains os q) → os ≡ ps
one_ascending [] [] a b h k = refl
one_ascending [] (p ∷ ps) a b h k = absurd (none_in p (k p (is_first p ps)))
one_ascending (o ∷ os) [] a b h k = absurd (none_in o (h o (is_first o os)))
one_ascending (o ∷ os) (p ∷ ps) a b h k = joined o p os ps a b h k (one_ascending os ps)

pub one_overlap_list : (Domain : MValue → Type 0) (arms : List ArmWays) (os ps : List MOverlap) →
    IsOverlapList Domain arms os → IsOverlapList Domain arms ps → os ≡ ps
one_overlap_list Domain arms os ps a b =
    one_ascending os ps a.ascending b.ascending (λ q c. (b.each q).1 ((a.each q).0 c)) (λ q c. (a.each q).1 ((b.each q).0 c))
