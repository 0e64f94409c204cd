-- A list of overlaps there is, where finitely many can be asked one by one whether they are.
use Rattle.std.proofs.Common.{◌≡◌, ◌⊎◌, inl, inr, ℕ, zero, suc, ◌<◌, ℤ, Bool, true, false, ◌&&◌, ◌||◌, List, [], ◌∷◌, slice_get, Some, IsTrue, nat_eq, nat_lt, int_lt, refl, sym, ap, subst, ◌∙◌, arith}
use Rattle.std.proofs.lemmas.Bool.Decides.{nat_tests}
use Rattle.std.specs.List.{Contains}
use Rattle.match_model.specs.Values.{MValue}
use Rattle.match_model.specs.Lists.{Every, Ordered, Among}
use Rattle.match_model.specs.Match.{ArmWays}
use Rattle.match_model.specs.Overlaps.{MOverlap, overlap_before, Overlaps, IsOverlapList}
use Rattle.match_model.proofs.Basics.{both, either}
use Rattle.keyed_rows.proofs.Members.{among-contains, contains-among}

-- ---- the order

left_or : (a b : Bool) → a ≡ true → (a || b) ≡ true
left_or a b h = rw h refl

right_or : (a b : Bool) → b ≡ true → (a || b) ≡ true
right_or true b h = refl
right_or false b h = h

both_and : (a b : Bool) → a ≡ true → b ≡ true → (a && b) ≡ true
both_and a b h k = rw (h, k) refl

abbrev AreBefore : (a b c d : ℕ) (x y : ℤ) → Type 0
AreBefore a b c d x y = (nat_lt a b || (nat_eq a b && (nat_lt c d || (nat_eq c d && int_lt x y)))) ≡ true

-- of two overlaps one stands before the other, or they are one
data Compared (o p : MOverlap) : Type 0 where
  is_before : overlap_before o p ≡ true → Compared o p
  is_behind : overlap_before p o ≡ true → Compared o p
  is_same : o ≡ p → Compared o p

nat_three : (a b : ℕ) → (nat_lt a b ≡ true) ⊎ ((nat_lt b a ≡ true) ⊎ (a ≡ b))
nat_three a b = by (nat_lt a b) (nat_lt b a) refl refl
  where
    by : (x y : Bool) → nat_lt a b ≡ x → nat_lt b a ≡ y → (nat_lt a b ≡ true) ⊎ ((nat_lt b a ≡ true) ⊎ (a ≡ b))
    by true y h k = inl h
    by false true h k = inr (inl k)
    by false false h k = inr (inr (grind (arith, nat_tests, h, k)))

int_three : (x y : ℤ) → (int_lt x y ≡ true) ⊎ ((int_lt y x ≡ true) ⊎ (x ≡ y))
int_three x y = by (int_lt x y) (int_lt y x) refl refl
  where
    by : (b c : Bool) → int_lt x y ≡ b → int_lt y x ≡ c →
        (int_lt x y ≡ true) ⊎ ((int_lt y x ≡ true) ⊎ (x ≡ y))
    by true c h k = inl h
    by false true h k = inr (inl k)
    by false false h k = inr (inr (grind (arith, h, k)))

same_nat : (a : ℕ) → nat_eq a a ≡ true
same_nat a = grind (arith, nat_tests)

compared : (o p : MOverlap) → Compared o p
compared o p = first (nat_three o.first p.first)
  where
    third : o.first ≡ p.first → o.second ≡ p.second →
        (int_lt o.number p.number ≡ true) ⊎ ((int_lt p.number o.number ≡ true) ⊎ (o.number ≡ p.number)) → Compared o p
    third e f (inl h) =
        is_before (right_or (nat_lt o.first p.first) _ (both_and (nat_eq o.first p.first) _
        (ap (λ n. nat_eq o.first n) (sym e) ∙ same_nat o.first)
        (right_or (nat_lt o.second p.second) _ (both_and (nat_eq o.second p.second) _
        (ap (λ n. nat_eq o.second n) (sym f) ∙ same_nat o.second) h))))
    third e f (inr (inl h)) =
        is_behind (right_or (nat_lt p.first o.first) _ (both_and (nat_eq p.first o.first) _
        (ap (λ n. nat_eq n o.first) (sym e) ∙ same_nat o.first)
        (right_or (nat_lt p.second o.second) _ (both_and (nat_eq p.second o.second) _
        (ap (λ n. nat_eq n o.second) (sym f) ∙ same_nat o.second) h))))
    third e f (inr (inr g)) =
        is_same (ap (λ n. record { first = n; second = o.second; number = o.number }) e
        ∙ (ap (λ n. record { first = p.first; second = n; number = o.number }) f
        ∙ ap (λ x. record { first = p.first; second = p.second; number = x }) g))

    second : o.first ≡ p.first →
        (nat_lt o.second p.second ≡ true) ⊎ ((nat_lt p.second o.second ≡ true) ⊎ (o.second ≡ p.second)) → Compared o p
    second e (inl h) =
        is_before (right_or (nat_lt o.first p.first) _ (both_and (nat_eq o.first p.first) _
        (ap (λ n. nat_eq o.first n) (sym e) ∙ same_nat o.first) (left_or (nat_lt o.second p.second) _ h)))
    second e (inr (inl h)) =
        is_behind (right_or (nat_lt p.first o.first) _ (both_and (nat_eq p.first o.first) _
        (ap (λ n. nat_eq n o.first) (sym e) ∙ same_nat o.first) (left_or (nat_lt p.second o.second) _ h)))
    second e (inr (inr f)) = third e f (int_three o.number p.number)

    first : (nat_lt o.first p.first ≡ true) ⊎ ((nat_lt p.first o.first ≡ true) ⊎ (o.first ≡ p.first)) → Compared o p
    first (inl h) = is_before (left_or (nat_lt o.first p.first) _ h)
    first (inr (inl h)) = is_behind (left_or (nat_lt p.first o.first) _ h)
    first (inr (inr e)) = second e (nat_three o.second p.second)

before_through : (o p q : MOverlap) → overlap_before o p ≡ true → overlap_before p q ≡ true → overlap_before o q ≡ true
before_through o p q h k = by o.first p.first q.first o.second p.second q.second o.number p.number q.number h k
  where
    by : (a b c d e f : ℕ) (x y z : ℤ) → AreBefore a b d e x y → AreBefore b c e f y z → AreBefore a c d f x z
    by a b c d e f x y z h k =
        go (either (nat_lt a b) (nat_eq a b && (nat_lt d e || (nat_eq d e && int_lt x y))) h)
        (either (nat_lt b c) (nat_eq b c && (nat_lt e f || (nat_eq e f && int_lt y z))) k)
      where
        inner : (nat_lt d e ≡ true) ⊎ ((nat_eq d e && int_lt x y) ≡ true) →
            (nat_lt e f ≡ true) ⊎ ((nat_eq e f && int_lt y z) ≡ true) →
            (nat_lt d f || (nat_eq d f && int_lt x z)) ≡ true
        inner (inl p) (inl q) = left_or (nat_lt d f) (nat_eq d f && int_lt x z) (grind (arith, nat_tests, p, q))
        inner (inl p) (inr q) =
            let e1 : nat_eq e f ≡ true = (both (nat_eq e f) (int_lt y z) q).0 in
            left_or (nat_lt d f) (nat_eq d f && int_lt x z) (grind (arith, nat_tests, p, e1))
        inner (inr p) (inl q) =
            let e1 : nat_eq d e ≡ true = (both (nat_eq d e) (int_lt x y) p).0 in
            left_or (nat_lt d f) (nat_eq d f && int_lt x z) (grind (arith, nat_tests, e1, q))
        inner (inr p) (inr q) =
            let e1 : nat_eq d e ≡ true = (both (nat_eq d e) (int_lt x y) p).0 in
            let e2 : nat_eq e f ≡ true = (both (nat_eq e f) (int_lt y z) q).0 in
            let x1 : int_lt x y ≡ true = (both (nat_eq d e) (int_lt x y) p).1 in
            let x2 : int_lt y z ≡ true = (both (nat_eq e f) (int_lt y z) q).1 in
            right_or (nat_lt d f) (nat_eq d f && int_lt x z) (both_and (nat_eq d f) (int_lt x z)
            (grind (arith, nat_tests, e1, e2)) (grind (arith, x1, x2)))

        go : (nat_lt a b ≡ true) ⊎ ((nat_eq a b && (nat_lt d e || (nat_eq d e && int_lt x y))) ≡ true) →
            (nat_lt b c ≡ true) ⊎ ((nat_eq b c && (nat_lt e f || (nat_eq e f && int_lt y z))) ≡ true) →
            AreBefore a c d f x z
        go (inl p) (inl q) = left_or (nat_lt a c) (nat_eq a c && (nat_lt d f || (nat_eq d f && int_lt x z)))
            (grind (arith, nat_tests, p, q))
        go (inl p) (inr q) =
            let e1 : nat_eq b c ≡ true = (both (nat_eq b c) (nat_lt e f || (nat_eq e f && int_lt y z)) q).0 in
            left_or (nat_lt a c) (nat_eq a c && (nat_lt d f || (nat_eq d f && int_lt x z))) (grind (arith, nat_tests, p, e1))
        go (inr p) (inl q) =
            let e1 : nat_eq a b ≡ true = (both (nat_eq a b) (nat_lt d e || (nat_eq d e && int_lt x y)) p).0 in
            left_or (nat_lt a c) (nat_eq a c && (nat_lt d f || (nat_eq d f && int_lt x z))) (grind (arith, nat_tests, e1, q))
        go (inr p) (inr q) =
            let ps = both (nat_eq a b) (nat_lt d e || (nat_eq d e && int_lt x y)) p in
            let qs = both (nat_eq b c) (nat_lt e f || (nat_eq e f && int_lt y z)) q in
            let e1 : nat_eq a b ≡ true = ps.0 in
            let e2 : nat_eq b c ≡ true = qs.0 in
            right_or (nat_lt a c) (nat_eq a c && (nat_lt d f || (nat_eq d f && int_lt x z)))
            (both_and (nat_eq a c) (nat_lt d f || (nat_eq d f && int_lt x z)) (grind (arith, nat_tests, e1, e2))
            (inner (either (nat_lt d e) (nat_eq d e && int_lt x y) ps.1) (either (nat_lt e f) (nat_eq e f && int_lt y z) qs.1)))

-- ---- lists that ascend

abbrev Before : MOverlap → MOverlap → Type 0
Before o p = overlap_before o p ≡ true

every_of : {A : Type 0} (P : A → Type 0) (xs : List A) (y : A) → Every P xs → Among y xs → P y
every_of P [] y e i = absurd i
every_of P (x ∷ xs) y e (inl s) = subst P (sym s) e.0
every_of P (x ∷ xs) y e (inr i) = every_of P xs y e.1 i

every_by : {A : Type 0} (P : A → Type 0) (xs : List A) → ((y : A) → Among y xs → P y) → Every P xs
every_by P [] h = tt
every_by P (x ∷ xs) h = (h x (inl refl), every_by P xs (λ y i. h y (inr i)))

-- the list with one more in its place
record PutIn (o : MOverlap) (os : List MOverlap) : Type 0 where
  out : List MOverlap
  ordered : Ordered Before out
  forth : (p : MOverlap) → Among p out → (p ≡ o) ⊎ Among p os
  here : Among o out
  back : (p : MOverlap) → Among p os → Among p out

put_in : (o : MOverlap) (os : List MOverlap) → Ordered Before os → PutIn o os
put_in o [] h = record {
  out = o ∷ [];
  ordered = (tt, tt);
  forth = λ p i. i;
  here = inl refl;
  back = λ p i. absurd i;
}
put_in o (x ∷ os) h = by (put_in o os h.1) (compared o x)
  where
    by : PutIn o os → Compared o x → PutIn o (x ∷ os)
    by rest (is_before b) = record {
      out = o ∷ x ∷ os;
      ordered = ((b, every_by (Before o) os (λ y i. before_through o x y b (every_of (Before x) os y h.0 i))), h);
      forth = λ p i. i;
      here = inl refl;
      back = λ p i. inr i;
    }
    by rest (is_same e) = record {
      out = x ∷ os;
      ordered = h;
      forth = λ p i. inr i;
      here = inl e;
      back = λ p i. i;
    }
    by rest (is_behind b) = record {
      out = x ∷ rest.out;
      ordered = (every_by (Before x) rest.out (λ y i. there y (rest.forth y i)), rest.ordered);
      forth = λ p i. front p i;
      here = inr rest.here;
      back = λ p i. behind p i;
    }
      where
        there : (y : MOverlap) → (y ≡ o) ⊎ Among y os → Before x y
        there y (inl e) = subst (Before x) (sym e) b
        there y (inr i) = every_of (Before x) os y h.0 i

        shift : (p : MOverlap) → (p ≡ o) ⊎ Among p os → (p ≡ o) ⊎ Among p (x ∷ os)
        shift p (inl e) = inl e
        shift p (inr j) = inr (inr j)

        front : (p : MOverlap) → Among p (x ∷ rest.out) → (p ≡ o) ⊎ Among p (x ∷ os)
        front p (inl e) = inr (inl e)
        front p (inr i) = shift p (rest.forth p i)

        behind : (p : MOverlap) → Among p (x ∷ os) → Among p (x ∷ rest.out)
        behind p (inl e) = inl e
        behind p (inr i) = inr (rest.back p i)

among_at : (os : List MOverlap) (j : ℕ) (p : MOverlap) → slice_get os j ≡ Some p → Among p os
among_at [] j p e = absurd cc
among_at (x ∷ os) zero p e = let same : x ≡ p = cc in inl (sym same)
among_at (x ∷ os) (suc j) p e = inr (among_at os j p e)

ascends : (os : List MOverlap) → Ordered Before os → (i j : ℕ) (o p : MOverlap) → slice_get os i ≡ Some o →
    slice_get os j ≡ Some p → i < j → IsTrue (overlap_before o p)
ascends [] h i j o p e f l = absurd cc
ascends (x ∷ os) h zero zero o p e f l = absurd (omega (arith, l))
ascends (x ∷ os) h zero (suc j) o p e f l =
    let same : x ≡ o = cc in
    subst (λ y. overlap_before y p ≡ true) same (every_of (Before x) os p h.0 (among_at os j p f))
ascends (x ∷ os) h (suc i) zero o p e f l = absurd (omega (arith, l))
ascends (x ∷ os) h (suc i) (suc j) o p e f l = ascends os h.1 i j o p e f (omega (arith, l))

-- ---- the list of those that a test finds

module _ {C : Type 0} (shown : C → MOverlap) (test : C → Bool) where
  record Collected (cs : List C) : Type 0 where
    out : List MOverlap
    ordered : Ordered Before out
    forth : (p : MOverlap) → Among p out → (c : C) × Among c cs × (test c ≡ true) × (shown c ≡ p)
    back : (c : C) → Among c cs → test c ≡ true → Among (shown c) out

  collected : (cs : List C) → Collected cs
  collected [] = record { out = []; ordered = tt; forth = λ p i. absurd i; back = λ c i e. absurd i }
  collected (c ∷ cs) = by (collected cs) (test c) refl
    where
      by : Collected cs → (b : Bool) → test c ≡ b → Collected (c ∷ cs)
      by rest false e = record {
        out = rest.out;
        ordered = rest.ordered;
        forth = λ p i. let old = rest.forth p i in (old.0, inr old.1, old.2, old.3);
        back = λ d i t. behind d i t;
      }
        where
          behind : (d : C) → Among d (c ∷ cs) → test d ≡ true → Among (shown d) rest.out
          behind d (inl s) t = let no : test d ≡ false = ap test s ∙ e in absurd cc
          behind d (inr i) t = rest.back d i t
      by rest true e = let put = put_in (shown c) rest.out rest.ordered in record {
        out = put.out;
        ordered = put.ordered;
        forth = λ p i. there p (put.forth p i);
        back = λ d i t. behind put d i t;
      }
        where
          there : (p : MOverlap) → (p ≡ shown c) ⊎ Among p rest.out →
              (d : C) × Among d (c ∷ cs) × (test d ≡ true) × (shown d ≡ p)
          there p (inl s) = (c, inl refl, e, sym s)
          there p (inr i) = let old = rest.forth p i in (old.0, inr old.1, old.2, old.3)

          behind : (put : PutIn (shown c) rest.out) (d : C) → Among d (c ∷ cs) → test d ≡ true → Among (shown d) put.out
          behind put d (inl s) t = subst (λ x. Among (shown x) put.out) (sym s) put.here
          behind put d (inr i) t = put.back (shown d) (rest.back d i t)

  -- the list of overlaps, where the test finds overlaps alone and each is found as one of the candidates
  pub some_list : (D : MValue → Type 0) (arms : List ArmWays) (cs : List C) →
      ((c : C) → Among c cs → test c ≡ true → Overlaps D arms (shown c).first (shown c).second (shown c).number) →
      ((o : MOverlap) → Overlaps D arms o.first o.second o.number → (c : C) × Among c cs × (test c ≡ true) × (shown c ≡ o)) →
      (os : List MOverlap) × IsOverlapList D arms os
  some_list D arms cs sound complete = let all = collected cs in (
    all.out,
    record {
      each = λ o. (λ c. there all o (all.forth o (contains-among all.out o c)), λ k. back all o (complete o k));
      ascending = ascends all.out all.ordered;
    },
  )
    where
      there : (all : Collected cs) (o : MOverlap) → (c : C) × Among c cs × (test c ≡ true) × (shown c ≡ o) →
          Overlaps D arms o.first o.second o.number
      there all o (c, i, t, e) =
          subst (λ (x : MOverlap). Overlaps D arms x.first x.second x.number) e (sound c i t)

      back : (all : Collected cs) (o : MOverlap) → (c : C) × Among c cs × (test c ≡ true) × (shown c ≡ o) →
          Contains all.out o
      back all o (c, i, t, e) =
          among-contains all.out o (subst (λ x. Among x all.out) e (all.back c i t))
