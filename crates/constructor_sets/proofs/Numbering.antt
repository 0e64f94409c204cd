-- Ascending numbers: which are listed, and that a list is told by them.
use Rattle.std.proofs.Common.{◌≡◌, ◌≢◌, ◌⊎◌, inl, inr, ℕ, zero, suc, ◌+◌, add-one, not, ◌<◌, ◌≤◌, Bool, true, false, ◌&&◌, ◌||◌, nat_eq, nat_lt, List, [], ◌∷◌, cond, length, get_or, Result, Ok, Err, filter_map, refl, sym, ap, subst, ◌∙◌, arith, IsPermutation, IsSorted}
use Rattle.std.specs.List.{All, AllPairs, list_any, filter, dedup}
use Rattle.std.specs.Result.{MatchResult, is_ok}
use Rattle.std.specs.Ordering.{nat_cmp}
use Rattle.std.proofs.lemmas.Bool.Decides.{nat_tests}
use Rattle.std.proofs.lemmas.List.Folds.{list_any-append}
use Rattle.std.proofs.lemmas.List.Kept.{AllPairs-from_increasing}
use Rattle.std.proofs.lemmas.List.Elements.{All-head, All-tail}
use Rattle.std.proofs.lemmas.Map.Keys.{IsStrictlyIncreasing-dedup}
use Rattle.std.proofs.lemmas.List.Sorted.{list_any-IsPermutation}
use lib.Dec.{eqb}
use Rattle.match_model.specs.Constructors.{MCtor, VariantCtor}
use Rattle.match_model.specs.Pieces.{each_below}
use Rattle.match_model.proofs.Basics.{untrue, nat_equal, nat_itself, or_left, or_right, either}
use Rattle.constructor_sets.specs.Columns.{writes}
use Rattle.constructor_sets.specs.Numbered.{variant_of, is_listed, AreOnce, AreNumbers}
use Rattle.constructor_sets.proofs.Kept.{kept_once}

-- a number at a place is listed, and one that stands nowhere is not

pub at_place : (xs : List ℕ) (n i : ℕ) → i < length xs → get_or xs i 0 ≡ n → is_listed xs n ≡ true
at_place [] n i l e = absurd (omega arith)
at_place (x ∷ xs) n zero l e = or_left (nat_eq x n) (is_listed xs n) (subst (λ y. nat_eq x y ≡ true) e (nat_itself x))
at_place (x ∷ xs) n (suc i) l e = or_right (nat_eq x n) (is_listed xs n) (at_place xs n i (omega arith) e)

nowhere : (xs : List ℕ) (n : ℕ) → ((i : ℕ) → i < length xs → get_or xs i 0 ≢ n) → is_listed xs n ≡ false
nowhere [] n h = refl
nowhere (x ∷ xs) n h = ap (λ b. b || is_listed xs n) (differ (h zero (omega arith))) ∙ nowhere xs n (λ i l. h (suc i) (omega arith))
  where
    differ : x ≢ n → nat_eq x n ≡ false
    differ ne = grind (arith, nat_tests)

pub search_found : (xs : List ℕ) (n : ℕ) (r : Result ℕ ℕ) →
    MatchResult r (λ i. (i < length xs) × (get_or xs i 0 ≡ n)) (λ i. (i ≤ length xs) × ((k : ℕ) → k < i → get_or xs k 0 < n) × ((k : ℕ) → i ≤ k → k < length xs → n < get_or xs k 0)) →
    is_ok r ≡ is_listed xs n
search_found xs n (Ok i) (l, e) = sym (at_place xs n i l e)
search_found xs n (Err i) (l, below, above) = sym (nowhere xs n (λ k m. differ k m (order k i)))
  where
    order : (k i : ℕ) → (k < i) ⊎ (i ≤ k)
    order k i = grind arith

    less : (a b : ℕ) → a < b → a ≢ b
    less a b l e = omega arith

    more : (a b : ℕ) → b < a → a ≢ b
    more a b l e = omega arith

    differ : (k : ℕ) → k < length xs → (k < i) ⊎ (i ≤ k) → get_or xs k 0 ≢ n
    differ k m (inl o) = less _ _ (below k o)
    differ k m (inr o) = more _ _ (above k o m)

pub not_falling : (xs : List ℕ) → AllPairs (λ j k. j < k) xs → (i j : ℕ) → i ≤ j → j < length xs → get_or xs i 0 ≤ get_or xs j 0
not_falling xs asc i j l m = go i j (order i j l) m
  where
    order : (i j : ℕ) → i ≤ j → (i < j) ⊎ (i ≡ j)
    order i j l = grind arith

    go : (i j : ℕ) → (i < j) ⊎ (i ≡ j) → j < length xs → get_or xs i 0 ≤ get_or xs j 0
    go i j (inl l) m = let h = asc i j 0 l m in omega arith
    go i j (inr e) m = subst (λ k. get_or xs i 0 ≤ get_or xs k 0) e (omega arith)

-- numbers that are sorted and each kept once

variants_listed : (heads : List MCtor) (k : ℕ) → is_listed (filter_map variant_of heads) k ≡ list_any (writes (VariantCtor k)) heads
variants_listed [] k = refl
variants_listed (VariantCtor j ∷ hs) k = ap (λ b. nat_eq j k || b) (variants_listed hs k)
variants_listed (_ ∷ hs) k = variants_listed hs k

pub numbers_once : (numbers sorted once : List ℕ) → IsPermutation numbers sorted → IsSorted nat_cmp sorted → once ≡ dedup eqb sorted → AreOnce numbers once
numbers_once numbers sorted once moved order d =
    subst (AreOnce numbers) (sym d)
    (record {
      each = λ k. kept_once eqb (λ j. nat_eq j k) (λ x y h. same x y k h) sorted ∙ sym (list_any-IsPermutation (λ j. nat_eq j k) numbers sorted moved);
      ascending = AllPairs-from_increasing (dedup eqb sorted) (IsStrictlyIncreasing-dedup sorted order);
    })
  where
    same : (x y k : ℕ) → eqb x y ≡ true → nat_eq x k ≡ nat_eq y k
    same x y k h = grind (arith, nat_tests)

pub heads_numbers : (heads : List MCtor) (found once : List ℕ) → found ≡ filter_map variant_of heads → AreOnce found once → AreNumbers heads once
heads_numbers heads found once e a = record {
  each = λ k. a.each k ∙ ap (λ xs. is_listed xs k) e ∙ variants_listed heads k;
  ascending = a.ascending;
}

-- two ascending lists of the same numbers are the same

first_least : (x : ℕ) (xs : List ℕ) (n : ℕ) → All (λ y. x < y) xs → is_listed (x ∷ xs) n ≡ true → x ≤ n
first_least x xs n all h = go (either (nat_eq x n) (is_listed xs n) h)
  where
    in_rest : (xs : List ℕ) → All (λ y. x < y) xs → is_listed xs n ≡ true → x < n
    in_rest [] all h = untrue h
    in_rest (y ∷ ys) all h =
        elim (either (nat_eq y n) (is_listed ys n) h) [
          | inl e ↦ subst (λ z. x < z) (nat_equal y n e) (All-head (λ y. x < y) y ys all)
          | inr e ↦ in_rest ys (All-tail (λ y. x < y) y ys all) e
        ]

    go : (nat_eq x n ≡ true) ⊎ (is_listed xs n ≡ true) → x ≤ n
    go (inl e) = let s : x ≡ n = nat_equal x n e in omega arith
    go (inr e) = let l : x < n = in_rest xs all e in omega arith

not_listed : (x : ℕ) (xs : List ℕ) → All (λ y. x < y) xs → is_listed xs x ≡ false
not_listed x [] all = refl
not_listed x (y ∷ ys) all =
    let l : x < y = All-head (λ y. x < y) y ys all in
    let e : nat_eq y x ≡ false = grind (arith, nat_tests) in
    ap (λ b. b || is_listed ys x) e ∙ not_listed x ys (All-tail (λ y. x < y) y ys all)

above : (x : ℕ) (xs : List ℕ) → AllPairs (λ j k. j < k) (x ∷ xs) → All (λ y. x < y) xs
above x xs h = λ k d l. h zero (suc k) d (omega arith) (omega arith)

behind : (x : ℕ) (xs : List ℕ) → AllPairs (λ j k. j < k) (x ∷ xs) → AllPairs (λ j k. j < k) xs
behind x xs h = λ i j d l m. h (suc i) (suc j) d (omega arith) (omega arith)

pub same_numbers : (xs ys : List ℕ) → AllPairs (λ j k. j < k) xs → AllPairs (λ j k. j < k) ys → ((n : ℕ) → is_listed xs n ≡ is_listed ys n) → xs ≡ ys
same_numbers [] [] a b same = refl
same_numbers [] (y ∷ ys) a b same = untrue (same y ∙ or_left (nat_eq y y) (is_listed ys y) (nat_itself y))
same_numbers (x ∷ xs) [] a b same = untrue (sym (same x) ∙ or_left (nat_eq x x) (is_listed xs x) (nat_itself x))
same_numbers (x ∷ xs) (y ∷ ys) a b same =
    let up : y ≤ x = first_least y ys x (above y ys b) (sym (same x) ∙ or_left (nat_eq x x) (is_listed xs x) (nat_itself x)) in
    let down : x ≤ y = first_least x xs y (above x xs a) (same y ∙ or_left (nat_eq y y) (is_listed ys y) (nat_itself y)) in
    let e : x ≡ y = omega arith in
    both e (same_numbers xs ys (behind x xs a) (behind y ys b) (tails e))
  where
    both : x ≡ y → xs ≡ ys → x ∷ xs ≡ y ∷ ys
    both e f = ap (λ z. z ∷ xs) e ∙ ap (λ zs. y ∷ zs) f

    tails : x ≡ y → (n : ℕ) → is_listed xs n ≡ is_listed ys n
    tails e n = go (nat_eq x n) refl (same n)
      where
        go : (b : Bool) → nat_eq x n ≡ b → (nat_eq x n || is_listed xs n) ≡ (nat_eq y n || is_listed ys n) → is_listed xs n ≡ is_listed ys n
        go true f h =
            let s : x ≡ n = nat_equal x n f in
            subst (λ m. is_listed xs m ≡ is_listed ys m) s
            (not_listed x xs (above x xs a) ∙ sym (subst (λ m. is_listed ys m ≡ false) (sym e) (not_listed y ys (above y ys b))))
        go false f h =
            ap (λ c. c || is_listed xs n) (sym f) ∙ h ∙ ap (λ c. c || is_listed ys n) (ap (λ m. nat_eq m n) (sym e) ∙ f)

-- what a filter keeps, and the numbers below one

pub filter_listed : (p : ℕ → Bool) (xs : List ℕ) (n : ℕ) → is_listed (filter p xs) n ≡ (p n && is_listed xs n)
filter_listed p [] n = none (p n)
  where
    none : (b : Bool) → false ≡ (b && false)
    none true = refl
    none false = refl
filter_listed p (x ∷ xs) n = go (p x) refl (nat_eq x n) refl (filter_listed p xs n)
  where
    true_or : (b : Bool) → (true || b) ≡ true
    true_or b = refl

    go : (b : Bool) → p x ≡ b → (e : Bool) → nat_eq x n ≡ e → is_listed (filter p xs) n ≡ (p n && is_listed xs n) →
        is_listed (cond b (x ∷ filter p xs) (filter p xs)) n ≡ (p n && (e || is_listed xs n))
    go true f true g ih = or_left (nat_eq x n) _ g ∙ sym (ap (λ c. c && true) (subst (λ m. p m ≡ true) (nat_equal x n g) f))
    go true f false g ih = ap (λ c. c || is_listed (filter p xs) n) g ∙ ih
    go false f true g ih =
        let q : p n ≡ false = subst (λ m. p m ≡ false) (nat_equal x n g) f in
        ih ∙ ap (λ c. c && is_listed xs n) q ∙ sym (ap (λ c. c && true) q)
    go false f false g ih = ih

pub below_listed : (count n : ℕ) → is_listed (each_below (λ k. k) count) n ≡ nat_lt n count
below_listed zero n = no n
  where
    no : (n : ℕ) → false ≡ nat_lt n 0
    no n = grind (arith, nat_tests)
below_listed (suc m) n =
    list_any-append (λ j. nat_eq j n) (each_below (λ k. k) m) (m ∷ [])
    ∙ ap (λ b. b || (nat_eq m n || false)) (below_listed m n) ∙ next m n
  where
    next : (m n : ℕ) → (nat_lt n m || (nat_eq m n || false)) ≡ nat_lt n (suc m)
    next m n = grind (arith, nat_tests)

-- a walk over all numbers from 0 on beside an ascending list

-- the numbers below k of the list are those before the place
pub record IsWalked (xs : List ℕ) (place k : ℕ) : Type 0 where
  pub within : place ≤ length xs
  pub below : (i : ℕ) → i < place → get_or xs i 0 < k
  pub next : place < length xs → k ≤ get_or xs place 0

pub walked_none : (xs : List ℕ) → IsWalked xs 0 0
walked_none xs = record { within = omega arith; below = λ i l. absurd (omega (arith, l)); next = λ l. omega arith }

-- the next number of the list is reached
pub walked_on : (xs : List ℕ) (place k : ℕ) → AllPairs (λ i j. i < j) xs → IsWalked xs place k → (nat_lt place (length xs) && nat_eq (get_or xs place 0) k) ≡ true → IsWalked xs (place + 1) (k + 1)
walked_on xs place k asc w e =
    let l : place < length xs = grind (arith, nat_tests) in
    let same : get_or xs place 0 ≡ k = grind (arith, nat_tests) in
    record {
      within = omega arith;
      below = λ i m. lower i (split i m);
      next = λ m. let h = asc place (place + 1) 0 (omega arith) m in omega (arith, h);
    }
  where
    split : (i : ℕ) → i < place + 1 → (i < place) ⊎ (i ≡ place)
    split i m = grind arith

    lower : (i : ℕ) → (i < place) ⊎ (i ≡ place) → get_or xs i 0 < k + 1
    lower i (inl m) = let h = w.below i m in omega (arith, h)
    lower i (inr m) = let same : get_or xs place 0 ≡ k = grind (arith, nat_tests) in subst (λ j. get_or xs j 0 < k + 1) (sym m) (omega arith)

pub listed_there : (xs : List ℕ) (place k : ℕ) → (nat_lt place (length xs) && nat_eq (get_or xs place 0) k) ≡ true → is_listed xs k ≡ true
listed_there xs place k e = at_place xs k place (grind (arith, nat_tests)) (grind (arith, nat_tests))

-- it is further up, so this number is not of the list
above_next : (xs : List ℕ) (place k : ℕ) → IsWalked xs place k → (nat_lt place (length xs) && nat_eq (get_or xs place 0) k) ≡ false → place < length xs → k < get_or xs place 0
above_next xs place k w e l = let h = w.next l in grind (arith, nat_tests)

pub walked_past : (xs : List ℕ) (place k : ℕ) → IsWalked xs place k → (nat_lt place (length xs) && nat_eq (get_or xs place 0) k) ≡ false → IsWalked xs place (k + 1)
walked_past xs place k w e = record {
  within = w.within;
  below = λ i m. let h = w.below i m in omega (arith, h);
  next = λ l. let h = above_next xs place k w e l in omega (arith, h);
}

pub unlisted_there : (xs : List ℕ) (place k : ℕ) → AllPairs (λ i j. i < j) xs → IsWalked xs place k → (nat_lt place (length xs) && nat_eq (get_or xs place 0) k) ≡ false → is_listed xs k ≡ false
unlisted_there xs place k asc w e =
    sym (search_found xs k (Err place) (w.within, w.below, λ i l m. up i l m))
  where
    up : (i : ℕ) → place ≤ i → i < length xs → k < get_or xs i 0
    up i l m =
        let h = above_next xs place k w e (omega arith) in
        let r = not_falling xs asc place i l m in omega (arith, h, r)

pub left_is : (a b : Bool) → a ≡ true → b ≡ false → (a && not b) ≡ true
left_is true false p q = refl
left_is true true p q = untrue (sym q)
left_is false b p q = untrue p

pub left_not : (a b : Bool) → (a ≡ false) ⊎ (b ≡ true) → (a && not b) ≡ false
left_not false b h = refl
left_not true true h = refl
left_not true false (inl e) = untrue (sym e)
left_not true false (inr e) = untrue e

pub none_more : (p : ℕ → Bool) (k : ℕ) → list_any p (each_below (λ k. k) k) ≡ false → p k ≡ false → list_any p (each_below (λ k. k) (k + 1)) ≡ false
none_more p k h e = rw add-one (list_any-append p (each_below (λ k. k) k) (k ∷ []) ∙ ap (λ b. b || (p k || false)) h ∙ ap (λ b. b || false) e)
