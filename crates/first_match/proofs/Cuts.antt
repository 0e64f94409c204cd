-- The first so many of lists that are joined and combined.
use Rattle.std.proofs.Common.{◌≡◌, ◌≤◌, ◌<◌, ℕ, zero, suc, ◌+◌, ◌-◌, Bool, true, false, nat_le, List, [], ◌∷◌, ◌++◌, map, length, take, refl, sym, ap, ◌∙◌, arith}
use Rattle.std.specs.List.{flat_map}
use Rattle.std.proofs.lemmas.Bool.{leb-true, leb-false}
use Rattle.std.proofs.lemmas.List.{length-map, length-take-le, take-append-le, take-map, take-take, take_all}

take-append : {A : Type 0} (k : ℕ) (xs ys : List A) → take k (xs ++ ys) ≡ take k xs ++ take (k - length xs) ys
take-append zero xs ys = let none : 0 - length xs ≡ 0 = omega arith in ap (λ n. take n ys) (sym none)
take-append (suc k) [] ys = let all : suc k - 0 ≡ suc k = omega arith in ap (λ n. take n ys) (sym all)
take-append (suc k) (x ∷ xs) ys =
    let less : suc k - suc (length xs) ≡ k - length xs = omega arith in
    ap (λ l. x ∷ l) (take-append k xs ys) ∙ ap (λ n. x ∷ (take k xs ++ take n ys)) (sym less)

pub cut_length : {A : Type 0} (k : ℕ) (xs : List A) → length (take k xs) ≤ k
cut_length zero xs = omega arith
cut_length (suc k) [] = omega arith
cut_length (suc k) (x ∷ xs) = omega (arith, cut_length k xs)

-- what is cut once more
pub cut_under : {A : Type 0} (k : ℕ) (xs ys : List A) → take k (take k xs ++ ys) ≡ take k (xs ++ ys)
cut_under zero xs ys = refl
cut_under (suc k) [] ys = refl
cut_under (suc k) (x ∷ xs) ys = ap (λ l. x ∷ l) (cut_under k xs ys)

-- nothing is added to a list that is full
pub cut_full : {A : Type 0} (k : ℕ) (xs ys : List A) → k ≤ length (take k xs) → take k xs ≡ take k (xs ++ ys)
cut_full zero xs ys h = refl
cut_full (suc k) [] ys h = absurd (omega (arith, h))
cut_full (suc k) (x ∷ xs) ys h = ap (λ l. x ∷ l) (cut_full k xs ys (omega (arith, h)))

-- as many are added as there is room for
pub cut_more : {A : Type 0} (k : ℕ) (xs ys : List A) →
    take k xs ++ take (k - length (take k xs)) ys ≡ take k (xs ++ ys)
cut_more zero xs ys = let none : 0 - 0 ≡ 0 = omega arith in ap (λ n. take n ys) none
cut_more (suc k) [] ys = let all : suc k - 0 ≡ suc k = omega arith in ap (λ n. take n ys) all
cut_more (suc k) (x ∷ xs) ys =
    let less : suc k - suc (length (take k xs)) ≡ k - length (take k xs) = omega arith in
    ap (λ n. x ∷ (take k xs ++ take n ys)) less ∙ ap (λ l. x ∷ l) (cut_more k xs ys)

take_none : {A : Type 0} (k : ℕ) → take {A = A} k [] ≡ []
take_none zero = refl
take_none (suc k) = refl

pub cut_push : {A : Type 0} (k : ℕ) (xs : List A) (y : A) → length (take k xs) < k →
    take k xs ++ y ∷ [] ≡ take k (xs ++ y ∷ [])
cut_push zero xs y h = absurd (omega (arith, h))
cut_push (suc k) [] y h = ap (λ l. y ∷ l) (sym (take_none k))
cut_push (suc k) (x ∷ xs) y h = ap (λ l. x ∷ l) (cut_push k xs y (omega (arith, h)))

-- each thing of the one list with each of the other
module _ {A B C : Type 0} (f : A → B → C) where
  abbrev pub all_pairs : List A → List B → List C
  all_pairs xs ys = flat_map (λ a. map (f a) ys) xs

  nothing_there : (xs : List A) → all_pairs xs [] ≡ []
  nothing_there [] = refl
  nothing_there (x ∷ xs) = nothing_there xs

  firsts_cut : (y : B) (ys : List B) (j k : ℕ) (xs : List A) → k ≤ j →
      take k (all_pairs (take j xs) (y ∷ ys)) ≡ take k (all_pairs xs (y ∷ ys))
  firsts_cut y ys zero zero xs h = refl
  firsts_cut y ys zero (suc k) xs h = absurd (omega (arith, h))
  firsts_cut y ys (suc j) zero xs h = refl
  firsts_cut y ys (suc j) (suc k) [] h = refl
  firsts_cut y ys (suc j) (suc k) (x ∷ xs) h =
      let here = map (f x) ys in
      ap (λ l. f x y ∷ l)
      (take-append k here (all_pairs (take j xs) (y ∷ ys))
      ∙ ap (λ l. take k here ++ l) (firsts_cut y ys j (k - length here) xs (omega (arith, h)))
      ∙ sym (take-append k here (all_pairs xs (y ∷ ys))))

  all_firsts_cut : (k : ℕ) (xs : List A) (ys : List B) → take k (all_pairs (take k xs) ys) ≡ take k (all_pairs xs ys)
  all_firsts_cut k xs [] = ap (take k) (nothing_there (take k xs)) ∙ ap (take k) (sym (nothing_there xs))
  all_firsts_cut k xs (y ∷ ys) = firsts_cut y ys k k xs (omega arith)

  seconds_cut : (k : ℕ) (xs : List A) (ys : List B) → take k (all_pairs xs (take k ys)) ≡ take k (all_pairs xs ys)
  seconds_cut k [] ys = refl
  seconds_cut k (x ∷ xs) ys = go (nat_le (length ys) k) refl
    where
      go : (b : Bool) → nat_le (length ys) k ≡ b →
          take k (all_pairs (x ∷ xs) (take k ys)) ≡ take k (all_pairs (x ∷ xs) ys)
      go true e = ap (λ l. take k (all_pairs (x ∷ xs) l)) (take_all k ys (leb-true (length ys) k e))
      go false e =
          let long : k < length ys = leb-false (length ys) k e in
          let full : k ≤ length (map (f x) (take k ys)) =
          omega (arith, length-map (take k ys) (f x), length-take-le k ys (omega (arith, long))) in
          let whole : k ≤ length (map (f x) ys) = omega (arith, length-map ys (f x), long) in
          take-append-le k (map (f x) (take k ys)) (all_pairs xs (take k ys)) full
          ∙ take-map (f x) k (take k ys)
          ∙ ap (map (f x)) (take-take k k ys (omega arith))
          ∙ sym (take-map (f x) k ys)
          ∙ sym (take-append-le k (map (f x) ys) (all_pairs xs ys) whole)

  -- the first so many combinations are those of the first so many of each
  pub cut_both : (k : ℕ) (xs : List A) (ys : List B) →
      take k (all_pairs (take k xs) (take k ys)) ≡ take k (all_pairs xs ys)
  cut_both k xs ys = seconds_cut k (take k xs) ys ∙ all_firsts_cut k xs ys
