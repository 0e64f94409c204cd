-- How many heads do not pass a test.
use Rattle.std.proofs.Common.{◌≡◌, ◌<◌, ℕ, zero, suc, ◌+◌, Bool, true, false, ◌&&◌, List, [], ◌∷◌, ◌++◌, take, drop, nat_eq, cond, Some, slice_get, refl, sym, ap, ◌∙◌, arith}
use Rattle.std.specs.List.{list_all}
use Rattle.std.proofs.lemmas.Bool.Decides.{nat_tests}
use Rattle.match_model.specs.Rows.{Head}
use Rattle.decision_tree.specs.Cutting.{count_unless}

some-is : {A : Type 0} (x y : A) → Some x ≡ Some y → x ≡ y
some-is x y e = cc

eq-none : (n : ℕ) → nat_eq (suc n) 0 ≡ false
eq-none n = grind (arith, nat_tests)

eq-less : (m n : ℕ) → nat_eq (suc m) (suc n) ≡ nat_eq m n
eq-less m n = go (nat_eq m n) refl
  where
    go : (b : Bool) → nat_eq m n ≡ b → nat_eq (suc m) (suc n) ≡ b
    go true e = grind (arith, nat_tests)
    go false e = grind (arith, nat_tests)

module _ {T : Type 0} (q : Head T → Bool) where
  pub open-append : (xs ys : List (Head T)) → count_unless q (xs ++ ys) ≡ count_unless q xs + count_unless q ys
  open-append [] ys = omega arith
  open-append (x ∷ xs) ys = go (q x) (open-append xs ys)
    where
      go : (b : Bool) → count_unless q (xs ++ ys) ≡ count_unless q xs + count_unless q ys →
          cond b (count_unless q (xs ++ ys)) (suc (count_unless q (xs ++ ys)))
          ≡ cond b (count_unless q xs) (suc (count_unless q xs)) + count_unless q ys
      go true e = e
      go false e = omega (arith, e)

  none-open : (hs : List (Head T)) → nat_eq (count_unless q hs) 0 ≡ list_all q hs
  none-open [] = refl
  none-open (h ∷ hs) = go (q h) (none-open hs)
    where
      go : (b : Bool) → nat_eq (count_unless q hs) 0 ≡ list_all q hs →
          nat_eq (cond b (count_unless q hs) (suc (count_unless q hs))) 0 ≡ (b && list_all q hs)
      go true e = e
      go false e = eq-none (count_unless q hs)

  one-open : (hs : List (Head T)) (i : ℕ) (h : Head T) → slice_get hs i ≡ Some h → q h ≡ false →
      0 < count_unless q hs
  one-open [] i h e w = cc
  one-open (x ∷ hs) zero h e w = go (q x) (ap q (some-is x h e) ∙ w)
    where
      go : (b : Bool) → b ≡ false → 0 < cond b (count_unless q hs) (suc (count_unless q hs))
      go true k = cc
      go false k = omega arith
  one-open (x ∷ hs) (suc i) h e w = go (q x) (one-open hs i h e w)
    where
      go : (b : Bool) → 0 < count_unless q hs → 0 < cond b (count_unless q hs) (suc (count_unless q hs))
      go true l = l
      go false l = omega arith

  -- those beside a head are none where no more are than itself
  pub open-beside : (i : ℕ) (hs : List (Head T)) (h : Head T) → slice_get hs i ≡ Some h →
      nat_eq (count_unless q hs) (cond (q h) 0 1) ≡ (list_all q (take i hs) && list_all q (drop (i + 1) hs))
  open-beside i [] h e = cc
  open-beside zero (x ∷ hs) h e =
      ap (λ y. nat_eq (count_unless q (x ∷ hs)) (cond (q y) 0 1)) (sym (some-is x h e)) ∙ go (q x)
    where
      go : (b : Bool) → nat_eq (cond b (count_unless q hs) (suc (count_unless q hs))) (cond b 0 1) ≡ list_all q hs
      go true = none-open hs
      go false = eq-less (count_unless q hs) 0 ∙ none-open hs
  open-beside (suc i) (x ∷ hs) h e =
      go (q x) (q h) (one-open hs i h e) (open-beside i hs h e)
      ∙ ap (λ n. list_all q (take (suc i) (x ∷ hs)) && list_all q (drop n (x ∷ hs))) step
    where
      step : suc (i + 1) ≡ suc i + 1
      step = omega arith

      more : (n : ℕ) → 0 < n → nat_eq n 0 ≡ false
      more zero l = absurd (omega (arith, l))
      more (suc n) l = eq-none n

      go : (b d : Bool) → (d ≡ false → 0 < count_unless q hs) →
          nat_eq (count_unless q hs) (cond d 0 1) ≡ (list_all q (take i hs) && list_all q (drop (i + 1) hs)) →
          nat_eq (cond b (count_unless q hs) (suc (count_unless q hs))) (cond d 0 1)
          ≡ ((b && list_all q (take i hs)) && list_all q (drop (i + 1) hs))
      go true d l k = k
      go false true l k = eq-none (count_unless q hs)
      go false false l k = eq-less (count_unless q hs) 0 ∙ more (count_unless q hs) (l refl)
