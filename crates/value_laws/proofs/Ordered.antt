-- Values that are given in order are taken in order.
use Rattle.std.proofs.Common.{◌≡◌, ℕ, suc, ◌≤◌, ◌<◌, Bool, true, false, List, [], ◌∷◌, ◌++◌, length, refl, sym, ap, ◌∙◌, append_assoc, nat_eq, Some, arith, if◌then◌else◌}
use Rattle.std.proofs.lemmas.Bool.Decides.{nat_tests}
use Rattle.value_text.specs.Fields.{in_front, given_number, only_one, in_order}

-- the things with numbers from one on
abbrev pub numbered : {A : Type 0} → (i : ℕ) → List A → List (ℕ × A)
numbered i [] = []
numbered i (x ∷ xs) = (i, x) ∷ numbered (suc i) xs

other_number : (i j : ℕ) → i < j → nat_eq i j ≡ false
other_number i j h = grind (arith, nat_tests)

later_number : (i j : ℕ) → j < i → nat_eq i j ≡ false
later_number i j h = grind (arith, nat_tests)

one_number : (i : ℕ) → nat_eq i i ≡ true
one_number i = grind (arith, nat_tests)

given_both : {A : Type 0} (i : ℕ) (gs hs : List (ℕ × A)) → given_number i (gs ++ hs) ≡ given_number i gs ++ given_number i hs
given_both i [] hs = refl
given_both {A} i (g ∷ gs) hs = by (nat_eq i g.0) (given_both i gs hs)
  where
    by : (b : Bool) → given_number i (gs ++ hs) ≡ given_number i gs ++ given_number i hs → (if b then g.1 ∷ given_number i (gs ++ hs) else given_number i (gs ++ hs))
        ≡ (if b then g.1 ∷ given_number i gs else given_number i gs) ++ given_number i hs
    by true rest = ap (λ xs. g.1 ∷ xs) rest
    by false rest = rest

-- a number below those that are given is given to nothing
none_given : {A : Type 0} (i j : ℕ) (xs : List A) → i < j → given_number i (numbered j xs) ≡ []
none_given i j [] h = refl
none_given i j (x ∷ xs) h = rw (other_number i j h) (none_given i (suc j) xs (omega (arith, h)))

module _ {A : Type 0} where
  -- those before number `i` are given no number from `i` on
  abbrev AreBefore : ℕ → List (ℕ × A) → Type 0
  AreBefore i gs = (j : ℕ) → i ≤ j → given_number j gs ≡ []

  one_given : (i : ℕ) (gs : List (ℕ × A)) (x : A) (xs : List A) → AreBefore i gs → given_number i (gs ++ numbered i (x ∷ xs)) ≡ x ∷ []
  one_given i gs x xs before =
      given_both i gs (numbered i (x ∷ xs))
      ∙ (ap (λ ys. ys ++ given_number i (numbered i (x ∷ xs))) (before i (omega arith))
      ∙ (ap (λ b. if b then x ∷ given_number i (numbered (suc i) xs) else given_number i (numbered (suc i) xs)) (one_number i)
      ∙ ap (λ ys. x ∷ ys) (none_given i (suc i) xs (omega arith))))

  still_before : (i : ℕ) (gs : List (ℕ × A)) (x : A) → AreBefore i gs → AreBefore (suc i) (gs ++ (i, x) ∷ [])
  still_before i gs x before j h =
      given_both j gs ((i, x) ∷ [])
      ∙ (ap (λ ys. ys ++ given_number j ((i, x) ∷ [])) (before j (omega (arith, h)))
      ∙ ap (λ b. if b then x ∷ [] else []) (later_number j i (omega (arith, h))))

  taken_on : (i : ℕ) (gs : List (ℕ × A)) (xs : List A) → AreBefore i gs → in_order i (length xs) (gs ++ numbered i xs) ≡ Some xs
  taken_on i gs [] before = refl
  taken_on i gs (x ∷ xs) before =
      let rest : in_order (suc i) (length xs) (gs ++ (i, x) ∷ numbered (suc i) xs) ≡ Some xs =
      ap (in_order (suc i) (length xs)) (sym (append_assoc gs ((i, x) ∷ []) (numbered (suc i) xs)))
      ∙ taken_on (suc i) (gs ++ (i, x) ∷ []) xs (still_before i gs x before) in
      ap (λ (ys : List A). in_front (only_one ys) (in_order (suc i) (length xs) (gs ++ numbered i (x ∷ xs)))) (one_given i gs x xs before)
      ∙ ap (in_front (Some x)) rest

-- things with numbers from 0 on are taken in their order
pub taken_in_order : {A : Type 0} (xs : List A) → in_order 0 (length xs) (numbered 0 xs) ≡ Some xs
taken_in_order xs = taken_on 0 [] xs (λ j h. refl)
