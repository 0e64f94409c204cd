-- Things that are given numbers, in slots.
use Rattle.std.proofs.Common.{◌≡◌, replicate, get_or, is_some, append-nil, append_assoc, ℕ, zero, suc, ◌+◌, ◌<◌, ◌≤◌, Bool, true, false, nat_eq, List, [], ◌∷◌, ◌++◌, map, set, length, Option, Some, None, refl, sym, ap, ◌∙◌, arith, if◌then◌else◌}
use Rattle.std.specs.Prelude.{slice_get, option_to_list}
use Rattle.std.proofs.lemmas.Bool.Decides.{nat_tests}
use Rattle.std.proofs.lemmas.Option.{slice_get_read}
use Rattle.value_text.specs.Fields.{in_front, given_number, only_one, in_order, all_some, given_numbers}

module _ {A : Type 0} where
  -- nothing is given a number yet
  pub none_given : (i n : ℕ) → map option_to_list (replicate {A = Option A} n None) ≡ given_numbers i n []
  none_given i zero = refl
  none_given i (suc n) = ap (λ ls. [] ∷ ls) (none_given (suc i) n)

  other_number : (i j : ℕ) (x : A) (gs : List (ℕ × A)) → nat_eq i j ≡ false → given_number i ((j, x) ∷ gs) ≡ given_number i gs
  other_number i j x gs h = rw h refl

  same_number : (i j : ℕ) (x : A) (gs : List (ℕ × A)) → nat_eq i j ≡ true → given_number i ((j, x) ∷ gs) ≡ x ∷ given_number i gs
  same_number i j x gs h = rw h refl

  -- a number before all of these
  before : (i j n : ℕ) (x : A) (gs : List (ℕ × A)) → j < i → given_numbers i n ((j, x) ∷ gs) ≡ given_numbers i n gs
  before i j zero x gs h = refl
  before i j (suc n) x gs h =
      let e : nat_eq i j ≡ false = grind (arith, nat_tests) in
      rw (other_number i j x gs e, before (suc i) j n x gs (omega (arith, h))) refl

  -- a number past all of these
  pub past : (i j n : ℕ) (x : A) (gs : List (ℕ × A)) → i + n ≤ j → given_numbers i n ((j, x) ∷ gs) ≡ given_numbers i n gs
  past i j zero x gs h = refl
  past i j (suc n) x gs h =
      let e : nat_eq i j ≡ false = grind (arith, nat_tests) in
      rw (other_number i j x gs e, past (suc i) j n x gs (omega (arith, h))) refl

  -- an empty slot is filled
  pub filled : (i j k n : ℕ) (x : A) (gs : List (ℕ × A)) (slots : List (Option A)) → k ≡ i + j → map option_to_list slots ≡ given_numbers i n gs →
      slice_get slots j ≡ Some None → map option_to_list (set slots j (Some x)) ≡ given_numbers i n ((k, x) ∷ gs)
  filled i j k n x gs [] e h at = absurd cc
  filled i j k zero x gs (s ∷ ss) e h at = absurd cc
  filled i zero k (suc n) x gs (s ∷ ss) e h at =
      let empty : s ≡ None = cc in
      let first : option_to_list s ≡ given_number i gs = cc in
      let rest : map option_to_list ss ≡ given_numbers (suc i) n gs = cc in
      let none : given_number i gs ≡ [] = sym first ∙ ap option_to_list empty in
      let here : nat_eq i k ≡ true = grind (arith, nat_tests, e) in
      rw (same_number i k x gs here, none, before (suc i) k n x gs (omega (arith, e)), rest) refl
  filled i (suc j) k (suc n) x gs (s ∷ ss) e h at =
      let first : option_to_list s ≡ given_number i gs = cc in
      let rest : map option_to_list ss ≡ given_numbers (suc i) n gs = cc in
      let other : nat_eq i k ≡ false = grind (arith, nat_tests, e) in
      rw (other_number i k x gs other, first) (ap (λ ls. given_number i gs ∷ ls) (filled (suc i) j k n x gs ss (omega (arith, e)) rest at))

  only_two : (xs : List A) (x y : A) → only_one (xs ++ x ∷ y ∷ []) ≡ None
  only_two [] x y = refl
  only_two (z ∷ []) x y = refl
  only_two (z ∷ w ∷ xs) x y = refl

  pub no_front : (o : Option A) → in_front o None ≡ None
  no_front None = refl
  no_front (Some x) = refl

  given_both : (i : ℕ) (gs hs : List (ℕ × A)) → given_number i (gs ++ hs) ≡ given_number i gs ++ given_number i hs
  given_both i [] hs = refl
  given_both i (g ∷ gs) hs = by (nat_eq i g.0) (given_both i gs hs)
    where
      by : (b : Bool) → given_number i (gs ++ hs) ≡ given_number i gs ++ given_number i hs → (if b then g.1 ∷ given_number i (gs ++ hs) else given_number i (gs ++ hs))
          ≡ (if b then g.1 ∷ given_number i gs else given_number i gs) ++ given_number i hs
      by true h = ap (λ l. g.1 ∷ l) h
      by false h = h

  -- a slot is to hold two
  pub twice : (i j k n : ℕ) (x y : A) (rest gs : List (ℕ × A)) (slots : List (Option A)) → k ≡ i + j → map option_to_list slots ≡ given_numbers i n gs →
      slice_get slots j ≡ Some (Some y) → in_order i n (rest ++ (k, x) ∷ gs) ≡ None
  twice i j k n x y rest gs [] e h at = absurd cc
  twice i j k zero x y rest gs (s ∷ ss) e h at = absurd cc
  twice i zero k (suc n) x y rest gs (s ∷ ss) e h at =
      let full : s ≡ Some y = cc in
      let first : option_to_list s ≡ given_number i gs = cc in
      let one : given_number i gs ≡ y ∷ [] = sym first ∙ ap option_to_list full in
      let here : nat_eq i k ≡ true = grind (arith, nat_tests, e) in
      rw (given_both i rest ((k, x) ∷ gs), same_number i k x gs here, one, only_two (given_number i rest) x y) refl
  twice i (suc j) k (suc n) x y rest gs (s ∷ ss) e h at =
      let tail : map option_to_list ss ≡ given_numbers (suc i) n gs = cc in
      let later : in_order (suc i) n (rest ++ (k, x) ∷ gs) ≡ None = twice (suc i) j k n x y rest gs ss (omega (arith, e)) tail at in
      rw later (no_front (only_one (given_number i (rest ++ (k, x) ∷ gs))))

  one_held : (o : Option A) → only_one (option_to_list o) ≡ o
  one_held None = refl
  one_held (Some x) = refl

  -- all is in its slot
  pub all_held : (i n : ℕ) (gs : List (ℕ × A)) (slots : List (Option A)) → map option_to_list slots ≡ given_numbers i n gs →
      in_order i n gs ≡ all_some slots
  all_held i zero gs [] h = refl
  all_held i zero gs (s ∷ ss) h = absurd cc
  all_held i (suc n) gs [] h = absurd cc
  all_held i (suc n) gs (s ∷ ss) h =
      let first : option_to_list s ≡ given_number i gs = cc in
      let rest : map option_to_list ss ≡ given_numbers (suc i) n gs = cc in
      rw (← first, one_held s, all_held (suc i) n gs ss rest) refl

  pub every_some : (xs : List A) → all_some (map Some xs) ≡ Some xs
  every_some [] = refl
  every_some (x ∷ xs) = rw (every_some xs) refl

  pub some_none : (xs : List A) (os : List (Option A)) → all_some (map Some xs ++ None ∷ os) ≡ None
  some_none [] os = refl
  some_none (x ∷ xs) os = rw (some_none xs os) refl

-- what was taken from the end of what is given is in its slots
pub record IsFilled {A : Type 0} (all given : List (ℕ × A)) (count : ℕ) (slots : List (Option A)) : Type 0 where
  pub done : List (ℕ × A)
  pub both : given ++ done ≡ all
  pub held : map option_to_list slots ≡ given_numbers 0 count done

-- nothing was taken yet
pub filled_none : {A : Type 0} (all : List (ℕ × A)) (n : ℕ) (slots : List (Option A)) → slots ≡ replicate n None → IsFilled all all n slots
filled_none {A} all n slots e = record {
  done = [];
  both = append-nil all;
  held = rw e (none_given {A = A} 0 n);
}

module _ {A : Type 0} (all given rest : List (ℕ × A)) (j : ℕ) (x : A) (n : ℕ) (slots : List (Option A)) (taken : given ≡ rest ++ (j, x) ∷ []) (is : IsFilled all given n slots) where
  put_back : rest ++ (j, x) ∷ is.done ≡ all
  put_back = sym (append_assoc rest ((j, x) ∷ []) is.done) ∙ (ap (λ gs. gs ++ is.done) (sym taken) ∙ is.both)

  -- one more is put into its slot
  pub filled_more : slice_get slots j ≡ Some None → IsFilled all rest n (set slots j (Some x))
  filled_more at = record { done = (j, x) ∷ is.done; both = put_back; held = filled 0 j j n x is.done slots (omega arith) is.held at }

  -- one more has no slot
  pub filled_past : n ≤ j → IsFilled all rest n slots
  filled_past h = record { done = (j, x) ∷ is.done; both = put_back; held = is.held ∙ sym (past 0 j n x is.done (omega (arith, h))) }

  -- one more has a slot that is full
  pub filled_twice : (y : A) → slice_get slots j ≡ Some (Some y) → in_order 0 n all ≡ None
  filled_twice y at = ap (in_order 0 n) (sym put_back) ∙ twice 0 j j n x y rest is.done slots (omega arith) is.held at

-- all was taken
pub filled_all : {A : Type 0} (all given : List (ℕ × A)) (n : ℕ) (slots : List (Option A)) → given ≡ [] → IsFilled all given n slots →
    in_order 0 n all ≡ all_some slots
filled_all all given n slots e is =
    let same : is.done ≡ all = ap (λ gs. gs ++ is.done) (sym e) ∙ is.both in
    ap (in_order 0 n) (sym same) ∙ all_held 0 n is.done slots is.held

-- a slot by the reading of a list
pub slot_at : {A : Type 0} (slots : List (Option A)) (j : ℕ) (o : Option A) → j < length slots → o ≡ get_or slots j o → slice_get slots j ≡ Some o
slot_at slots j o h e = slice_get_read slots (length slots) j o refl h e

pub some_there : {A : Type 0} (o : Option A) → true ≡ is_some o → (x : A) × (o ≡ Some x)
some_there None h = absurd cc
some_there (Some x) h = (x, refl)

pub none_there : {A : Type 0} (o : Option A) → false ≡ is_some o → o ≡ None
none_there None h = refl
none_there (Some x) h = absurd cc

-- a list without length
pub none_left : {A : Type 0} (xs : List A) (n : ℕ) → n ≡ length xs → n ≡ 0 → xs ≡ []
none_left [] n e z = refl
none_left (x ∷ xs) n e z = absurd (omega (arith, e, z))
