-- Values that are given numbers, in any order.
use Rattle.std.specs.Prelude.{ℕ, zero, suc, List, [], ◌∷◌, nat_eq, Option, Some, None, if◌then◌else◌}

-- the thing in front of those that may be there
abbrev pub in_front : {A : Type 0} → Option A → Option (List A) → Option (List A)
in_front None xs = None
in_front (Some x) None = None
in_front (Some x) (Some xs) = Some (x ∷ xs)

-- what is given this number, in order
abbrev pub given_number : {A : Type 0} → (i : ℕ) → List (ℕ × A) → List A
given_number i [] = []
given_number i (g ∷ gs) = if nat_eq i g.0 then g.1 ∷ given_number i gs else given_number i gs

-- the one thing of a list of one
abbrev pub only_one : {A : Type 0} → List A → Option A
only_one [] = None
only_one (x ∷ []) = Some x
only_one (x ∷ (y ∷ ys)) = None

-- one thing for each of so many numbers from `i` on, where each is given exactly once
abbrev pub in_order : {A : Type 0} → (i count : ℕ) → List (ℕ × A) → Option (List A)
in_order i zero given = Some []
in_order i (suc n) given = in_front (only_one (given_number i given)) (in_order (suc i) n given)

-- what the slots hold, if none is empty
abbrev pub all_some : {A : Type 0} → List (Option A) → Option (List A)
all_some [] = Some []
all_some (o ∷ os) = in_front o (all_some os)

-- No meaning: what is given each of so many numbers from `i` on.
abbrev pub given_numbers : {A : Type 0} → (i count : ℕ) → List (ℕ × A) → List (List A)
given_numbers i zero given = []
given_numbers i (suc n) given = given_number i given ∷ given_numbers (suc i) n given
