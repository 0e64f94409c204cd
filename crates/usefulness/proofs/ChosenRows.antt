-- What rows have chosen and what is not marked, one by one.
use Rattle.std.proofs.Common.{◌≡◌, ◌+◌, inl, inr, ℕ, zero, suc, Bool, true, false, cond, List, [], ◌∷◌, nat_eq, Some, slice_get, refl, sym, subst, arith}
use Rattle.std.specs.List.{Contains, list_any, flat_map}
use Rattle.match_model.proofs.Basics.{untrue, nothing, either, or_left, or_right, nat_equal, nat_itself}
use Rattle.pattern_matrix.specs.Counting.{Question, through_alternative}
use Rattle.pattern_matrix.proofs.HandingOn.{here, in_cons}
use Rattle.usefulness.specs.declared.chosen.ChosenIn.{ChosenIn}
use Rattle.usefulness.specs.Chosen.{unmarked_one, unmarked_in, unmarked_from}
use Rattle.usefulness.specs.Frames.{SparseAsked}
use Rattle.usefulness.proofs.Looking.{in_left, in_right, in_either}

-- the alternative, chosen by the row with this number
abbrev chosen_in : (number id : ℕ) → ChosenIn
chosen_in number id = record { row = number; uid = id }

module _ (m : Question → Bool) where
  -- a chosen alternative that is not marked is among them
  in_flat : (number arm id : ℕ) (ids : List ℕ) → list_any (nat_eq id) ids ≡ true → m (through_alternative arm id) ≡ false → Contains (flat_map (unmarked_one m number arm) ids) (chosen_in number id)
  in_flat number arm id [] e u = untrue e
  in_flat number arm id (j ∷ ids) e u = elim (either (nat_eq id j) (list_any (nat_eq id) ids) e) [
    | inl s ↦
        in_left (unmarked_one m number arm j) (flat_map (unmarked_one m number arm) ids) (chosen_in number id)
        (subst (λ k. Contains (unmarked_one m number arm k) (chosen_in number id)) (nat_equal id j s)
        (subst (λ b. Contains (cond b [] (chosen_in number id ∷ [])) (chosen_in number id)) (sym u) (here (chosen_in number id) [])))
    | inr o ↦ in_right (unmarked_one m number arm j) (flat_map (unmarked_one m number arm) ids) (chosen_in number id) (in_flat number arm id ids o u)
  ]

  -- and nothing else is
  of_flat : (number arm : ℕ) (ids : List ℕ) (c : ChosenIn) → Contains (flat_map (unmarked_one m number arm) ids) c → (c.row ≡ number) × (list_any (nat_eq c.uid) ids ≡ true)
  of_flat number arm [] c (k, l, e) = absurd (omega (arith, l))
  of_flat number arm (j ∷ ids) c i = elim (in_either (unmarked_one m number arm j) (flat_map (unmarked_one m number arm) ids) c i) [
    | inl k ↦ go (m (through_alternative arm j)) k
    | inr k ↦ let (r, h) = of_flat number arm ids c k in (r, or_right (nat_eq c.uid j) (list_any (nat_eq c.uid) ids) h)
  ]
    where
      go : (b : Bool) → Contains (cond b [] (chosen_in number j ∷ [])) c → (c.row ≡ number) × (list_any (nat_eq c.uid) (j ∷ ids) ≡ true)
      go true (k, l, e) = absurd (omega (arith, l))
      go false k =
          in_cons (chosen_in number j) c [] (λ (z : ChosenIn). (z.row ≡ number) × (list_any (nat_eq z.uid) (j ∷ ids) ≡ true))
          (refl, or_left (nat_eq j j) (list_any (nat_eq j) ids) (nat_itself j)) (λ z (n, l, e). absurd (omega (arith, l))) k

  module _ {T : Type 0} where
    of_row : (number : ℕ) (x : SparseAsked T) (c : ChosenIn) → Contains (unmarked_in m number x) c → (c.row ≡ number) × (list_any (nat_eq c.uid) x.row.chosen ≡ true)
    of_row number x c i = go x.wanted i
      where
        go : (b : Bool) → Contains (cond b (flat_map (unmarked_one m number x.row.arm) x.row.chosen) []) c → (c.row ≡ number) × (list_any (nat_eq c.uid) x.row.chosen ≡ true)
        go true k = of_flat number x.row.arm x.row.chosen c k
        go false (k, l, e) = absurd (omega (arith, l))

    -- what a wanted row has chosen is among them where it is not marked
    pub chosen_there : (id first i number : ℕ) (xs : List (SparseAsked T)) (x : SparseAsked T) → number ≡ first + i → slice_get xs i ≡ Some x → x.wanted ≡ true → list_any (nat_eq id) x.row.chosen ≡ true →
        m (through_alternative x.row.arm id) ≡ false → Contains (unmarked_from m first xs) (chosen_in number id)
    chosen_there id first i number [] x n s w e u = absurd (nothing x s)
    chosen_there id first zero number (y ∷ xs) x n s w e u =
        let same : y ≡ x = cc in
        let at : first ≡ number = omega (arith, n) in
        in_left (unmarked_in m first y) (unmarked_from m (suc first) xs) (chosen_in number id)
        (subst (λ z. Contains (unmarked_in m first z) (chosen_in number id)) (sym same)
        (subst (λ k. Contains (unmarked_in m first x) (chosen_in k id)) at
        (subst (λ b. Contains (cond b (flat_map (unmarked_one m first x.row.arm) x.row.chosen) []) (chosen_in first id)) (sym w) (in_flat first x.row.arm id x.row.chosen e u))))
    chosen_there id first (suc i) number (y ∷ xs) x n s w e u =
        in_right (unmarked_in m first y) (unmarked_from m (suc first) xs) (chosen_in number id) (chosen_there id (suc first) i number xs x (omega (arith, n)) s w e u)

    -- what is among them was chosen by the row with its number
    pub chosen_by : (first : ℕ) (xs : List (SparseAsked T)) (c : ChosenIn) → Contains (unmarked_from m first xs) c →
        (i : ℕ) × (c.row ≡ first + i) × ((x : SparseAsked T) × (slice_get xs i ≡ Some x) × (list_any (nat_eq c.uid) x.row.chosen ≡ true))
    chosen_by first [] c (k, l, e) = absurd (omega (arith, l))
    chosen_by first (x ∷ xs) c i = elim (in_either (unmarked_in m first x) (unmarked_from m (suc first) xs) c i) [
      | inl k ↦ let (r, h) = of_row first x c k in (zero, omega (arith, r), (x, refl, h))
      | inr k ↦ let (j, r, (z, s, h)) = chosen_by (suc first) xs c k in (suc j, omega (arith, r), (z, s, h))
    ]
