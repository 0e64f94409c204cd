-- The least fault of several rules, from the first item that breaks each.
use Rattle.std.proofs.Common.{◌≡◌, ℕ, ◌<◌, ◌≤◌, Bool, true, false, cond, Option, Some, None, refl, inl, inr, ◌⊎◌, arith}
use Rattle.std.specs.Prelude.{nat_le}
use Rattle.std.proofs.lemmas.Bool.{leb-true, both_ways}
use Rattle.type_names.specs.Rules.{FirstOf}
use Rattle.type_table.specs.Faults.{FirstThat, LeastFault}
use Rattle.type_table.specs.Readings.{earlier}

-- one more rule
abbrev pub WithRule : (ℕ → ℕ → Type 0) → (rule : ℕ) → (ℕ → Type 0) → ℕ → ℕ → Type 0
WithRule broken rule P i other = broken i other ⊎ ((other ≡ rule) × P i)

not_le : (a b : ℕ) → nat_le a b ≡ false → b < a
not_le a b h = grind arith

pub least_more : (broken : ℕ → ℕ → Type 0) (rule : ℕ) (P : ℕ → Type 0) (best : Option (ℕ × ℕ)) (found : Option ℕ) →
    ((i other : ℕ) → broken i other → other < rule) → LeastFault broken best → FirstThat P found → LeastFault (WithRule broken rule P) (earlier best rule found)
least_more broken rule P None None low least first = none
  where
    none : (i other : ℕ) → WithRule broken rule P i other → ⊥
    none i other (inl b) = least i other b
    none i other (inr p) = first i p.1
least_more broken rule P (Some f) None low least first = (inl least.0, before, lesser)
  where
    before : (j other : ℕ) → j < f.1 → WithRule broken rule P j other → ⊥
    before j other lt (inl b) = least.1 j other lt b
    before j other lt (inr p) = first j p.1

    lesser : (other : ℕ) → other < f.0 → WithRule broken rule P f.1 other → ⊥
    lesser other lt (inl b) = least.2 other lt b
    lesser other lt (inr p) = first f.1 p.1
least_more broken rule P None (Some item) low least first = (inr (refl, first.0), before, lesser)
  where
    before : (j other : ℕ) → j < item → WithRule broken rule P j other → ⊥
    before j other lt (inl b) = least j other b
    before j other lt (inr p) = first.1 j lt p.1

    lesser : (other : ℕ) → other < rule → WithRule broken rule P item other → ⊥
    lesser other lt (inl b) = least item other b
    lesser other lt (inr p) = let same : other ≡ rule = p.0 in absurd (omega arith)
least_more broken rule P (Some f) (Some item) low least first = by (nat_le f.1 item) refl
  where
    before_first : f.1 ≤ item → (j other : ℕ) → j < f.1 → WithRule broken rule P j other → ⊥
    before_first le j other lt (inl b) = least.1 j other lt b
    before_first le j other lt (inr p) = first.1 j (omega arith) p.1

    lesser_first : f.1 ≤ item → (other : ℕ) → other < f.0 → WithRule broken rule P f.1 other → ⊥
    lesser_first le other lt (inl b) = least.2 other lt b
    lesser_first le other lt (inr p) = let same : other ≡ rule = p.0 in let below : f.0 < rule = low f.1 f.0 least.0 in absurd (omega arith)

    before_item : item < f.1 → (j other : ℕ) → j < item → WithRule broken rule P j other → ⊥
    before_item less j other lt (inl b) = least.1 j other (omega arith) b
    before_item less j other lt (inr p) = first.1 j lt p.1

    lesser_item : item < f.1 → (other : ℕ) → other < rule → WithRule broken rule P item other → ⊥
    lesser_item less other lt (inl b) = least.1 item other less b
    lesser_item less other lt (inr p) = let same : other ≡ rule = p.0 in absurd (omega arith)

    by : (b : Bool) → nat_le f.1 item ≡ b → LeastFault (WithRule broken rule P) (cond b (Some f) (Some (rule, item)))
    by true e = let le : f.1 ≤ item = leb-true f.1 item e in (inl least.0, before_first le, lesser_first le)
    by false e = let less : item < f.1 = not_le f.1 item e in (inr (refl, first.0), before_item less, lesser_item less)

-- rules stay below one that is greater
pub low_more : (broken : ℕ → ℕ → Type 0) (rule next : ℕ) (P : ℕ → Type 0) → rule < next → ((i other : ℕ) → broken i other → other < rule) →
    (i other : ℕ) → WithRule broken rule P i other → other < next
low_more broken rule next P lt low i other (inl b) = let below : other < rule = low i other b in omega arith
low_more broken rule next P lt low i other (inr p) = let same : other ≡ rule = p.0 in omega arith

-- a first among so many numbers, where it holds of none beyond
pub first_that : (test : ℕ → Bool) (count : ℕ) (found : Option ℕ) → ((j : ℕ) → test j ≡ true → j < count) → FirstOf test count found → FirstThat (λ j. test j ≡ true) found
first_that test count None within first = λ j yes_j. both_ways (test j) (first j (within j yes_j)) yes_j
first_that test count (Some i) within first = (first.1, λ j lt yes_j. both_ways (test j) (first.2 j lt) yes_j)

-- the same fault, in other words
pub least_same : (P Q : ℕ → ℕ → Type 0) (best : Option (ℕ × ℕ)) → ((i r : ℕ) → P i r → Q i r) → ((i r : ℕ) → Q i r → P i r) → LeastFault P best → LeastFault Q best
least_same P Q None to back least = λ i r q. least i r (back i r q)
least_same P Q (Some f) to back least = (to f.1 f.0 least.0, λ j r lt q. least.1 j r lt (back j r q), λ r lt q. least.2 r lt (back f.1 r q))
