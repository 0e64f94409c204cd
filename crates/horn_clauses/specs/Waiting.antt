-- What stays true while marks are carried on from clause to clause.
use Rattle.std.specs.Prelude.{◌≡◌, ℕ, ◌<◌, Bool, Option, Some, None, List, length, slice_index, slice_index_or}
use Rattle.std.specs.List.{All}
use Rattle.horn_clauses.specs.declared.clause.Clause.{Clause}
use Rattle.horn_clauses.specs.declared.propagation.Propagation.{Propagation}
use Rattle.horn_clauses.specs.Marks.{IsHeld, AreSound}

-- each entry that is there is the number of a clause
abbrev pub AreNumbers : (count : ℕ) → List (Option ℕ) → Type 0
AreNumbers count entries = (k c : ℕ) → slice_index_or entries k None ≡ Some c → c < count

-- the atoms before each clause's place are marked
abbrev pub HoldsBefore : List Clause → (marks : List Bool) → (places : List ℕ) → Type 0
HoldsBefore clauses marks places =
    (c k : ℕ) (d : Clause) → c < length clauses → k < slice_index places c →
    IsHeld marks (slice_index (slice_index_or clauses c d).body.items k)

-- the marks can be derived, the atoms before each place are marked, and all numbers are in their ranges
pub record IsSound (clauses : List Clause) (state : Propagation) : Type 0 where
  pub marks : AreSound clauses state.marks.items
  pub places : HoldsBefore clauses state.marks.items state.places.items
  pub places_len : length state.places.items ≡ length clauses
  pub first_len : length state.first_waiting.items ≡ length state.marks.items
  pub next_len : length state.next_waiting.items ≡ length clauses
  pub first : AreNumbers (length clauses) state.first_waiting.items
  pub next : AreNumbers (length clauses) state.next_waiting.items
  pub fresh : All (λ a. a < length state.marks.items) state.fresh.items
