-- Marks on atoms, as they come about.
use Rattle.std.specs.Prelude.{◌≡◌, ℕ, ◌<◌, Bool, true, false, List, length, slice_index_or}
use Rattle.std.specs.List.{All, Contains}
use Rattle.horn_clauses.specs.declared.clause.Clause.{Clause}
use Rattle.horn_clauses.specs.Derivations.{Derives}

-- the atoms of the clause are below `count`
pub record IsWithin (count : ℕ) (c : Clause) : Type 0 where
  pub head : c.head < count
  pub body : All (λ a. a < count) c.body.items

-- the atom is marked
abbrev pub IsHeld : (marks : List Bool) → ℕ → Type 0
IsHeld marks a = slice_index_or marks a false ≡ true

-- each atom of the body is marked
abbrev pub HoldsThroughout : (marks : List Bool) → (body : List ℕ) → Type 0
HoldsThroughout marks body = All (IsHeld marks) body

-- what is marked can be derived
abbrev pub AreSound : List Clause → (marks : List Bool) → Type 0
AreSound clauses marks = (a : ℕ) → IsHeld marks a → Derives clauses a

-- the head of each clause whose body is marked is marked
abbrev pub IsClosed : List Clause → (marks : List Bool) → Type 0
IsClosed clauses marks = All (λ c. HoldsThroughout marks c.body.items → IsHeld marks c.head) clauses

-- the atom is not marked, and it is the head of a clause whose body is
pub record IsOpenHead (clauses : List Clause) (marks : List Bool) (a : ℕ) : Type 0 where
  pub unmarked : slice_index_or marks a false ≡ false
  pub within : a < length marks
  pub clause : Clause
  pub listed : Contains clauses clause
  pub head : clause.head ≡ a
  pub body : HoldsThroughout marks clause.body.items
