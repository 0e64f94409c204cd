-- Which atoms hold in the least model of Horn clauses (Dowling and Gallier 1984).
use Rattle.std.specs.Prelude.{◌≡◌, ℕ, ◌<◌, Bool, true, false, List, length, slice_index, slice_index_or}
use Rattle.std.specs.List.{Contains}
use Rattle.horn_clauses.specs.declared.clause.Clause.{Clause}

-- an atom can be derived where some clause has it as its head and each atom of the clause's body can be derived
pub data Derives (clauses : List Clause) : ℕ → Type 0 where
  by_clause : (c : Clause) → Contains clauses c →
      ((k : ℕ) → k < length c.body.items → Derives clauses (slice_index c.body.items k)) → Derives clauses c.head

-- the marks tell of each atom below `count` whether it can be derived
pub record IsLeastModel (count : ℕ) (clauses : List Clause) (marks : List Bool) : Type 0 where
  pub len : length marks ≡ count
  -- what is marked can be derived
  pub sound : (a : ℕ) → slice_index_or marks a false ≡ true → Derives clauses a
  -- what can be derived is marked
  pub complete : (a : ℕ) → Derives clauses a → slice_index_or marks a false ≡ true
