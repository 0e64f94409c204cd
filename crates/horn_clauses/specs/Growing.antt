-- Marks that come about one by one.
use Rattle.std.specs.Prelude.{ℕ, Bool, true, false, List, replicate, slice_set}
use Rattle.std.specs.List.{Contains}
use Rattle.horn_clauses.specs.declared.clause.Clause.{Clause}
use Rattle.horn_clauses.specs.Marks.{HoldsThroughout}

-- marks on the atoms below `count`, made one by one: a head is marked only where the whole body was marked before
pub data Grown (count : ℕ) (clauses : List Clause) : (marks : List Bool) → Type 0 where
  none_yet : Grown count clauses (replicate count false)
  one_more : {marks : List Bool} → Grown count clauses marks → (c : Clause) → Contains clauses c →
      HoldsThroughout marks c.body.items → Grown count clauses (slice_set marks c.head true)
