-- What follows from the definition of a derivation.
use Rattle.std.specs.Prelude.{◌≡◌, ℕ, Bool, List, IsTrue}
use Rattle.std.specs.List.{All, Contains}
use Rattle.horn_clauses.specs.declared.clause.Clause.{Clause}
use Rattle.horn_clauses.specs.Derivations.{Derives, IsLeastModel}
use Rattle.horn_clauses.specs.Growing.{Grown}
use Rattle.horn_clauses.specs.Marks.{IsWithin}

-- where each atom of a clause's body can be derived, so can its head
abbrev pub ModelIsClosed : Type 0
ModelIsClosed =
    (clauses : List Clause) (c : Clause) → Contains clauses c → All (Derives clauses) c.body.items → Derives clauses c.head

-- the set of atoms has the head of each clause whose body it has
abbrev pub IsClosedSet : List Clause → (holds : ℕ → Bool) → Type 0
IsClosedSet clauses holds = All (λ c. All (λ a. IsTrue (holds a)) c.body.items → IsTrue (holds c.head)) clauses

-- each set that is closed under the clauses has what can be derived
abbrev pub ModelIsLeast : Type 0
ModelIsLeast =
    (clauses : List Clause) (holds : ℕ → Bool) → IsClosedSet clauses holds →
    (a : ℕ) → Derives clauses a → IsTrue (holds a)

-- clauses determine the marks
abbrev pub ModelIsOne : Type 0
ModelIsOne =
    (count : ℕ) (clauses : List Clause) (marks others : List Bool) →
    IsLeastModel count clauses marks → IsLeastModel count clauses others → marks ≡ others

-- the marks of the least model come about one by one
abbrev pub ModelIsGrown : Type 0
ModelIsGrown =
    (count : ℕ) (clauses : List Clause) (marks : List Bool) →
    All (IsWithin count) clauses → IsLeastModel count clauses marks → Grown count clauses marks
