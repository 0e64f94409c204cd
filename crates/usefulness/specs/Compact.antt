-- Columns where some row lists a head.
use Rattle.std.specs.Prelude.{◌≡◌, ℕ, Bool, cond, nat_eq, List, [], ◌∷◌, Some}
use Rattle.std.specs.List.{Contains, list_any}
use Rattle.match_model.specs.ArenaPatterns.{MDePat}
use Rattle.match_model.specs.Contexts.{Open}
use Rattle.pattern_matrix.specs.Sparse.{head_at}
use Rattle.usefulness.specs.declared.frames.Frame.{Frame}
use Rattle.usefulness.specs.Frames.{SparseAsked}
use Rattle.usefulness.specs.States.{plain_opens, plain_askeds}

-- one of the heads stands at the column
abbrev pub lists_at : {T : Type 0} → List (ℕ × MDePat T) → ℕ → Bool
lists_at heads c = list_any (λ h. nat_eq h.0 c) heads

-- some row lists a head there
abbrev pub some_lists : {T : Type 0} → List (SparseAsked T) → ℕ → Bool
some_lists xs c = list_any (λ x. lists_at x.row.heads c) xs

-- the open columns whose numbers pass the test
abbrev pub used_of : {T : Type 0} → (f : ℕ → Bool) → List (ℕ × Open T) → List (ℕ × Open T)
used_of f [] = []
used_of f (o ∷ shown) = cond (f o.0) (o ∷ used_of f shown) (used_of f shown)

-- the rows over the columns where one of them lists a head
pub record IsCompact {T : Type 0} (f g : Frame T) : Type 0 where
  pub rows : plain_askeds g.rows.items ≡ plain_askeds f.rows.items
  pub next : g.next ≡ f.next
  pub columns : plain_opens g.columns.items ≡ used_of (some_lists (plain_askeds f.rows.items)) (plain_opens f.columns.items)

-- each column has a head in some row
abbrev pub AreAllUsed : {T : Type 0} → (columns : List ℕ) → List (SparseAsked T) → Type 0
AreAllUsed {T} columns xs = (c : ℕ) → Contains columns c → (x : SparseAsked T) × Contains xs x × ((p : MDePat T) × (head_at x.row.heads c ≡ Some p))
