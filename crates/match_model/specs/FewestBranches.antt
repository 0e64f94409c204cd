-- The place that the printed tree looks at next: one with the fewest branches, the leftmost of these (our own choice, after
-- Maranget 2008, heuristics).
use Rattle.std.specs.Prelude.{◌≡◌, ◌<◌, ◌≤◌, ◌⊎◌, ℕ, ◌+◌, Bool, true, false, List, [], ◌∷◌, drop, slice_get, Some, IsTrue}
use Rattle.match_model.specs.Values.{MValue}
use Rattle.match_model.specs.Constructors.{MCtor}
use Rattle.match_model.specs.Contexts.{Context}
use Rattle.match_model.specs.Pieces.{ArePieces}
use Rattle.match_model.specs.Rows.{starts_wild}
use Rattle.match_model.specs.Matrices.{MColumn, MRow, open_of}
use Rattle.match_model.specs.PieceStates.{HasValue, named_in, is_present}
use Rattle.match_model.specs.DecisionTrees.{IsMissing}
use Rattle.match_model.specs.Steps.{expand_head, rows_at}
use Rattle.match_model.specs.Lowering.{ctors_at, all_wild_at}

-- how many of the last pieces of a column have a value and are in a head; and one more where a piece with a value is missing
pub data AreCases {T : Type 0} (IsValue : T → Bool → MValue → Type 0) (c : MColumn T)
    (heads all : List MCtor) : List MCtor → ℕ → Type 0 where
  nothing_missing : ((p : MCtor) → IsMissing all heads p → ¬ HasValue IsValue (open_of c) (named_in all) p) →
      AreCases IsValue c heads all [] 0
  something_missing : (p : MCtor) → IsMissing all heads p → HasValue IsValue (open_of c) (named_in all) p →
      AreCases IsValue c heads all [] 1
  no_branch_of : (p : MCtor) (rest : List MCtor) (n : ℕ) →
      is_present heads p ≡ false ⊎ ¬ HasValue IsValue (open_of c) (named_in all) p →
      AreCases IsValue c heads all rest n → AreCases IsValue c heads all (p ∷ rest) n
  branch_of : (p : MCtor) (rest : List MCtor) (n : ℕ) → IsTrue (is_present heads p) →
      HasValue IsValue (open_of c) (named_in all) p →
      AreCases IsValue c heads all rest n → AreCases IsValue c heads all (p ∷ rest) (1 + n)

-- how many branches the place of column `i` has, once its or-patterns are expanded: none where no row has a constructor
pub data AreBranches {T : Type 0} (cx : Context T) (IsValue : T → Bool → MValue → Type 0) (i : ℕ) (c : MColumn T)
    (rows : List (MRow T)) : ℕ → Type 0 where
  no_branches : IsTrue (all_wild_at i (rows_at expand_head c.place i rows)) → AreBranches cx IsValue i c rows 0
  as_cases : (pieces : List MCtor) (n : ℕ) → all_wild_at i (rows_at expand_head c.place i rows) ≡ false →
      ArePieces (cx.set_of c.type) (ctors_at i (rows_at expand_head c.place i rows)) pieces →
      AreCases IsValue c (ctors_at i (rows_at expand_head c.place i rows)) pieces pieces n →
      AreBranches cx IsValue i c rows n

-- the first row has another pattern than a wildcard or a name in column `i`
abbrev pub is_asked : {T : Type 0} → (i : ℕ) → List (MRow T) → Bool
is_asked i [] = false
is_asked i (r ∷ rows) = elim (starts_wild (drop i r.heads)) [ true ↦ false | false ↦ true ]

-- of the columns where the first row has another pattern, column `i` has the fewest branches, and is the leftmost such
pub record IsFewest {T : Type 0} (cx : Context T) (IsValue : T → Bool → MValue → Type 0) (columns : List (MColumn T))
    (rows : List (MRow T)) (i : ℕ) : Type 0 where
  pub asked : IsTrue (is_asked i rows)
  pub column : MColumn T
  pub there : slice_get columns i ≡ Some column
  pub count : ℕ
  pub branches : AreBranches cx IsValue i column rows count
  pub fewest : (j : ℕ) (c : MColumn T) (n : ℕ) → slice_get columns j ≡ Some c → IsTrue (is_asked j rows) →
      AreBranches cx IsValue j c rows n → (j < i → count < n) × (count ≤ n)
