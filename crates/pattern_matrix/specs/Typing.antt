-- Leaves and listed rows that are well typed.
use Rattle.std.specs.Prelude.{◌≡◌, ℕ, false, List, [], ◌∷◌}
use Rattle.std.specs.List.{All}
use Rattle.match_model.specs.Contexts.{Context, Open}
use Rattle.match_model.specs.Rows.{starts_or}
use Rattle.match_model.specs.WellTyped.{IsHeadTyped}
use Rattle.pattern_matrix.specs.HeadRows.{cols, all_heads, AllTyped}
use Rattle.pattern_matrix.specs.Sparse.{SparseRow, SparseLeaf, row_views}

-- the leaf's head is a wildcard, or well typed for the type and no or-pattern
pub record IsLeafTyped {T : Type 0} (cx : Context T) (t : T) (l : SparseLeaf T) : Type 0 where
  pub head : IsHeadTyped cx t l.head
  pub not_or : starts_or (l.head ∷ []) ≡ false

-- so are all of them
abbrev pub AreLeavesTyped : {T : Type 0} → Context T → T → List (SparseLeaf T) → Type 0
AreLeavesTyped cx t leaves = All (IsLeafTyped cx t) leaves

-- over these columns, which are at these places, the rows have well-typed heads
abbrev pub AreViewsTyped : {T : Type 0} → Context T → List (Open T) → (columns : List ℕ) → List (SparseRow T) → Type 0
AreViewsTyped cx places columns rows = AllTyped cx (cols places) (all_heads (row_views columns rows))
