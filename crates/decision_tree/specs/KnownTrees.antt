-- Submatrices whose trees are finished, with the indices of these (our own choice).
use Rattle.std.specs.Prelude.{◌≡◌, ℕ, Bool, List}
use Rattle.match_model.specs.Values.{MValue}
use Rattle.match_model.specs.ArenaPatterns.{MDeMatch}
use Rattle.match_model.specs.Contexts.{Context}
use Rattle.match_model.specs.DecisionTrees.{MTree}
use Rattle.match_model.specs.FewestBranches.{IsFewest}
use Rattle.match_model.specs.Keys.{Decision}
use Rattle.match_model.specs.Lists.{Every}
use Rattle.match_model.specs.Lowering.{Lowers}
use Rattle.match_model.specs.Matrices.{MColumn, MRow}
use Rattle.tree_sharing.specs.Table.{IsAt}
use Rattle.decision_tree.specs.Known.{IsInScope, MKnownMatrix, known_matrix}

-- a submatrix of the match is told, and its tree is finished and has this index
pub record IsKnown {T : Type 0} (cx : Context T) (V : T → Bool → MValue → Type 0) (decides : ℕ → Decision)
    (BareOnly : Type 0) (m : MDeMatch T) (now : List MTree) (told : MKnownMatrix) (index : ℕ) : Type 0 where
  pub columns : List (MColumn T)
  pub rows : List (MRow T)
  pub scope : IsInScope cx m columns rows
  pub tells : told ≡ known_matrix columns rows
  pub tree : MTree
  pub makes : Lowers cx V decides (IsFewest cx V) BareOnly columns rows tree
  pub at : IsAt now index tree

-- so it is of each entry
abbrev pub AreKnown : {T : Type 0} → Context T → (T → Bool → MValue → Type 0) → (ℕ → Decision) → (BareOnly : Type 0) →
    MDeMatch T → (now : List MTree) → List (MKnownMatrix × ℕ) → Type 0
AreKnown cx V decides BareOnly m now entries =
    Every (λ (e : MKnownMatrix × ℕ). IsKnown cx V decides BareOnly m now e.0 e.1) entries

-- each tree keeps its index
abbrev pub Keeps : (old now : List MTree) → Type 0
Keeps old now = (i : ℕ) (t : MTree) → IsAt old i t → IsAt now i t
