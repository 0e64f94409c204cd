-- The decision tree of a match (Maranget 2008): its nodes, and what makes them good.
use Rattle.std.specs.Prelude.{◌≡◌, ℕ, Bool, List, [], ◌∷◌}
use Rattle.match_model.specs.Values.{MValue, Unseen}
use Rattle.match_model.specs.Select.{Selected}
use Rattle.match_model.specs.Contexts.{Context}
use Rattle.match_model.specs.ArenaPatterns.{MDeMatch}
use Rattle.match_model.specs.ArenaWays.{InMatchDomain}
use Rattle.match_model.specs.Trees.{MNode, VoidNode, Means, IsDefinedOn, IsOnce, IsLive, IsForward}
use Rattle.match_model.specs.Matrices.{MColumn, MRow, first_matrix}
use Rattle.match_model.specs.DecisionTrees.{MTree}
use Rattle.match_model.specs.Numbering.{match_decisions}
use Rattle.match_model.specs.Lowering.{Lowers}
use Rattle.match_model.specs.FewestBranches.{IsFewest}
use Rattle.match_model.specs.SharedTrees.{IsShared, NoneTwice}

-- the nodes of a tree of the match, in which `Chooses` says which place may be looked at next: a lone node where the domain
-- is empty, else the shared nodes of a tree of the first matrix
pub data AreNodesOf {T : Type 0} (cx : Context T) (IsValue : T → Bool → MValue → Type 0)
    (Chooses : List (MColumn T) → List (MRow T) → ℕ → Type 0) (m : MDeMatch T) : List MNode → Type 0 where
  nothing_to_lower : ((v : MValue) → ¬ InMatchDomain IsValue m v) → AreNodesOf cx IsValue Chooses m (VoidNode ∷ [])
  lowered : (v : MValue) (tree : MTree) (nodes : List MNode) → InMatchDomain IsValue m v →
      Lowers cx IsValue (match_decisions m) Chooses ((u : MValue) → InMatchDomain IsValue m u → u ≡ Unseen)
      (first_matrix m).columns (first_matrix m).rows tree →
      IsShared tree nodes → AreNodesOf cx IsValue Chooses m nodes

-- the tree that is printed: a place with the fewest branches is looked at next
abbrev pub IsMatchTree : {T : Type 0} → Context T → (T → Bool → MValue → Type 0) → MDeMatch T → List MNode → Type 0
IsMatchTree cx IsValue m nodes = AreNodesOf cx IsValue (IsFewest cx IsValue) m nodes

-- for each value of the domain the nodes mean what is selected, and are defined on it; no place is looked at twice, no node
-- and no case is dead, each node goes on at greater numbers, and no two nodes are equal
pub record AreGoodNodes (Domain : MValue → Type 0) (select : MValue → List Bool → Selected)
    (nodes : List MNode) : Type 0 where
  pub means : (v : MValue) → Domain v → (answers : List Bool) → Means nodes v answers (select v answers)
  pub defined : (v : MValue) → Domain v → IsDefinedOn nodes v
  pub once : IsOnce Domain nodes
  pub live : IsLive Domain nodes
  pub forward : IsForward nodes
  pub apart : NoneTwice nodes
