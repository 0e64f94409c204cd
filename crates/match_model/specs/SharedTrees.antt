-- A tree whose equal subtrees are one node, and how its nodes are numbered (our own choice, after the maximal sharing of
-- Maranget 2008).
use Rattle.std.specs.Prelude.{◌≡◌, ℕ, List, [], ◌∷◌, slice_get, Some}
use Rattle.match_model.specs.Places.{MStep}
use Rattle.match_model.specs.Trees.{MCase, MBind, MBranch, MNode, SwitchNode, AskNode, TakeNode, MissNode, VoidNode}
use Rattle.match_model.specs.DecisionTrees.{MTree, SwitchTree, AskTree, TakeTree, MissTree, VoidTree, MBranches, no_branch, more_branches}
use Rattle.match_model.specs.Lists.{Among, Each}

-- a case and its tree
pub record CaseTree : Type 0 where
  pub case : MCase
  pub tree : MTree

-- the cases of a switch as a list
abbrev pub case_trees : MBranches → List CaseTree
case_trees no_branch = []
case_trees (more_branches c t rest) = record { case = c; tree = t } ∷ case_trees rest

mutual
  -- a walk that has finished the trees `done`, the last one first, comes to a tree, and then has finished these: it enters
  -- no tree twice, goes through all that a tree goes on with before it finishes it, and through the cases of a switch from
  -- the last to the first
  pub data Walks : (done : List MTree) → MTree → (finished : List MTree) → Type 0 where
    known : (done : List MTree) (t : MTree) → Among t done → Walks done t done
    to_take : (done : List MTree) (arm : ℕ) (binds : List MBind) → ¬ Among (TakeTree arm binds) done →
        Walks done (TakeTree arm binds) (TakeTree arm binds ∷ done)
    to_miss : (done : List MTree) → ¬ Among MissTree done → Walks done MissTree (MissTree ∷ done)
    to_void : (done : List MTree) → ¬ Among VoidTree done → Walks done VoidTree (VoidTree ∷ done)
    to_ask : (done then : List MTree) (arm : ℕ) (binds : List MBind) (t : MTree) →
        ¬ Among (AskTree arm binds t) done →
        Walks done t then → Walks done (AskTree arm binds t) (AskTree arm binds t ∷ then)
    to_switch : (done then : List MTree) (place : List MStep) (branches : MBranches) →
        ¬ Among (SwitchTree place branches) done →
        WalksAll done branches then → Walks done (SwitchTree place branches) (SwitchTree place branches ∷ then)

  -- the walk goes through the trees of the cases, the last first
  pub data WalksAll : (done : List MTree) → MBranches → (finished : List MTree) → Type 0 where
    nothing : (done : List MTree) → WalksAll done no_branch done
    last_first : (done then after : List MTree) (c : MCase) (t : MTree) (rest : MBranches) →
        WalksAll done rest then → Walks then t after → WalksAll done (more_branches c t rest) after

-- the branch goes on at the number of the case's tree
abbrev pub IsBranchOf : (trees : List MTree) → CaseTree → MBranch → Type 0
IsBranchOf trees a b = (b.case ≡ a.case) × (slice_get trees b.next ≡ Some a.tree)

-- the node stands for the tree, where trees have these numbers
pub data IsNodeOf (trees : List MTree) : MTree → MNode → Type 0 where
  switch_of : (place : List MStep) (branches : MBranches) (bs : List MBranch) →
      Each (IsBranchOf trees) (case_trees branches) bs → IsNodeOf trees (SwitchTree place branches)
      (SwitchNode place bs)
  ask_of : (arm : ℕ) (binds : List MBind) (t : MTree) (n : ℕ) →
      slice_get trees n ≡ Some t → IsNodeOf trees (AskTree arm binds t) (AskNode arm binds n)
  take_of : (arm : ℕ) (binds : List MBind) → IsNodeOf trees (TakeTree arm binds) (TakeNode arm binds)
  miss_of : IsNodeOf trees MissTree MissNode
  void_of : IsNodeOf trees VoidTree VoidNode

-- the nodes of the tree, each once, by a walk from the root: the one that it finishes last is 0, that before it 1, and so on
pub record IsShared (t : MTree) (nodes : List MNode) : Type 0 where
  pub trees : List MTree
  pub walk : Walks [] t trees
  pub are : Each (IsNodeOf trees) trees nodes

-- no two nodes are equal
abbrev pub NoneTwice : List MNode → Type 0
NoneTwice nodes = (i j : ℕ) (x : MNode) → slice_get nodes i ≡ Some x → slice_get nodes j ≡ Some x → i ≡ j
