-- A table of nodes in the order in which they are finished, and the trees that they stand for.
use Rattle.std.specs.Prelude.{◌≡◌, ⊤, ◌⊎◌, ℕ, ◌-◌, suc, Bool, true, ◌&&◌, List, [], ◌∷◌, map, length, reverse, nat_lt, slice_get, Option, Some, None, IsTrue}
use Rattle.std.specs.List.{list_all}
use Rattle.std.proofs.Props.{props}
use Rattle.match_model.specs.Trees.{MBind, MBranch, MNode, SwitchNode, AskNode, TakeNode, MissNode, VoidNode, successors}
use Rattle.match_model.specs.DecisionTrees.{MTree, SwitchTree, AskTree, TakeTree, MissTree, VoidTree, MBranches, no_branch, more_branches}
use Rattle.match_model.specs.Lists.{Among, Each}
use Rattle.match_model.specs.SharedTrees.{Walks, WalksAll, case_trees}
use Rattle.match_model.specs.Places.{MStep}
use Rattle.tree_sharing.specs.Table.{IsAt, IsCaseAt, IsBuilt}
use Rattle.tree_eval.specs.declared.tree.Node.{Node}
use Rattle.tree_eval.specs.Nodes.{plain_node}

-- what is there, or else the tree of a miss
abbrev pub or_miss : Option MTree → MTree
or_miss (Some t) = t
or_miss None = MissTree

-- the tree with this index in the order of finishing, of trees of which the last one finished stands first
abbrev pub tree_at : (trees : List MTree) → (index : ℕ) → MTree
tree_at ts i = or_miss (slice_get ts (length ts - suc i))

-- the cases with the trees of their indices
abbrev pub branches_at : (trees : List MTree) → List MBranch → MBranches
branches_at ts [] = no_branch
branches_at ts (b ∷ bs) = more_branches b.case (tree_at ts b.next) (branches_at ts bs)

-- the tree of a node that goes on at trees of these indices
abbrev pub node_tree : (trees : List MTree) → MNode → MTree
node_tree ts (SwitchNode place bs) = SwitchTree place (branches_at ts bs)
node_tree ts (AskNode arm binds next) = AskTree arm binds (tree_at ts next)
node_tree ts (TakeNode arm binds) = TakeTree arm binds
node_tree ts MissNode = MissTree
node_tree ts VoidNode = VoidTree

-- the trees of the nodes, the last one finished first
abbrev pub node_trees : List MNode → List MTree
node_trees [] = []
node_trees (x ∷ xs) = node_tree (node_trees xs) x ∷ node_trees xs

-- each node goes on at indices of nodes that were finished before it
abbrev pub goes_back : List MNode → Bool
goes_back [] = true
goes_back (x ∷ xs) = list_all (λ n. nat_lt n (length xs)) (successors x) && goes_back xs

-- no tree stands twice
abbrev pub NoTreeTwice : List MTree → Type 0
NoTreeTwice [] = ⊤
NoTreeTwice (t ∷ ts) = (¬ Among t ts) × NoTreeTwice ts

-- what a table keeps of its nodes, the last one first
pub record IsWhole (nodes : List MNode) : Type 0 where
  pub back : IsTrue (goes_back nodes)
  pub once : NoTreeTwice (node_trees nodes)

NoTreeTwice-prop : (ts : List MTree) → IsProp (NoTreeTwice ts)
NoTreeTwice-prop [] = Prim.hlevel props
NoTreeTwice-prop (t ∷ ts) = Prim.hlevel (props, NoTreeTwice-prop ts)

-- it has at most one proof
pub IsWhole-prop : (nodes : List MNode) → IsProp (IsWhole nodes)
IsWhole-prop nodes x y =
    let back_prop : IsProp (IsTrue (goes_back nodes)) = hlevel props in
    λ i. record {
      back = back_prop x.back y.back i;
      once = NoTreeTwice-prop (node_trees nodes) x.once y.once i;
    }

-- the nodes of a table, the last one finished first
abbrev pub finished_nodes : List Node → List MNode
finished_nodes keys = reverse (map plain_node keys)

-- the node goes on at indices below the count
abbrev pub GoesBelow : (count : ℕ) → MNode → Type 0
GoesBelow n x = IsTrue (list_all (λ k. nat_lt k n) (successors x))

-- the indices of the cases are below the count
abbrev pub AreBelow : (count : ℕ) → List MBranch → Type 0
AreBelow n bs = IsTrue (list_all (λ b. nat_lt b.next n) bs)

-- the trees of a table after one was put, which has this index: it is added in front where it is none of them
pub record IsPutTree (old : List MTree) (t : MTree) (index : ℕ) (new : List MTree) : Type 0 where
  pub grows : (Among t old × (new ≡ old)) ⊎ ((¬ Among t old) × (new ≡ t ∷ old))
  pub at : IsAt new index t

-- the tree was come to by a walk, and has this index
pub record IsFinished (done : List MTree) (t : MTree) (index : ℕ) (new : List MTree) : Type 0 where
  pub walk : Walks done t new
  pub at : IsAt new index t

-- where a walk has gone through the trees of the cases, which have these numbers, it has now finished the switch
abbrev pub FinishesSwitch : (old : List MTree) → List MStep → List MBranch → (index : ℕ) → (new : List MTree) → Type 0
FinishesSwitch old place bs index new =
    (done : List MTree) (branches : MBranches) → IsBuilt done → WalksAll done branches old →
    Each (IsCaseAt old) (case_trees branches) bs → IsFinished done (SwitchTree place branches) index new

-- where a walk has come to the tree with this number, it has now finished the guard that goes on there
abbrev pub FinishesAsk : (old : List MTree) → (arm : ℕ) → List MBind → (refused : ℕ) → (index : ℕ) →
    (new : List MTree) → Type 0
FinishesAsk old arm binds refused index new =
    (done : List MTree) (t : MTree) → IsBuilt done → Walks done t old → IsAt old refused t →
    IsFinished done (AskTree arm binds t) index new
