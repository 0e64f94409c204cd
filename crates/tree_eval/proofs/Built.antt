-- The trees of a table go on with those that were finished before them.
use Rattle.std.proofs.Common.{◌<◌, ℕ, true, List, [], ◌∷◌, length, nat_lt, IsTrue, sym, subst}
use Rattle.std.specs.List.{list_all}
use Rattle.match_model.specs.Trees.{MBranch, MNode, SwitchNode, AskNode, TakeNode, MissNode, VoidNode, successors}
use Rattle.match_model.specs.DecisionTrees.{MTree}
use Rattle.match_model.specs.SharedTrees.{case_trees}
use Rattle.match_model.specs.Lists.{Among}
use Rattle.tree_sharing.specs.Table.{AllAmong, ChildrenAmong, IsBuilt}
use Rattle.tree_sharing.proofs.Sharing.{at-among}
use Rattle.tree_eval.specs.Tables.{tree_at, branches_at, node_tree, node_trees, goes_back, GoesBelow, AreBelow}
use Rattle.tree_eval.proofs.Pointwise.{both}
use Rattle.tree_eval.proofs.Filled.{below, tree-is-at, branches-below, length-trees}

there : (ts : List MTree) (i : ℕ) → i < length ts → Among (tree_at ts i) ts
there ts i h = let a = tree-is-at ts i h in at-among ts (tree_at ts i) a.later a.there

cases-there : (ts : List MTree) (bs : List MBranch) → AreBelow (length ts) bs →
    AllAmong (case_trees (branches_at ts bs)) ts
cases-there ts [] h = tt
cases-there ts (b ∷ bs) h =
    let k = both (nat_lt b.next (length ts)) (list_all (λ d. nat_lt d.next (length ts)) bs) h in
    (there ts b.next (below b.next (length ts) k.0), cases-there ts bs k.1)

children-there : (ts : List MTree) (x : MNode) → GoesBelow (length ts) x → ChildrenAmong (node_tree ts x) ts
children-there ts (SwitchNode place bs) h = cases-there ts bs (branches-below (length ts) bs h)
children-there ts (AskNode arm binds next) h =
    there ts next (below next (length ts) (both (nat_lt next (length ts)) true h).0)
children-there ts (TakeNode arm binds) h = tt
children-there ts MissNode h = tt
children-there ts VoidNode h = tt

pub built : (xs : List MNode) → IsTrue (goes_back xs) → IsBuilt (node_trees xs)
built [] h = tt
built (x ∷ xs) h =
    let k = both (list_all (λ n. nat_lt n (length xs)) (successors x)) (goes_back xs) h in
    (children-there (node_trees xs) x (subst (λ n. GoesBelow n x) (sym (length-trees xs)) k.0), built xs k.1)
