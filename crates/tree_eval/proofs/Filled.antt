-- A table of nodes stands for its trees.
use Rattle.std.proofs.Common.{◌≡◌, ◌<◌, ℕ, zero, suc, ◌+◌, ◌-◌, true, ◌&&◌, List, [], ◌∷◌, map, length, nat_lt, slice_get, Some, IsTrue, refl, sym, ap, ◌∙◌, arith, subst}
use Rattle.std.specs.List.{list_all}
use Rattle.std.proofs.lemmas.Bool.Decides.{nat_tests}
use Rattle.match_model.specs.Trees.{MBranch, MNode, SwitchNode, AskNode, TakeNode, MissNode, VoidNode, successors}
use Rattle.match_model.specs.DecisionTrees.{MTree, SwitchTree, AskTree, MBranches, no_branch, more_branches}
use Rattle.match_model.specs.Lists.{Each}
use Rattle.match_model.specs.SharedTrees.{case_trees}
use Rattle.tree_sharing.specs.Table.{IsAt, IsCaseAt, IsRawOf, raw_switch, raw_ask, raw_take, raw_miss, raw_void, IsTable}
use Rattle.tree_eval.proofs.Pointwise.{both, and_true}
use Rattle.tree_eval.specs.Tables.{or_miss, tree_at, branches_at, node_tree, node_trees, goes_back, AreBelow, GoesBelow}

pub below : (i n : ℕ) → IsTrue (nat_lt i n) → i < n
below i n h = grind (arith, nat_tests)

pub is-below : (i n : ℕ) → i < n → IsTrue (nat_lt i n)
is-below i n h = grind (arith, nat_tests)

pub length-trees : (xs : List MNode) → length (node_trees xs) ≡ length xs
length-trees [] = refl
length-trees (x ∷ xs) = ap suc (length-trees xs)

-- an index and its tree
pub at-tree : (ts : List MTree) (i : ℕ) (t : MTree) → IsAt ts i t → tree_at ts i ≡ t
at-tree ts i t a =
    let c : a.later + suc i ≡ length ts = a.count in
    let e : length ts - suc i ≡ a.later = omega (arith, c) in
    ap (λ k. or_miss (slice_get ts k)) e ∙ ap or_miss a.there

some-there : (ts : List MTree) (k : ℕ) → k < length ts → slice_get ts k ≡ Some (or_miss (slice_get ts k))
some-there [] k h = absurd (omega (arith, h))
some-there (t ∷ ts) zero h = refl
some-there (t ∷ ts) (suc k) h = some-there ts k (omega (arith, h))

pub tree-is-at : (ts : List MTree) (i : ℕ) → i < length ts → IsAt ts i (tree_at ts i)
tree-is-at ts i h = record {
  later = length ts - suc i;
  count = omega (arith, h);
  there = some-there ts (length ts - suc i) (omega (arith, h));
}

-- the cases of these numbers
pub cases-at : (ts : List MTree) (l : MBranches) (bs : List MBranch) → Each (IsCaseAt ts) (case_trees l) bs →
    branches_at ts bs ≡ l
cases-at ts no_branch [] e = refl
cases-at ts no_branch (b ∷ bs) e = elim e [ ]
cases-at ts (more_branches c t rest) [] e = elim e [ ]
cases-at ts (more_branches c t rest) (b ∷ bs) e =
    rw (e.0.0, at-tree ts b.next t e.0.1, cases-at ts rest bs e.1) refl

cases-are-at : (ts : List MTree) (bs : List MBranch) → AreBelow (length ts) bs →
    Each (IsCaseAt ts) (case_trees (branches_at ts bs)) bs
cases-are-at ts [] h = tt
cases-are-at ts (b ∷ bs) h =
    let k = both (nat_lt b.next (length ts)) (list_all (λ d. nat_lt d.next (length ts)) bs) h in
    ((refl, tree-is-at ts b.next (below b.next (length ts) k.0)), cases-are-at ts bs k.1)

-- a node stands for one tree
pub raw-is : (ts : List MTree) (t : MTree) (x : MNode) → IsRawOf ts t x → node_tree ts x ≡ t
raw-is ts _ _ (raw_switch place branches bs e) = ap (SwitchTree place) (cases-at ts branches bs e)
raw-is ts _ _ (raw_ask arm binds t n a) = ap (AskTree arm binds) (at-tree ts n t a)
raw-is ts _ _ (raw_take arm binds) = refl
raw-is ts _ _ raw_miss = refl
raw-is ts _ _ raw_void = refl

pub branches-below : (n : ℕ) (bs : List MBranch) → IsTrue (list_all (λ k. nat_lt k n) (map (λ b. b.next) bs)) → AreBelow n bs
branches-below n [] h = refl
branches-below n (b ∷ bs) h =
    let k = both (nat_lt b.next n) (list_all (λ k. nat_lt k n) (map (λ b. b.next) bs)) h in
    and_true (nat_lt b.next n) (list_all (λ d. nat_lt d.next n) bs) k.0 (branches-below n bs k.1)

pub below-branches : (n : ℕ) (bs : List MBranch) → AreBelow n bs → IsTrue (list_all (λ k. nat_lt k n) (map (λ b. b.next) bs))
below-branches n [] h = refl
below-branches n (b ∷ bs) h =
    let k = both (nat_lt b.next n) (list_all (λ d. nat_lt d.next n) bs) h in
    and_true (nat_lt b.next n) (list_all (λ k. nat_lt k n) (map (λ b. b.next) bs)) k.0 (below-branches n bs k.1)

pub node-raw : (ts : List MTree) (x : MNode) → GoesBelow (length ts) x → IsRawOf ts (node_tree ts x) x
node-raw ts (SwitchNode place bs) h =
    raw_switch place (branches_at ts bs) bs (cases-are-at ts bs (branches-below (length ts) bs h))
node-raw ts (AskNode arm binds next) h =
    raw_ask arm binds (tree_at ts next) next
    (tree-is-at ts next (below next (length ts) (both (nat_lt next (length ts)) true h).0))
node-raw ts (TakeNode arm binds) h = raw_take arm binds
node-raw ts MissNode h = raw_miss
node-raw ts VoidNode h = raw_void

-- the table stands for its trees, and for no others
pub is-table : (xs : List MNode) → IsTrue (goes_back xs) → IsTable (node_trees xs) xs
is-table [] h = tt
is-table (x ∷ xs) h =
    let k = both (list_all (λ n. nat_lt n (length xs)) (successors x)) (goes_back xs) h in
    (node-raw (node_trees xs) x (subst (λ n. GoesBelow n x) (sym (length-trees xs)) k.0), is-table xs k.1)

pub table-trees : (ts : List MTree) (xs : List MNode) → IsTable ts xs → node_trees xs ≡ ts
table-trees [] [] b = refl
table-trees [] (x ∷ xs) b = elim b [ ]
table-trees (t ∷ ts) [] b = elim b [ ]
table-trees (t ∷ ts) (x ∷ xs) b =
    let e : node_trees xs ≡ ts = table-trees ts xs b.1 in
    ap (λ l. node_tree l x ∷ l) e ∙ ap (λ u. u ∷ ts) (raw-is ts t x b.0)

-- more trees leave what a node stands for
tree-more : (ts : List MTree) (t : MTree) (i : ℕ) → i < length ts → tree_at (t ∷ ts) i ≡ tree_at ts i
tree-more ts t i h =
    let e : suc (length ts) - suc i ≡ suc (length ts - suc i) = omega (arith, h) in
    ap (λ k. or_miss (slice_get (t ∷ ts) k)) e

branches-more : (ts : List MTree) (t : MTree) (bs : List MBranch) → AreBelow (length ts) bs →
    branches_at (t ∷ ts) bs ≡ branches_at ts bs
branches-more ts t [] h = refl
branches-more ts t (b ∷ bs) h =
    let k = both (nat_lt b.next (length ts)) (list_all (λ d. nat_lt d.next (length ts)) bs) h in
    rw (tree-more ts t b.next (below b.next (length ts) k.0), branches-more ts t bs k.1) refl

pub node-more : (ts : List MTree) (t : MTree) (x : MNode) → GoesBelow (length ts) x → node_tree (t ∷ ts) x ≡ node_tree ts x
node-more ts t (SwitchNode place bs) h = ap (SwitchTree place) (branches-more ts t bs (branches-below (length ts) bs h))
node-more ts t (AskNode arm binds next) h =
    ap (AskTree arm binds) (tree-more ts t next (below next (length ts) (both (nat_lt next (length ts)) true h).0))
node-more ts t (TakeNode arm binds) h = refl
node-more ts t MissNode h = refl
node-more ts t VoidNode h = refl

pub goes-wider : (n : ℕ) (l : List ℕ) → IsTrue (list_all (λ k. nat_lt k n) l) → IsTrue (list_all (λ k. nat_lt k (suc n)) l)
goes-wider n [] h = refl
goes-wider n (i ∷ l) h =
    let k = both (nat_lt i n) (list_all (λ k. nat_lt k n) l) h in
    let b : i < n = below i n k.0 in
    and_true (nat_lt i (suc n)) (list_all (λ k. nat_lt k (suc n)) l) (is-below i (suc n) (omega (arith, b))) (goes-wider n l k.1)

pub node-goes : (xs : List MNode) (k : ℕ) (x : MNode) → IsTrue (goes_back xs) → slice_get xs k ≡ Some x → GoesBelow (length xs) x
node-goes [] k x h e = cc
node-goes (y ∷ xs) zero x h e =
    let k = both (list_all (λ n. nat_lt n (length xs)) (successors y)) (goes_back xs) h in
    let s : y ≡ x = cc in
    subst (GoesBelow (suc (length xs))) s (goes-wider (length xs) (successors y) k.0)
node-goes (y ∷ xs) (suc k) x h e =
    let b = both (list_all (λ n. nat_lt n (length xs)) (successors y)) (goes_back xs) h in
    goes-wider (length xs) (successors x) (node-goes xs k x b.1 e)

pub node-at : (xs : List MNode) (k : ℕ) (x : MNode) → IsTrue (goes_back xs) → slice_get xs k ≡ Some x →
    slice_get (node_trees xs) k ≡ Some (node_tree (node_trees xs) x)
node-at [] k x h e = cc
node-at (y ∷ xs) zero x h e =
    let b = both (list_all (λ n. nat_lt n (length xs)) (successors y)) (goes_back xs) h in
    let s : y ≡ x = cc in
    ap Some (ap (node_tree (node_trees xs)) s
    ∙ sym (node-more (node_trees xs) (node_tree (node_trees xs) y) x
    (subst (λ n. GoesBelow n x) (sym (length-trees xs)) (subst (GoesBelow (length xs)) s b.0))))
node-at (y ∷ xs) (suc k) x h e =
    let b = both (list_all (λ n. nat_lt n (length xs)) (successors y)) (goes_back xs) h in
    node-at xs k x b.1 e
    ∙ ap Some (sym (node-more (node_trees xs) (node_tree (node_trees xs) y) x
    (subst (λ n. GoesBelow n x) (sym (length-trees xs)) (node-goes xs k x b.1 e))))

-- two cases
pub two-below : (n : ℕ) (a b : MBranch) → a.next < n → b.next < n → AreBelow n (a ∷ b ∷ [])
two-below n a b h k =
    and_true (nat_lt a.next n) (nat_lt b.next n && true) (is-below a.next n h)
    (and_true (nat_lt b.next n) true (is-below b.next n k) refl)
