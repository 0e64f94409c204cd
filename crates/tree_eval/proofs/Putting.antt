-- A node that is put into a table.
use Rattle.std.proofs.Common.{◌≡◌, ◌<◌, ◌≤◌, ◌⊎◌, inl, inr, ℕ, zero, suc, ◌+◌, ◌-◌, Result, Ok, Err, IfOk, OnErr, Bool, true, false, ◌||◌, List, [], ◌∷◌, ◌++◌, map, length, reverse, nat_lt, slice_get, get_or, Some, IsTrue, refl, sym, ap, ◌∙◌, arith, subst, if◌then◌else◌}
use Rattle.std.specs.List.{list_any, list_all}
use Rattle.std.proofs.lemmas.List.{map-append, reverse-append, reverse-reverse, length-reverse, get_or-reverse}
use Rattle.std.proofs.lemmas.Option.{slice_get_within, slice_get-get_or, get_or_from_slice_get, slice_get-map}
use Rattle.indexmap.specs.IndexSet.{insert_key}
use Rattle.match_model.specs.Trees.{MNode, successors}
use Rattle.match_model.specs.DecisionTrees.{MTree}
use Rattle.match_model.specs.Lists.{Among}
use Rattle.tree_sharing.specs.Table.{IsPutNode, was_there, is_added}
use Rattle.tree_sharing.proofs.Sharing.{Distinct}
use Rattle.tree_sharing.proofs.Tables.{put-tree}
use Rattle.tree_eval.specs.declared.tree.Node.{Node}
use Rattle.tree_eval.specs.contracts.tree.NodePartialEq.TheImpl as node_eq
use Rattle.tree_eval.specs.Nodes.{plain_node}
use Rattle.tree_eval.specs.Tables.{node_tree, node_trees, goes_back, NoTreeTwice, IsWhole, finished_nodes, IsPutTree, GoesBelow}
use Rattle.tree_eval.proofs.Pointwise.{and_true}
use Rattle.tree_eval.proofs.SameNodes.{same_node}
use Rattle.tree_eval.proofs.EqualNodes.{equal_node}
use Rattle.tree_eval.proofs.Filled.{length-trees, node-raw, is-table, table-trees, node-more, node-at}

either : (a b : Bool) → (a || b) ≡ true → (a ≡ true) ⊎ (b ≡ true)
either true b h = inl refl
either false b h = inr h

neither : (a b : Bool) → (a || b) ≡ false → (a ≡ false) × (b ≡ false)
neither true b h = cc
neither false b h = (refl, h)

clash : (b : Bool) → b ≡ true → b ≡ false → ⊥
clash b p q = cc

-- from the other end
pub get-reverse : {A : Type 0} (xs : List A) (i : ℕ) (x : A) → slice_get xs i ≡ Some x →
    slice_get (reverse xs) (length xs - suc i) ≡ Some x
get-reverse xs i x e =
    let within : i < length xs = slice_get_within xs i x e in
    let long : length (reverse xs) ≡ length xs = length-reverse xs in
    let k : length xs - suc i < length (reverse xs) = omega (arith, within, long) in
    let j : length xs - suc i < length xs = omega (arith, within) in
    let back : length xs - 1 - (length xs - suc i) ≡ i = omega (arith, within) in
    slice_get-get_or (reverse xs) (length xs - suc i) x k
    ∙ ap Some (get_or-reverse xs (length xs - suc i) x j ∙ ap (λ m. get_or xs m x) back ∙ get_or_from_slice_get xs i x x e)

found : (ks : List Node) (k : Node) → list_any (λ x. node_eq.ghosts.eq k x) ks ≡ true →
    (i : ℕ) × (slice_get (map plain_node ks) i ≡ Some (plain_node k))
found [] k h = cc
found (x ∷ ks) k h = elim (either (node_eq.ghosts.eq k x) (list_any (λ y. node_eq.ghosts.eq k y) ks) h) [
  | inl e ↦ (zero, ap Some (sym (same_node k x e)))
  | inr e ↦ let r = found ks k e in (suc r.0, r.1)
]

not_found : (ks : List Node) (k : Node) → list_any (λ x. node_eq.ghosts.eq k x) ks ≡ false →
    (i : ℕ) → ¬ (slice_get (map plain_node ks) i ≡ Some (plain_node k))
not_found [] k h i e = cc
not_found (x ∷ ks) k h zero e =
    let n = neither (node_eq.ghosts.eq k x) (list_any (λ y. node_eq.ghosts.eq k y) ks) h in
    let s : plain_node k ≡ plain_node x = cc in
    clash (node_eq.ghosts.eq k x) (equal_node k x s) n.0
not_found (x ∷ ks) k h (suc i) e =
    not_found ks k (neither (node_eq.ghosts.eq k x) (list_any (λ y. node_eq.ghosts.eq k y) ks) h).1 i e

-- the keys of a set grow by the node, where it is new
pub keys-put : (old : List Node) (k : Node) (new : List Node) → new ≡ insert_key (λ x y. node_eq.ghosts.eq x y) old k →
    IsPutNode (finished_nodes old) (plain_node k) (finished_nodes new)
keys-put old k new e = go (list_any (λ x. node_eq.ghosts.eq k x) old) refl e
  where
    xs : List MNode
    xs = map plain_node old

    go : (b : Bool) → list_any (λ x. node_eq.ghosts.eq k x) old ≡ b → new ≡ (if b then old else old ++ k ∷ []) →
        IsPutNode (finished_nodes old) (plain_node k) (finished_nodes new)
    go true h f =
        let r = found old k h in
        subst (λ l. IsPutNode (finished_nodes old) (plain_node k) (finished_nodes l)) (sym f)
        (was_there (length (map plain_node old) - suc r.0, get-reverse (map plain_node old) r.0 (plain_node k) r.1))
    go false h f =
        let grown : finished_nodes new ≡ plain_node k ∷ finished_nodes old =
        ap finished_nodes f
        ∙ ap reverse (map-append plain_node old (k ∷ []))
        ∙ reverse-append (map plain_node old) (plain_node k ∷ []) in
        subst (IsPutNode (finished_nodes old) (plain_node k)) (sym grown) (is_added absent)
      where
        absent : (i : ℕ) → ¬ (slice_get (reverse (map plain_node old)) i ≡ Some (plain_node k))
        absent i a =
            let b = get-reverse (reverse (map plain_node old)) i (plain_node k) a in
            not_found old k h (length (reverse (map plain_node old)) - suc i)
            (subst (λ l. slice_get l (length (reverse (map plain_node old)) - suc i) ≡ Some (plain_node k))
            (reverse-reverse (map plain_node old)) b)

-- its index, counted from the last node
pub key-at : (new : List Node) (k l : Node) (i : ℕ) → slice_get new i ≡ Some l → node_eq.ghosts.eq k l ≡ true →
    (slice_get (finished_nodes new) (length (finished_nodes new) - suc i) ≡ Some (plain_node k)) ×
    (i < length (finished_nodes new))
key-at new k l i e h =
    let p : slice_get (map plain_node new) i ≡ Some (plain_node k) =
    rw (slice_get-map plain_node new i, e) (ap Some (sym (same_node k l h))) in
    let long : length (finished_nodes new) ≡ length (map plain_node new) = length-reverse (map plain_node new) in
    let within : i < length (map plain_node new) = slice_get_within (map plain_node new) i (plain_node k) p in (
      subst (λ n. slice_get (finished_nodes new) (n - suc i) ≡ Some (plain_node k)) (sym long)
          (get-reverse (map plain_node new) i (plain_node k) p),
      subst (λ n. i < n) (sym long) within,
    )

distinct : (ts : List MTree) → NoTreeTwice ts → Distinct ts
distinct [] d = tt
distinct (t ∷ ts) d = (d.0, distinct ts d.1)

still-back : (old : List MNode) (x : MNode) (new : List MNode) → IsTrue (goes_back old) →
    GoesBelow (length (node_trees old)) x → IsPutNode old x new → IsTrue (goes_back new)
still-back old x _ b g (was_there i) = b
still-back old x _ b g (is_added n) =
    and_true (list_all (λ k. nat_lt k (length old)) (successors x)) (goes_back old)
    (subst (λ k. GoesBelow k x) (length-trees old) g) b

-- how the trees grow
abbrev Grows : List MTree → MTree → List MTree → Type 0
Grows old t new = (Among t old × (new ≡ old)) ⊎ ((¬ Among t old) × (new ≡ t ∷ old))

grown-to : (old : List MTree) (t : MTree) (trees new : List MTree) → new ≡ trees → Grows old t trees → Grows old t new
grown-to old t trees new e (inl g) = inl (g.0, e ∙ g.1)
grown-to old t trees new e (inr g) = inr (g.0, e ∙ g.1)

still-once : (old : List MTree) (t : MTree) (new : List MTree) → NoTreeTwice old → Grows old t new → NoTreeTwice new
still-once old t new d (inl g) = subst NoTreeTwice (sym g.1) d
still-once old t new d (inr g) = subst NoTreeTwice (sym g.1) (g.0, d)

same-tree : (old : List MTree) (x : MNode) (new : List MTree) → GoesBelow (length old) x →
    Grows old (node_tree old x) new → node_tree new x ≡ node_tree old x
same-tree old x new h (inl g) = ap (λ l. node_tree l x) g.1
same-tree old x new h (inr g) = ap (λ l. node_tree l x) g.1 ∙ node-more old (node_tree old x) x h

-- a node whose successors are there is put
pub put-node : (old : List MNode) (x : MNode) (i : ℕ) (new : List MNode) → IsWhole old →
    GoesBelow (length (node_trees old)) x → IsPutNode old x new → slice_get new (length new - suc i) ≡ Some x →
    i < length new → IsWhole new × IsPutTree (node_trees old) (node_tree (node_trees old) x) i (node_trees new)
put-node old x i new w h p there within =
    let put = put-tree (node_trees old) old (node_tree (node_trees old) x) x new (distinct (node_trees old) w.once)
    (is-table old w.back) (node-raw (node_trees old) x h) p in
    let g : Grows (node_trees old) (node_tree (node_trees old) x) (node_trees new) =
    grown-to (node_trees old) (node_tree (node_trees old) x) put.trees (node_trees new)
    (table-trees put.trees new put.table) put.grows in
    let back : IsTrue (goes_back new) = still-back old x new w.back h p in
    let long : length (node_trees new) ≡ length new = length-trees new in (
      record {
        back = back;
        once = still-once (node_trees old) (node_tree (node_trees old) x) (node_trees new) w.once g;
      },
      record {
        grows = g;
        at = record {
          later = length new - suc i;
          count = omega (arith, within, long);
          there = node-at new (length new - suc i) x back there
              ∙ ap Some (same-tree (node_trees old) x (node_trees new) h g);
        };
      },
    )

-- what a table keeps after an insertion, whether it was done or not
pub whole-after : {E : Type 0} (old new : List Node) (k : Node) (r : Result (ℕ × Bool) E) →
    IsWhole (finished_nodes old) → GoesBelow (length (node_trees (finished_nodes old))) (plain_node k) →
    IfOk r (λ p. new ≡ insert_key (λ x y. node_eq.ghosts.eq x y) old k) →
    IfOk r (λ p. (l : Node) × (slice_get new p.0 ≡ Some l) × (node_eq.ghosts.eq k l ≡ true)) →
    OnErr r (new ≡ old) → IsWhole (finished_nodes new)
whole-after old new k (Ok p) w g keys stored err =
    let at = key-at new k stored.0 p.0 stored.1 stored.2 in
    (put-node (finished_nodes old) (plain_node k) p.0 (finished_nodes new) w g (keys-put old k new keys) at.0 at.1).0
whole-after old new k (Err e) w g keys stored err = subst (λ l. IsWhole (finished_nodes l)) (sym err) w

pub put-after : (old new : List Node) (k : Node) (i : ℕ) →
    IsWhole (finished_nodes old) → GoesBelow (length (node_trees (finished_nodes old))) (plain_node k) →
    new ≡ insert_key (λ x y. node_eq.ghosts.eq x y) old k →
    ((l : Node) × (slice_get new i ≡ Some l) × (node_eq.ghosts.eq k l ≡ true)) →
    IsPutTree (node_trees (finished_nodes old)) (node_tree (node_trees (finished_nodes old)) (plain_node k)) i
    (node_trees (finished_nodes new))
put-after old new k i w g keys stored =
    let at = key-at new k stored.0 i stored.1 stored.2 in
    (put-node (finished_nodes old) (plain_node k) i (finished_nodes new) w g (keys-put old k new keys) at.0 at.1).1

-- no tree is lost
pub no-less : (old : List MTree) (t : MTree) (i : ℕ) (new : List MTree) → IsPutTree old t i new → length old ≤ length new
no-less old t i new p = count p.grows
  where
    count : (Among t old × (new ≡ old)) ⊎ ((¬ Among t old) × (new ≡ t ∷ old)) → length old ≤ length new
    count (inl g) = let e = ap length g.1 in omega (arith, e)
    count (inr g) = let e = ap length g.1 in omega (arith, e)

-- the index is one of the table
pub index-below : (old : List MTree) (t : MTree) (i : ℕ) (new : List MTree) → IsPutTree old t i new → i < length new
index-below old t i new p =
    let c : p.at.later + suc i ≡ length new = p.at.count in
    omega (arith, c)
