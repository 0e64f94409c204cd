-- Nodes with their numbers counted from the last.
use Rattle.std.proofs.Common.{◌≡◌, ◌<◌, ◌≤◌, ℕ, zero, suc, ◌+◌, ◌-◌, List, [], ◌∷◌, ◌++◌, map, take, drop, set, get_or, length, reverse, nat_lt, IsTrue, refl, sym, ap, ◌∙◌, arith, subst, length-drop, add-one, append_assoc, append-nil, true, false, Option, None, ◌↔◌, IsSome}
use Rattle.std.specs.List.{list_all}
use Rattle.std.proofs.lemmas.List.{map-append, reverse-append, length-reverse, length-map, length-append, take_more_set, drop-set-lt}
use Rattle.std.proofs.Math.Seq.{take-suc}
use Rattle.match_model.specs.Trees.{MNode, successors}
use Rattle.match_model.specs.DecisionTrees.{MTree}
use Rattle.match_model.specs.SharedTrees.{Walks, IsShared}
use Rattle.tree_sharing.specs.Table.{renumbered, renumbered_branch}
use Rattle.tree_sharing.proofs.Tables.{shared-table}
use Rattle.tree_eval.specs.declared.tree.Case.{Case}
use Rattle.tree_eval.specs.declared.tree.Node.{Node}
use Rattle.tree_eval.specs.Nodes.{plain_case, plain_branch, plain_node}
use Rattle.tree_eval.specs.Tables.{node_trees, goes_back, finished_nodes, GoesBelow, AreBelow}
use Rattle.tree_eval.proofs.Pointwise.{both, and_true}
use Rattle.tree_eval.proofs.Filled.{below, is-below, length-trees, is-table}

get-drop : {A : Type 0} (xs : List A) (j : ℕ) (d : A) → get_or (drop j xs) 0 d ≡ get_or xs j d
get-drop [] zero d = refl
get-drop [] (suc j) d = refl
get-drop (x ∷ xs) zero d = refl
get-drop (x ∷ xs) (suc j) d = get-drop xs j d

below-item : (n : ℕ) (xs : List (Case × ℕ)) (j : ℕ) (d : Case × ℕ) → AreBelow n (map plain_branch xs) → j < length xs →
    (get_or xs j d).1 < n
below-item n [] j d h l = absurd (omega (arith, l))
below-item n (x ∷ xs) zero d h l =
    below x.1 n (both (nat_lt x.1 n) (list_all (λ b. nat_lt b.next n) (map plain_branch xs)) h).0
below-item n (x ∷ xs) (suc j) d h l =
    below-item n xs j d (both (nat_lt x.1 n) (list_all (λ b. nat_lt b.next n) (map plain_branch xs)) h).1 (omega (arith, l))

-- what is left of the cases is as it was
same-item : (old now : List (Case × ℕ)) (j : ℕ) (d : Case × ℕ) → drop j now ≡ drop j old → j < length now →
    (get_or now j d ≡ get_or old j d) × (j < length old)
same-item old now j d e l =
    let a = ap length e in
    let b = length-drop j now in
    let c = length-drop j old in
    (sym (get-drop now j d) ∙ ap (λ xs. get_or xs 0 d) e ∙ get-drop old j d, omega (arith, a, b, c, l))

pub case-below : (n : ℕ) (old now : List (Case × ℕ)) (j : ℕ) (d : Case × ℕ) → AreBelow n (map plain_branch old) →
    drop j now ≡ drop j old → j < length now → (get_or now j d).1 < n
case-below n old now j d h e l =
    let s = same-item old now j d e l in
    subst (λ (x : Case × ℕ). x.1 < n) (sym s.0) (below-item n old j d h s.1)

pub case-renumbered : (n : ℕ) (old now : List (Case × ℕ)) (j : ℕ) (d : Case × ℕ) →
    map plain_branch (take j now) ≡ map (renumbered_branch n) (map plain_branch (take j old)) →
    drop j now ≡ drop j old → j < length now →
    (map plain_branch (take (j + 1) (set now j ((get_or now j d).0, n - 1 - (get_or now j d).1)))
    ≡ map (renumbered_branch n) (map plain_branch (take (j + 1) old)))
    × (drop (j + 1) (set now j ((get_or now j d).0, n - 1 - (get_or now j d).1)) ≡ drop (j + 1) old)
case-renumbered n old now j d made e l =
    let s = same-item old now j d e l in
    let x : Case × ℕ = get_or now j d in
    let y : Case × ℕ = ((get_or now j d).0, n - 1 - (get_or now j d).1) in
    let o : Case × ℕ = get_or old j d in
    let number : n - 1 - (get_or now j d).1 ≡ n - suc (get_or old j d).1 =
    ap (λ (z : Case × ℕ). n - 1 - z.1) s.0 ∙ minus n (get_or old j d).1 in
    let case : plain_case (get_or now j d).0 ≡ plain_case (get_or old j d).0 =
    ap (λ (z : Case × ℕ). plain_case z.0) s.0 in
    let same : plain_branch y ≡ renumbered_branch n (plain_branch o) = λ i. record { case = case i; next = number i } in
    let left : map plain_branch (take (j + 1) (set now j y)) ≡ map plain_branch (take j now) ++ plain_branch y ∷ [] =
    ap (map plain_branch) (take_more_set now j y l) ∙ map-append plain_branch (take j now) (y ∷ []) in
    let right : map (renumbered_branch n) (map plain_branch (take (j + 1) old))
    ≡ map (renumbered_branch n) (map plain_branch (take j old)) ++ renumbered_branch n (plain_branch o) ∷ [] =
    ap (λ k. map (renumbered_branch n) (map plain_branch (take k old))) (add-one j)
    ∙ ap (λ z. map (renumbered_branch n) (map plain_branch z)) (take-suc old j d s.1)
    ∙ ap (map (renumbered_branch n)) (map-append plain_branch (take j old) (o ∷ []))
    ∙ map-append (renumbered_branch n) (map plain_branch (take j old)) (plain_branch o ∷ []) in (
      left ∙ ap (λ bs. bs ++ plain_branch y ∷ []) made
          ∙ ap (λ b. map (renumbered_branch n) (map plain_branch (take j old)) ++ b ∷ []) same ∙ sym right,
      drop-set-lt (j + 1) now j y (omega arith) ∙ next,
    )
  where
    minus : (a b : ℕ) → a - 1 - b ≡ a - suc b
    minus a b = omega arith

    next : drop (j + 1) now ≡ drop (j + 1) old
    next = step now ∙ ap (drop 1) e ∙ sym (step old)
      where
        step : (xs : List (Case × ℕ)) → drop (j + 1) xs ≡ drop 1 (drop j xs)
        step xs = ap (λ k. drop k xs) (add-one j) ∙ go j xs
          where
            go : (k : ℕ) (ys : List (Case × ℕ)) → drop (suc k) ys ≡ drop 1 (drop k ys)
            go zero ys = refl
            go (suc k) [] = refl
            go (suc k) (y ∷ ys) = go k ys

-- the last node of a table, and the others
pub last-node : (old new : List Node) (k : Node) → old ≡ new ++ k ∷ [] →
    finished_nodes old ≡ plain_node k ∷ finished_nodes new
last-node old new k e =
    ap finished_nodes e ∙ ap reverse (map-append plain_node new (k ∷ []))
    ∙ reverse-append (map plain_node new) (plain_node k ∷ [])

goes-much-wider : (n m : ℕ) (l : List ℕ) → n ≤ m → IsTrue (list_all (λ k. nat_lt k n) l) →
    IsTrue (list_all (λ k. nat_lt k m) l)
goes-much-wider n m [] w h = refl
goes-much-wider n m (i ∷ l) w h =
    let k = both (nat_lt i n) (list_all (λ k. nat_lt k n) l) h in
    let b : i < n = below i n k.0 in
    and_true (nat_lt i m) (list_all (λ k. nat_lt k m) l) (is-below i m (omega (arith, b, w))) (goes-much-wider n m l w k.1)

pub popped-below : (n : ℕ) (old new : List Node) (k : Node) → old ≡ new ++ k ∷ [] →
    IsTrue (goes_back (finished_nodes old)) → length old ≤ n → GoesBelow n (plain_node k)
popped-below n old new k e h l =
    let b = subst (λ xs. IsTrue (goes_back xs)) (last-node old new k e) h in
    let split = both (list_all (λ i. nat_lt i (length (finished_nodes new))) (successors (plain_node k)))
    (goes_back (finished_nodes new)) b in
    let long : length (finished_nodes new) ≡ length new =
    length-reverse (map plain_node new) ∙ length-map new plain_node in
    let more = ap length e ∙ length-append new (k ∷ []) in
    goes-much-wider (length (finished_nodes new)) n (successors (plain_node k)) (omega (arith, long, more, l)) split.0

pub popped-back : (old new : List Node) (k : Node) → old ≡ new ++ k ∷ [] → IsTrue (goes_back (finished_nodes old)) →
    IsTrue (goes_back (finished_nodes new))
popped-back old new k e h =
    let b = subst (λ xs. IsTrue (goes_back xs)) (last-node old new k e) h in
    (both (list_all (λ i. nat_lt i (length (finished_nodes new))) (successors (plain_node k)))
    (goes_back (finished_nodes new)) b).1

pub popped-made : (n : ℕ) (old new made : List Node) (k l : Node) (all : List MNode) → old ≡ new ++ k ∷ [] →
    plain_node l ≡ renumbered n (plain_node k) →
    map plain_node made ++ map (renumbered n) (finished_nodes old) ≡ all →
    map plain_node (made ++ l ∷ []) ++ map (renumbered n) (finished_nodes new) ≡ all
popped-made n old new made k l all e same h =
    ap (λ xs. xs ++ map (renumbered n) (finished_nodes new)) (map-append plain_node made (l ∷ []))
    ∙ append_assoc (map plain_node made) (plain_node l ∷ []) (map (renumbered n) (finished_nodes new))
    ∙ ap (λ x. map plain_node made ++ x ∷ map (renumbered n) (finished_nodes new)) same
    ∙ ap (λ xs. map plain_node made ++ map (renumbered n) xs) (sym (last-node old new k e)) ∙ h

none-left : (keys : List Node) → length keys ≡ 0 → keys ≡ []
none-left [] e = refl
none-left (k ∷ keys) e = absurd (omega (arith, e))

-- the nodes that were made are the shared tree
pub table-made : (n : ℕ) (keys left made : List Node) → n ≡ length keys → length left ≡ 0 →
    IsTrue (goes_back (finished_nodes keys)) →
    map plain_node made ++ map (renumbered n) (finished_nodes left) ≡ map (renumbered n) (finished_nodes keys) →
    (root : MTree) → Walks [] root (node_trees (finished_nodes keys)) → IsShared root (map plain_node made)
table-made n keys left made all none back e root w =
    let long : length (node_trees (finished_nodes keys)) ≡ n =
    length-trees (finished_nodes keys) ∙ length-reverse (map plain_node keys) ∙ length-map keys plain_node ∙ sym all in
    let over : map (renumbered n) (finished_nodes left) ≡ [] =
    ap (λ ks. map (renumbered n) (finished_nodes ks)) (none-left left none) in
    let whole : map plain_node made ≡ map (renumbered n) (finished_nodes keys) =
    sym (append-nil (map plain_node made)) ∙ ap (λ xs. map plain_node made ++ xs) (sym over) ∙ e in
    subst (IsShared root) (ap (λ m. map (renumbered m) (finished_nodes keys)) long ∙ sym whole)
    (shared-table root (node_trees (finished_nodes keys)) (finished_nodes keys) w (is-table (finished_nodes keys) back))

-- where nothing is there to be taken, nothing is left
pub none-taken : {A : Type 0} (r : Option A) (n : ℕ) → (IsSome r ↔ (0 < n)) → r ≡ None → n ≡ 0
none-taken r zero f e = refl
none-taken r (suc n) f e = empty (subst IsSome e (f.1 (omega arith)))
  where
    empty : false ≡ true → suc n ≡ 0
    empty h = cc
