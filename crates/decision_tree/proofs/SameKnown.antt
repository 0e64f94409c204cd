-- What the derived test finds equal tells the same matrix; what is among known trees.
use Rattle.std.proofs.Common.{◌≡◌, ◌⊎◌, inl, inr, ℕ, Bool, true, false, if◌then◌else◌, cond, List, [], ◌∷◌, ◌++◌, map, take, drop, Option, Some, None, refl, sym, ap, ◌∙◌, rules, nat_eq}
use Rattle.std.proofs.lemmas.Slice.Eq.{bytes_eq-Decides}
use Rattle.std.specs.Cmp.Lexicographic.{pointwise}
use Rattle.std.specs.List.{flat_map}
use Rattle.indexmap.specs.IndexMap.{insert_entry}
use Rattle.match_model.specs.Lists.{Among}
use Rattle.std.specs.Map.{lookup}
use Rattle.std.specs.Option.{option_eq}
use Rattle.pat_context.specs.Views.{plain_step}
use Rattle.tree_eval.proofs.Pointwise.{both, nat-same, pointwise-map}
use Rattle.decision_tree.specs.declared.known.KnownColumns.{KnownColumns}
use Rattle.decision_tree.specs.declared.known.KnownName.{KnownName}
use Rattle.decision_tree.specs.declared.known.KnownHeads.{KnownHeads}
use Rattle.decision_tree.specs.declared.known.KnownRow.{KnownRow}
use Rattle.decision_tree.specs.declared.known.KnownMatrix.{KnownMatrix}
use Rattle.decision_tree.specs.contracts.known.KnownColumnsPartialEq.TheImpl as columns_eq
use Rattle.decision_tree.specs.contracts.known.KnownNamePartialEq.TheImpl as name_eq
use Rattle.decision_tree.specs.contracts.known.KnownHeadsPartialEq.TheImpl as heads_eq
use Rattle.decision_tree.specs.contracts.known.KnownRowPartialEq.TheImpl as row_eq
use Rattle.decision_tree.specs.contracts.known.KnownMatrixPartialEq.TheImpl as matrix_eq
use Rattle.decision_tree.specs.KnownViews.{plain_known_heads, known_columns_from, plain_known_columns, side_place, plain_name, plain_known_row, plain_known_rows, plain_known_matrix}
use Rattle.decision_tree.proofs.KnownColumns.{same-validity, same-place}

-- lists that are equal item by item are one, where equal items are
pointwise-same : {A : Type 0} (E : A → A → Bool) → ((x y : A) → E x y ≡ true → x ≡ y) → (xs ys : List A) →
    pointwise E xs ys ≡ true → xs ≡ ys
pointwise-same E k [] [] h = refl
pointwise-same E k [] (y ∷ ys) h = cc
pointwise-same E k (x ∷ xs) [] h = cc
pointwise-same E k (x ∷ xs) (y ∷ ys) h =
    let b = both (E x y) (pointwise E xs ys) h in
    let here : x ≡ y = k x y b.0 in
    let rest : xs ≡ ys = pointwise-same E k xs ys b.1 in
    ap (λ z. z ∷ xs) here ∙ ap (λ zs. y ∷ zs) rest

-- what is made of their items together is one, where equal items make one thing
pointwise-flat : {A B : Type 0} (E : A → A → Bool) (f : A → List B) (xs ys : List A) →
    ((x y : A) → E x y ≡ true → f x ≡ f y) → pointwise E xs ys ≡ true → flat_map f xs ≡ flat_map f ys
pointwise-flat E f [] [] k h = refl
pointwise-flat E f [] (y ∷ ys) k h = cc
pointwise-flat E f (x ∷ xs) [] k h = cc
pointwise-flat E f (x ∷ xs) (y ∷ ys) k h =
    let b = both (E x y) (pointwise E xs ys) h in
    let here : f x ≡ f y = k x y b.0 in
    let rest : flat_map f xs ≡ flat_map f ys = pointwise-flat E f xs ys k b.1 in
    λ i. here i ++ rest i

same-columns : (a b : KnownColumns) → columns_eq.ghosts.eq a b ≡ true → plain_known_columns a ≡ plain_known_columns b
same-columns a b h =
    let k = both _ _ h in
    let l = both _ _ k.1 in
    let place : map plain_step a.place.now ≡ map plain_step b.place.now = same-place a.place.now b.place.now k.0 in
    let count : a.count ≡ b.count = nat-same a.count b.count l.0 in
    let sure = same-validity a.validity b.validity l.1 in
    λ i. known_columns_from (place i) (sure i) 0 (count i)

same-name : (a b : KnownName) → name_eq.ghosts.eq a b ≡ true → plain_name a ≡ plain_name b
same-name a b h =
    let k = both _ _ h in
    let l = both _ _ k.1 in
    let n = both _ _ l.1 in
    let name : a.name.now ≡ b.name.now = (bytes_eq-Decides a.name.now b.name.now).0 k.0 in
    let mode : a.mode ≡ b.mode = search (rules, l.0) in
    let place : map plain_step a.place.now ≡ map plain_step b.place.now = same-place a.place.now b.place.now n.0 in
    let sides : a.sides ≡ b.sides = search (rules, n.1) in
    λ i. record { name = name i; mode = mode i; place = side_place (place i) (sides i) }

same-head : (x y : Option ℕ) → option_eq nat_eq x y ≡ true → x ≡ y
same-head None None h = refl
same-head None (Some y) h = cc
same-head (Some x) None h = cc
same-head (Some x) (Some y) h = ap Some (nat-same x y h)

same-heads : (a b : KnownHeads) → heads_eq.ghosts.eq a b ≡ true → a ≡ b
same-heads a b h =
    let k = both _ _ h in
    let first : a.first ≡ b.first = same-head a.first b.first k.0 in
    let count : a.count ≡ b.count = nat-same a.count b.count k.1 in
    λ i. record { first = first i; count = count i }

same-row : (heads : List KnownHeads) (a b : KnownRow) → row_eq.ghosts.eq a b ≡ true →
    (a.size ≡ b.size) × (plain_known_row heads a ≡ plain_known_row heads b)
same-row heads a b h =
    let k = both _ _ h in
    let l = both _ _ k.1 in
    let n = both _ _ l.1 in
    let o = both _ _ n.1 in
    let size : a.size ≡ b.size = nat-same a.size b.size k.0 in
    let arm : a.arm ≡ b.arm = nat-same a.arm b.arm l.0 in
    let guarded : a.guarded ≡ b.guarded = search (rules, n.0) in
    let chosen : a.chosen.items ≡ b.chosen.items = pointwise-same nat_eq nat-same a.chosen.items b.chosen.items o.0 in
    let caught : map plain_name a.caught.items ≡ map plain_name b.caught.items = pointwise-map
    (λ x y. name_eq.ghosts.eq x y) plain_name a.caught.items b.caught.items same-name o.1 in
    let told : plain_known_row heads a ≡ plain_known_row heads b =
    (λ i. record {
      heads = flat_map plain_known_heads heads;
      arm = arm i;
      guarded = guarded i;
      chosen = chosen i;
      caught = caught i;
    }) in
    (size, told)

same-rows : (heads : List KnownHeads) (xs ys : List KnownRow) → pointwise (λ x y. row_eq.ghosts.eq x y) xs ys ≡ true →
    plain_known_rows heads xs ≡ plain_known_rows heads ys
same-rows heads [] [] h = refl
same-rows heads [] (b ∷ ys) h = cc
same-rows heads (a ∷ xs) [] h = cc
same-rows heads (a ∷ xs) (b ∷ ys) h =
    let k = both (row_eq.ghosts.eq a b) (pointwise (λ x y. row_eq.ghosts.eq x y) xs ys) h in
    let size = (same-row heads a b k.0).0 in
    let here : plain_known_row (take a.size heads) a ≡ plain_known_row (take b.size heads) b =
    (same-row (take a.size heads) a b k.0).1 ∙ ap (λ n. plain_known_row (take n heads) b) size in
    let rest : plain_known_rows (drop a.size heads) xs ≡ plain_known_rows (drop b.size heads) ys =
    same-rows (drop a.size heads) xs ys k.1 ∙ ap (λ n. plain_known_rows (drop n heads) ys) size in
    λ i. here i ∷ rest i

pub same-matrix : (a b : KnownMatrix) → matrix_eq.ghosts.eq a b ≡ true → plain_known_matrix a ≡ plain_known_matrix b
same-matrix a b h =
    let d = both _ _ h in
    let k = both _ _ d.1 in
    let columns : flat_map plain_known_columns a.columns.items ≡ flat_map plain_known_columns b.columns.items =
    pointwise-flat (λ x y. columns_eq.ghosts.eq x y) plain_known_columns a.columns.items b.columns.items same-columns
    k.0 in
    let l = both _ _ k.1 in
    let heads : a.heads.items ≡ b.heads.items = pointwise-same (λ x y. heads_eq.ghosts.eq x y) same-heads a.heads.items
    b.heads.items l.0 in
    let rows : plain_known_rows a.heads.items a.rows.items ≡ plain_known_rows b.heads.items b.rows.items =
    same-rows a.heads.items a.rows.items b.rows.items l.1 ∙ ap (λ hs. plain_known_rows hs b.rows.items) heads in
    λ i. record { columns = columns i; rows = rows i }

module _ {K M V : Type 0} (f : K → M) where
  abbrev shown : K × V → M × V
  shown e = (f e.0, e.1)

  -- what is found under a test is among the entries
  pub found-among : (test : K → Bool) (key : M) (es : List (K × V)) (v : V) → ((k : K) → test k ≡ true → f k ≡ key) →
      lookup test es ≡ Some v → Among (key, v) (map shown es)
  found-among test key [] v h e = cc
  found-among test key (x ∷ es) v h e = go (test x.0) refl e (found-among test key es v h)
    where
      some-same : (a b : V) → Some a ≡ Some b → a ≡ b
      some-same a b e = cc

      go : (b : Bool) → test x.0 ≡ b → cond b (Some x.1) (lookup test es) ≡ Some v →
          (lookup test es ≡ Some v → Among (key, v) (map shown es)) →
          ((key, v) ≡ shown x) ⊎ Among (key, v) (map shown es)
      go true t e ih =
          let same : x.1 ≡ v = some-same x.1 v e in
          let told : f x.0 ≡ key = h x.0 t in
          inl (sym (λ i. (told i, same i)))
      go false t e ih = inr (ih e)

  -- what is among them after one was put in was there before, or is that one
  pub noted-among : (eq : K → K → Bool) (k : K) (v : V) (es : List (K × V)) →
      ((l : K) → eq k l ≡ true → f k ≡ f l) → (x : M × V) → Among x (map shown (insert_entry eq es k v)) →
      Among x (map shown es) ⊎ (x ≡ (f k, v))
  noted-among eq k v [] h x (inl e) = inr e
  noted-among eq k v [] h x (inr j) = elim j [ ]
  noted-among eq k v (e ∷ es) h x i = go (eq k e.0) refl (noted-among eq k v es h x) i
    where
      onward : Among x (map shown es) ⊎ (x ≡ (f k, v)) → Among x (map shown (e ∷ es)) ⊎ (x ≡ (f k, v))
      onward (inl j) = inl (inr j)
      onward (inr j) = inr j

      go : (b : Bool) → eq k e.0 ≡ b →
          (Among x (map shown (insert_entry eq es k v)) → Among x (map shown es) ⊎ (x ≡ (f k, v))) →
          Among x (map shown (if b then (e.0, v) ∷ es else e ∷ insert_entry eq es k v)) →
          Among x (map shown (e ∷ es)) ⊎ (x ≡ (f k, v))
      go true t ih (inl j) = inr (j ∙ sym (ap (λ z. (z, v)) (h e.0 t)))
      go true t ih (inr j) = inl (inr j)
      go false t ih (inl j) = inl (inl j)
      go false t ih (inr j) = onward (ih j)
