-- Steps of rows without a column.
use Rattle.std.proofs.Common.{◌≡◌, ◌≢◌, ◌<◌, inl, inr, ℕ, zero, suc, ◌+◌, Bool, true, false, ◌&&◌, List, [], ◌∷◌, ◌++◌, map, drop, length, Some, None, slice_get, refl, sym, ap, ◌∙◌, append_assoc, arith, subst, IsTrue}
use Rattle.std.specs.List.{list_all}
use Rattle.std.proofs.lemmas.List.{map-append}
use Rattle.match_model.specs.ArenaPatterns.{de_pat}
use Rattle.match_model.specs.DecisionTrees.{all_wild}
use Rattle.match_model.specs.FewestBranches.{is_asked}
use Rattle.match_model.specs.Lists.{Every, Ordered, Among}
use Rattle.match_model.specs.Lowering.{ctors_at, all_wild_at}
use Rattle.match_model.specs.Matrices.{MRow, head_binds, bind_at}
use Rattle.match_model.specs.Places.{MStep}
use Rattle.match_model.specs.Rows.{Head, is_wild, starts_wild, first_ctor}
use Rattle.match_model.specs.Steps.{Replacement, with_others, with_head, replacements_at, replaced_at, row_replaced, rows_at}
use Rattle.keyed_rows.specs.Dividing.{GoodAt}
use Rattle.keyed_rows.proofs.Lists.{every-map, every-all}
use Rattle.keyed_rows.proofs.Parting.{among-every, among-map}
use Rattle.keyed_rows.proofs.RowOrder.{among-flat, every-among}
use Rattle.decision_tree.specs.WildColumns.{head_at, left_out, all_left_out, AreWildAt}

-- the number beside column `i` of a column that has this number without it
abbrev pub beside : (i j : ℕ) → ℕ
beside zero j = suc j
beside (suc i) zero = zero
beside (suc i) (suc j) = suc (beside i j)

-- the number of column `i` once so many columns stand in place of the one that has number `j` without it
abbrev pub moved : (width i j : ℕ) → ℕ
moved w zero j = zero
moved w (suc i) zero = w + i
moved w (suc i) (suc j) = suc (moved w i j)

pub moved-one : (i j : ℕ) → moved 1 i j ≡ i
moved-one zero j = refl
moved-one (suc i) zero = omega arith
moved-one (suc i) (suc j) = ap suc (moved-one i j)

-- each other column has a number without it
pub beside-other : (i k : ℕ) → k ≢ i → (j : ℕ) × (beside i j ≡ k)
beside-other zero zero d = absurd (d refl)
beside-other zero (suc k) d = (k, refl)
beside-other (suc i) zero d = (zero, refl)
beside-other (suc i) (suc k) d = let r = beside-other i k (λ e. d (ap suc e)) in (suc r.0, ap suc r.1)

pub beside-less : (i j k : ℕ) → beside i j < beside i k → j < k
beside-less zero j k l = omega (arith, l)
beside-less (suc i) zero zero l = absurd (omega (arith, l))
beside-less (suc i) zero (suc k) l = omega arith
beside-less (suc i) (suc j) zero l = absurd (omega (arith, l))
beside-less (suc i) (suc j) (suc k) l =
    let r : j < k = beside-less i j k (omega (arith, l)) in omega (arith, r)

one-more : (m n : ℕ) → suc m + n ≡ suc (m + n)
one-more m n = omega arith

none-more : (n : ℕ) → n ≡ 0 + n
none-more n = omega arith

module _ {A : Type 0} where
  pub get-beside : (i j : ℕ) (xs : List A) → slice_get (replaced_at i xs []) j ≡ slice_get xs (beside i j)
  get-beside i j [] = refl
  get-beside zero j (x ∷ xs) = refl
  get-beside (suc i) zero (x ∷ xs) = refl
  get-beside (suc i) (suc j) (x ∷ xs) = get-beside i j xs

  get-behind : (ps xs : List A) (i : ℕ) → slice_get (ps ++ xs) (length ps + i) ≡ slice_get xs i
  get-behind [] xs i = ap (slice_get xs) (omega arith)
  get-behind (p ∷ ps) xs i = ap (slice_get (p ∷ (ps ++ xs))) (one-more (length ps) i) ∙ get-behind ps xs i

  -- the column that stays out is where it moved
  pub get-moved : (i j : ℕ) (xs ps : List A) (d : A) → slice_get xs i ≡ Some d →
      slice_get (replaced_at (beside i j) xs ps) (moved (length ps) i j) ≡ Some d
  get-moved i j [] ps d e = cc
  get-moved zero j (x ∷ xs) ps d e = e
  get-moved (suc i) zero (x ∷ xs) ps d e = get-behind ps xs i ∙ e
  get-moved (suc i) (suc j) (x ∷ xs) ps d e = get-moved i j xs ps d e

  cut-behind : (ps xs : List A) (i : ℕ) → ps ++ replaced_at i xs [] ≡ replaced_at (length ps + i) (ps ++ xs) []
  cut-behind [] xs i = ap (λ n. replaced_at n xs []) (none-more i)
  cut-behind (p ∷ ps) xs i =
      ap (λ l. p ∷ l) (cut-behind ps xs i)
      ∙ ap (λ n. replaced_at n (p ∷ (ps ++ xs)) []) (sym (one-more (length ps) i))

  -- it may be left out before or after others are replaced
  pub cut-replaced : (i j : ℕ) (xs ps : List A) → replaced_at j (replaced_at i xs []) ps
      ≡ replaced_at (moved (length ps) i j) (replaced_at (beside i j) xs ps) []
  cut-replaced i j [] ps = refl
  cut-replaced zero j (x ∷ xs) ps = refl
  cut-replaced (suc i) zero (x ∷ xs) ps = cut-behind ps xs i
  cut-replaced (suc i) (suc j) (x ∷ xs) ps = ap (λ l. x ∷ l) (cut-replaced i j xs ps)

  -- things that are shown so come from others
  pub shown-by : {B : Type 0} (g : A → B) (xs : List A) (ys : List B) → ((y : B) → Among y ys → Among y (map g xs)) →
      (zs : List A) × (ys ≡ map g zs) × ((z : A) → Among z zs → Among z xs)
  shown-by g xs [] h = ([], refl, λ z i. elim i [ ])
  shown-by g xs (y ∷ ys) h =
      let r = shown-by g xs ys (λ x i. h x (inr i)) in
      let m = among-map g xs y (h y (inl refl)) in
      (m.0 ∷ r.0, (λ k. m.2 k ∷ r.1 k), λ z i. elim i [ inl e ↦ subst (λ x. Among x xs) (sym e) m.1 | inr j ↦ r.2 z j ])

  pub ordered-unmap : {B : Type 0} (R : B → B → Type 0) (g : A → B) (xs : List A) → Ordered R (map g xs) →
      Ordered (λ x y. R (g x) (g y)) xs
  ordered-unmap R g [] o = tt
  ordered-unmap R g (x ∷ xs) o = (every xs o.0, ordered-unmap R g xs o.1)
    where
      every : (ys : List A) → Every (R (g x)) (map g ys) → Every (λ y. R (g x) (g y)) ys
      every [] h = tt
      every (y ∷ ys) h = (h.0, every ys h.1)

  pub map-in : {B : Type 0} (g : A → B) (xs : List A) (x : A) → Among x xs → Among (g x) (map g xs)
  map-in g [] x i = elim i [ ]
  map-in g (y ∷ xs) x (inl e) = inl (ap g e)
  map-in g (y ∷ xs) x (inr i) = inr (map-in g xs x i)

  map-each : {B C D : Type 0} (Q : A → Type 0) (f : B → D) (g : A → B) (h : C → D) (k : A → C) (xs : List A) →
      ((x : A) → Q x → f (g x) ≡ h (k x)) → Every Q xs → map f (map g xs) ≡ map h (map k xs)
  map-each Q f g h k [] e q = refl
  map-each Q f g h k (x ∷ xs) e q = λ n. e x q.0 n ∷ map-each Q f g h k xs e q.1 n

module _ {T : Type 0} where
  abbrev no_heads : List (Head T)
  no_heads = []

  none-left : (n : ℕ) → no_heads ≡ drop n no_heads
  none-left zero = refl
  none-left (suc n) = refl

  -- what depends on the head of a column alone is the same
  head-same : {B : Type 0} (g : List (Head T) → B) → ((h : Head T) (xs ys : List (Head T)) → g (h ∷ xs) ≡ g (h ∷ ys)) →
      (i j : ℕ) (hs : List (Head T)) → g (drop j (replaced_at i hs [])) ≡ g (drop (beside i j) hs)
  head-same g law i j [] = ap g (sym (none-left j) ∙ none-left (beside i j))
  head-same g law zero j (h ∷ hs) = refl
  head-same g law (suc i) zero (h ∷ hs) = law h (replaced_at i hs []) hs
  head-same g law (suc i) (suc j) (h ∷ hs) = head-same g law i j hs

  wild-law : (h : Head T) (xs ys : List (Head T)) → starts_wild (h ∷ xs) ≡ starts_wild (h ∷ ys)
  wild-law h xs ys = refl

  ctor-law : (h : Head T) (xs ys : List (Head T)) → first_ctor (h ∷ xs) ≡ first_ctor (h ∷ ys)
  ctor-law None xs ys = refl
  ctor-law (Some (de_pat c t uid at subs binds)) xs ys = refl

  pub wild-cut : (place : List MStep) (i j : ℕ) (rows : List (MRow T)) →
      all_wild_at j (all_left_out place i rows) ≡ all_wild_at (beside i j) rows
  wild-cut place i j [] = refl
  wild-cut place i j (r ∷ rows) =
      (λ k. head-same starts_wild wild-law i j r.heads k && wild-cut place i j rows k)

  pub ctors-cut : (place : List MStep) (i j : ℕ) (rows : List (MRow T)) →
      ctors_at j (all_left_out place i rows) ≡ ctors_at (beside i j) rows
  ctors-cut place i j [] = refl
  ctors-cut place i j (r ∷ rows) =
      rw (head-same first_ctor ctor-law i j r.heads, ctors-cut place i j rows) refl

  pub asked-cut : (place : List MStep) (i j : ℕ) (rows : List (MRow T)) →
      is_asked j (all_left_out place i rows) ≡ is_asked (beside i j) rows
  asked-cut place i j [] = refl
  asked-cut place i j (r ∷ rows) =
      ap (λ b. elim b [ true ↦ false | false ↦ true ]) (head-same starts_wild wild-law i j r.heads)

  -- the column that is left out is not asked
  starts-head : (i : ℕ) (hs : List (Head T)) → starts_wild (drop i hs) ≡ is_wild (head_at i hs)
  starts-head zero [] = refl
  starts-head (suc i) [] = refl
  starts-head zero (h ∷ hs) = refl
  starts-head (suc i) (h ∷ hs) = starts-head i hs

  pub not-asked : (i : ℕ) (rows : List (MRow T)) → AreWildAt i rows → IsTrue (is_asked i rows) → ⊥
  not-asked i [] w a = cc
  not-asked i (r ∷ rows) w a = go (starts_wild (drop i r.heads)) (starts-head i r.heads ∙ w.0) a
    where
      go : (b : Bool) → b ≡ true → IsTrue (elim b [ true ↦ false | false ↦ true ]) → ⊥
      go true e a = cc
      go false e a = cc

  -- where every row starts wild behind so many heads, all are wild there
  pub are-wild : (i : ℕ) (rows : List (MRow T)) → all_wild_at i rows ≡ true → AreWildAt i rows
  are-wild i [] e = tt
  are-wild i (r ∷ rows) e = (sym (starts-head i r.heads) ∙ (both (starts_wild (drop i r.heads)) (all_wild_at i rows) e).0, are-wild i rows (both (starts_wild (drop i r.heads)) (all_wild_at i rows) e).1)
    where
      both : (a b : Bool) → (a && b) ≡ true → (a ≡ true) × (b ≡ true)
      both true b e = (refl, e)
      both false b e = cc

  -- a row is a leaf with a wild head as without it
  leaf-cut : (i : ℕ) (hs : List (Head T)) → is_wild (head_at i hs) ≡ true →
      list_all is_wild (replaced_at i hs []) ≡ list_all is_wild hs
  leaf-cut i [] w = refl
  leaf-cut zero (h ∷ hs) w = sym (ap (λ b. b && list_all is_wild hs) w)
  leaf-cut (suc i) (h ∷ hs) w = ap (λ b. is_wild h && b) (leaf-cut i hs w)

  pub all-wild-cut : (place : List MStep) (i : ℕ) (r : MRow T) → is_wild (head_at i r.heads) ≡ true →
      all_wild (left_out place i r) ≡ all_wild r
  all-wild-cut place i r w = leaf-cut i r.heads w

  module _ (f : Head T → List (Replacement T)) (width : ℕ) where
    -- each replacement of the head has so many heads
    abbrev pub IsAsWide : Head T → Type 0
    IsAsWide h = Every (λ y. length y.heads ≡ width) (f h)

    abbrev pub cut : ℕ → Replacement T → Replacement T
    cut k y = record y { heads = replaced_at k y.heads [] }

    every-here : (hs : List (Head T)) (i : ℕ) (ys : List (Replacement T)) → Every (λ y. length y.heads ≡ width) ys →
        map (with_others (replaced_at i hs [])) ys ≡ map (cut (width + i)) (map (with_others hs) ys)
    every-here hs i [] w = refl
    every-here hs i (y ∷ ys) w = λ k. record y {
      heads = (cut-behind y.heads hs i ∙ ap (λ n. replaced_at (n + i) (y.heads ++ hs) []) w.0) k;
    } ∷ every-here hs i ys w.1 k

    map-through : (h : Head T) (k : ℕ) (ys : List (Replacement T)) →
        map (with_head h) (map (cut k) ys) ≡ map (cut (suc k)) (map (with_head h) ys)
    map-through h k [] = refl
    map-through h k (y ∷ ys) = ap (λ l. record y { heads = h ∷ replaced_at k y.heads [] } ∷ l) (map-through h k ys)

    map-first : (h : Head T) (ys : List (Replacement T)) → ys ≡ map (cut zero) (map (with_head h) ys)
    map-first h [] = refl
    map-first h (y ∷ ys) = ap (λ l. y ∷ l) (map-first h ys)

    -- replacements at another column of heads without one
    cut-replacements : (i j : ℕ) (hs : List (Head T)) → GoodAt IsAsWide (beside i j) hs →
        replacements_at f j (replaced_at i hs []) ≡ map (cut (moved width i j)) (replacements_at f (beside i j) hs)
    cut-replacements i j [] w = refl
    cut-replacements zero j (h ∷ hs) w = map-first h (replacements_at f j hs)
    cut-replacements (suc i) zero (h ∷ hs) w = every-here hs i (f h) w
    cut-replacements (suc i) (suc j) (h ∷ hs) w =
        ap (map (with_head h)) (cut-replacements i j hs w)
        ∙ map-through h (moved width i j) (replacements_at f (beside i j) hs)

    behind : (ps hs : List (Head T)) (i : ℕ) → head_at (length ps + i) (ps ++ hs) ≡ head_at i hs
    behind [] hs i = ap (λ n. head_at n hs) (sym (none-more i))
    behind (p ∷ ps) hs i = ap (λ n. head_at n (p ∷ (ps ++ hs))) (one-more (length ps) i) ∙ behind ps hs i

    -- they keep its head, where it moved
    abbrev pub Keeps : (i j : ℕ) → List (Head T) → Replacement T → Type 0
    Keeps i j hs y = head_at (moved width i j) y.heads ≡ head_at i hs

    head-moved : (i j : ℕ) (hs : List (Head T)) → GoodAt IsAsWide (beside i j) hs →
        Every (Keeps i j hs) (replacements_at f (beside i j) hs)
    head-moved i j [] w = tt
    head-moved zero j (h ∷ hs) w =
        every-map (λ (y : Replacement T). Unit {0}) (Keeps zero j (h ∷ hs)) (with_head h) (replacements_at f j hs) (λ y u. refl)
        (every-all (λ (y : Replacement T). Unit {0}) (replacements_at f j hs) (λ y. tt))
    head-moved (suc i) zero (h ∷ hs) w =
        every-map (λ (y : Replacement T). length y.heads ≡ width) (Keeps (suc i) zero (h ∷ hs)) (with_others hs) (f h)
        (λ y e. sym (ap (λ n. head_at (n + i) (y.heads ++ hs)) e) ∙ behind y.heads hs i) w
    head-moved (suc i) (suc j) (h ∷ hs) w =
        every-map (Keeps i j hs) (Keeps (suc i) (suc j) (h ∷ hs)) (with_head h) (replacements_at f (beside i j) hs)
        (λ y e. e) (head-moved i j hs w)

    module _ (place at : List MStep) (i j : ℕ) where
      row-cut : (r : MRow T) → GoodAt IsAsWide (beside i j) r.heads →
          map (row_replaced at (left_out place i r)) (replacements_at f j (replaced_at i r.heads []))
          ≡ map (left_out place (moved width i j)) (map (row_replaced at r) (replacements_at f (beside i j) r.heads))
      row-cut r w =
          ap (map (row_replaced at (left_out place i r))) (cut-replacements i j r.heads w)
          ∙ map-each (Keeps i j r.heads) (row_replaced at (left_out place i r)) (cut (moved width i j))
          (left_out place (moved width i j)) (row_replaced at r) (replacements_at f (beside i j) r.heads)
          (λ y e. ap (λ l. record (row_replaced at r (cut (moved width i j) y)) { caught = l }) (one y e))
          (head-moved i j r.heads w)
        where
          one : (y : Replacement T) → Keeps i j r.heads y →
              (row_replaced at (left_out place i r) (cut (moved width i j) y)).caught
              ≡ (left_out place (moved width i j) (row_replaced at r y)).caught
          one y e =
              append_assoc (head_binds place (head_at i r.heads)) r.caught (map (bind_at at) y.binds)
              ∙ ap (λ h. head_binds place h ++ (row_replaced at r y).caught) (sym e)

      -- a step of rows without a column is the step of the rows, and then without it
      pub rows-cut : (rows : List (MRow T)) → Every (λ r. GoodAt IsAsWide (beside i j) r.heads) rows →
          rows_at f at j (all_left_out place i rows)
          ≡ all_left_out place (moved width i j) (rows_at f at (beside i j) rows)
      rows-cut [] w = refl
      rows-cut (r ∷ rows) w =
          (λ k. row-cut r w.0 k ++ rows-cut rows w.1 k)
          ∙ sym (map-append (left_out place (moved width i j)) (map (row_replaced at r) (replacements_at f (beside i j) r.heads))
          (rows_at f at (beside i j) rows))

      -- the column stays wild, where it moved
      pub wild-moved : (rows : List (MRow T)) → Every (λ r. GoodAt IsAsWide (beside i j) r.heads) rows →
          AreWildAt i rows → AreWildAt (moved width i j) (rows_at f at (beside i j) rows)
      wild-moved rows w a =
          every-among (λ r. is_wild (head_at (moved width i j) r.heads) ≡ true) (rows_at f at (beside i j) rows) one
        where
          one : (r : MRow T) → Among r (rows_at f at (beside i j) rows) → is_wild (head_at (moved width i j) r.heads) ≡ true
          one r k =
              let m = among-flat (λ x. map (row_replaced at x) (replacements_at f (beside i j) x.heads)) rows r k in
              let n = among-map (row_replaced at m.0) (replacements_at f (beside i j) m.0.heads) r m.2 in
              ap (λ x. is_wild (head_at (moved width i j) x.heads)) n.2
              ∙ (ap is_wild (among-every (Keeps i j m.0.heads) (replacements_at f (beside i j) m.0.heads) n.0
              (head-moved i j m.0.heads (among-every (λ x. GoodAt IsAsWide (beside i j) x.heads) rows m.0 w m.1)) n.1)
              ∙ among-every (λ x. is_wild (head_at i x.heads) ≡ true) rows m.0 a m.1)
