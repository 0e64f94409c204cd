-- The place with the fewest branches, of the columns that were gone through.
use Rattle.std.proofs.Common.{◌≡◌, ◌<◌, ◌≤◌, ◌⊎◌, inl, inr, ℕ, zero, suc, ◌+◌, Bool, true, false, not, ◌&&◌, List, [], ◌∷◌, map, length, drop, get_or, nat_lt, cond, Option, Some, None, slice_get, refl, sym, ap, ◌∙◌, subst, arith, IsTrue, true≢false}
use Rattle.std.specs.List.{list_all}
use Rattle.std.proofs.lemmas.List.{length-map}
use Rattle.std.proofs.lemmas.Bool.{cases_lt}
use Rattle.std.proofs.lemmas.Bool.Decides.{nat_tests}
use Rattle.match_model.specs.Values.{MValue}
use Rattle.match_model.specs.Contexts.{Context}
use Rattle.match_model.specs.DecisionTrees.{all_wild}
use Rattle.match_model.specs.FewestBranches.{AreBranches, is_asked, IsFewest}
use Rattle.match_model.specs.Lists.{Every}
use Rattle.match_model.specs.Matrices.{MColumn, MRow}
use Rattle.match_model.specs.Rows.{Head, is_wild, starts_wild}
use Rattle.match_model.specs.WellTyped.{AreHeadsTyped}
use Rattle.keyed_matrix.specs.Views.{plain_column, plain_columns, plain_heads, plain_row, plain_rows}
use Rattle.keyed_matrix.specs.declared.rows.KeyedColumn.{KeyedColumn}
use Rattle.keyed_matrix.specs.declared.rows.KeyedRow.{KeyedRow}
use Rattle.keyed_matrix.specs.declared.rows.HeadRun.{HeadRun}
use Rattle.keyed_matrix.specs.InColumns.{ctors_in}
use Rattle.pat_context.specs.Views.{plain_ctor}
use Rattle.pat_context.specs.declared.ctor.Ctor.{Ctor}
use Rattle.std.specs.Global.{Vec}
use Rattle.tree_laws.proofs.FewestPlaces.{fewest-of}
use Rattle.decision_tree.proofs.TypedRows.{as-many}
use Rattle.decision_tree.specs.Asked.{asks}
use Rattle.decision_tree.specs.Matrices.{fewer}

below-or-at : (j i : ℕ) → j < i + 1 → (j < i) ⊎ (j ≡ i)
below-or-at j i l = elim (cases_lt j i) [ inl less ↦ inl less | inr over ↦ inr (omega (arith, l, over)) ]

some-is : {A : Type 0} (x y : A) → Some x ≡ Some y → x ≡ y
some-is x y e = cc

-- whether the first row asks, by its head
asked-by : Bool → Bool
asked-by w = elim w [ true ↦ false | false ↦ true ]

not-asked-wild : (w : Bool) → asked-by w ≡ false → w ≡ true
unfolding asked-by
not-asked-wild true e = refl
not-asked-wild false e = absurd (true≢false e)

by-not : (w : Bool) → asked-by w ≡ not w
unfolding asked-by
by-not true = refl
by-not false = refl

module _ {T : Type 0} where
  starts-past : (hs : List (Head T)) (i : ℕ) → length hs ≤ i → starts_wild (drop i hs) ≡ true
  starts-past [] zero l = refl
  starts-past [] (suc i) l = refl
  starts-past (x ∷ hs) zero l = absurd (omega (arith, l))
  starts-past (x ∷ hs) (suc i) l = starts-past hs i (omega (arith, l))

  not-asked-past : (r : MRow T) (rows : List (MRow T)) (i : ℕ) → length r.heads ≤ i → is_asked i (r ∷ rows) ≡ false
  unfolding asked-by
  not-asked-past r rows i l = ap asked-by (starts-past r.heads i l)

  -- the mark of a column says whether it is asked
  mark-at : (hs : List (Head T)) (i : ℕ) (b : Bool) → i < length hs → b ≡ get_or (map asks hs) i b →
      asked-by (starts_wild (drop i hs)) ≡ b
  mark-at [] i b l e = absurd (omega (arith, l))
  mark-at (h ∷ hs) zero b l e = by-not (is_wild h) ∙ sym e
  mark-at (h ∷ hs) (suc i) b l e = mark-at hs i b (omega (arith, l)) e

  pub asked-mark : (r : MRow T) (rows : List (MRow T)) (i : ℕ) (b : Bool) → i < length r.heads →
      b ≡ get_or (map asks r.heads) i b → is_asked i (r ∷ rows) ≡ b
  unfolding asked-by
  asked-mark r rows i b l e = mark-at r.heads i b l e

  -- no number past the heads is asked
  asked-within : (r : MRow T) (rows : List (MRow T)) (i : ℕ) → IsTrue (is_asked i (r ∷ rows)) → i < length r.heads
  asked-within r rows i a =
      elim (cases_lt i (length r.heads)) [
        | inl less ↦ less
        | inr over ↦ absurd (true≢false (sym a ∙ not-asked-past r rows i over))
      ]

  -- a row with none that is asked is a leaf
  none-asked : (hs : List (Head T)) → ((i : ℕ) → i < length hs → starts_wild (drop i hs) ≡ true) →
      list_all is_wild hs ≡ true
  none-asked [] w = refl
  none-asked (h ∷ hs) w =
      let here : is_wild h ≡ true = w zero (omega arith) in
      ap (λ b. b && list_all is_wild hs) here ∙ none-asked hs (λ i l. w (suc i) (omega (arith, l)))

module _ {T : Type 0} (cx : Context T) (V : T → Bool → MValue → Type 0) (columns : List (MColumn T))
    (rows : List (MRow T)) where
  -- of the columns below `i` that the first row asks, column `b` has the fewest branches, and is the leftmost such
  pub record IsBest (i b n : ℕ) : Type 0 where
    pub within : b < i
    pub asked : IsTrue (is_asked b rows)
    pub column : MColumn T
    pub there : slice_get columns b ≡ Some column
    pub branches : AreBranches cx V b column rows n
    pub others : (j : ℕ) (d : MColumn T) → j < i → slice_get columns j ≡ Some d → IsTrue (is_asked j rows) → (j ≡ b)
        ⊎ ((m : ℕ) × AreBranches cx V j d rows m × (j < b → n < m) × (n ≤ m))

  -- the same, or none of them is asked
  abbrev pub IsBestOf : ℕ → Option (ℕ × ℕ) → Type 0
  IsBestOf i None = (j : ℕ) → j < i → is_asked j rows ≡ false
  IsBestOf i (Some best) = IsBest i best.0 best.1

  -- a column that is not asked changes nothing
  pub best-kept : (i : ℕ) (best : Option (ℕ × ℕ)) → is_asked i rows ≡ false → IsBestOf i best → IsBestOf (i + 1) best
  best-kept i None quiet b = λ j l.
      elim (below-or-at j i l) [ inl less ↦ b j less | inr same ↦ ap (λ k. is_asked k rows) same ∙ quiet ]
  best-kept i (Some best) quiet b = record {
    within = (let l : best.0 < i = b.within in omega (arith, l));
    asked = b.asked;
    column = b.column;
    there = b.there;
    branches = b.branches;
    others =
        λ j d l e a. elim (below-or-at j i l) [
          | inl less ↦ b.others j d less e a
          | inr same ↦ absurd (true≢false (sym a ∙ (ap (λ k. is_asked k rows) same ∙ quiet)))
        ];
  }

  module _ (i : ℕ) (c : MColumn T) (n : ℕ) (there : slice_get columns i ≡ Some c) (asked : IsTrue (is_asked i rows))
      (branches : AreBranches cx V i c rows n) where
    -- the number of branches of this very column
    at-column : (j : ℕ) (d : MColumn T) → slice_get columns j ≡ Some d → j ≡ i → AreBranches cx V j d rows n
    at-column j d e same =
        let column : c ≡ d = some-is c d (sym there ∙ ap (slice_get columns) (sym same) ∙ e) in
        subst (λ x. AreBranches cx V j x rows n) column
        (subst (λ k. AreBranches cx V k c rows n) (sym same) branches)

    newer : (b m : ℕ) → n < m → IsBest i b m → IsBest (i + 1) i n
    newer b m less old = record {
      within = omega arith;
      asked = asked;
      column = c;
      there = there;
      branches = branches;
      others =
          λ j d l e a. elim (below-or-at j i l) [
            | inl before ↦ inr (beaten j d e (old.others j d before e a))
            | inr same ↦ inl same
          ];
    }
      where
        beaten : (j : ℕ) (d : MColumn T) → slice_get columns j ≡ Some d → (j ≡ b)
            ⊎ ((k : ℕ) × AreBranches cx V j d rows k × (j < b → m < k) × (m ≤ k)) →
            (k : ℕ) × AreBranches cx V j d rows k × (j < i → n < k) × (n ≤ k)
        beaten j d e (inl same) =
            let column : old.column ≡ d = some-is old.column d (sym old.there ∙ ap (slice_get columns) (sym same) ∙ e) in (
              m,
              subst (λ x. AreBranches cx V j x rows m) column
                  (subst (λ k. AreBranches cx V k old.column rows m) (sym same) old.branches),
              (λ l. less),
              omega (arith, less),
            )
        beaten j d e (inr (k, a, f, g)) = (k, a, (λ l. omega (arith, less, g)), omega (arith, less, g))

    kept : (b m : ℕ) → m ≤ n → IsBest i b m → IsBest (i + 1) b m
    kept b m less old = record {
      within = (let l : b < i = old.within in omega (arith, l));
      asked = old.asked;
      column = old.column;
      there = old.there;
      branches = old.branches;
      others =
          λ j d l e a. elim (below-or-at j i l) [
            | inl before ↦ old.others j d before e a
            | inr same ↦ (let l : b < i = old.within in inr (
              n,
              at-column j d e same,
              (λ f. absurd (omega (arith, l, f, same))),
              less,
            ))
          ];
    }

    -- a column that is asked: the best is the one with fewer branches
    pub best-more : (best : Option (ℕ × ℕ)) → IsBestOf i best → IsBestOf (i + 1) (fewer best i n)
    best-more None none = record {
      within = omega arith;
      asked = asked;
      column = c;
      there = there;
      branches = branches;
      others =
          λ j d l e a. elim (below-or-at j i l) [
            | inl before ↦ absurd (true≢false (sym a ∙ none j before))
            | inr same ↦ inl same
          ];
    }
    best-more (Some (b, m)) old = go (nat_lt n m) refl
      where
        go : (t : Bool) → nat_lt n m ≡ t → IsBestOf (i + 1) (cond t (Some (i, n)) (Some (b, m)))
        go true e = newer b m (grind (arith, nat_tests)) old
        go false e = kept b m (grind (arith, nat_tests)) old

module _ {T : Type 0} (cx : Context T) (V : T → Bool → MValue → Type 0) (columns : List (MColumn T)) (r : MRow T)
    (rows : List (MRow T)) where
  -- where all columns were gone through, the best is the one with the fewest branches
  best-is : (b n : ℕ) → IsBest cx V columns (r ∷ rows) (length r.heads) b n → IsFewest cx V columns (r ∷ rows) b
  best-is b n best =
      fewest-of cx V columns (r ∷ rows) b best.column n best.asked best.there best.branches
      (λ j d e a. best.others j d (asked-within r rows j a) e a)

  -- some column is asked of a row that is no leaf
  none-left : IsBestOf cx V columns (r ∷ rows) (length r.heads) None → all_wild r ≡ false → ⊥
  unfolding asked-by
  none-left none leaf =
      true≢false (sym (none-asked r.heads (λ i l. not-asked-wild (starts_wild (drop i r.heads)) (none i l))) ∙ leaf)

  module _ (whole : List (MRow T)) (cut : whole ≡ r ∷ rows) (i : ℕ) (end : i ≡ length r.heads)
      (best : Option (ℕ × ℕ)) (so_far : IsBestOf cx V columns whole i best) where
    at-end : (now : Option (ℕ × ℕ)) → best ≡ now → IsBestOf cx V columns (r ∷ rows) (length r.heads) now
    at-end now e =
        subst (λ x. IsBestOf cx V columns (r ∷ rows) (length r.heads) x) e
        (subst (λ j. IsBestOf cx V columns (r ∷ rows) j best) end
        (subst (λ rs. IsBestOf cx V columns rs i best) cut so_far))

    pub best-found : (b n : ℕ) → best ≡ Some (b, n) → IsFewest cx V columns whole b
    best-found b n e = subst (λ rs. IsFewest cx V columns rs b) (sym cut) (best-is b n (at-end (Some (b, n)) e))

    pub none-found : best ≡ None → all_wild r ≡ false → ⊥
    none-found e leaf = none-left (at-end None e) leaf

-- the first row
pub first-cut : {T : Type 0} (rows : List (KeyedRow T)) (d : KeyedRow T) → 0 < length rows →
    plain_rows rows ≡ plain_row (get_or rows 0 d) ∷ plain_rows (drop 1 rows)
first-cut [] d l = absurd (omega (arith, l))
first-cut (r ∷ rows) d l = refl

-- it has as many heads as there are columns
pub first-heads : {T : Type 0} (cx : Context T) (columns : List (KeyedColumn T)) (rows : List (KeyedRow T))
    (d : KeyedRow T) → 0 < length rows → Every (λ r. AreHeadsTyped cx (plain_columns columns) r.heads) (plain_rows rows) →
    length columns ≡ length (plain_row (get_or rows 0 d)).heads
first-heads cx columns [] d l t = absurd (omega (arith, l))
first-heads cx columns (r ∷ rows) d l t =
    sym (length-map columns plain_column) ∙ as-many cx (plain_columns columns) (plain_heads r.heads.items) t.0

-- a mark for each column is made of its runs
pub as-many-marks : {T : Type 0} (cx : Context T) (columns : List (KeyedColumn T)) (rows : List (KeyedRow T))
    (d : KeyedRow T) → 0 < length rows → Every (λ r. AreHeadsTyped cx (plain_columns columns) r.heads) (plain_rows rows) →
    (runs : List (HeadRun T)) → runs ≡ (get_or rows 0 d).heads.items →
    (marks : List Bool) → marks ≡ map asks (plain_heads runs) → length marks ≡ length columns
as-many-marks cx columns rows d l t runs same marks made =
    ap length made ∙ length-map (plain_heads runs) asks ∙ ap (λ hs. length (plain_heads hs)) same
    ∙ sym (first-heads cx columns rows d l t)

-- a mark that is read there stands there
pub mark-there : (bs : List Bool) (i : ℕ) (b : Bool) → i < length bs → b ≡ get_or bs i b → b ≡ true →
    slice_get bs i ≡ Some true
mark-there [] i b l e t = absurd (omega (arith, l))
mark-there (x ∷ bs) zero b l e t = ap Some (sym e ∙ t)
mark-there (x ∷ bs) (suc i) b l e t = mark-there bs i b (omega (arith, l)) e t

-- the constructors in the list that is read there
pub list-there : (lists : List (Vec Ctor)) (i : ℕ) (x : Vec Ctor) → i < length lists → x ≡ get_or lists i x →
    map plain_ctor x.items ≡ ctors_in lists i
list-there [] i x l e = absurd (omega (arith, l))
list-there (y ∷ lists) zero x l e = ap (λ (v : Vec Ctor). map plain_ctor v.items) e
list-there (y ∷ lists) (suc i) x l e = list-there lists i x (omega (arith, l)) e
