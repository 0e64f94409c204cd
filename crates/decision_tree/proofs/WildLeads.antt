-- Rows have the tree that they have without a column in which all are wild.
use Rattle.std.proofs.Common.{◌≡◌, ◌<◌, ◌≤◌, ◌⊎◌, inl, inr, ℕ, zero, suc, Bool, true, false, List, [], ◌∷◌, length, Some, slice_get, refl, sym, ap, ◌∙◌, arith, subst, IsTrue}
use Rattle.std.proofs.lemmas.List.{length-append}
use Rattle.match_model.specs.Values.{MValue}
use Rattle.match_model.specs.Constructors.{MCtor}
use Rattle.match_model.specs.Contexts.{Context}
use Rattle.match_model.specs.ContextLaws.{PartsLaw, ValuesLaw}
use Rattle.match_model.specs.DecisionTrees.{MTree, AskTree, TakeTree, MBranches, all_wild, row_binds}
use Rattle.match_model.specs.FewestBranches.{AreBranches, no_branches, as_cases, AreCases, is_asked, IsFewest}
use Rattle.match_model.specs.Keys.{Decision}
use Rattle.match_model.specs.Lists.{Every, Ordered, Among}
use Rattle.match_model.specs.Lowering.{ctors_at, all_wild_at, Lowers, no_value_left, no_row_left, takes, asks, drops, opens, switches, Branches, no_else, with_else, no_case, one_case}
use Rattle.match_model.specs.Matrices.{MColumn, MRow, open_of, part_columns}
use Rattle.match_model.specs.Pieces.{ArePieces, each_below}
use Rattle.match_model.specs.PieceStates.{HasValue, named_in, is_present}
use Rattle.match_model.specs.RowOrder.{AreInOrder}
use Rattle.match_model.specs.Rows.{Head}
use Rattle.match_model.specs.Steps.{expand_head, specialise_head, default_head, replaced_at, rows_at}
use Rattle.keyed_rows.proofs.Dividing.{drop-divides, piece-divides, expand-divides}
use Rattle.keyed_rows.specs.Dividing.{GoodAt, HasCount}
use Rattle.keyed_rows.specs.Parting.{RowParted}
use Rattle.keyed_steps.specs.Good.{IsGood, IsReady}
use Rattle.decision_tree.specs.WildColumns.{left_out, all_left_out, AreWildAt}
use Rattle.decision_tree.proofs.Stepping.{rows-are-free, any-head, expanded-ready, expanded-parted, dropped-good, dropped-parted, counted, entered-good, entered-parted}
use Rattle.decision_tree.proofs.WildColumns.{beside, moved, moved-one, beside-other, beside-less, get-beside, get-moved, cut-replaced, wild-cut, ctors-cut, asked-cut, not-asked, all-wild-cut, rows-cut}
use Rattle.decision_tree.proofs.WildSteps.{all-wide, step-uncut, step-wild}
use Rattle.decision_tree.proofs.WildGood.{binds-cut}

long : {A : Type 0} (f : ℕ → A) (n : ℕ) → length (each_below f n) ≡ n
long f zero = refl
long f (suc n) = let e = long f n in omega (arith, e, length-append (each_below f n) (f n ∷ []))

first-of : {A : Type 0} (x y : A) (xs ys : List A) → x ∷ xs ≡ y ∷ ys → x ≡ y
first-of x y xs ys e = cc

rest-of : {A : Type 0} (x y : A) (xs ys : List A) → x ∷ xs ≡ y ∷ ys → xs ≡ ys
rest-of x y xs ys e = cc

module _ {T : Type 0} (IsType : T → Type 0) (cx : Context T) (decides : ℕ → Decision)
    (V : T → Bool → MValue → Type 0) (law : PartsLaw IsType V cx) (values : ValuesLaw IsType V cx) (BareOnly : Type 0)
    (d : MColumn T) where
  abbrev L : List (MColumn T) → List (MRow T) → MTree → Type 0
  L columns rows t = Lowers cx V decides (IsFewest cx V) BareOnly columns rows t

  abbrev Cases : ℕ → MColumn T → List (MColumn T) → List (MRow T) → (all pieces : List MCtor) → MBranches → Type 0
  Cases i c columns rows all pieces branches =
      Branches cx V decides (IsFewest cx V) BareOnly i c columns rows all pieces branches

  -- the rows without column `i`
  abbrev Without : ℕ → List (MRow T) → List (MRow T)
  Without i rows = all_left_out d.place i rows

  -- what stays so with each step: the matrix is good, and all rows are wild in column `i`
  pub record IsBeside (i : ℕ) (columns : List (MColumn T)) (rows : List (MRow T)) : Type 0 where
    pub good : IsGood IsType cx decides columns rows
    pub parted : Ordered (RowParted decides) rows
    pub there : slice_get columns i ≡ Some d
    pub wild : AreWildAt i rows

  -- rows in order after a step of rows without the column, with the column
  pub record IsUncut (at : ℕ) (columns : List (MColumn T)) (rows next : List (MRow T)) : Type 0 where
    pub new : List (MRow T)
    pub shows : next ≡ Without at new
    pub order : AreInOrder decides rows new
    pub here : IsBeside at columns new

  -- the same, with no or-pattern in column `k`
  pub record IsUncutReady (i k : ℕ) (columns : List (MColumn T)) (rows next : List (MRow T)) : Type 0 where
    pub new : List (MRow T)
    pub shows : next ≡ Without i new
    pub order : AreInOrder decides rows new
    pub ready : IsReady IsType cx decides k columns new
    pub here : IsBeside i columns new

  -- the number of branches depends on the heads alone
  pub branches-to : (j k : ℕ) (c : MColumn T) (rows others : List (MRow T)) (n : ℕ) →
      all_wild_at j (rows_at expand_head c.place j rows) ≡ all_wild_at k (rows_at expand_head c.place k others) →
      ctors_at j (rows_at expand_head c.place j rows) ≡ ctors_at k (rows_at expand_head c.place k others) →
      AreBranches cx V j c rows n → AreBranches cx V k c others n
  branches-to j k c rows others _ w e (no_branches h) = no_branches (subst IsTrue w h)
  branches-to j k c rows others _ w e (as_cases pieces n h are cases) =
      as_cases pieces n (sym w ∙ h) (subst (λ cs. ArePieces (cx.set_of c.type) cs pieces) e are)
      (subst (λ cs. AreCases V c cs pieces pieces n) e cases)

  module _ (i : ℕ) (columns : List (MColumn T)) (rows : List (MRow T)) (h : IsBeside i columns rows) where
    expanded-same : (j : ℕ) (c : MColumn T) → rows_at expand_head c.place j (Without i rows)
        ≡ Without i (rows_at expand_head c.place (beside i j) rows)
    expanded-same j c =
        rows-cut expand_head 1 d.place c.place i j rows
        (all-wide decides (λ (g : Head T). Unit {0}) 1 expand_head (expand-divides decides) (beside i j) rows
        (any-head IsType cx decides (beside i j) rows) (rows-are-free IsType cx decides columns rows h.good))
        ∙ ap (λ n. Without n (rows_at expand_head c.place (beside i j) rows)) (moved-one i j)

    wild-same : (j : ℕ) (c : MColumn T) → all_wild_at j (rows_at expand_head c.place j (Without i rows))
        ≡ all_wild_at (beside i j) (rows_at expand_head c.place (beside i j) rows)
    wild-same j c =
        ap (all_wild_at j) (expanded-same j c) ∙ wild-cut d.place i j (rows_at expand_head c.place (beside i j) rows)

    ctors-same : (j : ℕ) (c : MColumn T) → ctors_at j (rows_at expand_head c.place j (Without i rows))
        ≡ ctors_at (beside i j) (rows_at expand_head c.place (beside i j) rows)
    ctors-same j c =
        ap (ctors_at j) (expanded-same j c) ∙ ctors-cut d.place i j (rows_at expand_head c.place (beside i j) rows)

    -- the column is not chosen, and what is chosen without it is chosen beside it
    fewest-beside : (j : ℕ) → IsFewest cx V (replaced_at i columns []) (Without i rows) j →
        IsFewest cx V columns rows (beside i j)
    fewest-beside j f = record {
      asked = subst IsTrue (asked-cut d.place i j rows) f.asked;
      column = f.column;
      there = sym (get-beside i j columns) ∙ f.there;
      count = f.count;
      branches =
          branches-to j (beside i j) f.column (Without i rows) rows f.count (wild-same j f.column)
          (ctors-same j f.column) f.branches;
      fewest = λ m c n e a b. more m c n e a b (beside-other i m (λ q. not-asked i rows h.wild
          (subst (λ z. IsTrue (is_asked z rows)) q a)));
    }
      where
        more : (m : ℕ) (c : MColumn T) (n : ℕ) → slice_get columns m ≡ Some c → IsTrue (is_asked m rows) →
            AreBranches cx V m c rows n → (o : ℕ) × (beside i o ≡ m) → (m < beside i j → f.count < n) × (f.count ≤ n)
        more m c n e a b o =
            let r = f.fewest o.0 c n (get-beside i o.0 columns ∙ (ap (slice_get columns) o.1 ∙ e))
            (subst IsTrue (sym (asked-cut d.place i o.0 rows)) (subst (λ z. IsTrue (is_asked z rows)) (sym o.1) a))
            (branches-to (beside i o.0) o.0 c rows (Without i rows) n (sym (wild-same o.0 c)) (sym (ctors-same o.0 c))
            (subst (λ z. AreBranches cx V z c rows n) (sym o.1) b)) in
            (λ l. r.0 (beside-less i o.0 j (subst (λ z. z < beside i j) (sym o.1) l)), r.1)

    -- the or-patterns of a column are taken apart
    expand-uncut : (j : ℕ) (c : MColumn T) (next : List (MRow T)) → slice_get columns (beside i j) ≡ Some c →
        AreInOrder decides (rows_at expand_head c.place j (Without i rows)) next →
        IsUncutReady i (beside i j) columns (rows_at expand_head c.place (beside i j) rows) next
    expand-uncut j c next e o = record {
      new = x.0;
      shows = x.1 ∙ ap (λ n. Without n x.0) (moved-one i j);
      order = x.2;
      ready = expanded-ready IsType cx decides V law values (beside i j) c columns rows e h.parted h.good x.0 x.2;
      here = record {
        good =
            (expanded-ready IsType cx decides V law values (beside i j) c columns rows e h.parted h.good x.0 x.2).good;
        parted = expanded-parted IsType cx decides V law values (beside i j) c columns rows e h.parted h.good x.0 x.2;
        there = h.there;
        wild =
            subst (λ n. AreWildAt n x.0) (moved-one i j)
            (step-wild decides (λ (g : Head T). Unit {0}) 1 expand_head (expand-divides decides) d.place c.place i j rows
            (any-head IsType cx decides (beside i j) rows) (rows-are-free IsType cx decides columns rows h.good) h.parted
            x.0 x.2 h.wild);
      };
    }
      where
        x : (new : List (MRow T)) × (next ≡ Without (moved 1 i j) new)
            × AreInOrder decides (rows_at expand_head c.place (beside i j) rows) new
        x = step-uncut decides (λ (g : Head T). Unit {0}) 1 expand_head (expand-divides decides) d.place c.place i j rows
            (any-head IsType cx decides (beside i j) rows) (rows-are-free IsType cx decides columns rows h.good) h.parted
            next o

    module _ (j : ℕ) (c : MColumn T) (e : slice_get columns (beside i j) ≡ Some c)
        (ready : IsReady IsType cx decides (beside i j) columns rows) where
      -- a column is dropped
      drop-uncut : (next : List (MRow T)) → AreInOrder decides (rows_at default_head c.place j (Without i rows)) next →
          IsUncut (moved 0 i j) (replaced_at (beside i j) columns []) (rows_at default_head c.place (beside i j) rows) next
      drop-uncut next o = record {
        new = x.0;
        shows = x.1;
        order = x.2;
        here = record {
          good = dropped-good IsType cx decides V law values (beside i j) c columns rows e h.parted ready x.0 x.2;
          parted = dropped-parted IsType cx decides V law values (beside i j) c columns rows e h.parted ready x.0 x.2;
          there = get-moved i j columns [] d h.there;
          wild =
              step-wild decides (λ (g : Head T). Unit {0}) 0 default_head (drop-divides decides) d.place c.place i j rows
              (any-head IsType cx decides (beside i j) rows) (rows-are-free IsType cx decides columns rows h.good)
              h.parted x.0 x.2 h.wild;
        };
      }
        where
          x : (new : List (MRow T)) × (next ≡ Without (moved 0 i j) new)
              × AreInOrder decides (rows_at default_head c.place (beside i j) rows) new
          x = step-uncut decides (λ (g : Head T). Unit {0}) 0 default_head (drop-divides decides) d.place c.place i j rows
              (any-head IsType cx decides (beside i j) rows) (rows-are-free IsType cx decides columns rows h.good)
              h.parted next o

      -- a piece is entered
      enter-uncut : (pieces : List MCtor) (p : MCtor) → ArePieces (cx.set_of c.type) (ctors_at (beside i j) rows) pieces →
          Among p pieces → (next : List (MRow T)) →
          AreInOrder decides (rows_at (specialise_head p (cx.arity p c.type)) c.place j (Without i rows)) next →
          IsUncut (moved (length (part_columns cx c p)) i j) (replaced_at (beside i j) columns (part_columns cx c p))
          (rows_at (specialise_head p (cx.arity p c.type)) c.place (beside i j) rows) next
      enter-uncut pieces p are among next o = record {
        new = x.0;
        shows = x.1 ∙ ap (λ n. Without (moved n i j) x.0) (sym wide);
        order = x.2;
        here = record {
          good =
              entered-good IsType cx decides V law values (beside i j) c columns rows e h.parted ready pieces p are among
              x.0 x.2;
          parted =
              entered-parted IsType cx decides V law values (beside i j) c columns rows e h.parted ready pieces p are
              among x.0 x.2;
          there = get-moved i j columns (part_columns cx c p) d h.there;
          wild =
              subst (λ n. AreWildAt (moved n i j) x.0) (sym wide)
              (step-wild decides (HasCount p (cx.arity p c.type)) (cx.arity p c.type)
              (specialise_head p (cx.arity p c.type)) (piece-divides decides p (cx.arity p c.type)) d.place c.place i j rows
              counts (rows-are-free IsType cx decides columns rows h.good) h.parted x.0 x.2 h.wild);
        };
      }
        where
          wide : length (part_columns cx c p) ≡ cx.arity p c.type
          wide = long _ (cx.arity p c.type)

          counts : Every (λ r. GoodAt (HasCount p (cx.arity p c.type)) (beside i j) r.heads) rows
          counts =
              counted IsType cx decides V law values (beside i j) c columns rows e h.parted ready pieces p are among

          x : (new : List (MRow T)) × (next ≡ Without (moved (cx.arity p c.type) i j) new)
              × AreInOrder decides (rows_at (specialise_head p (cx.arity p c.type)) c.place (beside i j) rows) new
          x = step-uncut decides (HasCount p (cx.arity p c.type)) (cx.arity p c.type)
              (specialise_head p (cx.arity p c.type)) (piece-divides decides p (cx.arity p c.type)) d.place c.place i j rows
              counts (rows-are-free IsType cx decides columns rows h.good) h.parted next o

  -- the rows behind the first
  behind : (i : ℕ) (columns : List (MColumn T)) (r : MRow T) (rows : List (MRow T)) → IsBeside i columns (r ∷ rows) →
      IsBeside i columns rows
  behind i columns r rows h = record {
    good = record { columns_are = h.good.columns_are; rows_are = h.good.rows_are.1 };
    parted = h.parted.1;
    there = h.there;
    wild = h.wild.1;
  }

  module _ (i : ℕ) (columns cs : List (MColumn T)) (r : MRow T) (rows rest : List (MRow T)) (first : MRow T)
      (e : cs ≡ replaced_at i columns []) (f : first ∷ rest ≡ Without i (r ∷ rows))
      (h : IsBeside i columns (r ∷ rows)) where
    is-first : first ≡ left_out d.place i r
    is-first = first-of first (left_out d.place i r) rest (Without i rows) f

    first-leaf : IsTrue (all_wild first) → IsTrue (all_wild r)
    first-leaf w = subst IsTrue (ap all_wild is-first ∙ all-wild-cut d.place i r h.wild.0) w

    first-guard : (b : Bool) → first.guarded ≡ b → r.guarded ≡ b
    first-guard b g = ap (λ x. x.guarded) (sym is-first) ∙ g

    first-binds : row_binds columns r ≡ row_binds cs first
    first-binds =
        binds-cut decides IsType cx i columns d r h.there h.good.rows_are.0
        ∙ (λ k. row_binds (sym e k) (sym is-first k))

    first-takes : TakeTree r.arm (row_binds columns r) ≡ TakeTree first.arm (row_binds cs first)
    first-takes = λ k. TakeTree ((ap (λ x. x.arm) (sym is-first)) k) (first-binds k)

    first-asks : (t : MTree) → AskTree r.arm (row_binds columns r) t ≡ AskTree first.arm (row_binds cs first) t
    first-asks t = λ k. AskTree ((ap (λ x. x.arm) (sym is-first)) k) (first-binds k) t

  chosen : (i : ℕ) (columns : List (MColumn T)) (rows : List (MRow T)) (cs : List (MColumn T)) (rs : List (MRow T))
      (j : ℕ) → cs ≡ replaced_at i columns [] → rs ≡ Without i rows → IsBeside i columns rows →
      IsFewest cx V cs rs j → IsFewest cx V columns rows (beside i j)
  chosen i columns rows cs rs j e f h p =
      fewest-beside i columns rows h j
      (subst (λ q. IsFewest cx V q (Without i rows) j) e (subst (λ q. IsFewest cx V cs q j) f p))

  mutual
    -- the tree of the rows without the column is that of the rows
    pub tree-beside : (cs : List (MColumn T)) (rs : List (MRow T)) (t : MTree) → L cs rs t → (i : ℕ)
        (columns : List (MColumn T)) (rows : List (MRow T)) → cs ≡ replaced_at i columns [] → rs ≡ Without i rows →
        IsBeside i columns rows → L columns rows t
    tree-beside _ _ _ (no_value_left cs b) i columns [] e f h = no_value_left columns b
    tree-beside _ _ _ (no_value_left cs b) i columns (r ∷ rows) e f h = cc
    tree-beside _ _ _ (no_row_left cs b) i columns [] e f h = no_row_left columns b
    tree-beside _ _ _ (no_row_left cs b) i columns (r ∷ rows) e f h = cc
    tree-beside _ _ _ (takes cs first rest w g) i columns [] e f h = cc
    tree-beside _ _ _ (takes cs first rest w g) i columns (r ∷ rows) e f h =
        subst (L columns (r ∷ rows)) (first-takes i columns cs r rows rest first e f h)
        (takes columns r rows (first-leaf i columns cs r rows rest first e f h w)
        (first-guard i columns cs r rows rest first e f h false g))
    tree-beside _ _ _ (asks cs first rest t w g l) i columns [] e f h = cc
    tree-beside _ _ _ (asks cs first rest t w g l) i columns (r ∷ rows) e f h =
        subst (L columns (r ∷ rows)) (first-asks i columns cs r rows rest first e f h t)
        (asks columns r rows t (first-leaf i columns cs r rows rest first e f h w)
        (first-guard i columns cs r rows rest first e f h true g)
        (tree-beside cs rest t l i columns rows e (rest-of first (left_out d.place i r) rest (Without i rows) f)
        (behind i columns r rows h)))
    tree-beside _ _ _ (drops j c cs rs expanded next t p th o w n l) i columns rows e f h =
        let k = beside i j in
        let there : slice_get columns k ≡ Some c = sym (get-beside i j columns) ∙ (ap (λ q. slice_get q j) (sym e) ∙ th) in
        let x = expand-uncut i columns rows h j c expanded there
        (subst (λ q. AreInOrder decides (rows_at expand_head c.place j q) expanded) f o) in
        let y = drop-uncut i columns x.new x.here j c there x.ready next
        (subst (λ q. AreInOrder decides (rows_at default_head c.place j q) next) x.shows n) in
        drops k c columns rows x.new y.new t (chosen i columns rows cs rs j e f h p) there x.order
        (subst IsTrue (ap (all_wild_at j) x.shows ∙ wild-cut d.place i j x.new) w) y.order
        (tree-beside (replaced_at j cs []) next t l (moved 0 i j) (replaced_at k columns []) y.new
        (ap (λ q. replaced_at j q []) e ∙ cut-replaced i j columns []) y.shows y.here)
    tree-beside _ _ _ (opens j c cs rs expanded next piece t p th o w s are n l) i columns rows e f h =
        let k = beside i j in
        let there : slice_get columns k ≡ Some c = sym (get-beside i j columns) ∙ (ap (λ q. slice_get q j) (sym e) ∙ th) in
        let x = expand-uncut i columns rows h j c expanded there
        (subst (λ q. AreInOrder decides (rows_at expand_head c.place j q) expanded) f o) in
        let pieces : ArePieces (cx.set_of c.type) (ctors_at k x.new) (piece ∷ []) = subst
        (λ q. ArePieces (cx.set_of c.type) q (piece ∷ [])) (ap (ctors_at j) x.shows ∙ ctors-cut d.place i j x.new) are in
        let y = enter-uncut i columns x.new x.here j c there x.ready (piece ∷ []) piece pieces (inl refl) next
        (subst (λ q. AreInOrder decides (rows_at (specialise_head piece (cx.arity piece c.type)) c.place j q) next)
        x.shows n) in
        opens k c columns rows x.new y.new piece t (chosen i columns rows cs rs j e f h p) there x.order
        (sym (ap (all_wild_at j) x.shows ∙ wild-cut d.place i j x.new) ∙ w) s pieces y.order
        (tree-beside (replaced_at j cs (part_columns cx c piece)) next t l (moved (length (part_columns cx c piece)) i j)
        (replaced_at k columns (part_columns cx c piece)) y.new
        (ap (λ q. replaced_at j q (part_columns cx c piece)) e ∙ cut-replaced i j columns (part_columns cx c piece))
        y.shows y.here)
    tree-beside _ _ _ (switches j c cs rs expanded pieces branches p th o w s are l) i columns rows e f h =
        let k = beside i j in
        let there : slice_get columns k ≡ Some c = sym (get-beside i j columns) ∙ (ap (λ q. slice_get q j) (sym e) ∙ th) in
        let x = expand-uncut i columns rows h j c expanded there
        (subst (λ q. AreInOrder decides (rows_at expand_head c.place j q) expanded) f o) in
        let all : ArePieces (cx.set_of c.type) (ctors_at k x.new) pieces = subst
        (λ q. ArePieces (cx.set_of c.type) q pieces) (ap (ctors_at j) x.shows ∙ ctors-cut d.place i j x.new) are in
        switches k c columns rows x.new pieces branches (chosen i columns rows cs rs j e f h p) there x.order
        (sym (ap (all_wild_at j) x.shows ∙ wild-cut d.place i j x.new) ∙ w) s all
        (cases-beside j c cs expanded pieces pieces branches l i columns x.new e x.shows x.here there x.ready all
        (λ q a. a))

    -- and each case of a switch is the same
    cases-beside : (j : ℕ) (c : MColumn T) (cs : List (MColumn T)) (rs : List (MRow T)) (all pieces : List MCtor)
        (branches : MBranches) → Cases j c cs rs all pieces branches → (i : ℕ) (columns : List (MColumn T))
        (rows : List (MRow T)) → cs ≡ replaced_at i columns [] → rs ≡ Without i rows → IsBeside i columns rows →
        slice_get columns (beside i j) ≡ Some c → IsReady IsType cx decides (beside i j) columns rows →
        ArePieces (cx.set_of c.type) (ctors_at (beside i j) rows) all → ((q : MCtor) → Among q pieces → Among q all) →
        Cases (beside i j) c columns rows all pieces branches
    cases-beside _ _ _ _ _ _ _ (no_else j c cs rs all g) i columns rows e f h there ready are m =
        no_else (beside i j) c columns rows all
        (λ piece q. g piece (q.0, ap (λ x. is_present x piece) (ap (ctors_at j) f ∙ ctors-cut d.place i j rows) ∙ q.1))
    cases-beside _ _ _ _ _ _ _ (with_else j c cs rs next all piece t g v o l) i columns rows e f h there ready are m =
        let y = drop-uncut i columns rows h j c there ready next
        (subst (λ q. AreInOrder decides (rows_at default_head c.place j q) next) f o) in
        with_else (beside i j) c columns rows y.new all piece t
        (g.0, ap (λ x. is_present x piece) (sym (ap (ctors_at j) f ∙ ctors-cut d.place i j rows)) ∙ g.1) v y.order
        (tree-beside (replaced_at j cs []) next t l (moved 0 i j) (replaced_at (beside i j) columns []) y.new
        (ap (λ q. replaced_at j q []) e ∙ cut-replaced i j columns []) y.shows y.here)
    cases-beside _ _ _ _ _ _ _ (no_case j c cs rs all piece pieces branches g l) i columns rows e f h there ready are m =
        no_case (beside i j) c columns rows all piece pieces branches (none g)
        (cases-beside j c cs rs all pieces branches l i columns rows e f h there ready are (λ q a. m q (inr a)))
      where
        none : (is_present (ctors_at j rs) piece ≡ false) ⊎ (¬ HasValue V (open_of c) (named_in all) piece) →
            (is_present (ctors_at (beside i j) rows) piece ≡ false) ⊎ (¬ HasValue V (open_of c) (named_in all) piece)
        none (inl x) = inl (ap (λ z. is_present z piece) (sym (ap (ctors_at j) f ∙ ctors-cut d.place i j rows)) ∙ x)
        none (inr x) = inr x
    cases-beside _ _ _ _ _ _ _ (one_case j c cs rs next all piece pieces t branches g v o l b) i columns rows e f h there ready are m =
        let y = enter-uncut i columns rows h j c there ready all piece are (m piece (inl refl)) next
        (subst (λ q. AreInOrder decides (rows_at (specialise_head piece (cx.arity piece c.type)) c.place j q) next) f o) in
        one_case (beside i j) c columns rows y.new all piece pieces t branches
        (subst IsTrue (ap (λ x. is_present x piece) (ap (ctors_at j) f ∙ ctors-cut d.place i j rows)) g) v y.order
        (tree-beside (replaced_at j cs (part_columns cx c piece)) next t l (moved (length (part_columns cx c piece)) i j)
        (replaced_at (beside i j) columns (part_columns cx c piece)) y.new
        (ap (λ q. replaced_at j q (part_columns cx c piece)) e ∙ cut-replaced i j columns (part_columns cx c piece))
        y.shows y.here)
        (cases-beside j c cs rs all pieces branches b i columns rows e f h there ready are (λ q a. m q (inr a)))
