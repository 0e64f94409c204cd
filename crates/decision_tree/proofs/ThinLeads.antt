-- Rows have the tree of rows that are the same but for wildcards that bind nothing.
use Rattle.std.proofs.Common.{◌≡◌, ◌⊎◌, inl, inr, ℕ, Bool, true, false, List, [], ◌∷◌, Some, slice_get, refl, sym, ap, ◌∙◌, subst, IsTrue}
use Rattle.match_model.specs.Values.{MValue}
use Rattle.match_model.specs.Constructors.{MCtor}
use Rattle.match_model.specs.Contexts.{Context}
use Rattle.match_model.specs.ContextLaws.{PartsLaw, ValuesLaw}
use Rattle.match_model.specs.DecisionTrees.{MTree, AskTree, TakeTree, MBranches, all_wild, row_binds}
use Rattle.match_model.specs.FewestBranches.{AreBranches, is_asked, IsFewest}
use Rattle.match_model.specs.Keys.{Decision}
use Rattle.match_model.specs.Lists.{Ordered, Among}
use Rattle.match_model.specs.Lowering.{ctors_at, all_wild_at, Lowers, no_value_left, no_row_left, takes, asks, drops, opens, switches, Branches, no_else, with_else, no_case, one_case}
use Rattle.match_model.specs.Matrices.{MColumn, MRow, open_of, part_columns}
use Rattle.match_model.specs.Pieces.{ArePieces}
use Rattle.match_model.specs.PieceStates.{HasValue, named_in, is_present}
use Rattle.match_model.specs.Places.{MStep}
use Rattle.match_model.specs.RowOrder.{AreInOrder}
use Rattle.match_model.specs.Rows.{Head}
use Rattle.match_model.specs.Steps.{Replacement, expand_head, specialise_head, default_head, replaced_at, rows_at}
use Rattle.keyed_rows.proofs.Dividing.{drop-divides, piece-divides}
use Rattle.keyed_rows.specs.Dividing.{HasCount}
use Rattle.keyed_rows.specs.Parting.{RowParted}
use Rattle.keyed_steps.specs.Good.{IsGood, IsReady}
use Rattle.keyed_matrix.specs.Turns.{IsOneFirst}
use Rattle.decision_tree.specs.Thin.{thin_row, thin_rows}
use Rattle.decision_tree.proofs.ThinHeads.{leaf-thin, binds-thin, wild-thin, ctors-thin, asked-thin, IsBlind, expand-blind, default-blind, specialise-blind, rows-alike}
use Rattle.decision_tree.proofs.OneFirst.{one-first}
use Rattle.decision_tree.proofs.Shown.{order-shown, order-unshown}
use Rattle.decision_tree.proofs.Stepping.{rows-are-free, any-head, expanded-first, expanded-ready, expanded-parted, dropped-good, dropped-parted, counted, entered-good, entered-parted}
use Rattle.decision_tree.proofs.WildLeads.{branches-to}

first-of : {A : Type 0} (x y : A) (xs ys : List A) → x ∷ xs ≡ y ∷ ys → x ≡ y
first-of x y xs ys e = cc

rest-of : {A : Type 0} (x y : A) (xs ys : List A) → x ∷ xs ≡ y ∷ ys → xs ≡ ys
rest-of x y xs ys e = cc

module _ {T : Type 0} (IsType : T → Type 0) (cx : Context T) (decides : ℕ → Decision)
    (V : T → Bool → MValue → Type 0) (law : PartsLaw IsType V cx) (values : ValuesLaw IsType V cx) (BareOnly : Type 0) where
  abbrev L : List (MColumn T) → List (MRow T) → MTree → Type 0
  L columns rows t = Lowers cx V decides (IsFewest cx V) BareOnly columns rows t

  abbrev Cases : ℕ → MColumn T → List (MColumn T) → List (MRow T) → (all pieces : List MCtor) → MBranches → Type 0
  Cases i c columns rows all pieces branches =
      Branches cx V decides (IsFewest cx V) BareOnly i c columns rows all pieces branches

  -- the same but for such wildcards
  abbrev AreAlikeRows : List (MRow T) → List (MRow T) → Type 0
  AreAlikeRows rs rows = thin_rows rs ≡ thin_rows rows

  -- what stays so with each step
  pub record IsSound (columns : List (MColumn T)) (rows : List (MRow T)) : Type 0 where
    pub good : IsGood IsType cx decides columns rows
    pub parted : Ordered (RowParted decides) rows

  -- rows in order after a step, which are the same as others but for such wildcards
  pub record IsAlikeNext (columns : List (MColumn T)) (rows next : List (MRow T)) : Type 0 where
    pub new : List (MRow T)
    pub shows : AreAlikeRows next new
    pub order : AreInOrder decides rows new
    pub here : IsSound columns new

  -- the rows in order of others whose steps are the same but for such wildcards
  next-alike : (f : Head T → List (Replacement T)) → IsBlind f → (place : List MStep) (i : ℕ) (rs rows next : List (MRow T)) →
      AreAlikeRows rs rows → Ordered (IsOneFirst decides) (rows_at f place i rows) →
      AreInOrder decides (rows_at f place i rs) next →
      (new : List (MRow T)) × AreAlikeRows next new × AreInOrder decides (rows_at f place i rows) new
  next-alike f blind place i rs rows next e o a =
      order-unshown decides thin_row (λ r s q. ap (λ x. x.arm) q) (λ r s q. ap (λ x. x.chosen) q) (λ r s h. h)
      (rows_at f place i rows) (thin_rows next) o
      (subst (λ xs. AreInOrder decides xs (thin_rows next)) (rows-alike f blind place i rs rows e)
      (order-shown decides thin_row (λ r s q. ap (λ x. x.arm) q) (λ r s q. ap (λ x. x.chosen) q) (λ r s h. h)
      (rows_at f place i rs) next a))

  module _ (columns : List (MColumn T)) (rs rows : List (MRow T)) (e : AreAlikeRows rs rows) where
    wild-alike : (i : ℕ) → all_wild_at i rs ≡ all_wild_at i rows
    wild-alike i = sym (wild-thin i rs) ∙ ap (all_wild_at i) e ∙ wild-thin i rows

    ctors-alike : (i : ℕ) → ctors_at i rs ≡ ctors_at i rows
    ctors-alike i = sym (ctors-thin i rs) ∙ ap (ctors_at i) e ∙ ctors-thin i rows

    asked-alike : (i : ℕ) → is_asked i rs ≡ is_asked i rows
    asked-alike i = sym (asked-thin i rs) ∙ ap (is_asked i) e ∙ asked-thin i rows

  -- the same column is chosen
  fewest-alike : (columns : List (MColumn T)) (rs rows : List (MRow T)) (i : ℕ) → AreAlikeRows rs rows →
      IsFewest cx V columns rs i → IsFewest cx V columns rows i
  fewest-alike columns rs rows i e f = record {
    asked = subst IsTrue (asked-alike columns rs rows e i) f.asked;
    column = f.column;
    there = f.there;
    count = f.count;
    branches = branches rs rows e i f.column f.count f.branches;
    fewest = λ j c n q a b.
        f.fewest j c n q (subst IsTrue (sym (asked-alike columns rs rows e j)) a) (branches rows rs (sym e) j c n b);
  }
    where
      branches : (xs ys : List (MRow T)) → AreAlikeRows xs ys → (j : ℕ) (c : MColumn T) (n : ℕ) →
          AreBranches cx V j c xs n → AreBranches cx V j c ys n
      branches xs ys q j c n b =
          let r = rows-alike expand_head expand-blind c.place j xs ys q in
          branches-to IsType cx decides V law values BareOnly c j j c xs ys n
          (wild-alike columns (rows_at expand_head c.place j xs) (rows_at expand_head c.place j ys) r j)
          (ctors-alike columns (rows_at expand_head c.place j xs) (rows_at expand_head c.place j ys) r j) b

  module _ (columns : List (MColumn T)) (rs rows : List (MRow T)) (e : AreAlikeRows rs rows) (h : IsSound columns rows)
      (i : ℕ) (c : MColumn T) (there : slice_get columns i ≡ Some c) where
    -- the same, with no or-pattern in the column
    pub record IsAlikeReady (next : List (MRow T)) : Type 0 where
      pub of : IsAlikeNext columns (rows_at expand_head c.place i rows) next
      pub ready : IsReady IsType cx decides i columns of.new

    -- the or-patterns of a column are taken apart
    expand-alike : (next : List (MRow T)) → AreInOrder decides (rows_at expand_head c.place i rs) next →
        IsAlikeReady next
    expand-alike next a = record {
      of = record {
        new = x.0;
        shows = x.1;
        order = x.2;
        here = record {
          good = (expanded-ready IsType cx decides V law values i c columns rows there h.parted h.good x.0 x.2).good;
          parted = expanded-parted IsType cx decides V law values i c columns rows there h.parted h.good x.0 x.2;
        };
      };
      ready = expanded-ready IsType cx decides V law values i c columns rows there h.parted h.good x.0 x.2;
    }
      where
        x : (new : List (MRow T)) × AreAlikeRows next new × AreInOrder decides (rows_at expand_head c.place i rows) new
        x = next-alike expand_head expand-blind c.place i rs rows next e
            (expanded-first IsType cx decides V law values i c columns rows there h.parted h.good) a

    module _ (ready : IsReady IsType cx decides i columns rows) where
      -- a column is dropped
      drop-alike : (next : List (MRow T)) → AreInOrder decides (rows_at default_head c.place i rs) next →
          IsAlikeNext (replaced_at i columns []) (rows_at default_head c.place i rows) next
      drop-alike next a = record {
        new = x.0;
        shows = x.1;
        order = x.2;
        here = record {
          good = dropped-good IsType cx decides V law values i c columns rows there h.parted ready x.0 x.2;
          parted = dropped-parted IsType cx decides V law values i c columns rows there h.parted ready x.0 x.2;
        };
      }
        where
          x : (new : List (MRow T)) × AreAlikeRows next new
              × AreInOrder decides (rows_at default_head c.place i rows) new
          x = next-alike default_head default-blind c.place i rs rows next e
              (one-first decides (λ g. Unit {0}) 0 default_head (drop-divides decides) c.place i rows
              (any-head IsType cx decides i rows) (rows-are-free IsType cx decides columns rows h.good) h.parted) a

      -- a piece is entered
      enter-alike : (pieces : List MCtor) (p : MCtor) → ArePieces (cx.set_of c.type) (ctors_at i rows) pieces →
          Among p pieces → (next : List (MRow T)) →
          AreInOrder decides (rows_at (specialise_head p (cx.arity p c.type)) c.place i rs) next →
          IsAlikeNext (replaced_at i columns (part_columns cx c p))
          (rows_at (specialise_head p (cx.arity p c.type)) c.place i rows) next
      enter-alike pieces p are among next a = record {
        new = x.0;
        shows = x.1;
        order = x.2;
        here = record {
          good =
              entered-good IsType cx decides V law values i c columns rows there h.parted ready pieces p are among x.0 x.2;
          parted =
              entered-parted IsType cx decides V law values i c columns rows there h.parted ready pieces p are among x.0
              x.2;
        };
      }
        where
          x : (new : List (MRow T)) × AreAlikeRows next new
              × AreInOrder decides (rows_at (specialise_head p (cx.arity p c.type)) c.place i rows) new
          x = next-alike (specialise_head p (cx.arity p c.type)) (specialise-blind p (cx.arity p c.type)) c.place i rs rows
              next e
              (one-first decides (HasCount p (cx.arity p c.type)) (cx.arity p c.type)
              (specialise_head p (cx.arity p c.type)) (piece-divides decides p (cx.arity p c.type)) c.place i rows
              (counted IsType cx decides V law values i c columns rows there h.parted ready pieces p are among)
              (rows-are-free IsType cx decides columns rows h.good) h.parted) a

  -- the rows behind the first
  behind : (columns : List (MColumn T)) (r : MRow T) (rows : List (MRow T)) → IsSound columns (r ∷ rows) →
      IsSound columns rows
  behind columns r rows h = record {
    good = record { columns_are = h.good.columns_are; rows_are = h.good.rows_are.1 };
    parted = h.parted.1;
  }

  module _ (columns : List (MColumn T)) (r first : MRow T) (e : thin_row first ≡ thin_row r) where
    first-leaf : IsTrue (all_wild first) → IsTrue (all_wild r)
    first-leaf w = subst IsTrue (sym (leaf-thin first) ∙ ap all_wild e ∙ leaf-thin r) w

    first-guard : (b : Bool) → first.guarded ≡ b → r.guarded ≡ b
    first-guard b g = ap (λ x. x.guarded) (sym e) ∙ g

    first-binds : row_binds columns r ≡ row_binds columns first
    first-binds = sym (binds-thin columns r) ∙ ap (row_binds columns) (sym e) ∙ binds-thin columns first

    first-takes : TakeTree r.arm (row_binds columns r) ≡ TakeTree first.arm (row_binds columns first)
    first-takes = λ k. TakeTree ((ap (λ x. x.arm) (sym e)) k) (first-binds k)

    first-asks : (t : MTree) → AskTree r.arm (row_binds columns r) t ≡ AskTree first.arm (row_binds columns first) t
    first-asks t = λ k. AskTree ((ap (λ x. x.arm) (sym e)) k) (first-binds k) t

  mutual
    -- the tree of rows is that of rows that are the same but for such wildcards
    pub tree-alike : (columns : List (MColumn T)) (rs : List (MRow T)) (t : MTree) → L columns rs t →
        (rows : List (MRow T)) → AreAlikeRows rs rows → IsSound columns rows → L columns rows t
    tree-alike _ _ _ (no_value_left columns b) [] e h = no_value_left columns b
    tree-alike _ _ _ (no_value_left columns b) (r ∷ rows) e h = cc
    tree-alike _ _ _ (no_row_left columns b) [] e h = no_row_left columns b
    tree-alike _ _ _ (no_row_left columns b) (r ∷ rows) e h = cc
    tree-alike _ _ _ (takes columns first rest w g) [] e h = cc
    tree-alike _ _ _ (takes columns first rest w g) (r ∷ rows) e h =
        let q = first-of (thin_row first) (thin_row r) (thin_rows rest) (thin_rows rows) e in
        subst (L columns (r ∷ rows)) (first-takes columns r first q)
        (takes columns r rows (first-leaf columns r first q w) (first-guard columns r first q false g))
    tree-alike _ _ _ (asks columns first rest t w g l) [] e h = cc
    tree-alike _ _ _ (asks columns first rest t w g l) (r ∷ rows) e h =
        let q = first-of (thin_row first) (thin_row r) (thin_rows rest) (thin_rows rows) e in
        subst (L columns (r ∷ rows)) (first-asks columns r first q t)
        (asks columns r rows t (first-leaf columns r first q w) (first-guard columns r first q true g)
        (tree-alike columns rest t l rows (rest-of (thin_row first) (thin_row r) (thin_rows rest) (thin_rows rows) e)
        (behind columns r rows h)))
    tree-alike _ _ _ (drops i c columns rs expanded next t p th o w n l) rows e h =
        let x = expand-alike columns rs rows e h i c th expanded o in
        let y = drop-alike columns expanded x.of.new x.of.shows x.of.here i c th x.ready next n in
        drops i c columns rows x.of.new y.new t (fewest-alike columns rs rows i e p) th x.of.order
        (subst IsTrue (wild-alike columns expanded x.of.new x.of.shows i) w) y.order
        (tree-alike (replaced_at i columns []) next t l y.new y.shows y.here)
    tree-alike _ _ _ (opens i c columns rs expanded next piece t p th o w s are n l) rows e h =
        let x = expand-alike columns rs rows e h i c th expanded o in
        let pieces : ArePieces (cx.set_of c.type) (ctors_at i x.of.new) (piece ∷ []) = subst
        (λ q. ArePieces (cx.set_of c.type) q (piece ∷ [])) (ctors-alike columns expanded x.of.new x.of.shows i) are in
        let y = enter-alike columns expanded x.of.new x.of.shows x.of.here i c th x.ready (piece ∷ []) piece pieces
        (inl refl) next n in
        opens i c columns rows x.of.new y.new piece t (fewest-alike columns rs rows i e p) th x.of.order
        (sym (wild-alike columns expanded x.of.new x.of.shows i) ∙ w) s pieces y.order
        (tree-alike (replaced_at i columns (part_columns cx c piece)) next t l y.new y.shows y.here)
    tree-alike _ _ _ (switches i c columns rs expanded pieces branches p th o w s are l) rows e h =
        let x = expand-alike columns rs rows e h i c th expanded o in
        let all : ArePieces (cx.set_of c.type) (ctors_at i x.of.new) pieces = subst
        (λ q. ArePieces (cx.set_of c.type) q pieces) (ctors-alike columns expanded x.of.new x.of.shows i) are in
        switches i c columns rows x.of.new pieces branches (fewest-alike columns rs rows i e p) th x.of.order
        (sym (wild-alike columns expanded x.of.new x.of.shows i) ∙ w) s all
        (cases-alike i c columns expanded pieces pieces branches l x.of.new x.of.shows x.of.here th x.ready all
        (λ q a. a))

    -- and each case of a switch is the same
    cases-alike : (i : ℕ) (c : MColumn T) (columns : List (MColumn T)) (rs : List (MRow T)) (all pieces : List MCtor)
        (branches : MBranches) → Cases i c columns rs all pieces branches → (rows : List (MRow T)) →
        AreAlikeRows rs rows → IsSound columns rows → slice_get columns i ≡ Some c →
        IsReady IsType cx decides i columns rows → ArePieces (cx.set_of c.type) (ctors_at i rows) all →
        ((q : MCtor) → Among q pieces → Among q all) → Cases i c columns rows all pieces branches
    cases-alike _ _ _ _ _ _ _ (no_else i c columns rs all g) rows e h there ready are m =
        no_else i c columns rows all
        (λ piece q. g piece (q.0, ap (λ x. is_present x piece) (ctors-alike columns rs rows e i) ∙ q.1))
    cases-alike _ _ _ _ _ _ _ (with_else i c columns rs next all piece t g v o l) rows e h there ready are m =
        let y = drop-alike columns rs rows e h i c there ready next o in
        with_else i c columns rows y.new all piece t
        (g.0, ap (λ x. is_present x piece) (sym (ctors-alike columns rs rows e i)) ∙ g.1) v y.order
        (tree-alike (replaced_at i columns []) next t l y.new y.shows y.here)
    cases-alike _ _ _ _ _ _ _ (no_case i c columns rs all piece pieces branches g l) rows e h there ready are m =
        no_case i c columns rows all piece pieces branches (none g)
        (cases-alike i c columns rs all pieces branches l rows e h there ready are (λ q a. m q (inr a)))
      where
        none : (is_present (ctors_at i rs) piece ≡ false) ⊎ (¬ HasValue V (open_of c) (named_in all) piece) →
            (is_present (ctors_at i rows) piece ≡ false) ⊎ (¬ HasValue V (open_of c) (named_in all) piece)
        none (inl x) = inl (ap (λ z. is_present z piece) (sym (ctors-alike columns rs rows e i)) ∙ x)
        none (inr x) = inr x
    cases-alike _ _ _ _ _ _ _ (one_case i c columns rs next all piece pieces t branches g v o l b) rows e h there ready are m =
        let y = enter-alike columns rs rows e h i c there ready all piece are (m piece (inl refl)) next o in
        one_case i c columns rows y.new all piece pieces t branches
        (subst IsTrue (ap (λ x. is_present x piece) (ctors-alike columns rs rows e i)) g) v y.order
        (tree-alike (replaced_at i columns (part_columns cx c piece)) next t l y.new y.shows y.here)
        (cases-alike i c columns rs all pieces branches b rows e h there ready are (λ q a. m q (inr a)))
