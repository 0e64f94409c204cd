-- Rows have the tree of those that are left where the others repeat them.
use Rattle.std.proofs.Common.{◌≡◌, ◌⊎◌, inl, inr, ℕ, Bool, true, false, List, [], ◌∷◌, Some, slice_get, refl, sym, ap, ◌∙◌, subst, IsTrue}
use Rattle.match_model.specs.Values.{MValue}
use Rattle.match_model.specs.Constructors.{MCtor}
use Rattle.match_model.specs.Contexts.{Context}
use Rattle.match_model.specs.ContextLaws.{PartsLaw, ValuesLaw}
use Rattle.match_model.specs.DecisionTrees.{MTree, AskTree, TakeTree, MissTree, VoidTree, MBranches, row_binds}
use Rattle.match_model.specs.FewestBranches.{is_asked, IsFewest}
use Rattle.match_model.specs.Keys.{Decision}
use Rattle.match_model.specs.Lists.{Ordered, Among, SameMembers}
use Rattle.match_model.specs.Lowering.{ctors_at, all_wild_at, Lowers, no_value_left, no_row_left, takes, asks, drops, opens, switches, Branches, no_else, with_else, no_case, one_case}
use Rattle.match_model.specs.Matrices.{MColumn, MRow, open_of, part_columns}
use Rattle.match_model.specs.Pieces.{ArePieces}
use Rattle.match_model.specs.PieceStates.{HasValue, named_in, is_present}
use Rattle.match_model.specs.RowOrder.{RowFirst, AreInOrder}
use Rattle.match_model.specs.Steps.{expand_head, specialise_head, default_head, replaced_at, rows_at}
use Rattle.keyed_rows.proofs.Dividing.{drop-divides, piece-divides}
use Rattle.keyed_rows.proofs.Parting.{among-every}
use Rattle.keyed_rows.proofs.RowOrder.{ordered-among}
use Rattle.keyed_rows.specs.Dividing.{HasCount}
use Rattle.keyed_rows.specs.Parting.{RowParted}
use Rattle.keyed_steps.specs.Good.{IsGood, IsReady}
use Rattle.decision_tree.proofs.SamePieces.{pieces-same}
use Rattle.decision_tree.proofs.InOrder.{first-asym, some-order}
use Rattle.decision_tree.proofs.OneFirst.{one-first}
use Rattle.decision_tree.proofs.RepeatedHeads.{Repeats, AreFirsts, firsts-step, firsts-in-order, wild-firsts, ctors-firsts, members-turned, present-same, branches-same}
use Rattle.decision_tree.proofs.Stepping.{rows-are-free, any-head, expanded-first, expanded-ready, expanded-parted, dropped-good, dropped-parted, counted, entered-good, entered-parted}

true-false : {A : Type 0} (b : Bool) → b ≡ true → b ≡ false → A
true-false b e f = cc

module _ {T : Type 0} (IsType : T → Type 0) (cx : Context T) (decides : ℕ → Decision)
    (V : T → Bool → MValue → Type 0) (law : PartsLaw IsType V cx) (values : ValuesLaw IsType V cx) (BareOnly : Type 0) where
  abbrev L : List (MColumn T) → List (MRow T) → MTree → Type 0
  L columns rows t = Lowers cx V decides (IsFewest cx V) BareOnly columns rows t

  abbrev Cases : ℕ → MColumn T → List (MColumn T) → List (MRow T) → (all pieces : List MCtor) → MBranches → Type 0
  Cases i c columns rows all pieces branches =
      Branches cx V decides (IsFewest cx V) BareOnly i c columns rows all pieces branches

  abbrev InOrder : List (MRow T) → Type 0
  InOrder rows = Ordered (RowFirst decides) rows

  -- what stays so with each step
  pub record IsWhole (columns : List (MColumn T)) (rows : List (MRow T)) : Type 0 where
    pub good : IsGood IsType cx decides columns rows
    pub parted : Ordered (RowParted decides) rows

  -- rows that are parted stand in their order
  pub parted-first : (rows : List (MRow T)) → Ordered (RowParted decides) rows → InOrder rows
  parted-first rows o = ordered-among (RowParted decides) (RowFirst decides) rows (λ r s i j p. one r s p) o
    where
      one : (r s : MRow T) → RowParted decides r s → RowFirst decides r s
      one r s (inl l) = inl l
      one r s (inr p) = inr (p.0, p.1.before)

  -- no row stands before the first
  record FirstIs (first : MRow T) (rest rows : List (MRow T)) : Type 0 where
    pub others : List (MRow T)
    pub is : rows ≡ first ∷ others
    pub firsts : first.guarded ≡ true → AreFirsts decides rest others

  -- nothing is left of nothing alone
  none-left : (rows : List (MRow T)) → AreFirsts decides [] rows → rows ≡ []
  none-left [] a = refl
  none-left (r ∷ rows) a = absurd (nothing (a.all r (inl refl)))
    where
      nothing : Among r [] ⊎ Repeats decides [] r → ⊥
      nothing (inl i) = i
      nothing (inr k) = k.among

  not-itself : (r s : MRow T) → r ≡ s → RowFirst decides r s → ⊥
  not-itself r s e h =
      let k : RowFirst decides s s = subst (λ x. RowFirst decides x s) e h in first-asym decides s s k k

  first-is : (first : MRow T) (rest rows : List (MRow T)) → AreFirsts decides (first ∷ rest) rows →
      InOrder (first ∷ rest) → InOrder rows → FirstIs first rest rows
  first-is first rest [] a o p = absurd (a.some first (inl refl))
  first-is first rest (r ∷ rows) a o p = go (a.some first (inl refl)) (a.all r (inl refl))
    where
      behind : (s : MRow T) → Among s rest → RowFirst decides first s
      behind s i = among-every (RowFirst decides first) rest s o.0 i

      after : (s : MRow T) → Among s rows → RowFirst decides r s
      after s i = among-every (RowFirst decides r) rows s p.0 i

      -- the first is that of the rows
      here : (first ≡ r) → FirstIs first rest (r ∷ rows)
      here e = record {
        others = rows;
        is = ap (λ x. x ∷ rows) (sym e);
        firsts = λ g. record {
          some = λ s i. one s i (a.some s (inr i));
          all = λ s i. other g s i (a.all s (inr i));
        };
      }
        where
          one : (s : MRow T) → Among s rest → (s ≡ r) ⊎ Among s rows → Among s rows
          one s i (inl q) = absurd (not-itself first s (e ∙ sym q) (behind s i))
          one s i (inr j) = j

          lower : (s : MRow T) → first.guarded ≡ true → (k : Repeats decides (first ∷ rest) s) →
              (k.first ≡ first) ⊎ Among k.first rest → Among s rest ⊎ Repeats decides rest s
          lower s g k (inl q) = true-false first.guarded g (ap (λ x. x.guarded) (sym q) ∙ k.unguarded)
          lower s g k (inr j) =
              inr (record {
                first = k.first;
                among = j;
                unguarded = k.unguarded;
                arm = k.arm;
                heads = k.heads;
                before = k.before;
              })

          other : first.guarded ≡ true → (s : MRow T) → Among s rows →
              ((s ≡ first) ⊎ Among s rest) ⊎ Repeats decides (first ∷ rest) s → Among s rest ⊎ Repeats decides rest s
          other g s i (inl (inl q)) = absurd (not-itself r s (sym e ∙ sym q) (after s i))
          other g s i (inl (inr j)) = inl j
          other g s i (inr k) = lower s g k k.among

      -- another row stands before the first of those that are left: it stands among these, or repeats one of them
      early : RowFirst decides r first → ((r ≡ first) ⊎ Among r rest) ⊎ Repeats decides (first ∷ rest) r → ⊥
      early h (inl (inl q)) = not-itself r first q h
      early h (inl (inr j)) = first-asym decides r first h (behind r j)
      early h (inr k) = late (a.some k.first k.among)
        where
          sooner : RowFirst decides k.first r
          sooner = inr (k.arm, k.before)

          late : (k.first ≡ r) ⊎ Among k.first rows → ⊥
          late (inl q) = not-itself k.first r q sooner
          late (inr j) = first-asym decides k.first r sooner (after k.first j)

      go : (first ≡ r) ⊎ Among first rows → ((r ≡ first) ⊎ Among r rest) ⊎ Repeats decides (first ∷ rest) r →
          FirstIs first rest (r ∷ rows)
      go (inl e) k = here e
      go (inr i) k = absurd (early (after first i) k)

  -- the first rows ask the same
  asked-firsts : (rs rows : List (MRow T)) → AreFirsts decides rs rows → InOrder rs → InOrder rows → (i : ℕ) →
      is_asked i rs ≡ is_asked i rows
  asked-firsts [] rows a o p i = ap (is_asked i) (sym (none-left rows a))
  asked-firsts (first ∷ rest) rows a o p i =
      ap (is_asked i) (sym (first-is first rest rows a o p).is)

  -- the same column is chosen
  fewest-firsts : (columns : List (MColumn T)) (rs rows : List (MRow T)) (i : ℕ) → AreFirsts decides rs rows →
      InOrder rs → InOrder rows → IsFewest cx V columns rs i → IsFewest cx V columns rows i
  fewest-firsts columns rs rows i a o p f = record {
    asked = subst IsTrue (asked-firsts rs rows a o p i) f.asked;
    column = f.column;
    there = f.there;
    count = f.count;
    branches =
        branches-same decides cx V f.column i rs rows f.count (wild i f.column) (ctors i f.column) f.branches;
    fewest = λ j c n q k b. f.fewest j c n q (subst IsTrue (sym (asked-firsts rs rows a o p j)) k)
        (branches-same decides cx V c j rows rs n (sym (wild j c))
        (members-turned (ctors_at j (rows_at expand_head c.place j rs))
        (ctors_at j (rows_at expand_head c.place j rows)) (ctors j c)) b);
  }
    where
      wild : (j : ℕ) (c : MColumn T) → all_wild_at j (rows_at expand_head c.place j rs)
          ≡ all_wild_at j (rows_at expand_head c.place j rows)
      wild j c =
          wild-firsts decides (rows_at expand_head c.place j rs) (rows_at expand_head c.place j rows)
          (firsts-step decides expand_head c.place j rs rows a) j

      ctors : (j : ℕ) (c : MColumn T) → SameMembers (ctors_at j (rows_at expand_head c.place j rs))
          (ctors_at j (rows_at expand_head c.place j rows))
      ctors j c =
          ctors-firsts decides (rows_at expand_head c.place j rs) (rows_at expand_head c.place j rows)
          (firsts-step decides expand_head c.place j rs rows a) j

  -- rows after a step, in order, of which the others repeat those that are left
  pub record IsNext (columns : List (MColumn T)) (made next : List (MRow T)) : Type 0 where
    pub new : List (MRow T)
    pub order : AreInOrder decides made new
    pub firsts : AreFirsts decides next new
    pub here : IsWhole columns new

  module _ (columns : List (MColumn T)) (rs rows : List (MRow T)) (a : AreFirsts decides rs rows)
      (h : IsWhole columns rows) (i : ℕ) (c : MColumn T) (there : slice_get columns i ≡ Some c) where
    -- the same, with no or-pattern in the column
    pub record IsNextReady (next : List (MRow T)) : Type 0 where
      pub of : IsNext columns (rows_at expand_head c.place i rows) next
      pub ready : IsReady IsType cx decides i columns of.new

    -- the or-patterns of a column are taken apart
    expand-firsts : (next : List (MRow T)) → AreInOrder decides (rows_at expand_head c.place i rs) next →
        IsNextReady next
    expand-firsts next o = record {
      of = record {
        new = x.0;
        order = x.1;
        firsts =
            firsts-in-order decides (rows_at expand_head c.place i rs) (rows_at expand_head c.place i rows) next x.0
            (firsts-step decides expand_head c.place i rs rows a) o x.1;
        here = record {
          good = (expanded-ready IsType cx decides V law values i c columns rows there h.parted h.good x.0 x.1).good;
          parted = expanded-parted IsType cx decides V law values i c columns rows there h.parted h.good x.0 x.1;
        };
      };
      ready = expanded-ready IsType cx decides V law values i c columns rows there h.parted h.good x.0 x.1;
    }
      where
        x : (new : List (MRow T)) × AreInOrder decides (rows_at expand_head c.place i rows) new
        x = some-order decides (rows_at expand_head c.place i rows)
            (expanded-first IsType cx decides V law values i c columns rows there h.parted h.good)

    module _ (ready : IsReady IsType cx decides i columns rows) where
      -- a column is dropped
      drop-firsts : (next : List (MRow T)) → AreInOrder decides (rows_at default_head c.place i rs) next →
          IsNext (replaced_at i columns []) (rows_at default_head c.place i rows) next
      drop-firsts next o = record {
        new = x.0;
        order = x.1;
        firsts =
            firsts-in-order decides (rows_at default_head c.place i rs) (rows_at default_head c.place i rows) next x.0
            (firsts-step decides default_head c.place i rs rows a) o x.1;
        here = record {
          good = dropped-good IsType cx decides V law values i c columns rows there h.parted ready x.0 x.1;
          parted = dropped-parted IsType cx decides V law values i c columns rows there h.parted ready x.0 x.1;
        };
      }
        where
          x : (new : List (MRow T)) × AreInOrder decides (rows_at default_head c.place i rows) new
          x = some-order decides (rows_at default_head c.place i rows)
              (one-first decides (λ g. Unit {0}) 0 default_head (drop-divides decides) c.place i rows
              (any-head IsType cx decides i rows) (rows-are-free IsType cx decides columns rows h.good) h.parted)

      -- a piece is entered
      enter-firsts : (pieces : List MCtor) (p : MCtor) → ArePieces (cx.set_of c.type) (ctors_at i rows) pieces →
          Among p pieces → (next : List (MRow T)) →
          AreInOrder decides (rows_at (specialise_head p (cx.arity p c.type)) c.place i rs) next →
          IsNext (replaced_at i columns (part_columns cx c p))
          (rows_at (specialise_head p (cx.arity p c.type)) c.place i rows) next
      enter-firsts pieces p are among next o = record {
        new = x.0;
        order = x.1;
        firsts =
            firsts-in-order decides (rows_at (specialise_head p (cx.arity p c.type)) c.place i rs)
            (rows_at (specialise_head p (cx.arity p c.type)) c.place i rows) next x.0
            (firsts-step decides (specialise_head p (cx.arity p c.type)) c.place i rs rows a) o x.1;
        here = record {
          good =
              entered-good IsType cx decides V law values i c columns rows there h.parted ready pieces p are among x.0 x.1;
          parted =
              entered-parted IsType cx decides V law values i c columns rows there h.parted ready pieces p are among x.0
              x.1;
        };
      }
        where
          x : (new : List (MRow T))
              × AreInOrder decides (rows_at (specialise_head p (cx.arity p c.type)) c.place i rows) new
          x = some-order decides (rows_at (specialise_head p (cx.arity p c.type)) c.place i rows)
              (one-first decides (HasCount p (cx.arity p c.type)) (cx.arity p c.type)
              (specialise_head p (cx.arity p c.type)) (piece-divides decides p (cx.arity p c.type)) c.place i rows
              (counted IsType cx decides V law values i c columns rows there h.parted ready pieces p are among)
              (rows-are-free IsType cx decides columns rows h.good) h.parted)

  -- the rows behind the first
  behind-whole : (columns : List (MColumn T)) (r : MRow T) (rows : List (MRow T)) → IsWhole columns (r ∷ rows) →
      IsWhole columns rows
  behind-whole columns r rows h = record {
    good = record { columns_are = h.good.columns_are; rows_are = h.good.rows_are.1 };
    parted = h.parted.1;
  }

  module _ (columns : List (MColumn T)) (rs rows : List (MRow T)) (a : AreFirsts decides rs rows) (i : ℕ)
      (c : MColumn T) where
    pieces-firsts : (pieces : List MCtor) → ArePieces (cx.set_of c.type) (ctors_at i rs) pieces →
        ArePieces (cx.set_of c.type) (ctors_at i rows) pieces
    pieces-firsts pieces are =
        pieces-same (ctors_at i rs) (ctors_at i rows) (ctors-firsts decides rs rows a i) (cx.set_of c.type) pieces are

    present-firsts : (p : MCtor) → is_present (ctors_at i rs) p ≡ is_present (ctors_at i rows) p
    present-firsts p =
        present-same decides cx V c (ctors_at i rs) (ctors_at i rows) (ctors-firsts decides rs rows a i) p

  mutual
    -- the tree of those that are left is that of all
    pub tree-firsts : (columns : List (MColumn T)) (rs : List (MRow T)) (t : MTree) → L columns rs t →
        (rows : List (MRow T)) → AreFirsts decides rs rows → InOrder rs → IsWhole columns rows → L columns rows t
    tree-firsts _ _ _ (no_value_left columns b) rows a o h =
        subst (λ xs. L columns xs VoidTree) (sym (none-left rows a)) (no_value_left columns b)
    tree-firsts _ _ _ (no_row_left columns b) rows a o h =
        subst (λ xs. L columns xs MissTree) (sym (none-left rows a)) (no_row_left columns b)
    tree-firsts _ _ _ (takes columns first rest w g) rows a o h =
        let x = first-is first rest rows a o (parted-first rows h.parted) in
        subst (λ xs. L columns xs (TakeTree first.arm (row_binds columns first))) (sym x.is)
        (takes columns first x.others w g)
    tree-firsts _ _ _ (asks columns first rest t w g l) rows a o h =
        let x = first-is first rest rows a o (parted-first rows h.parted) in
        subst (λ xs. L columns xs (AskTree first.arm (row_binds columns first) t)) (sym x.is)
        (asks columns first x.others t w g
        (tree-firsts columns rest t l x.others (x.firsts g) o.1
        (behind-whole columns first x.others (subst (IsWhole columns) x.is h))))
    tree-firsts _ _ _ (drops i c columns rs expanded next t p th q w n l) rows a o h =
        let x = expand-firsts columns rs rows a h i c th expanded q in
        let y = drop-firsts columns expanded x.of.new x.of.firsts x.of.here i c th x.ready next n in
        drops i c columns rows x.of.new y.new t
        (fewest-firsts columns rs rows i a o (parted-first rows h.parted) p) th x.of.order
        (subst IsTrue (wild-firsts decides expanded x.of.new x.of.firsts i) w) y.order
        (tree-firsts (replaced_at i columns []) next t l y.new y.firsts n.ordered y.here)
    tree-firsts _ _ _ (opens i c columns rs expanded next piece t p th q w s are n l) rows a o h =
        let x = expand-firsts columns rs rows a h i c th expanded q in
        let pieces = pieces-firsts columns expanded x.of.new x.of.firsts i c (piece ∷ []) are in
        let y = enter-firsts columns expanded x.of.new x.of.firsts x.of.here i c th x.ready (piece ∷ []) piece pieces
        (inl refl) next n in
        opens i c columns rows x.of.new y.new piece t
        (fewest-firsts columns rs rows i a o (parted-first rows h.parted) p) th x.of.order
        (sym (wild-firsts decides expanded x.of.new x.of.firsts i) ∙ w) s pieces y.order
        (tree-firsts (replaced_at i columns (part_columns cx c piece)) next t l y.new y.firsts n.ordered y.here)
    tree-firsts _ _ _ (switches i c columns rs expanded pieces branches p th q w s are l) rows a o h =
        let x = expand-firsts columns rs rows a h i c th expanded q in
        let all = pieces-firsts columns expanded x.of.new x.of.firsts i c pieces are in
        switches i c columns rows x.of.new pieces branches
        (fewest-firsts columns rs rows i a o (parted-first rows h.parted) p) th x.of.order
        (sym (wild-firsts decides expanded x.of.new x.of.firsts i) ∙ w) s all
        (cases-firsts i c columns expanded pieces pieces branches l x.of.new x.of.firsts x.of.here th x.ready all
        (λ r k. k))

    -- and so is each case of a switch
    cases-firsts : (i : ℕ) (c : MColumn T) (columns : List (MColumn T)) (rs : List (MRow T)) (all pieces : List MCtor)
        (branches : MBranches) → Cases i c columns rs all pieces branches → (rows : List (MRow T)) →
        AreFirsts decides rs rows → IsWhole columns rows → slice_get columns i ≡ Some c →
        IsReady IsType cx decides i columns rows → ArePieces (cx.set_of c.type) (ctors_at i rows) all →
        ((q : MCtor) → Among q pieces → Among q all) → Cases i c columns rows all pieces branches
    cases-firsts _ _ _ _ _ _ _ (no_else i c columns rs all g) rows a h there ready are m =
        no_else i c columns rows all (λ piece q. g piece (q.0, present-firsts columns rs rows a i c piece ∙ q.1))
    cases-firsts _ _ _ _ _ _ _ (with_else i c columns rs next all piece t g v n l) rows a h there ready are m =
        let y = drop-firsts columns rs rows a h i c there ready next n in
        with_else i c columns rows y.new all piece t
        (g.0, sym (present-firsts columns rs rows a i c piece) ∙ g.1) v y.order
        (tree-firsts (replaced_at i columns []) next t l y.new y.firsts n.ordered y.here)
    cases-firsts _ _ _ _ _ _ _ (no_case i c columns rs all piece pieces branches g l) rows a h there ready are m =
        no_case i c columns rows all piece pieces branches (none g)
        (cases-firsts i c columns rs all pieces branches l rows a h there ready are (λ q k. m q (inr k)))
      where
        none : (is_present (ctors_at i rs) piece ≡ false) ⊎ (¬ HasValue V (open_of c) (named_in all) piece) →
            (is_present (ctors_at i rows) piece ≡ false) ⊎ (¬ HasValue V (open_of c) (named_in all) piece)
        none (inl x) = inl (sym (present-firsts columns rs rows a i c piece) ∙ x)
        none (inr x) = inr x
    cases-firsts _ _ _ _ _ _ _ (one_case i c columns rs next all piece pieces t branches g v n l b) rows a h there ready are m =
        let y = enter-firsts columns rs rows a h i c there ready all piece are (m piece (inl refl)) next n in
        one_case i c columns rows y.new all piece pieces t branches
        (subst IsTrue (present-firsts columns rs rows a i c piece) g) v y.order
        (tree-firsts (replaced_at i columns (part_columns cx c piece)) next t l y.new y.firsts n.ordered y.here)
        (cases-firsts i c columns rs all pieces branches b rows a h there ready are (λ q k. m q (inr k)))
