-- The steps at a column of a well-formed matrix keep what there is to try.
use Rattle.std.proofs.Common.{◌≡◌, inl, inr, ℕ, zero, suc, Bool, true, false, ◌||◌, List, [], ◌∷◌, map, drop, Option, Some, None, slice_get, refl, sym, ap, ◌∙◌, subst}
use Rattle.std.specs.List.{cons_option}
use Rattle.match_model.specs.Values.{MValue}
use Rattle.match_model.specs.Constructors.{MCtor, SingleCtor, PointCtor, LaterCtor, OtherTextCtor, WildCtor, OrCtor, VariantCtor, FlagCtor, NumbersCtor, TextCtor, RowCtor, builds, has_piece}
use Rattle.match_model.specs.Contexts.{Context}
use Rattle.match_model.specs.ContextLaws.{PartsLaw, ValuesLaw}
use Rattle.match_model.specs.ArenaPatterns.{MBound, MDePats, de_pat}
use Rattle.match_model.specs.Pieces.{ArePieces}
use Rattle.match_model.specs.Places.{part_at}
use Rattle.match_model.specs.Rows.{Head, is_wild, is_wild_ctor, starts_wild, first_ctor}
use Rattle.match_model.specs.Matrices.{MColumn, MRow, part_columns}
use Rattle.match_model.specs.PieceStates.{is_present, named_in}
use Rattle.match_model.specs.WellTyped.{IsHeadTyped, head_names, bound_names}
use Rattle.match_model.proofs.Basics.{both, untrue}
use Rattle.match_model.specs.Keys.{Decision}
use Rattle.match_model.specs.Lists.{Every, Among, SameMembers}
use Rattle.match_model.specs.Steps.{Replacement, replaced_at, expand_head, specialise_head, default_head, rows_at}
use Rattle.keyed_rows.specs.Dividing.{GoodAt, HasCount, Divides}
use Rattle.match_model.specs.RowOrder.{row_key, AreInOrder}
use Rattle.match_model.specs.KeyedWays.{keyed_tries}
use Rattle.keyed_rows.proofs.Parting.{among-every}
use Rattle.keyed_rows.proofs.RowOrder.{every-among}
use Rattle.keyed_rows.proofs.PullOut.{HeadKeeps, StepsAt}
use Rattle.keyed_rows.proofs.StepSame.{step-same}
use Rattle.keyed_rows.proofs.Steps.{BindsOwn, steps-at}
use Rattle.keyed_rows.proofs.Dividing.{drop-divides, piece-divides, expand-divides}
use Rattle.match_model.specs.Lowering.{ctors_at, all_wild_at}
use Rattle.keyed_steps.specs.Filled.{IsHeld}
use Rattle.keyed_steps.specs.Engine.{IsPassed}
use Rattle.keyed_steps.specs.Fits.{HeadFits, FitsPiece}
use Rattle.keyed_steps.specs.Names.{IsInside, IsFineReplacement}
use Rattle.keyed_steps.specs.Good.{IsPlainHead, IsGoodRow, IsGoodColumn, IsGood, IsReady}
use Rattle.keyed_steps.specs.Piecewise.{PiecesFit, IsFit}
use Rattle.keyed_steps.proofs.ReplacementNames.{expand-fine, piece-fine, drop-fine}
use Rattle.keyed_steps.proofs.HeadCounts.{head-count}
use Rattle.keyed_steps.proofs.HeadEnters.{head-enters}
use Rattle.keyed_steps.proofs.HeadExpands.{PassesBy, head-expands, head-drops}
use Rattle.keyed_steps.proofs.Standing.{position-there, held-at, column-at, head-at, good-at, good-from, way-canonical, ways-canonical}

-- names inside, one by one
own-by : {T : Type 0} (decides : ℕ → Decision) (f : Head T → List (Replacement T)) →
    ((h : Head T) (y : Replacement T) → Among y (f h) → IsFineReplacement h y) → BindsOwn decides f
own-by decides f fine = λ h y a. (let g : IsFineReplacement h y = fine h y a in go (head_names h) y.binds g.binds)
  where
    go : (names : List (List ℕ)) (bs : List MBound) → IsInside (bound_names bs) names →
        Every (λ b. Among b.name names) bs
    go names [] k = tt
    go names (b ∷ bs) k = (k b.name (inl refl), go names bs (λ n a. k n (inr a)))

-- a head whose constructor no one of the column's has the piece
absent-head : {T : Type 0} (p : MCtor) (i : ℕ) (rows : List (MRow T)) (r : MRow T) (c : MCtor) (t : T) (uid at : ℕ)
    (subs : MDePats T) (binds : List MBound) → Among r rows → slice_get r.heads i ≡ Some (Some
    (de_pat c t uid at subs binds)) →
    is_wild_ctor c ≡ false → is_present (ctors_at i rows) p ≡ false → has_piece c p ≡ false
absent-head p i [] r c t uid at subs binds a e w h = elim a [ ]
absent-head {T} p i (x ∷ rows) r c t uid at subs binds a e w h = elim a [
  | inl q ↦ here x h (subst (λ (y : MRow T). slice_get y.heads i ≡ Some (Some (de_pat c t uid at subs binds))) q e)
  | inr b ↦ later (λ k. absent-head p i rows r c t uid at subs binds b e w k)
]
  where
    or-first : (a b : Bool) → (a || b) ≡ false → a ≡ false
    or-first true b k = k
    or-first false b k = refl

    or-second : (a b : Bool) → (a || b) ≡ false → b ≡ false
    or-second true b k = untrue (sym k)
    or-second false b k = k

    first-is : (hs : List (Head T)) (j : ℕ) → slice_get hs j ≡ Some (Some (de_pat c t uid at subs binds)) →
        first_ctor (drop j hs) ≡ Some c
    first-is [] j k = cc
    first-is (y ∷ hs) zero k =
        let same : y ≡ Some (de_pat c t uid at subs binds) = cc in ap (λ z. first_ctor (z ∷ hs)) same ∙ plain c w
      where
        plain : (c : MCtor) → is_wild_ctor c ≡ false → first_ctor (Some (de_pat c t uid at subs binds) ∷ hs) ≡ Some c
        plain WildCtor w = untrue (sym w)
        plain SingleCtor w = refl
        plain PointCtor w = refl
        plain LaterCtor w = refl
        plain OtherTextCtor w = refl
        plain OrCtor w = refl
        plain (VariantCtor k) w = refl
        plain (FlagCtor k) w = refl
        plain (NumbersCtor k) w = refl
        plain (TextCtor k) w = refl
        plain (RowCtor k) w = refl
    first-is (y ∷ hs) (suc j) k = first-is hs j k

    here : (x : MRow T) → is_present (ctors_at i (x ∷ rows)) p ≡ false →
        slice_get x.heads i ≡ Some (Some (de_pat c t uid at subs binds)) → has_piece c p ≡ false
    here x h k =
        or-first (has_piece c p) (is_present (ctors_at i rows) p) (sym
        (ap (λ o. is_present (cons_option o (ctors_at i rows)) p) (first-is x.heads i k)) ∙ h)

    tail : (o : Option MCtor) → is_present (cons_option o (ctors_at i rows)) p ≡ false →
        is_present (ctors_at i rows) p ≡ false
    tail None k = k
    tail (Some d) k = or-second (has_piece d p) (is_present (ctors_at i rows) p) k

    later : (is_present (ctors_at i rows) p ≡ false → has_piece c p ≡ false) → has_piece c p ≡ false
    later ih = ih (tail (first_ctor (drop i x.heads)) h)

-- where all rows have wildcards there
wild-head : {T : Type 0} (i : ℕ) (rows : List (MRow T)) (r : MRow T) (h : Head T) → Among r rows →
    slice_get r.heads i ≡ Some h → all_wild_at i rows ≡ true → is_wild h ≡ true
wild-head i [] r h a e w = elim a [ ]
wild-head {T} i (x ∷ rows) r h a e w = elim a [
  | inl q ↦ first i x.heads (subst (λ (y : MRow T). slice_get y.heads i ≡ Some h) q e)
      (both (starts_wild (drop i x.heads)) (all_wild_at i rows) w).0
  | inr b ↦ wild-head i rows r h b e (both (starts_wild (drop i x.heads)) (all_wild_at i rows) w).1
]
  where
    first : (j : ℕ) (hs : List (Head T)) → slice_get hs j ≡ Some h → starts_wild (drop j hs) ≡ true → is_wild h ≡ true
    first j [] k s = cc
    first zero (y ∷ hs) k s = let same : y ≡ h = cc in subst (λ z. is_wild z ≡ true) same s
    first (suc j) (y ∷ hs) k s = first j hs k s

module _ {T : Type 0} (IsType : T → Type 0) (cx : Context T) (V : T → Bool → MValue → Type 0)
    (law : PartsLaw IsType V cx) (values : ValuesLaw IsType V cx) (decides : ℕ → Decision)
    (fit : PiecesFit IsType cx decides) where
  -- a step whose replacements keep the ways of each head there
  module _ (f : Head T → List (Replacement T)) (fine : (h : Head T) (y : Replacement T) → Among y (f h) →
      IsFineReplacement h y) (Good : Head T → Type 0) (width : ℕ) (divides : Divides decides Good width f)
      (i : ℕ) (c : MColumn T) (columns new : List (MColumn T)) (v : MValue) (there : slice_get columns i ≡ Some c) where
    step-kept : (rows next : List (MRow T)) → Every (IsGoodRow cx decides columns) rows →
        Every (λ r. GoodAt Good i r.heads) rows →
        ((r : MRow T) (h : Head T) → Among r rows → slice_get r.heads i ≡ Some h → IsHeadTyped cx c.type h →
        HeadKeeps decides f c new v h) → AreInOrder decides (rows_at f c.place i rows) next →
        SameMembers (keyed_tries decides columns v rows) (keyed_tries decides (replaced_at i columns new) v next)
    step-kept rows next good at keeps order =
        step-same decides f c new v (λ h o u a j. way-canonical h o u a j)
        (λ cs hs w j. ways-canonical v cs hs w j) i columns rows next
        (every-among (λ r. StepsAt decides f c new v i columns r.heads) rows one) order
      where
        one : (r : MRow T) → Among r rows → StepsAt decides f c new v i columns r.heads
        one r a =
            let g : IsGoodRow cx decides columns r = among-every (IsGoodRow cx decides columns) rows r good a in
            let h = head-at cx columns r.heads i c g.typed there in
            steps-at decides Good width f divides (own-by decides f fine) c new v
            (row_key decides r) 0 i columns r.heads (map (λ b. b.name) r.caught) there g.free
            (among-every (λ x. GoodAt Good i x.heads) rows r at a) g.names h.0 h.1 (keeps r h.0 a h.1 h.2)

  any-good : (i : ℕ) (rows : List (MRow T)) → Every (λ r. GoodAt (λ (h : Head T). Unit {0}) i r.heads) rows
  any-good i [] = tt
  any-good i (r ∷ rows) = (good-from (λ (h : Head T). Unit {0}) i r.heads (λ h e. tt), any-good i rows)

  -- or-patterns taken apart
  pub expanded-same : (i : ℕ) (c : MColumn T) (columns : List (MColumn T)) (rows next : List (MRow T)) (v : MValue) →
      IsGood IsType cx decides columns rows → slice_get columns i ≡ Some c →
      AreInOrder decides (rows_at expand_head c.place i rows) next → IsHeld V columns v →
      SameMembers (keyed_tries decides columns v rows) (keyed_tries decides columns v next)
  expanded-same i c columns rows next v good there order held =
      let u = held-at V columns held.0 v i c held.1 held.2 there in
      let column : IsGoodColumn IsType c = column-at (IsGoodColumn IsType) columns i c good.columns_are there in
      let pos = position-there c.place v u.0 column.straight u.1 in
      subst (λ cs. SameMembers (keyed_tries decides columns v rows) (keyed_tries decides cs v next))
      (same-column columns i there)
      (step-kept expand_head expand-fine (λ h. Unit {0}) 1 (expand-divides decides) i c columns
      (c ∷ []) v there rows next good.rows_are (any-good i rows)
      (λ r h a e t. head-expands decides cx c v u.0 pos.0 u.1 pos.1 h t) order)
    where
      same-column : (cs : List (MColumn T)) (j : ℕ) → slice_get cs j ≡ Some c → replaced_at j cs (c ∷ []) ≡ cs
      same-column [] j e = refl
      same-column (d ∷ cs) zero e = let same : d ≡ c = cc in ap (λ x. x ∷ cs) (sym same)
      same-column (d ∷ cs) (suc j) e = ap (λ l. d ∷ l) (same-column cs j e)

  -- a column passed by
  pub dropped-same : (i : ℕ) (c : MColumn T) (columns : List (MColumn T)) (rows next : List (MRow T))
      (pieces : List MCtor) (v u : MValue) → IsReady IsType cx decides i columns rows → slice_get columns i ≡ Some c →
      AreInOrder decides (rows_at default_head c.place i rows) next → IsHeld V columns v →
      part_at c.place v ≡ Some u → IsPassed (cx.set_of c.type) i rows pieces u →
      SameMembers (keyed_tries decides columns v rows) (keyed_tries decides (replaced_at i columns []) v next)
  dropped-same i c columns rows next pieces v u ready there order held part passed =
      let column : IsGoodColumn IsType c = column-at (IsGoodColumn IsType) columns i c ready.good.columns_are there in
      let pos = position-there c.place v u column.straight part in
      step-kept default_head drop-fine (λ h. Unit {0}) 0
      (drop-divides decides) i c columns [] v there rows next ready.good.rows_are (any-good i rows)
      (λ r h a e t. head-drops decides cx c v u pos.0 part pos.1 h t
      (good-at IsPlainHead i r.heads h (among-every (λ x. GoodAt IsPlainHead i x.heads) rows r ready.plain a) e)
      (passes r h a e passed)) order
    where
      passes : (r : MRow T) (h : Head T) → Among r rows → slice_get r.heads i ≡ Some h →
          IsPassed (cx.set_of c.type) i rows pieces u → PassesBy u h
      passes r None a e q = tt
      passes r (Some (de_pat k t uid at subs binds)) a e (inl w) =
          λ n. untrue (sym n ∙ wild-head i rows r (Some (de_pat k t uid at subs binds)) a e w)
      passes r (Some (de_pat k t uid at subs binds)) a e (inr q) = λ n. not-built n
        where
          or-second : (a b : Bool) → (a || b) ≡ false → b ≡ false
          or-second true b k = untrue (sym k)
          or-second false b k = k

          not-built : is_wild_ctor k ≡ false → builds [] k u ≡ false
          not-built n =
              let f : IsFit cx i c rows pieces q.1 = fit i c columns rows pieces q.1 ready there q.0 q.2 in
              let g : FitsPiece (named_in pieces) q.1 k = good-at (HeadFits (named_in pieces) q.1) i r.heads
              (Some (de_pat k t uid at subs binds)) (among-every
              (λ x. GoodAt (HeadFits (named_in pieces) q.1) i x.heads) rows r f.fits a) e in
              or-second (is_wild_ctor k) (builds [] k u) (g.sided u q.4
              ∙ absent-head q.1 i rows r k t uid at subs binds a e n q.3)

  -- a piece has as many parts in each head that has it
  pub counted : (i : ℕ) (c : MColumn T) (columns : List (MColumn T)) (rows : List (MRow T)) (pieces : List MCtor)
      (p : MCtor) → IsReady IsType cx decides i columns rows → slice_get columns i ≡ Some c →
      ArePieces (cx.set_of c.type) (ctors_at i rows) pieces → Among p pieces →
      Every (λ r. GoodAt (HasCount p (cx.arity p c.type)) i r.heads) rows
  counted i c columns rows pieces p ready there are a =
      every-among (λ r. GoodAt (HasCount p (cx.arity p c.type)) i r.heads) rows (λ r j.
      good-from (HasCount p (cx.arity p c.type)) i r.heads (λ h e.
      (let f : IsFit cx i c rows pieces p = fit i c columns rows pieces p ready there are a in
      let g : IsGoodRow cx decides columns r = among-every
      (IsGoodRow cx decides columns) rows r ready.good.rows_are j in
      let k = head-at cx columns r.heads i c g.typed there in
      let column : IsGoodColumn IsType c = column-at (IsGoodColumn IsType) columns i c ready.good.columns_are there in
      let same : k.0 ≡ h = one k.0 h (sym k.1 ∙ e) in
      head-count IsType cx V law c.type column.type (named_in pieces) p h f.belong
      (subst (IsHeadTyped cx c.type) same k.2) (good-at (HeadFits (named_in pieces) p) i r.heads h
      (among-every (λ x. GoodAt (HeadFits (named_in pieces) p) i x.heads) rows r f.fits j) e))))
    where
      one : (x y : Head T) → Some x ≡ Some y → x ≡ y
      one x y e = cc

  -- a piece entered
  pub entered-same : (i : ℕ) (c : MColumn T) (columns : List (MColumn T)) (rows next : List (MRow T))
      (pieces : List MCtor) (p : MCtor) (v u : MValue) → IsReady IsType cx decides i columns rows →
      slice_get columns i ≡ Some c → ArePieces (cx.set_of c.type) (ctors_at i rows) pieces → Among p pieces →
      AreInOrder decides (rows_at (specialise_head p (cx.arity p c.type)) c.place i rows) next → IsHeld V columns v →
      part_at c.place v ≡ Some u → builds (named_in pieces) p u ≡ true →
      SameMembers (keyed_tries decides columns v rows) (keyed_tries decides
      (replaced_at i columns (part_columns cx c p)) v next)
  entered-same i c columns rows next pieces p v u ready there are a order held part built =
      let column : IsGoodColumn IsType c = column-at (IsGoodColumn IsType) columns i c ready.good.columns_are there in
      let pos = position-there c.place v u column.straight part in
      let w = held-at V columns held.0 v i c held.1 held.2 there in
      let value : V c.type c.sure u = subst (V c.type c.sure) (one w.0 u (sym w.1 ∙ part)) w.2 in
      let f : IsFit cx i c rows pieces p = fit i c columns rows pieces p ready there are a in
      step-kept (specialise_head p (cx.arity p c.type)) (piece-fine p (cx.arity p c.type))
      (HasCount p (cx.arity p c.type)) (cx.arity p c.type) (piece-divides decides p (cx.arity p c.type)) i c columns
      (part_columns cx c p) v there rows next ready.good.rows_are
      (counted i c columns rows pieces p ready there are a)
      (λ r h j e t. head-enters decides IsType cx V law values c column.type
      (named_in pieces) p f.belong v u pos.0 part pos.1 value built h t
      (good-at (HeadFits (named_in pieces) p) i r.heads h (among-every
      (λ x. GoodAt (HeadFits (named_in pieces) p) i x.heads) rows r f.fits j) e)) order
    where
      one : (x y : MValue) → Some x ≡ Some y → x ≡ y
      one x y e = cc
