-- The steps at a column keep matrices well formed.
use Rattle.std.proofs.Common.{◌≡◌, ℕ, zero, suc, Bool, true, List, [], ◌∷◌, ◌++◌, map, Some, slice_get, refl, sym, ap, ◌∙◌, subst}
use Rattle.std.proofs.lemmas.List.{map-append}
use Rattle.match_model.specs.Values.{MValue}
use Rattle.match_model.specs.Constructors.{MCtor}
use Rattle.match_model.specs.Contexts.{Context}
use Rattle.match_model.specs.ContextLaws.{PartsLaw, ValuesLaw}
use Rattle.match_model.specs.ArenaPatterns.{MBound}
use Rattle.match_model.specs.Pieces.{ArePieces}
use Rattle.match_model.specs.Places.{MStep}
use Rattle.match_model.specs.Trees.{MBind}
use Rattle.match_model.specs.Rows.{Head}
use Rattle.match_model.specs.Matrices.{MColumn, MRow, bind_at, part_columns}
use Rattle.match_model.specs.PieceStates.{named_in}
use Rattle.match_model.specs.WellTyped.{IsHeadTyped, AreHeadsTyped, heads_names_differ, bound_names}
use Rattle.match_model.specs.Keys.{Decision}
use Rattle.match_model.specs.Lists.{Every, Among}
use Rattle.match_model.specs.Steps.{Replacement, with_head, with_others, replacements_at, replaced_at, expand_head, specialise_head, default_head, row_replaced, rows_at}
use Rattle.keyed_rows.specs.Dividing.{GoodAt, HasCount, Divides, AreFree}
use Rattle.match_model.specs.RowOrder.{row_key, AreInOrder}
use Rattle.keyed_rows.proofs.Lists.{every-append, every-to}
use Rattle.keyed_rows.proofs.Parting.{among-map, among-every}
use Rattle.keyed_rows.proofs.RowOrder.{among-flat, every-among, rows-free}
use Rattle.keyed_rows.proofs.Dividing.{drop-divides, piece-divides, expand-divides}
use Rattle.match_model.specs.Lowering.{ctors_at}
use Rattle.keyed_steps.specs.Fits.{HeadFits}
use Rattle.keyed_steps.specs.Names.{AreFine, IsFineReplacement}
use Rattle.keyed_steps.specs.Good.{IsMadeHead, IsPlainHead, IsGoodRow, IsGoodColumn, IsGood, IsReady}
use Rattle.keyed_steps.specs.Piecewise.{PiecesFit, IsFit}
use Rattle.keyed_steps.proofs.Differing.{fine-to, fine-from, fine-step}
use Rattle.keyed_steps.proofs.ReplacementNames.{expand-fine, piece-fine, drop-fine}
use Rattle.keyed_steps.proofs.HeadsAfter.{IsOneHead, expand-after, drop-after, piece-made, piece-after}
use Rattle.keyed_steps.proofs.PartTypes.{columns-good}
use Rattle.keyed_steps.proofs.Standing.{column-at, good-at, good-from}
use Rattle.keyed_steps.proofs.Same.{counted}

pub replaced-every : {A : Type 0} (P : A → Type 0) (i : ℕ) (xs new : List A) → Every P xs → Every P new →
    Every P (replaced_at i xs new)
replaced-every P i [] new h k = tt
replaced-every P zero (x ∷ xs) new h k = every-append P new xs k h.1
replaced-every P (suc i) (x ∷ xs) new h k = (h.0, replaced-every P i xs new h.1 k)

placed-names : (place : List MStep) (bs : List MBound) → map (λ (b : MBind). b.name) (map
    (bind_at place) bs) ≡ bound_names bs
placed-names place [] = refl
placed-names place (b ∷ bs) = ap (λ l. b.name ∷ l) (placed-names place bs)

module _ {T : Type 0} (cx : Context T) where
  typed-append : (cs ds : List (MColumn T)) (hs gs : List (Head T)) → AreHeadsTyped cx cs hs → AreHeadsTyped cx ds gs →
      AreHeadsTyped cx (cs ++ ds) (hs ++ gs)
  typed-append [] ds [] gs h k = k
  typed-append [] ds (x ∷ hs) gs h k = elim h [ ]
  typed-append (c ∷ cs) ds [] gs h k = elim h [ ]
  typed-append (c ∷ cs) ds (x ∷ hs) gs h k = (h.0, typed-append cs ds hs gs h.1 k)

  -- typed heads after a step at column `i`
  typed-step : (f : Head T → List (Replacement T)) (c : MColumn T) (new : List (MColumn T)) (i : ℕ)
      (columns : List (MColumn T)) (hs : List (Head T)) (y : Replacement T) → slice_get columns i ≡ Some c →
      AreHeadsTyped cx columns hs →
      ((h : Head T) (z : Replacement T) → slice_get hs i ≡ Some h → IsHeadTyped cx c.type h → Among z (f h) →
      AreHeadsTyped cx new z.heads) → Among y (replacements_at f i hs) →
      AreHeadsTyped cx (replaced_at i columns new) y.heads
  typed-step f c new i columns [] y e t g a = elim a [ ]
  typed-step f c new i [] (h ∷ hs) y e t g a = elim t [ ]
  typed-step f c new zero (d ∷ columns) (h ∷ hs) y e t g a =
      let m = among-map (with_others hs) (f h) y a in
      let same : d ≡ c = cc in
      subst (λ (z : Replacement T). AreHeadsTyped cx (new ++ columns) z.heads) (sym m.2)
      (typed-append new columns m.0.heads hs (g h m.0 refl
      (subst (λ (x : MColumn T). IsHeadTyped cx x.type h) same t.0) m.1) t.1)
  typed-step f c new (suc i) (d ∷ columns) (h ∷ hs) y e t g a =
      let m = among-map (with_head h) (replacements_at f i hs) y a in
      subst (λ (z : Replacement T). AreHeadsTyped cx (d ∷ replaced_at i columns new) z.heads) (sym m.2)
      (t.0, typed-step f c new i columns hs m.0 e t.1 g m.1)

  every-step : (P : Head T → Type 0) (f : Head T → List (Replacement T)) (i : ℕ) (hs : List (Head T))
      (y : Replacement T) → Every P hs → ((h : Head T) (z : Replacement T) → slice_get hs i ≡ Some h → P h → Among z
      (f h) → Every P z.heads) → Among y (replacements_at f i hs) → Every P y.heads
  every-step P f i [] y p g a = elim a [ ]
  every-step P f zero (h ∷ hs) y p g a =
      let m = among-map (with_others hs) (f h) y a in
      subst (λ (z : Replacement T). Every P z.heads) (sym m.2) (every-append P m.0.heads hs (g h m.0 refl p.0 m.1) p.1)
  every-step P f (suc i) (h ∷ hs) y p g a =
      let m = among-map (with_head h) (replacements_at f i hs) y a in
      subst (λ (z : Replacement T). Every P z.heads) (sym m.2) (p.0, every-step P f i hs m.0 p.1 g m.1)

  -- the one head that stands in its place
  plain-step : (P : Head T → Type 0) (f : Head T → List (Replacement T)) (i : ℕ) (hs : List (Head T))
      (y : Replacement T) → ((h : Head T) (z : Replacement T) → slice_get hs i ≡ Some h → Among z (f h) → (g : Head T)
      × (z.heads ≡ g ∷ []) × P g) → Among y (replacements_at f i hs) → GoodAt P i y.heads
  plain-step P f i [] y g a = elim a [ ]
  plain-step P f zero (h ∷ hs) y g a =
      let m = among-map (with_others hs) (f h) y a in
      let k = g h m.0 refl m.1 in
      subst (λ (z : Replacement T). GoodAt P zero z.heads) (sym m.2)
      (subst (λ (l : List (Head T)). GoodAt P zero (l ++ hs)) (sym k.1) k.2)
  plain-step P f (suc i) (h ∷ hs) y g a =
      let m = among-map (with_head h) (replacements_at f i hs) y a in
      subst (λ (z : Replacement T). GoodAt P (suc i) z.heads) (sym m.2) (plain-step P f i hs m.0 g m.1)

module _ {T : Type 0} (IsType : T → Type 0) (cx : Context T) (V : T → Bool → MValue → Type 0)
    (law : PartsLaw IsType V cx) (values : ValuesLaw IsType V cx) (decides : ℕ → Decision)
    (fit : PiecesFit IsType cx decides) where
  abbrev Row : List (MColumn T) → MRow T → Type 0
  Row columns r = IsGoodRow cx decides columns r

  module _ (f : Head T → List (Replacement T)) (fine : (h : Head T) (y : Replacement T) → Among y (f h) →
      IsFineReplacement h y) (Good : Head T → Type 0) (width : ℕ) (divides : Divides decides Good width f)
      (i : ℕ) (c : MColumn T) (columns new : List (MColumn T)) (there : slice_get columns i ≡ Some c) where
    rows-kept : (rows next : List (MRow T)) → Every (Row columns) rows → Every (λ r. GoodAt Good i r.heads) rows →
        ((r : MRow T) (h : Head T) (y : Replacement T) → Among r rows → slice_get r.heads i ≡ Some h →
        IsHeadTyped cx c.type h → Among y (f h) → AreHeadsTyped cx new y.heads) →
        ((h : Head T) (y : Replacement T) → (t : IsMadeHead h) → (r : MRow T) → Among r rows →
        slice_get r.heads i ≡ Some h → Among y (f h) → Every (IsMadeHead) y.heads) →
        AreInOrder decides (rows_at f c.place i rows) next → Every (Row (replaced_at i columns new)) next
    rows-kept rows next good at typed made order =
        every-among (Row (replaced_at i columns new)) next (λ r j. one r (order.same.back r j))
      where
        free : Every (λ r. AreFree decides (row_key decides r) 0 r.heads) rows
        free = every-to (Row columns) (λ r. AreFree decides (row_key decides r) 0 r.heads) rows (λ r g. g.free) good

        one : (r : MRow T) → Among r (rows_at f c.place i rows) → Row (replaced_at i columns new) r
        one r j =
            let a = among-flat (λ x. map (row_replaced c.place x) (replacements_at f i x.heads)) rows r j in
            let b = among-map (row_replaced c.place a.0) (replacements_at f i a.0.heads) r a.2 in
            let g : Row columns a.0 = among-every (Row columns) rows a.0 good a.1 in
            let names : AreFine (map (λ x. x.name) a.0.caught ++ bound_names b.0.binds) b.0.heads = fine-step f fine
            (map (λ x. x.name) a.0.caught) i a.0.heads b.0 b.1 (fine-to
            (map (λ x. x.name) a.0.caught) a.0.heads g.names) in
            let same : map (λ x. x.name) (a.0.caught ++ map (bind_at c.place) b.0.binds) ≡ map
            (λ x. x.name) a.0.caught ++ bound_names b.0.binds =
            map-append (λ x. x.name) a.0.caught (map (bind_at c.place) b.0.binds)
            ∙ ap (λ l. map (λ x. x.name) a.0.caught ++ l) (placed-names c.place b.0.binds) in
            record {
              typed =
                  subst (λ (x : MRow T). AreHeadsTyped cx (replaced_at i columns new) x.heads) (sym b.2)
                  (typed-step cx f c new i columns a.0.heads b.0 there g.typed
                  (λ h z e t k. typed a.0 h z a.1 e t k) b.1);
              names = subst (λ (x : MRow T). heads_names_differ (map (λ q. q.name) x.caught) x.heads ≡ true) (sym b.2)
                  (subst (λ (l : List (List ℕ)). heads_names_differ l b.0.heads ≡ true) (sym same)
                  (fine-from (map (λ x. x.name) a.0.caught ++ bound_names b.0.binds) b.0.heads names));
              free = rows-free decides Good width f divides c.place i rows free at r j;
              made =
                  subst (λ (x : MRow T). Every (IsMadeHead) x.heads) (sym b.2)
                  (every-step cx (IsMadeHead) f i a.0.heads b.0 g.made (λ h z e t k. made h z t a.0 a.1 e k) b.1);
            }

  any-good : (i : ℕ) (rows : List (MRow T)) → Every (λ r. GoodAt (λ (h : Head T). Unit {0}) i r.heads) rows
  any-good i [] = tt
  any-good i (r ∷ rows) = (good-from (λ (h : Head T). Unit {0}) i r.heads (λ h e. tt), any-good i rows)

  same-column : (c : MColumn T) (cs : List (MColumn T)) (j : ℕ) → slice_get cs j ≡ Some c →
      replaced_at j cs (c ∷ []) ≡ cs
  same-column c [] j e = refl
  same-column c (d ∷ cs) zero e = let same : d ≡ c = cc in ap (λ x. x ∷ cs) (sym same)
  same-column c (d ∷ cs) (suc j) e = ap (λ l. d ∷ l) (same-column c cs j e)

  -- alternatives in order
  pub expanded : (i : ℕ) (c : MColumn T) (columns : List (MColumn T)) (rows next : List (MRow T)) →
      IsGood IsType cx decides columns rows → slice_get columns i ≡ Some c →
      AreInOrder decides (rows_at expand_head c.place i rows) next → IsReady IsType cx decides i columns next
  expanded i c columns rows next good there order = record {
    good = record {
      columns_are = good.columns_are;
      rows_are = subst (λ cs. Every (Row cs) next) (same-column c columns i there)
          (rows-kept expand_head expand-fine (λ h. Unit {0}) 1 (expand-divides decides) i c columns
          (c ∷ []) there rows next good.rows_are (any-good i rows)
          (λ r h y a e t k. (let o : IsOneHead cx c.type y = expand-after cx c.type h y t (head-made r h a e) k in
          subst (AreHeadsTyped cx (c ∷ [])) (sym o.only) (o.typed, tt)))
          (λ h y m r a e k. (let o : IsOneHead cx c.type y = expand-after cx c.type h y (head-typed r h a e) m k in
          subst (Every (IsMadeHead)) (sym o.only) (o.made, tt))) order);
    };
    plain = every-among (λ r. GoodAt IsPlainHead i r.heads) next (λ r j. plain r (order.same.back r j));
  }
    where
      every-at : (P : Head T → Type 0) (j : ℕ) (hs : List (Head T)) (h : Head T) → Every P hs →
          slice_get hs j ≡ Some h → P h
      every-at P j [] h p e = cc
      every-at P zero (x ∷ hs) h p e = let same : x ≡ h = cc in subst P same p.0
      every-at P (suc j) (x ∷ hs) h p e = every-at P j hs h p.1 e

      typed-at : (cs : List (MColumn T)) (j : ℕ) (hs : List (Head T)) (h : Head T) → AreHeadsTyped cx cs hs →
          slice_get cs j ≡ Some c → slice_get hs j ≡ Some h → IsHeadTyped cx c.type h
      typed-at [] j hs h t e k = cc
      typed-at (d ∷ cs) j [] h t e k = cc
      typed-at (d ∷ cs) zero (x ∷ hs) h t e k =
          let same : d ≡ c = cc in
          let head : x ≡ h = cc in
          subst (λ z. IsHeadTyped cx c.type z) head (subst (λ (z : MColumn T). IsHeadTyped cx z.type x) same t.0)
      typed-at (d ∷ cs) (suc j) (x ∷ hs) h t e k = typed-at cs j hs h t.1 e k

      head-made : (r : MRow T) (h : Head T) → Among r rows → slice_get r.heads i ≡ Some h → IsMadeHead h
      head-made r h a e =
          let g : Row columns r = among-every (Row columns) rows r good.rows_are a in
          every-at (IsMadeHead) i r.heads h g.made e

      head-typed : (r : MRow T) (h : Head T) → Among r rows → slice_get r.heads i ≡ Some h → IsHeadTyped cx c.type h
      head-typed r h a e =
          let g : Row columns r = among-every (Row columns) rows r good.rows_are a in
          typed-at columns i r.heads h g.typed there e

      plain : (r : MRow T) → Among r (rows_at expand_head c.place i rows) → GoodAt IsPlainHead i r.heads
      plain r j =
          let a = among-flat (λ x. map (row_replaced c.place x) (replacements_at expand_head i x.heads)) rows r j in
          let b = among-map (row_replaced c.place a.0) (replacements_at expand_head i a.0.heads) r a.2 in
          subst (λ (x : MRow T). GoodAt IsPlainHead i x.heads) (sym b.2)
          (plain-step cx IsPlainHead expand_head i a.0.heads b.0
          (λ h z e k. (let o : IsOneHead cx c.type z = expand-after cx c.type h z (head-typed a.0 h a.1 e)
          (head-made a.0 h a.1 e) k in (o.head, o.only, o.plain))) b.1)

  -- a column dropped
  pub dropped : (i : ℕ) (c : MColumn T) (columns : List (MColumn T)) (rows next : List (MRow T)) →
      IsReady IsType cx decides i columns rows → slice_get columns i ≡ Some c →
      AreInOrder decides (rows_at default_head c.place i rows) next →
      IsGood IsType cx decides (replaced_at i columns []) next
  dropped i c columns rows next ready there order = record {
    columns_are = replaced-every (IsGoodColumn IsType) i columns [] ready.good.columns_are tt;
    rows_are =
        rows-kept default_head drop-fine (λ h. Unit {0}) 0
        (drop-divides decides) i c columns [] there rows next ready.good.rows_are (any-good i rows)
        (λ r h y a e t k. subst (AreHeadsTyped cx []) (sym (drop-after cx h y k)) tt)
        (λ h y m r a e k. subst (Every (IsMadeHead)) (sym (drop-after cx h y k)) tt) order;
  }

  -- a piece entered
  pub entered : (i : ℕ) (c : MColumn T) (columns : List (MColumn T)) (rows next : List (MRow T)) (pieces : List MCtor)
      (p : MCtor) → IsReady IsType cx decides i columns rows → slice_get columns i ≡ Some c →
      ArePieces (cx.set_of c.type) (ctors_at i rows) pieces → Among p pieces →
      AreInOrder decides (rows_at (specialise_head p (cx.arity p c.type)) c.place i rows) next →
      IsGood IsType cx decides (replaced_at i columns (part_columns cx c p)) next
  entered i c columns rows next pieces p ready there are a order =
      let column : IsGoodColumn IsType c = column-at (IsGoodColumn IsType) columns i c ready.good.columns_are there in
      let f : IsFit cx i c rows pieces p = fit i c columns rows pieces p ready there are a in
      record {
        columns_are =
            replaced-every (IsGoodColumn IsType) i columns (part_columns cx c p) ready.good.columns_are
            (columns-good IsType cx V law c.type column.type c p refl f.belong column.straight);
        rows_are =
            rows-kept (specialise_head p (cx.arity p c.type)) (piece-fine p (cx.arity p c.type))
            (HasCount p (cx.arity p c.type)) (cx.arity p c.type) (piece-divides decides p
            (cx.arity p c.type)) i c columns (part_columns cx c p) there rows next ready.good.rows_are
            (counted IsType cx V law values decides fit i c columns rows pieces p ready there are a)
            (λ r h y j e t k. piece-after IsType cx V law c column.type (named_in pieces) p f.belong h y t
            (good-at (HeadFits (named_in pieces) p) i r.heads h (among-every
            (λ x. GoodAt (HeadFits (named_in pieces) p) i x.heads) rows r f.fits j) e) k)
            (λ h y m r j e k. piece-made cx p (cx.arity p c.type) h y m k) order;
      }
