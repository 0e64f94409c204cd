-- What the steps catch is there.
use Rattle.std.proofs.Common.{◌≡◌, inl, inr, ℕ, zero, suc, Bool, true, false, List, [], ◌∷◌, ◌++◌, map, cond, Some, None, is_some, slice_get, refl, sym, ap, ◌∙◌, subst, IsTrue}
use Rattle.std.specs.List.{list_all}
use Rattle.match_model.specs.Values.{MValue}
use Rattle.match_model.specs.Constructors.{MCtor, WildCtor, builds, has_piece}
use Rattle.match_model.specs.Contexts.{Context}
use Rattle.match_model.specs.ArenaPatterns.{MBound, de_pat, de_pats_list}
use Rattle.match_model.specs.Pieces.{ArePieces}
use Rattle.match_model.specs.Places.{part_at}
use Rattle.match_model.specs.Trees.{MBind, places_are}
use Rattle.match_model.specs.Rows.{Head, is_wild, is_wild_ctor, Choice, choices_of, heads_of}
use Rattle.match_model.specs.Matrices.{MColumn, MRow, bind_at}
use Rattle.match_model.specs.PieceStates.{named_in}
use Rattle.match_model.specs.WellTyped.{part_is_of, IsHeadTyped}
use Rattle.match_model.proofs.Basics.{both, and_true, untrue}
use Rattle.match_model.specs.Keys.{Decision}
use Rattle.match_model.specs.Lists.{Every, Among}
use Rattle.match_model.specs.Steps.{Replacement, with_head, with_others, replacements_at, own_binds, expand_head, specialise_head, default_head, row_replaced, rows_at}
use Rattle.keyed_rows.specs.Dividing.{GoodAt}
use Rattle.match_model.specs.RowOrder.{AreInOrder}
use Rattle.keyed_rows.proofs.Parting.{among-map, among-every}
use Rattle.keyed_rows.proofs.RowOrder.{among-flat, every-among}
use Rattle.keyed_rows.proofs.Leaf.{places-bound}
use Rattle.match_model.specs.Lowering.{ctors_at}
use Rattle.keyed_steps.specs.Filled.{IsHeld}
use Rattle.keyed_steps.specs.Engine.{AreCaught}
use Rattle.keyed_steps.specs.Fits.{HeadFits}
use Rattle.keyed_steps.specs.Good.{IsGoodRow, IsGood, IsReady}
use Rattle.keyed_steps.specs.Piecewise.{PiecesFit, IsFit}
use Rattle.keyed_steps.proofs.OwnNames.{own-places}
use Rattle.keyed_steps.proofs.HeadExpands.{AreWhole, choices-whole}
use Rattle.keyed_steps.proofs.Standing.{held-at, head-at, good-at}

-- a row that a step makes, by its head there
pub record IsMadeAt {T : Type 0} (f : Head T → List (Replacement T)) (i : ℕ) (hs : List (Head T))
    (y : Replacement T) : Type 0 where
  pub head : Head T
  pub there : slice_get hs i ≡ Some head
  pub by : Replacement T
  pub of : Among by (f head)
  pub binds : y.binds ≡ by.binds
  pub chosen : y.chosen ≡ by.chosen

pub made-at : {T : Type 0} (f : Head T → List (Replacement T)) (i : ℕ) (hs : List (Head T)) (y : Replacement T) →
    Among y (replacements_at f i hs) → IsMadeAt f i hs y
made-at f i [] y a = elim a [ ]
made-at f zero (h ∷ hs) y a =
    let m = among-map (with_others hs) (f h) y a in record {
      head = h;
      there = refl;
      by = m.0;
      of = m.1;
      binds = ap
          (λ x. x.binds) m.2;
      chosen = ap (λ x. x.chosen) m.2;
    }
made-at {T} f (suc i) (h ∷ hs) y a =
    let m = among-map (with_head h) (replacements_at f i hs) y a in
    let r : IsMadeAt f i hs m.0 = made-at f i hs m.0 m.1 in
    record {
      head = r.head;
      there = r.there;
      by = r.by;
      of = r.of;
      binds = ap (λ (x : Replacement T). x.binds) m.2
          ∙ r.binds;
      chosen = ap (λ (x : Replacement T). x.chosen) m.2 ∙ r.chosen;
    }

pub places-append : (v : MValue) (xs ys : List MBind) → places_are v xs ≡ true → places_are v ys ≡ true →
    places_are v (xs ++ ys) ≡ true
places-append v [] ys p q = q
places-append v (x ∷ xs) ys p q =
    let s = both (is_some (part_at x.place v)) (places_are v xs) p in
    and_true (is_some (part_at x.place v)) (places_are v (xs ++ ys)) s.0 (places-append v xs ys s.1 q)

module _ {T : Type 0} (IsType : T → Type 0) (cx : Context T) (V : T → Bool → MValue → Type 0) (decides : ℕ → Decision)
    (i : ℕ) (c : MColumn T) (columns : List (MColumn T)) (there : slice_get columns i ≡ Some c) where
  caught-step : (f : Head T → List (Replacement T)) (v : MValue) (rows next : List (MRow T)) →
      Every (IsGoodRow cx decides columns) rows →
      ((r : MRow T) (h : Head T) (y : Replacement T) → Among r rows → slice_get r.heads i ≡ Some h →
      IsHeadTyped cx c.type h → Among y (f h) → places_are v (map (bind_at c.place) y.binds) ≡ true) →
      AreInOrder decides (rows_at f c.place i rows) next → AreCaught v rows → AreCaught v next
  caught-step f v rows next good each order caught =
      every-among (λ r. IsTrue (places_are v r.caught)) next (λ r j. one r (order.same.back r j))
    where
      some : (x y : Head T) → Some x ≡ Some y → x ≡ y
      some x y e = cc

      one : (r : MRow T) → Among r (rows_at f c.place i rows) → places_are v r.caught ≡ true
      one r j =
          let a = among-flat (λ x. map (row_replaced c.place x) (replacements_at f i x.heads)) rows r j in
          let b = among-map (row_replaced c.place a.0) (replacements_at f i a.0.heads) r a.2 in
          let m : IsMadeAt f i a.0.heads b.0 = made-at f i a.0.heads b.0 b.1 in
          let g : IsGoodRow cx decides columns a.0 = among-every (IsGoodRow cx decides columns) rows a.0 good a.1 in
          let h = head-at cx columns a.0.heads i c g.typed there in
          let typed : IsHeadTyped cx c.type m.head = subst (IsHeadTyped cx c.type)
          (some h.0 m.head (sym h.1 ∙ m.there)) h.2 in
          let new : places_are v (map (bind_at c.place) b.0.binds) ≡ true = subst
          (λ (l : List MBound). places_are v (map (bind_at c.place) l) ≡ true) (sym m.binds)
          (each a.0 m.head m.by a.1 m.there typed m.of) in
          subst (λ (x : MRow T). places_are v x.caught ≡ true) (sym b.2)
          (places-append v a.0.caught (map (bind_at c.place) b.0.binds)
          (among-every (λ x. IsTrue (places_are v x.caught)) rows a.0 caught a.1) new)

  pub expanded-caught : (rows next : List (MRow T)) (v : MValue) → IsGood IsType cx decides columns rows →
      AreInOrder decides (rows_at expand_head c.place i rows) next → IsHeld V columns v → AreCaught v rows →
      AreCaught v next
  expanded-caught rows next v good order held caught =
      let u = held-at V columns held.0 v i c held.1 held.2 there in
      caught-step expand_head v rows next good.rows_are (λ r h y a e t j. places-bound v c.place u.0 y.binds u.1
      (whole h y t j)) order caught
    where
      whole : (h : Head T) (y : Replacement T) → IsHeadTyped cx c.type h → Among y (expand_head h) → AreWhole y.binds
      whole None y t (inl e) = subst (λ (x : Replacement T). AreWhole x.binds) (sym e) refl
      whole None y t (inr e) = absurd e
      whole (Some p) y t j =
          let m = among-map (λ x. record { heads = Some x.pat ∷ []; chosen = x.chosen; binds = x.binds })
          (choices_of p) y j in
          subst (λ (x : Replacement T). AreWhole x.binds) (sym m.2) (among-every (λ (x : Choice T). AreWhole x.binds)
          (choices_of p) m.0 (choices-whole cx c.type p t) m.1)

  pub dropped-caught : (rows next : List (MRow T)) (v : MValue) → IsReady IsType cx decides i columns rows →
      AreInOrder decides (rows_at default_head c.place i rows) next → IsHeld V columns v → AreCaught v rows →
      AreCaught v next
  dropped-caught rows next v ready order held caught =
      let u = held-at V columns held.0 v i c held.1 held.2 there in
      caught-step default_head v rows next ready.good.rows_are (λ r h y a e t j. places-bound v c.place u.0 y.binds u.1
      (whole h y t j)) order caught
    where
      wild : (k : MCtor) → is_wild_ctor k ≡ true → k ≡ WildCtor
      wild WildCtor w = refl
      wild _ w = untrue w

      own : (h : Head T) → IsHeadTyped cx c.type h → is_wild h ≡ true → AreWhole (own_binds h)
      own None t w = refl
      own (Some (de_pat k ty uid at subs binds)) t w =
          subst (λ x. list_all (λ b. part_is_of x b.part) binds ≡ true) (wild k w) t.1

      whole : (h : Head T) (y : Replacement T) → IsHeadTyped cx c.type h → Among y (default_head h) → AreWhole y.binds
      whole h y t j = go (is_wild h) refl
        where
          Y : Replacement T
          Y = record { heads = []; chosen = []; binds = own_binds h }

          go : (b : Bool) → is_wild h ≡ b → AreWhole y.binds
          go true q =
              elim (subst (λ x. Among y (cond x (Y ∷ []) [])) q j) [
                | inl e ↦ subst
                    (λ (x : Replacement T). AreWhole x.binds) (sym e) (own h t q)
                | inr e ↦ absurd e
              ]
          go false q = absurd (subst (λ x. Among y (cond x (Y ∷ []) [])) q j)

  pub entered-caught : PiecesFit IsType cx decides → (rows next : List (MRow T)) (pieces : List MCtor) (p : MCtor)
      (v u : MValue) → IsReady IsType cx decides i columns rows →
      ArePieces (cx.set_of c.type) (ctors_at i rows) pieces → Among p pieces →
      AreInOrder decides (rows_at (specialise_head p (cx.arity p c.type)) c.place i rows) next →
      part_at c.place v ≡ Some u → builds (named_in pieces) p u ≡ true → AreCaught v rows → AreCaught v next
  entered-caught fit rows next pieces p v u ready are a order part built caught =
      let f : IsFit cx i c rows pieces p = fit i c columns rows pieces p ready there are a in
      caught-step (specialise_head p (cx.arity p c.type)) v rows next ready.good.rows_are
      (λ r h y j e t k. there-by h y t (good-at (HeadFits (named_in pieces) p) i r.heads h
      (among-every (λ x. GoodAt (HeadFits (named_in pieces) p) i x.heads) rows r f.fits j) e) k) order caught
    where
      there-by : (h : Head T) (y : Replacement T) → IsHeadTyped cx c.type h → HeadFits (named_in pieces) p h →
          Among y (specialise_head p (cx.arity p c.type) h) → places_are v (map (bind_at c.place) y.binds) ≡ true
      there-by None y t f (inl e) =
          subst (λ (x : Replacement T). places_are v (map (bind_at c.place) x.binds) ≡ true) (sym e) refl
      there-by None y t f (inr e) = absurd e
      there-by (Some (de_pat k ty uid at subs binds)) y t f j = go (has_piece k p) refl
        where
          Y : Replacement T
          Y =
              record {
                heads = heads_of k (map Some (de_pats_list subs))
                    (cx.arity p c.type);
                chosen = [];
                binds = binds;
              }

          go : (b : Bool) → has_piece k p ≡ b → places_are v (map (bind_at c.place) y.binds) ≡ true
          go true q =
              elim (subst (λ x. Among y (cond x (Y ∷ []) [])) q j) [
                | inl e ↦ subst
                    (λ (x : Replacement T). places_are v (map (bind_at c.place) x.binds) ≡ true) (sym e)
                    (own-places c.place v u part k (f.sided u built ∙ q) binds t.1)
                | inr e ↦ absurd e
              ]
          go false q = absurd (subst (λ x. Among y (cond x (Y ∷ []) [])) q j)
