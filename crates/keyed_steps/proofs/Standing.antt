-- What stands at a column of a well-formed matrix.
use Rattle.std.proofs.Common.{◌≡◌, inl, inr, ℕ, zero, suc, Bool, List, [], ◌∷◌, map, Option, Some, None, slice_get, refl, sym, ap, ◌∙◌, subst}
use Rattle.match_model.specs.Values.{MValue, Flag, Num, Text, Node, Point, Row, Thing, Later, Unseen}
use Rattle.match_model.specs.Contexts.{Context}
use Rattle.match_model.specs.Ways.{Way, join}
use Rattle.match_model.specs.ArenaWays.{arena_ways}
use Rattle.match_model.specs.WellTyped.{IsHeadTyped, AreHeadsTyped, names_in}
use Rattle.match_model.specs.Places.{MStep, ThroughStep, FieldStep, FrontStep, BackStep, MiddleStep, step_into, step_number, part_at, position_at, position_under}
use Rattle.match_model.specs.Rows.{Head}
use Rattle.match_model.specs.Matrices.{MColumn, ways_at, heads_ways, head_ways, under_all}
use Rattle.match_model.specs.Lists.{Every, Among}
use Rattle.keyed_rows.specs.Dividing.{GoodAt}
use Rattle.keyed_rows.proofs.Parting.{among-map, among-every}
use Rattle.keyed_rows.proofs.RowOrder.{among-flat}
use Rattle.keyed_rows.proofs.Bindings.{Canonical, canonical-both}
use Rattle.keyed_rows.proofs.Canonical.{Neat, pat-neat}
use Rattle.keyed_rows.proofs.Leaf.{under-bare}
use Rattle.keyed_steps.specs.Filled.{AreValues, ArePartsAt}
use Rattle.keyed_steps.specs.Good.{IsStraight}

number-there : (s : MStep) (place : List MStep) (v w : MValue) → IsStraight (s ∷ place) → step_into s v ≡ Some w →
    (k : ℕ) × (step_number s v ≡ Some k) × IsStraight place
number-there ThroughStep place v w h e = (0, refl, h)
number-there (FieldStep k i) place v w h e = (i, refl, h)
number-there (FrontStep i) place v w h e = (i, refl, h)
number-there (BackStep i) place (Row items) w h e = (_, refl, h)
number-there (BackStep i) place (Flag t) w h e = cc
number-there (BackStep i) place (Num t) w h e = cc
number-there (BackStep i) place (Text t) w h e = cc
number-there (BackStep i) place (Node k t) w h e = cc
number-there (BackStep i) place (Point m t) w h e = cc
number-there (BackStep i) place Thing w h e = cc
number-there (BackStep i) place Later w h e = cc
number-there (BackStep i) place Unseen w h e = cc
number-there (MiddleStep f b) place v w h e = absurd h

-- a part at a place without middle items has a position
pub position-there : (place : List MStep) (v u : MValue) → IsStraight place → part_at place v ≡ Some u → (p : List ℕ)
    × (position_at place v ≡ Some p)
position-there [] v u h e = ([], refl)
position-there (s ∷ place) v u h e = go (step_into s v) refl e (λ w a b. position-there place w u a b)
  where
    go : (o : Option MValue) → step_into s v ≡ o → (elim o [ None ↦ None | Some w ↦ part_at place w ]) ≡ Some u →
        ((w : MValue) → IsStraight place → part_at place w ≡ Some u → (p : List ℕ) × (position_at place w ≡ Some p)) →
        (p : List ℕ) × ((elim o [
          | None ↦ None
          | Some w ↦ position_under (step_number s v)
              (position_at place w)
        ]) ≡ Some p)
    go None q e r = cc
    go (Some w) q e r =
        let n = number-there s place v w h q in
        let m = r w n.2 e in
        (n.0 ∷ m.0, ap (λ x. position_under x (position_at place w)) n.1 ∙ ap (position_under (Some n.0)) m.1)

module _ {T : Type 0} where
  pub held-at : (V : T → Bool → MValue → Type 0) (columns : List (MColumn T)) (us : List MValue) (v : MValue) (i : ℕ)
      (c : MColumn T) → AreValues V columns us → ArePartsAt v columns us → slice_get columns i ≡ Some c →
      (u : MValue) × (part_at c.place v ≡ Some u) × V c.type c.sure u
  held-at V [] us v i c a b e = cc
  held-at V (d ∷ columns) [] v i c a b e = elim a [ ]
  held-at V (d ∷ columns) (u ∷ us) v zero c a b e =
      let same : d ≡ c = cc in (
        u,
        subst (λ (x : MColumn T). part_at x.place v ≡ Some u) same b.0,
        subst
            (λ (x : MColumn T). V x.type x.sure u) same a.0,
      )
  held-at V (d ∷ columns) (u ∷ us) v (suc i) c a b e = held-at V columns us v i c a.1 b.1 e

  pub column-at : (P : MColumn T → Type 0) (columns : List (MColumn T)) (i : ℕ) (c : MColumn T) → Every P columns →
      slice_get columns i ≡ Some c → P c
  column-at P [] i c a e = cc
  column-at P (d ∷ columns) zero c a e = let same : d ≡ c = cc in subst P same a.0
  column-at P (d ∷ columns) (suc i) c a e = column-at P columns i c a.1 e

  pub head-at : (cx : Context T) (columns : List (MColumn T)) (hs : List (Head T)) (i : ℕ) (c : MColumn T) →
      AreHeadsTyped cx columns hs → slice_get columns i ≡ Some c → (h : Head T) × (slice_get hs i ≡ Some h)
      × IsHeadTyped cx c.type h
  head-at cx [] hs i c a e = cc
  head-at cx (d ∷ columns) [] i c a e = elim a [ ]
  head-at cx (d ∷ columns) (h ∷ hs) zero c a e =
      let same : d ≡ c = cc in (h, refl, subst (λ (x : MColumn T). IsHeadTyped cx x.type h) same a.0)
  head-at cx (d ∷ columns) (h ∷ hs) (suc i) c a e = head-at cx columns hs i c a.1 e

  pub good-at : (P : Head T → Type 0) (i : ℕ) (hs : List (Head T)) (h : Head T) → GoodAt P i hs →
      slice_get hs i ≡ Some h → P h
  good-at P i [] h g e = cc
  good-at P zero (x ∷ hs) h g e = let same : x ≡ h = cc in subst P same g
  good-at P (suc i) (x ∷ hs) h g e = good-at P i hs h g e

  pub good-from : (P : Head T → Type 0) (i : ℕ) (hs : List (Head T)) → ((h : Head T) → slice_get hs i ≡ Some h → P h) →
      GoodAt P i hs
  good-from P i [] f = tt
  good-from P zero (x ∷ hs) f = f x refl
  good-from P (suc i) (x ∷ hs) f = good-from P i hs f

  -- the bindings of ways are in order
  pub way-canonical : (h : Head T) (o : Option (List ℕ)) (u : Option MValue) (a : Way) → Among a (ways_at o u h) →
      Canonical a.bindings
  way-canonical h None u a j = elim j [ ]
  way-canonical h (Some is) None a j = elim j [ ]
  way-canonical h (Some is) (Some u) a j =
      let m = among-map (under_all is) (head_ways h u) a j in
      let bindings : a.bindings ≡ m.0.bindings = ap (λ x. x.bindings) m.2 ∙ (under-bare is m.0).1 in
      subst Canonical (sym bindings) (one h m.0 m.1)
    where
      one : (h : Head T) (w : Way) → Among w (head_ways h u) → Canonical w.bindings
      one None w (inl e) = subst (λ (x : Way). Canonical x.bindings) (sym e) refl
      one None w (inr e) = absurd e
      one (Some p) w e =
          let n : Neat (names_in p) w = among-every (Neat (names_in p)) (arena_ways p u) w (pat-neat p u) e in
          n.canonical

  pub ways-canonical : (v : MValue) (cs : List (MColumn T)) (hs : List (Head T)) (w : Way) →
      Among w (heads_ways cs hs v) → Canonical w.bindings
  ways-canonical v [] [] w (inl e) = subst (λ (x : Way). Canonical x.bindings) (sym e) refl
  ways-canonical v [] [] w (inr e) = absurd e
  ways-canonical v [] (h ∷ hs) w a = elim a [ ]
  ways-canonical v (c ∷ cs) [] w a = elim a [ ]
  ways-canonical v (c ∷ cs) (h ∷ hs) w a =
      let ws : List Way = ways_at (position_at c.place v) (part_at c.place v) h in
      let m = among-flat (λ x. map (join x) (heads_ways cs hs v)) ws w a in
      let n = among-map (join m.0) (heads_ways cs hs v) w m.2 in
      subst (λ (x : Way). Canonical x.bindings) (sym n.2) (canonical-both m.0.bindings n.0.bindings
      (way-canonical h (position_at c.place v) (part_at c.place v) m.0 m.1) (ways-canonical v cs hs n.0 n.1))
