-- What typed rows have at a column.
use Rattle.std.proofs.Common.{◌≡◌, ◌<◌, ℕ, zero, suc, List, [], ◌∷◌, inl, inr, map, length, Some, None, slice_get, refl, sym, ap, ◌∙◌, subst, arith, IsTrue}
use Rattle.std.specs.List.{All}
use Rattle.match_model.specs.ArenaPatterns.{de_pat}
use Rattle.match_model.specs.Constructors.{MCtor, MSet, SingleCtor, PointCtor, LaterCtor, OtherTextCtor, WildCtor, OrCtor, VariantCtor, FlagCtor, NumbersCtor, TextCtor, RowCtor}
use Rattle.match_model.specs.Contexts.{Context}
use Rattle.match_model.specs.Keys.{Decision}
use Rattle.match_model.specs.Lists.{Every, Among}
use Rattle.match_model.specs.Lowering.{ctors_at}
use Rattle.match_model.specs.Matrices.{MColumn, MRow}
use Rattle.match_model.specs.Places.{MStep}
use Rattle.match_model.specs.Rows.{Head, first_ctor, choices_of}
use Rattle.match_model.specs.Steps.{Replacement, with_head, with_others, expand_head, replacements_at, replaced_at, row_replaced, rows_at}
use Rattle.match_model.specs.WellTyped.{IsTyped, IsHeadTyped, AreHeadsTyped}
use Rattle.constructor_sets.specs.Present.{is_sharp_head}
use Rattle.keyed_rows.proofs.Lists.{every-to}
use Rattle.keyed_rows.proofs.Parting.{among-every, among-map}
use Rattle.keyed_rows.proofs.RowOrder.{among-flat, every-among}
use Rattle.keyed_rows.specs.Dividing.{GoodAt}
use Rattle.keyed_steps.proofs.HeadsAfter.{IsOneHead, expand-after}
use Rattle.keyed_steps.proofs.Standing.{head-at}
use Rattle.keyed_steps.specs.Good.{IsMadeHead, IsPlainHead, IsGoodRow, IsGoodColumn, IsGood}
use Rattle.keyed_matrix.specs.Steps.{AreLonger}
use Rattle.tree_laws.proofs.InColumn.{OnCtor, column-every, all-from, all-among}
use Rattle.decision_tree.specs.Matrices.{IsTypedMatrix}

-- the test of a head that is no wildcard
abbrev pub IsSharp : MSet → MCtor → Type 0
IsSharp set k = IsTrue (is_sharp_head set k)

module _ {T : Type 0} (cx : Context T) where
  -- there are as many heads as columns
  pub as-many : (columns : List (MColumn T)) (heads : List (Head T)) → AreHeadsTyped cx columns heads →
      length columns ≡ length heads
  as-many [] [] t = refl
  as-many [] (h ∷ heads) t = elim t [ ]
  as-many (c ∷ columns) [] t = elim t [ ]
  as-many (c ∷ columns) (h ∷ heads) t =
      let rest : length columns ≡ length heads = as-many columns heads t.1 in omega (arith, rest)

  -- so each row has a head at each column
  pub longer-typed : (i : ℕ) (columns : List (MColumn T)) (rows : List (MRow T)) → i < length columns →
      Every (λ r. AreHeadsTyped cx columns r.heads) rows → AreLonger i rows
  longer-typed i columns rows within t =
      all-from (λ r. i < length r.heads) rows
      (every-to (λ r. AreHeadsTyped cx columns r.heads) (λ r. i < length r.heads) rows (λ r h.
      (let same : length columns ≡ length r.heads = as-many columns r.heads h in omega (arith, same, within))) t)

  -- as many as there are columns
  pub long-typed : (columns : List (MColumn T)) (rows : List (MRow T)) (n : ℕ) → length columns ≡ n →
      Every (λ r. AreHeadsTyped cx columns r.heads) rows → All (λ r. length r.heads ≡ n) rows
  long-typed columns rows n e t =
      all-from (λ r. length r.heads ≡ n) rows
      (every-to (λ r. AreHeadsTyped cx columns r.heads) (λ r. length r.heads ≡ n) rows (λ r h.
      sym (as-many columns r.heads h) ∙ e) t)

  -- one head stands in place of one that is expanded
  one-expanded : (h : Head T) (y : Replacement T) → Among y (expand_head h) → (g : Head T) × (y.heads ≡ g ∷ [])
  one-expanded None y (inl e) = (None, ap (λ x. x.heads) e)
  one-expanded None y (inr e) = absurd e
  one-expanded (Some p) y a =
      let k = among-map (λ c. record { heads = Some c.pat ∷ []; chosen = c.chosen; binds = c.binds })
      (choices_of p) y a in
      (Some k.0.pat, ap (λ x. x.heads) k.2)

  -- the head that a replacement of a row's heads replaced, and what stands in its place
  record IsReplaced (i : ℕ) (hs : List (Head T)) (y : Replacement T) : Type 0 where
    pub head : Head T
    pub there : slice_get hs i ≡ Some head
    pub by : Replacement T
    pub among : Among by (expand_head head)
    pub is : y.heads ≡ replaced_at i hs by.heads

  replaced-by : (i : ℕ) (hs : List (Head T)) (y : Replacement T) → Among y (replacements_at expand_head i hs) →
      IsReplaced i hs y
  replaced-by i [] y a = elim a [ ]
  replaced-by zero (h ∷ hs) y a =
      let m = among-map (with_others hs) (expand_head h) y a in
      record { head = h; there = refl; by = m.0; among = m.1; is = ap (λ x. x.heads) m.2 }
  replaced-by (suc i) (h ∷ hs) y a =
      let m = among-map (with_head h) (replacements_at expand_head i hs) y a in
      let r : IsReplaced i hs m.0 = replaced-by i hs m.0 m.1 in
      record {
        head = r.head;
        there = r.there;
        by = r.by;
        among = r.among;
        is = ap (λ x. x.heads) m.2 ∙ ap (λ l. h ∷ l) r.is;
      }

  length-one : (i : ℕ) (hs : List (Head T)) (g : Head T) → length (replaced_at i hs (g ∷ [])) ≡ length hs
  length-one i [] g = refl
  length-one zero (h ∷ hs) g = refl
  length-one (suc i) (h ∷ hs) g = ap suc (length-one i hs g)

  good-one : (P : Head T → Type 0) (i : ℕ) (hs : List (Head T)) (g : Head T) → P g → GoodAt P i (replaced_at i hs (g ∷ []))
  good-one P i [] g p = tt
  good-one P zero (h ∷ hs) g p = p
  good-one P (suc i) (h ∷ hs) g p = good-one P i hs g p

  -- rows keep their number of heads when they are expanded
  longer-kept : (i : ℕ) (place : List MStep) (rows : List (MRow T)) → AreLonger i rows →
      AreLonger i (rows_at expand_head place i rows)
  longer-kept i place rows l =
      all-from (λ r. i < length r.heads) (rows_at expand_head place i rows)
      (every-among (λ r. i < length r.heads) (rows_at expand_head place i rows) one)
    where
      one : (r : MRow T) → Among r (rows_at expand_head place i rows) → i < length r.heads
      one r j =
          let a = among-flat (λ x. map (row_replaced place x) (replacements_at expand_head i x.heads)) rows r j in
          let b = among-map (row_replaced place a.0) (replacements_at expand_head i a.0.heads) r a.2 in
          let y : IsReplaced i a.0.heads b.0 = replaced-by i a.0.heads b.0 b.1 in
          let z = one-expanded y.head y.by y.among in
          let was : i < length a.0.heads = all-among (λ x. i < length x.heads) rows a.0 l a.1 in
          let same : length r.heads ≡ length a.0.heads =
          ap (λ x. length x.heads) b.2 ∙ ap length (y.is ∙ ap (replaced_at i a.0.heads) z.1)
          ∙ length-one i a.0.heads z.0 in
          omega (arith, was, same)

  pub longer-expanded : (i : ℕ) (place : List MStep) (columns : List (MColumn T)) (rows read : List (MRow T)) →
      i < length columns → Every (λ r. AreHeadsTyped cx columns r.heads) rows →
      read ≡ rows_at expand_head place i rows → AreLonger i read
  longer-expanded i place columns rows read within t is =
      subst (AreLonger i) (sym is) (longer-kept i place rows (longer-typed i columns rows within t))

  -- the constructor of a typed head that is no or-pattern
  sharp-head : (t : T) (h : Head T) → IsHeadTyped cx t h → IsPlainHead h →
      OnCtor (IsSharp (cx.set_of t)) (first_ctor (h ∷ []))
  sharp-head t None ty p = tt
  sharp-head t (Some (de_pat k u uid at subs binds)) ty p = go k ty p
    where
      go : (k : MCtor) → IsTyped cx t (de_pat k u uid at subs binds) → IsPlainHead (Some (de_pat k u uid at subs binds)) →
          OnCtor (IsSharp (cx.set_of t)) (first_ctor (Some (de_pat k u uid at subs binds) ∷ []))
      go WildCtor ty p = tt
      go OrCtor ty p = elim p [ ]
      go SingleCtor ty p = ty.2.0
      go PointCtor ty p = ty.2.0
      go LaterCtor ty p = ty.2.0
      go OtherTextCtor ty p = ty.2.0
      go (VariantCtor x) ty p = ty.2.0
      go (FlagCtor x) ty p = ty.2.0
      go (NumbersCtor x) ty p = ty.2.0
      go (TextCtor x) ty p = ty.2.0
      go (RowCtor x) ty p = ty.2.0

module _ {T : Type 0} (IsType : T → Type 0) (cx : Context T) where
  -- a well-formed matrix is typed
  pub typed-of : (decides : ℕ → Decision) (columns : List (MColumn T)) (rows : List (MRow T)) →
      IsGood IsType cx decides columns rows → IsTypedMatrix IsType cx columns rows
  typed-of decides columns rows g = record {
    types = every-to (IsGoodColumn IsType) (λ c. IsType c.type) columns (λ c h. h.type) g.columns_are;
    heads = every-to (IsGoodRow cx decides columns) (λ r. AreHeadsTyped cx columns r.heads) rows (λ r h. h.typed) g.rows_are;
    made = every-to (IsGoodRow cx decides columns) (λ r. Every IsMadeHead r.heads) rows (λ r h. h.made) g.rows_are;
  }

  module _ (columns : List (MColumn T)) (rows : List (MRow T)) (typed : IsTypedMatrix IsType cx columns rows) (i : ℕ)
      (c : MColumn T) (there : slice_get columns i ≡ Some c) where
    every-at : (P : Head T → Type 0) (j : ℕ) (hs : List (Head T)) (h : Head T) → Every P hs → slice_get hs j ≡ Some h →
        P h
    every-at P j [] h p e = cc
    every-at P zero (x ∷ hs) h p e = let same : x ≡ h = cc in subst P same p.0
    every-at P (suc j) (x ∷ hs) h p e = every-at P j hs h p.1 e

    one-head : (x y : Head T) → Some x ≡ Some y → x ≡ y
    one-head x y e = cc

    -- the constructors of the column, once its or-patterns are taken apart, are of its set, and patterns can have them
    pub sharp-expanded : All (IsSharp (cx.set_of c.type)) (ctors_at i (rows_at expand_head c.place i rows))
    sharp-expanded =
        all-from (IsSharp (cx.set_of c.type)) (ctors_at i (rows_at expand_head c.place i rows))
        (column-every i (IsSharp (cx.set_of c.type)) (rows_at expand_head c.place i rows)
        (every-among (λ r. GoodAt On i r.heads) (rows_at expand_head c.place i rows) one))
      where
        On : Head T → Type 0
        On h = OnCtor (IsSharp (cx.set_of c.type)) (first_ctor (h ∷ []))

        one : (r : MRow T) → Among r (rows_at expand_head c.place i rows) → GoodAt On i r.heads
        one r j =
            let a = among-flat (λ x. map (row_replaced c.place x) (replacements_at expand_head i x.heads)) rows r j in
            let b = among-map (row_replaced c.place a.0) (replacements_at expand_head i a.0.heads) r a.2 in
            let y : IsReplaced cx i a.0.heads b.0 = replaced-by cx i a.0.heads b.0 b.1 in
            let o : IsOneHead cx c.type y.by = expand-after cx c.type y.head y.by (head-typed a.0 y.head a.1 y.there)
            (head-made a.0 y.head a.1 y.there) y.among in
            subst (λ (x : MRow T). GoodAt On i x.heads) (sym b.2)
            (subst (GoodAt On i) (sym (y.is ∙ ap (replaced_at i a.0.heads) o.only))
            (good-one cx On i a.0.heads o.head (sharp-head cx c.type o.head o.typed o.plain)))
          where
            head-typed : (x : MRow T) (h : Head T) → Among x rows → slice_get x.heads i ≡ Some h → IsHeadTyped cx c.type h
            head-typed x h m e =
                let k = head-at cx columns x.heads i c
                (among-every (λ r. AreHeadsTyped cx columns r.heads) rows x typed.heads m) there in
                subst (IsHeadTyped cx c.type) (one-head k.0 h (sym k.1 ∙ e)) k.2

            head-made : (x : MRow T) (h : Head T) → Among x rows → slice_get x.heads i ≡ Some h → IsMadeHead h
            head-made x h m e =
                every-at IsMadeHead i x.heads h (among-every (λ r. Every IsMadeHead r.heads) rows x typed.made m) e
