-- The steps of a matrix keep it well typed.
use Rattle.std.proofs.Common.{◌≡◌, ℕ, Bool, true, false, ◌&&◌, ◌||◌, List, [], ◌∷◌, ◌++◌, map, cond, Option, Some, None, refl, sym, ap, subst, ◌∙◌, IsTrue}
use Rattle.std.specs.List.{All, cons_option}
use Rattle.std.proofs.lemmas.List.Elements.{All-cons, All-nil}
use Rattle.match_model.specs.Constructors.{MCtor, SingleCtor, PointCtor, LaterCtor, OtherTextCtor, VariantCtor, FlagCtor, NumbersCtor, TextCtor, RowCtor, WildCtor, OrCtor, belongs}
use Rattle.match_model.specs.Contexts.{Context}
use Rattle.match_model.specs.ArenaPatterns.{MDePat, de_pat, MDePats, no_de_pats, more_de_pats, uid_of}
use Rattle.match_model.specs.Places.{MStep}
use Rattle.match_model.specs.Rows.{is_or_ctor, Head, Choice, choices_of, all_choices_of, choice_among, with_binds, choices_by, is_wild_ctor, row_rest, first_ctor, column_of, ctor_unless_wild, starts_or}
use Rattle.match_model.specs.Matrices.{MColumn, MRow, row_with, bind_at, expand_first, expand_rows, default_rows, first_wild, first_binds}
use Rattle.match_model.specs.WellTyped.{is_written, IsTyped, AreAllTyped, AreHeadsTyped}
use Rattle.match_model.proofs.Basics.{untrue}
use Rattle.constructor_sets.specs.Columns.{is_head}
use Rattle.pattern_matrix.specs.HeadRows.{AreRowsTyped, AreNoneOr, all_heads}

module _ {T : Type 0} (cx : Context T) where
  -- choices: typed as the pattern, and none an or-pattern

  abbrev EachPat : (MDePat T → Type 0) → List (Choice T) → Type 0
  EachPat P [] = Unit {0}
  EachPat P (c ∷ cs) = P c.pat × EachPat P cs

  each-append : (P : MDePat T → Type 0) (cs ds : List (Choice T)) → EachPat P cs → EachPat P ds → EachPat P (cs ++ ds)
  each-append P [] ds h k = k
  each-append P (c ∷ cs) ds h k = (h.0, each-append P cs ds h.1 k)

  each-map : (P : MDePat T → Type 0) (f : Choice T → Choice T) → ((c : Choice T) → (f c).pat ≡ c.pat) →
      (cs : List (Choice T)) → EachPat P cs → EachPat P (map f cs)
  each-map P f k [] h = tt
  each-map P f k (c ∷ cs) h = (subst P (sym (k c)) h.0, each-map P f k cs h.1)

  keeps_pat : (subs : MDePats T) (uid : ℕ) (c : Choice T) → (choice_among subs uid c).pat ≡ c.pat
  keeps_pat no_de_pats uid c = refl
  keeps_pat (more_de_pats p no_de_pats) uid c = refl
  keeps_pat (more_de_pats p (more_de_pats q qs)) uid c = refl

  abbrev GoodChoice : T → MDePat T → Type 0
  GoodChoice t p = IsTyped cx t p × (starts_or (Some p ∷ []) ≡ false)

  mutual
    choices_good : (t : T) (p : MDePat T) → IsTyped cx t p → EachPat (GoodChoice t) (choices_of p)
    choices_good t (de_pat c u uid at subs binds) h =
        go c h (λ k. alternatives_good t (choice_among subs) (λ x d. keeps_pat subs x d) subs k)
      where
        go : (c : MCtor) → IsTyped cx t (de_pat c u uid at subs binds) →
            (AreAllTyped cx t subs → EachPat (GoodChoice t) (all_choices_of (choice_among subs) subs)) →
            EachPat (GoodChoice t) (choices_by c (map (with_binds binds) (all_choices_of (choice_among subs) subs)) (record { pat = de_pat c u uid at subs binds; chosen = []; binds = [] } ∷ []))
        go OrCtor h f =
            each-map (GoodChoice t) (with_binds binds) (λ d. refl) (all_choices_of (choice_among subs) subs) (f h.2)
        go _ h f = ((h, refl), tt)

    alternatives_good : (t : T) (choose : ℕ → Choice T → Choice T) →
        ((u : ℕ) (d : Choice T) → (choose u d).pat ≡ d.pat) → (ps : MDePats T) → AreAllTyped cx t ps →
        EachPat (GoodChoice t) (all_choices_of choose ps)
    alternatives_good t choose k no_de_pats h = tt
    alternatives_good t choose k (more_de_pats p ps) h =
        each-append (GoodChoice t) (map (choose (uid_of p)) (choices_of p)) (all_choices_of choose ps)
        (each-map (GoodChoice t) (choose (uid_of p)) (λ d. k (uid_of p) d) (choices_of p) (choices_good t p h.0)) (alternatives_good t choose k ps h.1)

  -- rows

  pub rows-append : (columns : List (MColumn T)) (xs ys : List (MRow T)) → AreRowsTyped cx columns xs →
      AreRowsTyped cx columns ys → AreRowsTyped cx columns (xs ++ ys)
  rows-append columns [] ys h k = k
  rows-append columns (x ∷ xs) ys h k = (h.0, rows-append columns xs ys h.1 k)

  none-append : (xs ys : List (MRow T)) → AreNoneOr xs → AreNoneOr ys → AreNoneOr (xs ++ ys)
  none-append [] ys h k = k
  none-append (x ∷ xs) ys h k = (h.0, none-append xs ys h.1 k)

  spread_good : (c : MColumn T) (columns : List (MColumn T)) (place : List MStep) (r : MRow T) (rest : List (Head T)) →
      AreHeadsTyped cx columns rest → (cs : List (Choice T)) → EachPat (GoodChoice c.type) cs →
      AreRowsTyped cx (c ∷ columns) (map (λ d. row_with r (Some d.pat ∷ rest) d.chosen (map (bind_at place) d.binds)) cs) × AreNoneOr (map (λ d. row_with r (Some d.pat ∷ rest) d.chosen (map (bind_at place) d.binds)) cs)
  spread_good c columns place r rest h [] g = (tt, tt)
  spread_good c columns place r rest h (d ∷ ds) g =
      let s = spread_good c columns place r rest h ds g.1 in
      (((g.0.0, h), s.0), (not_or d.pat g.0.1, s.1))
    where
      not_or : (p : MDePat T) → starts_or (Some p ∷ []) ≡ false → starts_or (Some p ∷ rest) ≡ false
      not_or (de_pat c t uid at subs binds) e = e

  expand_row_good : (c : MColumn T) (columns : List (MColumn T)) (place : List MStep) (r : MRow T) (hs : List (Head T)) →
      r.heads ≡ hs → AreHeadsTyped cx (c ∷ columns) hs →
      AreRowsTyped cx (c ∷ columns) (expand_first place r hs) × AreNoneOr (expand_first place r hs)
  expand_row_good c columns place r [] e h = absurd h
  expand_row_good c columns place r (None ∷ rest) e h =
      ((subst (AreHeadsTyped cx (c ∷ columns)) (sym e) h, tt), (ap starts_or e, tt))
  expand_row_good c columns place r (Some p ∷ rest) e h =
      spread_good c columns place r rest h.1 (choices_of p) (choices_good c.type p h.0)

  pub expand_good : (c : MColumn T) (columns : List (MColumn T)) (place : List MStep) (rows : List (MRow T)) →
      AreRowsTyped cx (c ∷ columns) rows →
      AreRowsTyped cx (c ∷ columns) (expand_rows place rows) × AreNoneOr (expand_rows place rows)
  expand_good c columns place [] h = (tt, tt)
  expand_good c columns place (r ∷ rows) h =
      let s = expand_row_good c columns place r r.heads refl h.0 in
      let k = expand_good c columns place rows h.1 in
      (rows-append (c ∷ columns) (expand_first place r r.heads) (expand_rows place rows) s.0 k.0, none-append (expand_first place r r.heads) (expand_rows place rows) s.1 k.1)

  rest_typed : (c : MColumn T) (columns : List (MColumn T)) (hs : List (Head T)) →
      AreHeadsTyped cx (c ∷ columns) hs → AreHeadsTyped cx columns (row_rest hs)
  rest_typed c columns [] h = absurd h
  rest_typed c columns (x ∷ hs) h = h.1

  pub default_good : (c : MColumn T) (columns : List (MColumn T)) (place : List MStep) (rows : List (MRow T)) →
      AreRowsTyped cx (c ∷ columns) rows → AreRowsTyped cx columns (default_rows place rows)
  default_good c columns place [] h = tt
  default_good c columns place (r ∷ rows) h = go (first_wild r) (default_good c columns place rows h.1)
    where
      go : (w : Bool) → AreRowsTyped cx columns (default_rows place rows) →
          AreRowsTyped cx columns (cond w (row_with r (row_rest r.heads) [] (first_binds place r.heads) ∷ []) [] ++ default_rows place rows)
      go true k = (rest_typed c columns r.heads h.0, k)
      go false k = k

  -- the constructors of the column are heads of the set

  ctor_good : (t : T) (p : MDePat T) (c : MCtor) → IsTyped cx t p → starts_or (Some p ∷ []) ≡ false →
      first_ctor (Some p ∷ []) ≡ Some c → is_head (cx.set_of t) c ≡ true
  ctor_good t (de_pat d u uid at subs binds) c h o e = go d c h o e
    where
      same : (d c : MCtor) → Some d ≡ Some c → IsTrue (belongs (cx.set_of t) d && is_written d) →
          is_wild_ctor d ≡ false → is_head (cx.set_of t) c ≡ true
      same d c e b w = let s : d ≡ c = cc in subst (λ x. is_head (cx.set_of t) x ≡ true) s (ap (λ y. y || (belongs (cx.set_of t) d && is_written d)) w ∙ b)

      go : (d c : MCtor) → IsTyped cx t (de_pat d u uid at subs binds) → is_or_ctor d ≡ false →
          ctor_unless_wild d ≡ Some c → is_head (cx.set_of t) c ≡ true
      go WildCtor c h o e = cc
      go OrCtor c h o e = untrue (sym o)
      go SingleCtor c h o e = same SingleCtor c e h.2.0 refl
      go PointCtor c h o e = same PointCtor c e h.2.0 refl
      go LaterCtor c h o e = same LaterCtor c e h.2.0 refl
      go OtherTextCtor c h o e = same OtherTextCtor c e h.2.0 refl
      go (VariantCtor k) c h o e = same (VariantCtor k) c e h.2.0 refl
      go (FlagCtor b) c h o e = same (FlagCtor b) c e h.2.0 refl
      go (NumbersCtor r) c h o e = same (NumbersCtor r) c e h.2.0 refl
      go (TextCtor x) c h o e = same (TextCtor x) c e h.2.0 refl
      go (RowCtor s) c h o e = same (RowCtor s) c e h.2.0 refl

  pub column_good : (c : MColumn T) (columns : List (MColumn T)) (rows : List (MRow T)) →
      AreRowsTyped cx (c ∷ columns) rows → AreNoneOr rows →
      All (λ h. IsTrue (is_head (cx.set_of c.type) h)) (column_of (all_heads rows))
  column_good c columns [] h o = All-nil (λ x. IsTrue (is_head (cx.set_of c.type) x))
  column_good c columns (r ∷ rows) h o = go r.heads h.0 o.0 (column_good c columns rows h.1 o.1)
    where
      add : (m : Option MCtor) → ((d : MCtor) → m ≡ Some d → is_head (cx.set_of c.type) d ≡ true) →
          All (λ x. IsTrue (is_head (cx.set_of c.type) x)) (column_of (all_heads rows)) →
          All (λ x. IsTrue (is_head (cx.set_of c.type) x)) (cons_option m (column_of (all_heads rows)))
      add None f k = k
      add (Some d) f k =
          All-cons (λ x. IsTrue (is_head (cx.set_of c.type) x)) d (column_of (all_heads rows)) (f d refl) k

      go : (hs : List (Head T)) → AreHeadsTyped cx (c ∷ columns) hs → starts_or hs ≡ false →
          All (λ x. IsTrue (is_head (cx.set_of c.type) x)) (column_of (all_heads rows)) →
          All (λ x. IsTrue (is_head (cx.set_of c.type) x)) (column_of (hs ∷ all_heads rows))
      go [] t o k = absurd t
      go (None ∷ rest) t o k = k
      go (Some (de_pat d u uid at subs binds) ∷ rest) t o k =
          add (ctor_unless_wild d) (λ e f. ctor_good c.type (de_pat d u uid at subs binds) e t.0 o f) k
