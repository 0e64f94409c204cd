-- The steps of a lowering stay within the match: heads are patterns of its arms, and columns have the types that stand at
-- their places.
use Rattle.std.proofs.Common.{◌≡◌, inl, inr, ℕ, zero, suc, ◌+◌, ◌-◌, Bool, true, false, List, [], ◌∷◌, ◌++◌, map, take, drop, Some, None, slice_get, refl, sym, subst, cond}
use Rattle.match_model.specs.Values.{MValue}
use Rattle.match_model.specs.ArenaPatterns.{MDePat, de_pat, MDePats, no_de_pats, more_de_pats, de_pats_list, uid_of, MDeArm, MDeMatch}
use Rattle.match_model.specs.Constructors.{LongerShape, MCtor, RowCtor, WildCtor, OrCtor, belongs, has_piece}
use Rattle.match_model.specs.Contexts.{Context}
use Rattle.match_model.specs.ContextLaws.{PartsLaw}
use Rattle.match_model.specs.Keys.{Decision}
use Rattle.match_model.specs.Lists.{Every, Among}
use Rattle.match_model.specs.Matrices.{MColumn, MRow, part_columns, first_rows, first_matrix}
use Rattle.match_model.specs.Places.{MStep}
use Rattle.match_model.specs.RowOrder.{AreInOrder}
use Rattle.match_model.specs.Rows.{Head, is_wild, Choice, with_binds, choice_among, choices_by, choices_of, all_choices_of, wildcards, heads_of}
use Rattle.match_model.specs.Steps.{Replacement, own_binds, expand_head, specialise_head, default_head, with_others, with_head, replacements_at, replaced_at, row_replaced, rows_at}
use Rattle.keyed_rows.proofs.Lists.{every-append, every-map}
use Rattle.keyed_rows.proofs.Parting.{among-every, among-map}
use Rattle.keyed_rows.proofs.RowOrder.{among-flat, every-among}
use Rattle.keyed_steps.proofs.Keeping.{replaced-every}
use Rattle.keyed_steps.proofs.PartTypes.{every-below}
use Rattle.keyed_steps.proofs.Standing.{column-at}
use Rattle.tree_laws.proofs.PlaceTypes.{type-behind, part-entered}
use Rattle.decision_tree.specs.Known.{IsInside, IsInsideOne, IsOfArms, IsHeadOf, IsTypeThere, IsInScope}
use Rattle.decision_tree.specs.Lone.{is_alone, lone_row, lone}

module _ {T : Type 0} where
  itself-inside : (p : MDePat T) → IsInside p p
  itself-inside (de_pat c t uid at subs binds) = inl refl

  mutual
    inside-inside : (p q r : MDePat T) → IsInside r q → IsInside q p → IsInside r p
    inside-inside (de_pat c t uid at subs binds) q r i (inl e) = subst (IsInside r) e i
    inside-inside (de_pat c t uid at subs binds) q r i (inr j) = inr (inside-one subs q r i j)

    inside-one : (ps : MDePats T) (q r : MDePat T) → IsInside r q → IsInsideOne q ps → IsInsideOne r ps
    inside-one no_de_pats q r i j = elim j [ ]
    inside-one (more_de_pats p ps) q r i (inl j) = inl (inside-inside p q r i j)
    inside-one (more_de_pats p ps) q r i (inr j) = inr (inside-one ps q r i j)

  inside-arms : (arms : List (MDeArm T)) (q r : MDePat T) → IsInside r q → IsOfArms arms q → IsOfArms arms r
  inside-arms [] q r i j = elim j [ ]
  inside-arms (a ∷ arms) q r i (inl j) = inl (inside-inside a.pat q r i j)
  inside-arms (a ∷ arms) q r i (inr j) = inr (inside-arms arms q r i j)

  abbrev IsChoiceIn : MDePat T → Choice T → Type 0
  IsChoiceIn p c = IsInside c.pat p

  abbrev IsChoiceInOne : MDePats T → Choice T → Type 0
  IsChoiceInOne ps c = IsInsideOne c.pat ps

  same-pattern : (subs : MDePats T) (uid : ℕ) (c : Choice T) → (choice_among subs uid c).pat ≡ c.pat
  same-pattern no_de_pats uid c = refl
  same-pattern (more_de_pats p no_de_pats) uid c = refl
  same-pattern (more_de_pats p (more_de_pats q qs)) uid c = refl

  by-ctor : (P : Choice T → Type 0) (c : MCtor) (others self : List (Choice T)) → Every P others → Every P self →
      Every P (choices_by c others self)
  by-ctor P OrCtor others self a b = a
  by-ctor P _ others self a b = b

  mutual
    -- a choice of a pattern stands inside it
    choices-inside : (p : MDePat T) → Every (IsChoiceIn p) (choices_of p)
    choices-inside (de_pat c t uid at subs binds) =
        by-ctor (IsChoiceIn (de_pat c t uid at subs binds)) c
        (map (with_binds binds) (all_choices_of (choice_among subs) subs))
        (record { pat = de_pat c t uid at subs binds; chosen = []; binds = [] } ∷ [])
        (every-map (IsChoiceInOne subs) (IsChoiceIn (de_pat c t uid at subs binds)) (with_binds binds)
        (all_choices_of (choice_among subs) subs) (λ x i. inr i)
        (all-inside (choice_among subs) (same-pattern subs) subs)) (inl refl, tt)

    all-inside : (choose : ℕ → Choice T → Choice T) → ((uid : ℕ) (c : Choice T) → (choose uid c).pat ≡ c.pat) →
        (ps : MDePats T) → Every (IsChoiceInOne ps) (all_choices_of choose ps)
    all-inside choose same no_de_pats = tt
    all-inside choose same (more_de_pats p ps) =
        every-append (IsChoiceInOne (more_de_pats p ps)) (map (choose (uid_of p)) (choices_of p))
        (all_choices_of choose ps)
        (every-map (IsChoiceIn p) (IsChoiceInOne (more_de_pats p ps)) (choose (uid_of p)) (choices_of p)
        (λ c i. inl (subst (λ q. IsInside q p) (sym (same (uid_of p) c)) i)) (choices-inside p))
        (every-to-one (all_choices_of choose ps) (all-inside choose same ps))
      where
        every-to-one : (cs : List (Choice T)) → Every (IsChoiceInOne ps) cs →
            Every (IsChoiceInOne (more_de_pats p ps)) cs
        every-to-one [] h = tt
        every-to-one (c ∷ cs) h = (inr h.0, every-to-one cs h.1)

  module _ (arms : List (MDeArm T)) where
    abbrev pub AreHeadsOf : List (Head T) → Type 0
    AreHeadsOf hs = Every (IsHeadOf arms) hs

    wildcards-of : (n : ℕ) → AreHeadsOf (wildcards n)
    wildcards-of zero = tt
    wildcards-of (suc n) = (tt, wildcards-of n)

    take-of : (n : ℕ) (hs : List (Head T)) → AreHeadsOf hs → AreHeadsOf (take n hs)
    take-of zero hs h = tt
    take-of (suc n) [] h = tt
    take-of (suc n) (x ∷ hs) h = (h.0, take-of n hs h.1)

    drop-of : (n : ℕ) (hs : List (Head T)) → AreHeadsOf hs → AreHeadsOf (drop n hs)
    drop-of zero hs h = h
    drop-of (suc n) [] h = tt
    drop-of (suc n) (x ∷ hs) h = drop-of n hs h.1

    heads-of : (c : MCtor) (hs : List (Head T)) (n : ℕ) → AreHeadsOf hs → AreHeadsOf (heads_of c hs n)
    heads-of (RowCtor (LongerShape f b)) hs n h =
        every-append (IsHeadOf arms) (take f hs) (wildcards (n - (f + b)) ++ drop f hs) (take-of f hs h)
        (every-append (IsHeadOf arms) (wildcards (n - (f + b))) (drop f hs) (wildcards-of (n - (f + b)))
        (drop-of f hs h))
    heads-of WildCtor hs n h = wildcards-of n
    heads-of _ hs n h = h

    subs-of : (ps : MDePats T) → ((q : MDePat T) → IsInsideOne q ps → IsOfArms arms q) →
        AreHeadsOf (map Some (de_pats_list ps))
    subs-of no_de_pats h = tt
    subs-of (more_de_pats p ps) h = (h p (inl (itself-inside p)), subs-of ps (λ q i. h q (inr i)))

    -- what stands in place of a head of the match are such heads
    abbrev pub StaysOf : (Head T → List (Replacement T)) → Type 0
    StaysOf f = (h : Head T) → IsHeadOf arms h → Every (λ (y : Replacement T). AreHeadsOf y.heads) (f h)

    pub expand-stays : StaysOf expand_head
    expand-stays None i = ((tt, tt), tt)
    expand-stays (Some p) i =
        every-map (IsChoiceIn p) (λ (y : Replacement T). AreHeadsOf y.heads)
        (λ c. record { heads = Some c.pat ∷ []; chosen = c.chosen; binds = c.binds }) (choices_of p)
        (λ c j. (inside-arms arms p c.pat j i, tt)) (choices-inside p)

    pub default-stays : StaysOf default_head
    default-stays h i = go (is_wild h)
      where
        go : (b : Bool) → Every (λ (y : Replacement T). AreHeadsOf y.heads)
            (cond b (record { heads = []; chosen = []; binds = own_binds h } ∷ []) [])
        go true = (tt, tt)
        go false = tt

    pub piece-stays : (piece : MCtor) (n : ℕ) → StaysOf (specialise_head piece n)
    piece-stays piece n None i = (wildcards-of n, tt)
    piece-stays piece n (Some (de_pat c t uid at subs binds)) i = go (has_piece c piece)
      where
        go : (b : Bool) → Every (λ (y : Replacement T). AreHeadsOf y.heads)
            (cond b (record { heads = heads_of c (map Some (de_pats_list subs)) n; chosen = []; binds = binds } ∷ [])
            [])
        go true = (
          heads-of c (map Some (de_pats_list subs)) n
              (subs-of subs (λ q j. inside-arms arms (de_pat c t uid at subs binds) q (inr j) i)),
          tt,
        )
        go false = tt

    step-stays : (f : Head T → List (Replacement T)) → StaysOf f → (i : ℕ) (hs : List (Head T)) → AreHeadsOf hs →
        Every (λ (y : Replacement T). AreHeadsOf y.heads) (replacements_at f i hs)
    step-stays f s i [] h = tt
    step-stays f s zero (x ∷ hs) h =
        every-map (λ (y : Replacement T). AreHeadsOf y.heads) (λ (y : Replacement T). AreHeadsOf y.heads)
        (with_others hs) (f x) (λ y k. every-append (IsHeadOf arms) y.heads hs k h.1) (s x h.0)
    step-stays f s (suc i) (x ∷ hs) h =
        every-map (λ (y : Replacement T). AreHeadsOf y.heads) (λ (y : Replacement T). AreHeadsOf y.heads)
        (with_head x) (replacements_at f i hs) (λ y k. (h.0, k)) (step-stays f s i hs h.1)

    abbrev pub IsRowOf : MRow T → Type 0
    IsRowOf r = AreHeadsOf r.heads

    -- the rows after a step
    pub rows-stay-of : (f : Head T → List (Replacement T)) → StaysOf f → (place : List MStep) (i : ℕ)
        (rows next : List (MRow T)) → Every IsRowOf rows → (decides : ℕ → Decision) →
        AreInOrder decides (rows_at f place i rows) next → Every IsRowOf next
    rows-stay-of f s place i rows next h decides o = every-among IsRowOf next (λ r j. one r (o.same.back r j))
      where
        one : (r : MRow T) → Among r (rows_at f place i rows) → IsRowOf r
        one r j =
            let a = among-flat (λ x. map (row_replaced place x) (replacements_at f i x.heads)) rows r j in
            let b = among-map (row_replaced place a.0) (replacements_at f i a.0.heads) r a.2 in
            subst IsRowOf (sym b.2)
            (among-every (λ (y : Replacement T). AreHeadsOf y.heads) (replacements_at f i a.0.heads) b.0
            (step-stays f s i a.0.heads (among-every IsRowOf rows a.0 h a.1)) b.1)

    -- rows without what was decided where one is alone
    pub lone-of : (rows : List (MRow T)) → Every IsRowOf rows → Every IsRowOf (lone rows)
    lone-of rows h = every-map IsRowOf IsRowOf (lone_row rows) rows (λ r k. one (is_alone r.arm rows) r k) h
      where
        one : (b : Bool) (r : MRow T) → IsRowOf r → IsRowOf (cond b (record r { chosen = [] }) r)
        one true r k = k
        one false r k = k

module _ {T : Type 0} (cx : Context T) (m : MDeMatch T) where
  -- the matrix of the arms is of the match
  pub first-in-scope : IsInScope cx m (first_matrix m).columns (first_matrix m).rows
  first-in-scope = record { columns_are = (refl, tt); rows_are = rows 0 m.arms (λ q i. i) }
    where
      rows : (j : ℕ) (arms : List (MDeArm T)) → ((q : MDePat T) → IsOfArms arms q → IsOfArms m.arms q) →
          Every (λ r. Every (IsHeadOf m.arms) r.heads) (first_rows j arms)
      rows j [] h = tt
      rows j (a ∷ arms) h = ((h a.pat (inl (itself-inside a.pat)), tt), rows (suc j) arms (λ q i. h q (inr i)))

  -- fewer rows are
  pub others-in-scope : (columns : List (MColumn T)) (r : MRow T) (rows : List (MRow T)) →
      IsInScope cx m columns (r ∷ rows) → IsInScope cx m columns rows
  others-in-scope columns r rows s = record { columns_are = s.columns_are; rows_are = s.rows_are.1 }

  pub lone-in-scope : (columns : List (MColumn T)) (rows : List (MRow T)) → IsInScope cx m columns rows →
      IsInScope cx m columns (lone rows)
  lone-in-scope columns rows s = record {
    columns_are = s.columns_are;
    rows_are = lone-of m.arms rows s.rows_are;
  }

  module _ (decides : ℕ → Decision) where
    pub expanded-in-scope : (i : ℕ) (c : MColumn T) (columns : List (MColumn T)) (rows next : List (MRow T)) →
        IsInScope cx m columns rows → AreInOrder decides (rows_at expand_head c.place i rows) next →
        IsInScope cx m columns next
    expanded-in-scope i c columns rows next s o = record {
      columns_are = s.columns_are;
      rows_are = rows-stay-of m.arms expand_head (expand-stays m.arms) c.place i rows next s.rows_are decides o;
    }

    pub dropped-in-scope : (i : ℕ) (c : MColumn T) (columns : List (MColumn T)) (rows next : List (MRow T)) →
        IsInScope cx m columns rows → AreInOrder decides (rows_at default_head c.place i rows) next →
        IsInScope cx m (replaced_at i columns []) next
    dropped-in-scope i c columns rows next s o = record {
      columns_are = replaced-every (IsTypeThere cx m.type) i columns [] s.columns_are tt;
      rows_are = rows-stay-of m.arms default_head (default-stays m.arms) c.place i rows next s.rows_are decides o;
    }

    module _ (IsType : T → Type 0) (V : T → Bool → MValue → Type 0) (law : PartsLaw IsType V cx) where
      parts-there : (c : MColumn T) (piece : MCtor) → IsType c.type → belongs (cx.set_of c.type) piece ≡ true →
          IsTypeThere cx m.type c → Every (IsTypeThere cx m.type) (part_columns cx c piece)
      parts-there c p type b e =
          every-below (IsTypeThere cx m.type) _ (cx.arity p c.type) (λ i l. type-behind cx m.type c.type
          (cx.sub p c.type i) c.place _ e (part-entered IsType V cx law c.type type p i b l))

      pub entered-in-scope : (i : ℕ) (c : MColumn T) (columns : List (MColumn T)) (rows next : List (MRow T))
          (piece : MCtor) → slice_get columns i ≡ Some c → IsType c.type → belongs (cx.set_of c.type) piece ≡ true →
          IsInScope cx m columns rows →
          AreInOrder decides (rows_at (specialise_head piece (cx.arity piece c.type)) c.place i rows) next →
          IsInScope cx m (replaced_at i columns (part_columns cx c piece)) next
      entered-in-scope i c columns rows next piece there type b s o = record {
        columns_are =
            replaced-every (IsTypeThere cx m.type) i columns (part_columns cx c piece) s.columns_are
            (parts-there c piece type b (column-at (IsTypeThere cx m.type) columns i c s.columns_are there));
        rows_are =
            rows-stay-of m.arms (specialise_head piece (cx.arity piece c.type))
            (piece-stays m.arms piece (cx.arity piece c.type)) c.place i rows next s.rows_are decides o;
      }
