-- Rows without a column in which all are wild are as well formed as they were.
use Rattle.std.proofs.Common.{◌≡◌, ◌≢◌, ◌≤◌, inl, inr, ℕ, zero, suc, ◌+◌, true, List, [], ◌∷◌, ◌++◌, map, Some, None, slice_get, refl, sym, ap, ◌∙◌, arith, subst}
use Rattle.std.proofs.lemmas.List.{map-append}
use Rattle.match_model.specs.ArenaPatterns.{MBound, de_pat, MDeMatch}
use Rattle.match_model.specs.Contexts.{Context}
use Rattle.match_model.specs.DecisionTrees.{row_binds}
use Rattle.match_model.specs.Keys.{Decision, Key}
use Rattle.match_model.specs.Lists.{Every, Ordered, Among}
use Rattle.match_model.specs.Matrices.{MColumn, MRow, head_binds, bind_at}
use Rattle.match_model.specs.Places.{MStep}
use Rattle.match_model.specs.RowOrder.{row_key}
use Rattle.match_model.specs.Rows.{Head}
use Rattle.match_model.specs.Steps.{replaced_at}
use Rattle.match_model.specs.Trees.{MBind}
use Rattle.match_model.specs.WellTyped.{are_distinct, names_in_all, bound_names, head_names, head_names_differ, heads_names_differ, AreHeadsTyped}
use Rattle.match_model.proofs.Basics.{both}
use Rattle.keyed_rows.specs.Dividing.{head_count, AreFree}
use Rattle.keyed_rows.specs.Parting.{AreAlike, RowParted}
use Rattle.keyed_rows.proofs.Lists.{every-map, ordered-map}
use Rattle.keyed_rows.proofs.PullOut.{left-among, right-among}
use Rattle.keyed_rows.proofs.RowOrder.{among-append, every-among}
use Rattle.keyed_steps.specs.Good.{IsMadeHead, IsGoodRow, IsGoodColumn, IsGood}
use Rattle.keyed_steps.specs.Names.{Disjoint, names_of, HeadsApart, AreFine}
use Rattle.keyed_steps.proofs.Differing.{distinct-append, fine-to, fine-from}
use Rattle.decision_tree.specs.Known.{IsHeadOf, IsTypeThere, IsInScope}
use Rattle.decision_tree.specs.WildColumns.{head_at, left_out, all_left_out}
use Rattle.decision_tree.proofs.WildNames.{IsNewName, binds_before, binds-left}

pub every-cut : {A : Type 0} (P : A → Type 0) (i : ℕ) (xs : List A) → Every P xs → Every P (replaced_at i xs [])
every-cut P i [] h = tt
every-cut P zero (x ∷ xs) h = h.1
every-cut P (suc i) (x ∷ xs) h = (h.0, every-cut P i xs h.1)

-- the names
abbrev bind_names : List MBind → List (List ℕ)
bind_names bs = map (λ b. b.name) bs

placed-names : (place : List MStep) (bs : List MBound) → bind_names (map (bind_at place) bs) ≡ bound_names bs
placed-names place [] = refl
placed-names place (b ∷ bs) = ap (λ ns. b.name ∷ ns) (placed-names place bs)

name-in : (bs : List MBind) (b : MBind) → Among b bs → Among b.name (bind_names bs)
name-in [] b a = a
name-in (x ∷ bs) b (inl e) = inl (ap (λ (y : MBind). y.name) e)
name-in (x ∷ bs) b (inr a) = inr (name-in bs b a)

module _ {T : Type 0} where
  -- the names that a head binds by itself are among its names
  own-names : (place : List MStep) (h : Head T) (n : List ℕ) → Among n (bind_names (head_binds place h)) →
      Among n (head_names h)
  own-names place None n a = a
  own-names place (Some (de_pat c t uid at subs binds)) n a =
      left-among (bound_names binds) (names_in_all subs) n (subst (Among n) (placed-names place binds) a)

  own-distinct : (place : List MStep) (h : Head T) → head_names_differ h ≡ true →
      are_distinct (bind_names (head_binds place h)) ≡ true
  own-distinct place None e = refl
  own-distinct place (Some (de_pat c t uid at subs binds)) e =
      ap are_distinct (placed-names place binds)
      ∙ (both (are_distinct (bound_names binds)) _ e).0

  head-among : (i : ℕ) (hs : List (Head T)) (n : List ℕ) → Among n (head_names (head_at i hs)) → Among n (names_of hs)
  head-among i [] n a = a
  head-among zero (h ∷ hs) n a = left-among (head_names h) (names_of hs) n a
  head-among (suc i) (h ∷ hs) n a = right-among (head_names h) (names_of hs) n (head-among i hs n a)

  cut-among : (i : ℕ) (hs : List (Head T)) (n : List ℕ) → Among n (names_of (replaced_at i hs [])) → Among n (names_of hs)
  cut-among i [] n a = a
  cut-among zero (h ∷ hs) n a = right-among (head_names h) (names_of hs) n a
  cut-among (suc i) (h ∷ hs) n a = elim (among-append (head_names h) (names_of (replaced_at i hs [])) n a) [
    | inl k ↦ left-among (head_names h) (names_of hs) n k
    | inr k ↦ right-among (head_names h) (names_of hs) n (cut-among i hs n k)
  ]

  apart-cut : (i : ℕ) (hs : List (Head T)) → HeadsApart hs → HeadsApart (replaced_at i hs [])
  apart-cut i [] h = tt
  apart-cut zero (x ∷ hs) h = h.1
  apart-cut (suc i) (x ∷ hs) h = (λ n a b. h.0 n a (cut-among i hs n b), apart-cut i hs h.1)

  -- a head has names that the others have not
  head-apart : (i : ℕ) (hs : List (Head T)) → HeadsApart hs →
      Disjoint (head_names (head_at i hs)) (names_of (replaced_at i hs []))
  head-apart i [] h n a b = b
  head-apart zero (x ∷ hs) h n a b = h.0 n a b
  head-apart (suc i) (x ∷ hs) h n a b = elim (among-append (head_names x) (names_of (replaced_at i hs [])) n b) [
    | inl k ↦ h.0 n k (head-among i hs n a)
    | inr k ↦ head-apart i hs h.1 n a k
  ]

  differ-at : (i : ℕ) (hs : List (Head T)) → Every (λ h. head_names_differ h ≡ true) hs →
      head_names_differ (head_at i hs) ≡ true
  differ-at i [] e = refl
  differ-at zero (h ∷ hs) e = e.0
  differ-at (suc i) (h ∷ hs) e = differ-at i hs e.1

  -- names differ where a head's are caught first
  fine-cut : (place : List MStep) (caught : List (List ℕ)) (i : ℕ) (hs : List (Head T)) → AreFine caught hs →
      AreFine (bind_names (head_binds place (head_at i hs)) ++ caught) (replaced_at i hs [])
  fine-cut place caught i hs f = record {
    distinct =
        distinct-append own caught (own-distinct place (head_at i hs) (differ-at i hs f.each)) f.distinct
        (λ n a b. f.beside n b (head-among i hs n (own-names place (head_at i hs) n a)));
    each = every-cut (λ h. head_names_differ h ≡ true) i hs f.each;
    beside = λ n a b. elim (among-append own caught n a) [
      | inl k ↦ head-apart i hs f.apart n (own-names place (head_at i hs) n k) b
      | inr k ↦ f.beside n k (cut-among i hs n b)
    ];
    apart = apart-cut i hs f.apart;
  }
    where
      own : List (List ℕ)
      own = bind_names (head_binds place (head_at i hs))

  -- the names of a head are none of those before it
  before-apart : (i : ℕ) (columns : List (MColumn T)) (hs : List (Head T)) → HeadsApart hs → (a : MBind) (n : List ℕ) →
      Among a (binds_before i columns hs) → Among n (head_names (head_at i hs)) → a.name ≢ n
  before-apart zero columns hs h a n i k e = i
  before-apart (suc i) [] hs h a n j k e = j
  before-apart (suc i) (c ∷ columns) [] h a n j k e = j
  before-apart (suc i) (c ∷ columns) (x ∷ hs) h a n j k e =
      elim (among-append (head_binds c.place x) (binds_before i columns hs) a j) [
        | inl m ↦ h.0 a.name (own-names c.place x a.name (name-in (head_binds c.place x) a m))
            (subst (λ z. Among z (names_of hs)) (sym e) (head-among i hs n k))
        | inr m ↦ before-apart i columns hs h.1 a n m k e
      ]

  -- nor of those that were caught
  new-names : (i : ℕ) (columns : List (MColumn T)) (place : List MStep) (r : MRow T) →
      AreFine (bind_names r.caught) r.heads →
      Every (IsNewName (r.caught ++ binds_before i columns r.heads)) (head_binds place (head_at i r.heads))
  new-names i columns place r f =
      every-among (IsNewName (r.caught ++ binds_before i columns r.heads)) (head_binds place (head_at i r.heads))
      (λ b k. every-among (λ (a : MBind). a.name ≢ b.name) (r.caught ++ binds_before i columns r.heads)
      (λ a j. one a b j (own-names place (head_at i r.heads) b.name (name-in (head_binds place (head_at i r.heads)) b k))))
    where
      one : (a b : MBind) → Among a (r.caught ++ binds_before i columns r.heads) →
          Among b.name (head_names (head_at i r.heads)) → a.name ≢ b.name
      one a b j k e = elim (among-append r.caught (binds_before i columns r.heads) a j) [
        | inl m ↦ f.beside a.name (name-in r.caught a m)
            (subst (λ z. Among z (names_of r.heads)) (sym e) (head-among i r.heads b.name k))
        | inr m ↦ before-apart i columns r.heads f.apart a b.name m k e
      ]

  module _ (cx : Context T) where
    typed-cut : (i : ℕ) (columns : List (MColumn T)) (hs : List (Head T)) → AreHeadsTyped cx columns hs →
        AreHeadsTyped cx (replaced_at i columns []) (replaced_at i hs [])
    typed-cut i [] [] t = tt
    typed-cut i [] (h ∷ hs) t = elim t [ ]
    typed-cut i (c ∷ columns) [] t = elim t [ ]
    typed-cut zero (c ∷ columns) (h ∷ hs) t = t.1
    typed-cut (suc i) (c ∷ columns) (h ∷ hs) t = (t.0, typed-cut i columns hs t.1)

  module _ (decides : ℕ → Decision) where
    lower : (k : Key) (low high : ℕ) (hs : List (Head T)) → low ≤ high → AreFree decides k high hs →
        AreFree decides k low hs
    lower k low high [] l f = tt
    lower k low high (h ∷ hs) l f = let start : high ≤ f.0 = f.1 in (f.0, omega (arith, l, start), f.2, f.3, f.4)

    free-cut : (k : Key) (low i : ℕ) (hs : List (Head T)) → AreFree decides k low hs →
        AreFree decides k low (replaced_at i hs [])
    free-cut k low i [] f = tt
    free-cut k low zero (h ∷ hs) f =
        let start : low ≤ f.0 = f.1 in lower k low (head_count h + f.0) hs (omega (arith, start)) f.4
    free-cut k low (suc i) (h ∷ hs) f = (f.0, f.1, f.2, f.3, free-cut k (head_count h + f.0) i hs f.4)

    alike-cut : (d i : ℕ) (hs gs : List (Head T)) → AreAlike decides d hs gs →
        AreAlike decides d (replaced_at i hs []) (replaced_at i gs [])
    alike-cut d i [] [] a = tt
    alike-cut d i [] (g ∷ gs) a = elim a [ ]
    alike-cut d i (h ∷ hs) [] a = elim a [ ]
    alike-cut d zero (h ∷ hs) (g ∷ gs) a = a.1
    alike-cut d (suc i) (h ∷ hs) (g ∷ gs) a = (a.0, alike-cut d i hs gs a.1)

    -- rows are parted as they were
    pub parted-cut : (place : List MStep) (i : ℕ) (rows : List (MRow T)) → Ordered (RowParted decides) rows →
        Ordered (RowParted decides) (all_left_out place i rows)
    parted-cut place i rows o = ordered-map (RowParted decides) (RowParted decides) (left_out place i) rows one o
      where
        one : (r s : MRow T) → RowParted decides r s → RowParted decides (left_out place i r) (left_out place i s)
        one r s (inl l) = inl l
        one r s (inr p) =
            inr (p.0, record { before = p.1.before; alike = alike-cut p.1.before.at i r.heads s.heads p.1.alike })

    module _ (IsType : T → Type 0) (cx : Context T) where
      row-cut : (place : List MStep) (i : ℕ) (columns : List (MColumn T)) (r : MRow T) → IsGoodRow cx decides columns r →
          IsGoodRow cx decides (replaced_at i columns []) (left_out place i r)
      row-cut place i columns r g = record {
        typed = typed-cut cx i columns r.heads g.typed;
        names =
            ap (λ ns. heads_names_differ ns (replaced_at i r.heads []))
            (map-append (λ (b : MBind). b.name) (head_binds place (head_at i r.heads)) r.caught)
            ∙ fine-from (bind_names (head_binds place (head_at i r.heads)) ++ bind_names r.caught)
            (replaced_at i r.heads [])
            (fine-cut place (bind_names r.caught) i r.heads (fine-to (bind_names r.caught) r.heads g.names));
        free = free-cut (row_key decides r) 0 i r.heads g.free;
        made = every-cut IsMadeHead i r.heads g.made;
      }

      -- they are well formed
      pub good-cut : (place : List MStep) (i : ℕ) (columns : List (MColumn T)) (rows : List (MRow T)) →
          IsGood IsType cx decides columns rows →
          IsGood IsType cx decides (replaced_at i columns []) (all_left_out place i rows)
      good-cut place i columns rows g = record {
        columns_are = every-cut (IsGoodColumn IsType) i columns g.columns_are;
        rows_are =
            every-map (IsGoodRow cx decides columns) (IsGoodRow cx decides (replaced_at i columns [])) (left_out place i)
            rows (row-cut place i columns) g.rows_are;
      }

      -- a good row binds the same without a head
      pub binds-cut : (i : ℕ) (columns : List (MColumn T)) (d : MColumn T) (r : MRow T) → slice_get columns i ≡ Some d →
          IsGoodRow cx decides columns r →
          row_binds columns r ≡ row_binds (replaced_at i columns []) (left_out d.place i r)
      binds-cut i columns d r e g =
          binds-left i columns d r e
          (new-names i columns d.place r (fine-to (bind_names r.caught) r.heads g.names))

  -- they are within the match
  pub scope-cut : (cx : Context T) (m : MDeMatch T) (place : List MStep) (i : ℕ) (columns : List (MColumn T))
      (rows : List (MRow T)) → IsInScope cx m columns rows →
      IsInScope cx m (replaced_at i columns []) (all_left_out place i rows)
  scope-cut cx m place i columns rows s = record {
    columns_are = every-cut (IsTypeThere cx m.type) i columns s.columns_are;
    rows_are =
        every-map (λ r. Every (IsHeadOf m.arms) r.heads) (λ r. Every (IsHeadOf m.arms) r.heads) (left_out place i) rows
        (λ r h. every-cut (IsHeadOf m.arms) i r.heads h) s.rows_are;
  }
