-- Rows with the same decisions in front of all rows of an arm have the same tree.
use Rattle.std.proofs.Common.{◌≡◌, ◌<◌, ◌≤◌, ◌⊎◌, inl, inr, ℕ, zero, suc, ◌+◌, Bool, true, false, List, [], ◌∷◌, ◌++◌, map, drop, Option, Some, None, slice_get, refl, sym, ap, ◌∙◌, append_assoc, arith, subst, IsTrue, cond}
use Rattle.std.proofs.lemmas.Bool.{cases_lt}
use Rattle.std.proofs.lemmas.List.{map-append}
use Rattle.match_model.specs.Values.{MValue}
use Rattle.match_model.specs.ArenaPatterns.{de_pat, de_pats_list}
use Rattle.match_model.specs.Constructors.{MCtor, has_piece}
use Rattle.match_model.specs.Contexts.{Context}
use Rattle.match_model.specs.DecisionTrees.{MTree, MBranches, IsMissing}
use Rattle.match_model.specs.FewestBranches.{AreBranches, no_branches, as_cases, AreCases, is_asked, IsFewest}
use Rattle.match_model.specs.Keys.{Decision, or_else, Key, key_of}
use Rattle.match_model.specs.Lists.{Every, Among}
use Rattle.match_model.specs.Lowering.{ctors_at, all_wild_at, Lowers, no_value_left, no_row_left, takes, asks, drops, opens, switches, Branches, no_else, with_else, no_case, one_case}
use Rattle.match_model.specs.Matrices.{MColumn, MRow, open_of, part_columns}
use Rattle.match_model.specs.Pieces.{ArePieces}
use Rattle.match_model.specs.PieceStates.{HasValue, named_in, is_present}
use Rattle.match_model.specs.Places.{MStep}
use Rattle.match_model.specs.RowOrder.{row_key, RowFirst, AreInOrder}
use Rattle.match_model.specs.Rows.{Head, is_wild, column_of, heads_of}
use Rattle.match_model.specs.Steps.{Replacement, own_binds, expand_head, specialise_head, default_head, with_others, with_head, replacements_at, replaced_at, row_replaced, rows_at}
use Rattle.keyed_rows.specs.Dividing.{head_count, AreFree, replacement_key, IsReplacement}
use Rattle.keyed_rows.proofs.Lists.{every-map, every-all, ordered-map, key_of-append}
use Rattle.keyed_rows.proofs.Parting.{among-every, among-map, within-length}
use Rattle.keyed_rows.proofs.RowOrder.{among-flat, every-among, ordered-among, key-of-row}
use Rattle.keyed_rows.proofs.Dividing.{expand-divides}
use Rattle.keyed_steps.specs.Engine.{IsEngine}
use Rattle.keyed_steps.specs.Good.{IsGoodRow, IsGood, IsReady}

pub map-among : {A B : Type 0} (f : A → B) (xs : List A) (x : A) → Among x xs → Among (f x) (map f xs)
map-among f [] x i = elim i [ ]
map-among f (y ∷ xs) x (inl e) = inl (ap f e)
map-among f (y ∷ xs) x (inr i) = inr (map-among f xs x i)

map-same : {A B : Type 0} (f : A → A) (g : A → B) (xs : List A) → ((x : A) → g (f x) ≡ g x) →
    map g (map f xs) ≡ map g xs
map-same f g [] h = refl
map-same f g (x ∷ xs) h = λ k. h x k ∷ map-same f g xs h k

-- a number that a step decided was open
open-or-not : {T : Type 0} (decides : ℕ → Decision) (k : Key) (low high width : ℕ) (y : Replacement T) →
    IsReplacement decides low high width y → ((o : ℕ) → low ≤ o → o < high → k o ≡ None) → (o : ℕ) →
    (k o ≡ None) ⊎ (replacement_key decides y o ≡ None)
open-or-not decides k low high width y w h o =
    let end : w.middle ≤ high = within-length decides w.middle high y.heads w.left in
    elim (cases_lt o low) [
      | inl l ↦ inr (w.decided.below o l)
      | inr l ↦ (elim (cases_lt o w.middle) [
        | inl m ↦ inl (h o l (omega (arith, m, end)))
        | inr m ↦ inr (w.decided.above o m)
      ])
    ]

module _ {T : Type 0} (decides : ℕ → Decision) where
  -- what a replacement decided was open
  abbrev IsNew : Key → Replacement T → Type 0
  IsNew k y = (o : ℕ) → (k o ≡ None) ⊎ (replacement_key decides y o ≡ None)

  expand-new : (k : Key) (low i : ℕ) (hs : List (Head T)) → AreFree decides k low hs →
      Every (IsNew k) (replacements_at expand_head i hs)
  expand-new k low i [] a = tt
  expand-new k low zero (h ∷ hs) a =
      every-map (IsReplacement decides a.0 (head_count h + a.0) 1) (IsNew k) (with_others hs) (expand_head h)
      (λ y w. open-or-not decides k a.0 (head_count h + a.0) 1 y w a.3) (expand-divides decides h a.0 tt a.2).each
  expand-new k low (suc i) (h ∷ hs) a =
      every-map (IsNew k) (IsNew k) (with_head h) (replacements_at expand_head i hs) (λ y n. n)
      (expand-new k (head_count h + a.0) i hs a.4)

  -- what chooses nothing decides nothing
  bare-new : (f : Head T → List (Replacement T)) → ((h : Head T) → Every (λ y. y.chosen ≡ []) (f h)) → (k : Key)
      (i : ℕ) (hs : List (Head T)) → Every (IsNew k) (replacements_at f i hs)
  bare-new f b k i [] = tt
  bare-new f b k zero (h ∷ hs) =
      every-map (λ (y : Replacement T). y.chosen ≡ []) (IsNew k) (with_others hs) (f h)
      (λ y e o. inr (ap (λ l. key_of (map decides l) o) e)) (b h)
  bare-new f b k (suc i) (h ∷ hs) =
      every-map (IsNew k) (IsNew k) (with_head h) (replacements_at f i hs) (λ y n. n) (bare-new f b k i hs)

default-bare : {T : Type 0} (h : Head T) → Every (λ y. y.chosen ≡ []) (default_head h)
default-bare {T} h = go (is_wild h)
  where
    go : (b : Bool) → Every (λ (y : Replacement T). y.chosen ≡ [])
        (cond b (record { heads = []; chosen = []; binds = own_binds h } ∷ []) [])
    go true = (refl, tt)
    go false = tt

piece-bare : {T : Type 0} (piece : MCtor) (n : ℕ) (h : Head T) →
    Every (λ y. y.chosen ≡ []) (specialise_head piece n h)
piece-bare piece n None = (refl, tt)
piece-bare {T} piece n (Some (de_pat c t uid at subs binds)) = go (has_piece c piece)
  where
    go : (b : Bool) → Every (λ (y : Replacement T). y.chosen ≡ [])
        (cond b (record { heads = heads_of c (map Some (de_pats_list subs)) n; chosen = []; binds = binds } ∷ []) [])
    go true = (refl, tt)
    go false = tt

module _ {T : Type 0} (cx : Context T) (V : T → Bool → MValue → Type 0) (decides : ℕ → Decision)
    (front : ℕ → List ℕ) where
  -- the row with the decisions of its arm in front
  abbrev pub based : MRow T → MRow T
  based r = record r { chosen = front r.arm ++ r.chosen }

  abbrev pub all_based : List (MRow T) → List (MRow T)
  all_based rows = map based rows

  abbrev FK : MRow T → Key
  FK r = key_of (map decides (front r.arm))

  -- what was decided of the row is not in front
  abbrev pub IsFresh : MRow T → Type 0
  IsFresh r = (o : ℕ) → (FK r o ≡ None) ⊎ (row_key decides r o ≡ None)

  key-based : (r : MRow T) (o : ℕ) → row_key decides (based r) o ≡ or_else (FK r o) (row_key decides r o)
  key-based r o =
      ap (λ l. key_of l o) (map-append decides (front r.arm) r.chosen)
      ∙ key_of-append (map decides (front r.arm)) (map decides r.chosen) o

  replaced-based : (place : List MStep) (r : MRow T) (y : Replacement T) →
      row_replaced place (based r) y ≡ based (row_replaced place r y)
  replaced-based place r y =
      ap (λ l. record (row_replaced place r y) { chosen = l }) (append_assoc (front r.arm) r.chosen y.chosen)

  all-replaced : (place : List MStep) (r : MRow T) (ys : List (Replacement T)) →
      map (row_replaced place (based r)) ys ≡ map based (map (row_replaced place r) ys)
  all-replaced place r [] = refl
  all-replaced place r (y ∷ ys) = λ k. replaced-based place r y k ∷ all-replaced place r ys k

  -- a step of rows with decisions in front
  rows-based : (f : Head T → List (Replacement T)) (place : List MStep) (i : ℕ) (rows : List (MRow T)) →
      rows_at f place i (all_based rows) ≡ all_based (rows_at f place i rows)
  rows-based f place i [] = refl
  rows-based f place i (r ∷ rows) =
      (λ k. all-replaced place r (replacements_at f i r.heads) k ++ rows-based f place i rows k)
      ∙ sym (map-append based (map (row_replaced place r) (replacements_at f i r.heads)) (rows_at f place i rows))

  ctors-based : (i : ℕ) (rows : List (MRow T)) → ctors_at i (all_based rows) ≡ ctors_at i rows
  ctors-based i rows = ap column_of (map-same based (λ r. drop i r.heads) rows (λ r. refl))

  present-based : (i : ℕ) (rows : List (MRow T)) (piece : MCtor) →
      is_present (ctors_at i (all_based rows)) piece ≡ is_present (ctors_at i rows) piece
  present-based i rows piece = ap (λ cs. is_present cs piece) (ctors-based i rows)

  missing-to : (i : ℕ) (rows : List (MRow T)) (all : List MCtor) (piece : MCtor) →
      IsMissing all (ctors_at i rows) piece → IsMissing all (ctors_at i (all_based rows)) piece
  missing-to i rows all piece h = (h.0, present-based i rows piece ∙ h.1)

  missing-from : (i : ℕ) (rows : List (MRow T)) (all : List MCtor) (piece : MCtor) →
      IsMissing all (ctors_at i (all_based rows)) piece → IsMissing all (ctors_at i rows) piece
  missing-from i rows all piece h = (h.0, sym (present-based i rows piece) ∙ h.1)

  wild-based : (i : ℕ) (rows : List (MRow T)) → all_wild_at i (all_based rows) ≡ all_wild_at i rows
  wild-based i [] = refl
  wild-based i (r ∷ rows) = rw (wild-based i rows) refl

  asked-based : (i : ℕ) (rows : List (MRow T)) → is_asked i (all_based rows) ≡ is_asked i rows
  asked-based i [] = refl
  asked-based i (r ∷ rows) = refl

  -- the branches of a place depend on the heads alone
  branches-of : (i : ℕ) (c : MColumn T) (rows others : List (MRow T)) (n : ℕ) →
      all_wild_at i (rows_at expand_head c.place i rows) ≡ all_wild_at i (rows_at expand_head c.place i others) →
      ctors_at i (rows_at expand_head c.place i rows) ≡ ctors_at i (rows_at expand_head c.place i others) →
      AreBranches cx V i c rows n → AreBranches cx V i c others n
  branches-of i c rows others _ w e (no_branches h) = no_branches (subst IsTrue w h)
  branches-of i c rows others _ w e (as_cases pieces n h are cases) =
      as_cases pieces n (sym w ∙ h) (subst (λ cs. ArePieces (cx.set_of c.type) cs pieces) e are)
      (subst (λ cs. AreCases V c cs pieces pieces n) e cases)

  wild-expanded : (i : ℕ) (c : MColumn T) (rows : List (MRow T)) →
      all_wild_at i (rows_at expand_head c.place i (all_based rows)) ≡ all_wild_at i (rows_at expand_head c.place i rows)
  wild-expanded i c rows =
      ap (all_wild_at i) (rows-based expand_head c.place i rows) ∙ wild-based i (rows_at expand_head c.place i rows)

  ctors-expanded : (i : ℕ) (c : MColumn T) (rows : List (MRow T)) →
      ctors_at i (rows_at expand_head c.place i (all_based rows)) ≡ ctors_at i (rows_at expand_head c.place i rows)
  ctors-expanded i c rows =
      ap (ctors_at i) (rows-based expand_head c.place i rows) ∙ ctors-based i (rows_at expand_head c.place i rows)

  fewest-based : (columns : List (MColumn T)) (rows : List (MRow T)) (i : ℕ) → IsFewest cx V columns rows i →
      IsFewest cx V columns (all_based rows) i
  fewest-based columns rows i f = record {
    asked = subst IsTrue (sym (asked-based i rows)) f.asked;
    column = f.column;
    there = f.there;
    count = f.count;
    branches =
        branches-of i f.column rows (all_based rows) f.count (sym (wild-expanded i f.column rows))
        (sym (ctors-expanded i f.column rows)) f.branches;
    fewest = λ j c n e a b. f.fewest j c n e (subst IsTrue (asked-based j rows) a)
        (branches-of j c (all_based rows) rows n (wild-expanded j c rows) (ctors-expanded j c rows) b);
  }

  -- what came first comes first
  first-based : (r s : MRow T) → IsFresh r → IsFresh s → RowFirst decides r s → RowFirst decides (based r) (based s)
  first-based r s f g (inl l) = inl l
  first-based r s f g (inr b) =
      inr (
        b.0,
        record {
          at = b.1.at;
          one = b.1.one;
          other = b.1.other;
          first = key-based r b.1.at ∙ clear (FK r b.1.at) (row_key decides r b.1.at) b.1.one (f b.1.at) b.1.first;
          second = key-based s b.1.at ∙ clear (FK s b.1.at) (row_key decides s b.1.at) b.1.other (g b.1.at) b.1.second;
          less = b.1.less;
          same = λ o l. key-based r o
              ∙ (λ k. or_else (key_of (map decides (front (b.0 k))) o) (b.1.same o l k)) ∙ sym (key-based s o);
        },
      )
    where
      clear : (a x : Option ℕ) (n : ℕ) → (a ≡ None) ⊎ (x ≡ None) → x ≡ Some n → or_else a x ≡ Some n
      clear a x n (inl e) h = rw e h
      clear a x n (inr e) h = cc

  order-based : (rows next : List (MRow T)) → Every IsFresh next → AreInOrder decides rows next →
      AreInOrder decides (all_based rows) (all_based next)
  order-based rows next fresh o = record {
    same = record {
      forth = λ x i. carried rows next o.same.forth x i;
      back = λ x i. carried next rows o.same.back x i;
    };
    ordered =
        ordered-map (λ r s. IsFresh r × IsFresh s × RowFirst decides r s) (RowFirst decides) based next
        (λ r s h. first-based r s h.0 h.1 h.2)
        (ordered-among (RowFirst decides) (λ r s. IsFresh r × IsFresh s × RowFirst decides r s) next
        (λ r s i j h. (among-every IsFresh next r fresh i, among-every IsFresh next s fresh j, h)) o.ordered);
  }
    where
      carried : (xs ys : List (MRow T)) → ((x : MRow T) → Among x xs → Among x ys) → (x : MRow T) →
          Among x (all_based xs) → Among x (all_based ys)
      carried xs ys h x i =
          let m = among-map based xs x i in
          subst (λ z. Among z (all_based ys)) (sym m.2) (map-among based ys m.0 (h m.0 m.1))

  step-order : (f : Head T → List (Replacement T)) (place : List MStep) (i : ℕ) (rows next : List (MRow T)) →
      Every IsFresh next → AreInOrder decides (rows_at f place i rows) next →
      AreInOrder decides (rows_at f place i (all_based rows)) (all_based next)
  step-order f place i rows next fresh o =
      subst (λ l. AreInOrder decides l (all_based next)) (sym (rows-based f place i rows))
      (order-based (rows_at f place i rows) next fresh o)

  -- a step decides nothing that is in front
  abbrev IsNewAt : (f : Head T → List (Replacement T)) → (i : ℕ) → MRow T → Type 0
  IsNewAt f i r = Every (IsNew decides (FK r)) (replacements_at f i r.heads)

  fresh-step : (f : Head T → List (Replacement T)) (place : List MStep) (i : ℕ) (rows next : List (MRow T)) →
      Every IsFresh rows → Every (IsNewAt f i) rows → AreInOrder decides (rows_at f place i rows) next →
      Every IsFresh next
  fresh-step f place i rows next fresh new o =
      every-among IsFresh next (λ r j. one r (o.same.back r j))
    where
      either : (r : MRow T) (y : Replacement T) → IsFresh r → IsNew decides (FK r) y →
          IsFresh (row_replaced place r y)
      either r y f n o = elim (f o) [
        | inl e ↦ inl e
        | inr e ↦ (elim (n o) [
          | inl h ↦ inl h
          | inr h ↦ inr (ap (λ (k : Key). k o) (key-of-row decides place r y) ∙ rw (e, h) refl)
        ])
      ]

      one : (r : MRow T) → Among r (rows_at f place i rows) → IsFresh r
      one r j =
          let a = among-flat (λ x. map (row_replaced place x) (replacements_at f i x.heads)) rows r j in
          let b = among-map (row_replaced place a.0) (replacements_at f i a.0.heads) r a.2 in
          subst IsFresh (sym b.2) (either a.0 b.0 (among-every IsFresh rows a.0 fresh a.1)
          (among-every (IsNew decides (FK a.0)) (replacements_at f i a.0.heads) b.0
          (among-every (IsNewAt f i) rows a.0 new a.1) b.1))

  -- what is free of all decisions is free of those in front
  front-free : (r : MRow T) (low : ℕ) (hs : List (Head T)) → AreFree decides (row_key decides (based r)) low hs →
      AreFree decides (FK r) low hs
  front-free r low [] a = tt
  front-free r low (h ∷ hs) a = (
    a.0,
    a.1,
    a.2,
    (λ o p q. left (FK r o) (row_key decides r o) (sym (key-based r o) ∙ a.3 o p q)),
    front-free r (head_count h + a.0) hs a.4,
  )
    where
      left : (x y : Option ℕ) → or_else x y ≡ None → x ≡ None
      left None y e = refl
      left (Some n) y e = cc

  bare-rows : (f : Head T → List (Replacement T)) → ((h : Head T) → Every (λ y. y.chosen ≡ []) (f h)) → (i : ℕ)
      (rows : List (MRow T)) → Every (IsNewAt f i) rows
  bare-rows f b i rows = every-all (IsNewAt f i) rows (λ r. bare-new decides f b (FK r) i r.heads)

  module _ (IsType : T → Type 0)
      (E : IsEngine cx V decides (IsGood IsType cx decides) (IsReady IsType cx decides)) (BareOnly : Type 0) where
    abbrev L : List (MColumn T) → List (MRow T) → MTree → Type 0
    L columns rows t = Lowers cx V decides (IsFewest cx V) BareOnly columns rows t

    expand-rows : (i : ℕ) (columns : List (MColumn T)) (rows : List (MRow T)) →
        IsGood IsType cx decides columns (all_based rows) → Every (IsNewAt expand_head i) rows
    expand-rows i columns rows g =
        every-among (IsNewAt expand_head i) rows (λ r j. expand-new decides (FK r) 0 i r.heads (front-free r 0 r.heads
        (among-every (IsGoodRow cx decides columns) (all_based rows) (based r) g.rows_are
        (map-among based rows r j)).free))

    fresh-expanded : (i : ℕ) (c : MColumn T) (columns : List (MColumn T)) (rows expanded : List (MRow T)) →
        Every IsFresh rows → IsGood IsType cx decides columns (all_based rows) →
        AreInOrder decides (rows_at expand_head c.place i rows) expanded → Every IsFresh expanded
    fresh-expanded i c columns rows expanded fresh g o =
        fresh-step expand_head c.place i rows expanded fresh (expand-rows i columns rows g) o

    fresh-dropped : (i : ℕ) (c : MColumn T) (rows next : List (MRow T)) → Every IsFresh rows →
        AreInOrder decides (rows_at default_head c.place i rows) next → Every IsFresh next
    fresh-dropped i c rows next fresh o =
        fresh-step default_head c.place i rows next fresh (bare-rows default_head default-bare i rows) o

    fresh-entered : (i : ℕ) (c : MColumn T) (piece : MCtor) (n : ℕ) (rows next : List (MRow T)) → Every IsFresh rows →
        AreInOrder decides (rows_at (specialise_head piece n) c.place i rows) next → Every IsFresh next
    fresh-entered i c piece n rows next fresh o =
        fresh-step (specialise_head piece n) c.place i rows next fresh
        (bare-rows (specialise_head piece n) (piece-bare piece n) i rows) o

    pieces-based : (i : ℕ) (c : MColumn T) (rows : List (MRow T)) (pieces : List MCtor) →
        ArePieces (cx.set_of c.type) (ctors_at i rows) pieces →
        ArePieces (cx.set_of c.type) (ctors_at i (all_based rows)) pieces
    pieces-based i c rows pieces are =
        subst (λ cs. ArePieces (cx.set_of c.type) cs pieces) (sym (ctors-based i rows)) are

    mutual
      -- rows with decisions in front have the tree of those without
      pub tree-based : (columns : List (MColumn T)) (rows : List (MRow T)) (t : MTree) → Every IsFresh rows →
          IsGood IsType cx decides columns (all_based rows) → L columns rows t → L columns (all_based rows) t
      tree-based _ _ _ f g (no_value_left columns b) = no_value_left columns b
      tree-based _ _ _ f g (no_row_left columns n) = no_row_left columns n
      tree-based _ _ _ f g (takes columns r rows w h) = takes columns (based r) (all_based rows) w h
      tree-based _ _ _ f g (asks columns r rows t w h l) =
          asks columns (based r) (all_based rows) t w h
          (tree-based columns rows t f.1 (E.others columns (based r) (all_based rows) g) l)
      tree-based _ _ _ f g (drops i c columns rows expanded next t p e o w n l) =
          let fe = fresh-expanded i c columns rows expanded f g o in
          let fn = fresh-dropped i c expanded next fe n in
          let oe = step-order expand_head c.place i rows expanded fe o in
          let on = step-order default_head c.place i expanded next fn n in
          let ready = E.expanded i c columns (all_based rows) (all_based expanded) g e oe in
          drops i c columns (all_based rows) (all_based expanded) (all_based next) t (fewest-based columns rows i p) e oe
          (subst IsTrue (sym (wild-based i expanded)) w) on
          (tree-based (replaced_at i columns []) next t fn
          (E.dropped i c columns (all_based expanded) (all_based next) ready e on) l)
      tree-based _ _ _ f g (opens i c columns rows expanded next piece t p e o w s are n l) =
          let fe = fresh-expanded i c columns rows expanded f g o in
          let fn = fresh-entered i c piece (cx.arity piece c.type) expanded next fe n in
          let oe = step-order expand_head c.place i rows expanded fe o in
          let on = step-order (specialise_head piece (cx.arity piece c.type)) c.place i expanded next fn n in
          let ready = E.expanded i c columns (all_based rows) (all_based expanded) g e oe in
          let there = pieces-based i c expanded (piece ∷ []) are in
          opens i c columns (all_based rows) (all_based expanded) (all_based next) piece t (fewest-based columns rows i p)
          e oe (wild-based i expanded ∙ w) s there on
          (tree-based (replaced_at i columns (part_columns cx c piece)) next t fn
          (E.entered i c columns (all_based expanded) (all_based next) (piece ∷ []) piece ready e there (inl refl) on) l)
      tree-based _ _ _ f g (switches i c columns rows expanded pieces branches p e o w s are l) =
          let fe = fresh-expanded i c columns rows expanded f g o in
          let oe = step-order expand_head c.place i rows expanded fe o in
          let ready = E.expanded i c columns (all_based rows) (all_based expanded) g e oe in
          switches i c columns (all_based rows) (all_based expanded) pieces branches (fewest-based columns rows i p) e oe
          (wild-based i expanded ∙ w) s (pieces-based i c expanded pieces are)
          (branches-based i c columns expanded pieces pieces branches fe ready e
          (pieces-based i c expanded pieces are) (λ q a. a) l)

      -- and each case of a switch has the same
      branches-based : (i : ℕ) (c : MColumn T) (columns : List (MColumn T)) (rows : List (MRow T))
          (all pieces : List MCtor) (branches : MBranches) → Every IsFresh rows →
          IsReady IsType cx decides i columns (all_based rows) → slice_get columns i ≡ Some c →
          ArePieces (cx.set_of c.type) (ctors_at i (all_based rows)) all →
          ((q : MCtor) → Among q pieces → Among q all) →
          Branches cx V decides (IsFewest cx V) BareOnly i c columns rows all pieces branches →
          Branches cx V decides (IsFewest cx V) BareOnly i c columns (all_based rows) all pieces branches
      branches-based _ _ _ _ _ _ _ f g e are m (no_else i c columns rows all h) =
          no_else i c columns (all_based rows) all (λ piece q. h piece (missing-from i rows all piece q))
      branches-based _ _ _ _ _ _ _ f g e are m (with_else i c columns rows next all piece t h v o l) =
          let fn = fresh-dropped i c rows next f o in
          let on = step-order default_head c.place i rows next fn o in
          with_else i c columns (all_based rows) (all_based next) all piece t (missing-to i rows all piece h) v on
          (tree-based (replaced_at i columns []) next t fn (E.dropped i c columns (all_based rows) (all_based next) g e on) l)
      branches-based _ _ _ _ _ _ _ f g e are m (no_case i c columns rows all piece pieces branches h l) =
          no_case i c columns (all_based rows) all piece pieces branches (none h)
          (branches-based i c columns rows all pieces branches f g e are (λ q a. m q (inr a)) l)
        where
          none : (is_present (ctors_at i rows) piece ≡ false) ⊎ (¬ HasValue V (open_of c) (named_in all) piece) →
              (is_present (ctors_at i (all_based rows)) piece ≡ false) ⊎ (¬ HasValue V (open_of c) (named_in all) piece)
          none (inl x) = inl (present-based i rows piece ∙ x)
          none (inr x) = inr x
      branches-based _ _ _ _ _ _ _ f g e are m (one_case i c columns rows next all piece pieces t branches h v o l b) =
          let fn = fresh-entered i c piece (cx.arity piece c.type) rows next f o in
          let on = step-order (specialise_head piece (cx.arity piece c.type)) c.place i rows next fn o in
          one_case i c columns (all_based rows) (all_based next) all piece pieces t branches
          (subst IsTrue (sym (present-based i rows piece)) h) v on
          (tree-based (replaced_at i columns (part_columns cx c piece)) next t fn
          (E.entered i c columns (all_based rows) (all_based next) all piece g e are (m piece (inl refl)) on) l)
          (branches-based i c columns rows all pieces branches f g e are (λ q a. m q (inr a)) b)
