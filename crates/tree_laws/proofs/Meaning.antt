-- A tree of keyed rows does with a value what is tried first, and looks at no position twice.
use Rattle.std.proofs.Common.{◌≡◌, ◌≢◌, ◌⊎◌, inl, inr, ℕ, zero, suc, ◌+◌, Bool, true, false, List, [], ◌∷◌, ◌++◌, map, length, Some, slice_get, refl, sym, ap, ◌∙◌, arith, subst, IsTrue, append_assoc}
use Rattle.match_model.specs.Values.{MValue}
use Rattle.match_model.specs.Ways.{Way}
use Rattle.match_model.specs.Constructors.{MCtor, builds}
use Rattle.match_model.specs.Contexts.{Context}
use Rattle.match_model.specs.Pieces.{ArePieces}
use Rattle.match_model.specs.Places.{part_at, position_at}
use Rattle.match_model.specs.Select.{Selected}
use Rattle.match_model.specs.Trees.{MCase, ElseCase, case_has, is_else, MBranch, number_for, one_has, bindings_in}
use Rattle.match_model.specs.Rows.{Head}
use Rattle.match_model.specs.Matrices.{MColumn, MRow, part_columns, heads_ways}
use Rattle.match_model.specs.PieceStates.{is_present, named_in}
use Rattle.match_model.specs.DecisionTrees.{MTree, AskTree, TakeTree, MBranches, more_branches, row_binds, all_wild, is_switchless, case_of}
use Rattle.match_model.specs.Keys.{Decision, both_keys, IsBefore}
use Rattle.match_model.specs.Lists.{Every, Ordered, Among, SameMembers}
use Rattle.match_model.specs.Numbering.{way_key}
use Rattle.match_model.specs.Steps.{replaced_at, expand_head, specialise_head, default_head, rows_at}
use Rattle.keyed_rows.specs.Dividing.{GoodAt, AreFree, HasCount}
use Rattle.match_model.specs.RowOrder.{row_key, AreInOrder}
use Rattle.keyed_rows.specs.Parting.{RowParted}
use Rattle.match_model.specs.KeyedWays.{KeyedTry, keyed_try, row_keyed_tries, keyed_tries, TryFirst, select_keyed_one, select_keyed}
use Rattle.keyed_rows.proofs.Lists.{every-append, every-all}
use Rattle.keyed_rows.proofs.FirstRow.{first-way}
use Rattle.keyed_rows.proofs.Dividing.{expand-divides, piece-divides, drop-divides}
use Rattle.keyed_rows.proofs.RowOrder.{sorted-parted, sorted-free}
use Rattle.keyed_rows.proofs.Picking.{Picked, first-of, tried-asym}
use Rattle.match_model.specs.SharedTrees.{CaseTree, case_trees}
use Rattle.tree_sharing.specs.Runs.{bare_branches, Runs, at_switch, at_short, at_granted, at_refused, at_take, at_miss, at_void}
use Rattle.match_model.specs.Lowering.{ctors_at, Lowers, no_value_left, no_row_left, takes, asks, drops, opens, switches, Branches, no_else, with_else, no_case, one_case}
use Rattle.keyed_steps.specs.Positions.{IsSpread, inside, ArePositions}
use Rattle.keyed_steps.specs.Filled.{IsHeld, IsOpened}
use Rattle.keyed_steps.specs.Engine.{IsCut, IsPassed, AreCaught, IsEngine}
use Rattle.tree_laws.proofs.Spreading.{spread-step, spread-less, not-seen, position-of, positions-replaced}
use Rattle.tree_laws.proofs.Filling.{at-column, held-replaced}
use Rattle.tree_laws.proofs.Numbers.{Lacks, NoElse, case-number, else-number, one-case, one-else}
use Rattle.keyed_rows.proofs.Members.{among-contains}

pub same-trans : {A : Type 0} (xs ys zs : List A) → SameMembers xs ys → SameMembers xs zs → SameMembers ys zs
same-trans xs ys zs a b = record { forth = λ x i. b.forth x (a.back x i); back = λ x i. a.forth x (b.back x i) }

pub no-members : {A : Type 0} (xs : List A) → SameMembers [] xs → xs ≡ []
no-members [] s = refl
no-members (x ∷ xs) s = elim (s.back x (inl refl)) [ ]

pick-is : (t : KeyedTry) (rest all : List KeyedTry) → all ≡ t ∷ rest → (g : Bool) → t.guarded ≡ g →
    (answers : List Bool) → select_keyed all answers ≡ select_keyed_one t g answers (λ left. select_keyed rest left)
pick-is t rest all e g h answers = rw (e, h) refl

module _ {T : Type 0} (cx : Context T) (V : T → Bool → MValue → Type 0) (decides : ℕ → Decision)
    (Good : List (MColumn T) → List (MRow T) → Type 0) (Ready : ℕ → List (MColumn T) → List (MRow T) → Type 0)
    (engine : IsEngine cx V decides Good Ready) where
  abbrev pub IsFree : MRow T → Type 0
  IsFree r = AreFree decides (row_key decides r) 0 r.heads

  -- rows in order
  pub record AreRows (rows : List (MRow T)) : Type 0 where
    pub free : Every IsFree rows
    pub parted : Ordered (RowParted decides) rows

  abbrev Any : Head T → Type 0
  Any h = Unit {0}

  always-at : (i : ℕ) (hs : List (Head T)) → GoodAt Any i hs
  always-at i [] = tt
  always-at zero (h ∷ hs) = tt
  always-at (suc i) (h ∷ hs) = always-at i hs

  always : (i : ℕ) (rows : List (MRow T)) → Every (λ r. GoodAt Any i r.heads) rows
  always i rows = every-all (λ r. GoodAt Any i r.heads) rows (λ r. always-at i r.heads)

  pub rows-expanded : (i : ℕ) (c : MColumn T) (rows next : List (MRow T)) → AreRows rows →
      AreInOrder decides (rows_at expand_head c.place i rows) next → AreRows next
  rows-expanded i c rows next a o = record {
    free =
        sorted-free decides Any 1 expand_head (expand-divides decides) c.place i rows a.free
        (always i rows) a.parted next o;
    parted =
        sorted-parted decides Any 1 expand_head (expand-divides decides) c.place i rows a.free
        (always i rows) a.parted next o;
  }

  pub rows-dropped : (i : ℕ) (c : MColumn T) (rows next : List (MRow T)) → AreRows rows →
      AreInOrder decides (rows_at default_head c.place i rows) next → AreRows next
  rows-dropped i c rows next a o = record {
    free =
        sorted-free decides Any 0 default_head (drop-divides decides) c.place i rows a.free
        (always i rows) a.parted next o;
    parted =
        sorted-parted decides Any 0 default_head (drop-divides decides) c.place i rows a.free
        (always i rows) a.parted next o;
  }

  pub rows-entered : (i : ℕ) (c : MColumn T) (p : MCtor) (n : ℕ) (rows next : List (MRow T)) → AreRows rows →
      Every (λ r. GoodAt (HasCount p n) i r.heads) rows → AreInOrder decides (rows_at
      (specialise_head p n) c.place i rows) next → AreRows next
  rows-entered i c p n rows next a g o = record {
    free =
        sorted-free decides (HasCount p n) n (specialise_head p n)
        (piece-divides decides p n) c.place i rows a.free g a.parted next o;
    parted =
        sorted-parted decides (HasCount p n) n (specialise_head p n)
        (piece-divides decides p n) c.place i rows a.free g a.parted next o;
  }

  -- what is to try of a first row of wildcards comes before what is to try of another row
  row-first : (columns : List (MColumn T)) (v : MValue) (r s : MRow T) → IsTrue (all_wild r) → RowParted decides r s →
      Every (λ x. Every (TryFirst x) (row_keyed_tries decides columns v s)) (row_keyed_tries decides columns v r)
  row-first columns v r s w (inl l) = arms (heads_ways columns r.heads v)
    where
      one : (x : Way) (ys : List Way) → Every (TryFirst (keyed_try decides v r x)) (map (keyed_try decides v s) ys)
      one x [] = tt
      one x (y ∷ ys) = (inl l, one x ys)

      arms : (xs : List Way) → Every (λ x. Every (TryFirst x) (row_keyed_tries decides columns v s))
          (map (keyed_try decides v r) xs)
      arms [] = tt
      arms (x ∷ xs) = (one x (heads_ways columns s.heads v), arms xs)
  row-first columns v r s w (inr p) =
      outer (heads_ways columns r.heads v) (first-way decides columns (row_key decides r)
      (row_key decides s) r.heads s.heads v w p.1)
    where
      inner : (x : Way) (ys : List Way) → Every (λ y. IsBefore (both_keys (row_key decides r) (way_key decides x))
          (both_keys (row_key decides s) (way_key decides y))) ys → Every (TryFirst (keyed_try decides v r x)) (map
          (keyed_try decides v s) ys)
      inner x [] e = tt
      inner x (y ∷ ys) e = (inr (p.0, e.0), inner x ys e.1)

      outer : (xs : List Way) → Every (λ x. Every
          (λ y. IsBefore (both_keys (row_key decides r) (way_key decides x))
          (both_keys (row_key decides s) (way_key decides y))) (heads_ways columns s.heads v)) xs →
          Every (λ x. Every (TryFirst x) (row_keyed_tries decides columns v s)) (map (keyed_try decides v r) xs)
      outer [] e = tt
      outer (x ∷ xs) e = (inner x (heads_ways columns s.heads v) e.0, outer xs e.1)

  -- the one thing to try of a first row that is a leaf
  abbrev leaf_tried : List (MColumn T) → MValue → MRow T → KeyedTry
  leaf_tried columns v r =
      record {
        arm = r.arm;
        guarded = r.guarded;
        key = row_key decides r;
        bindings = bindings_in
            v (row_binds columns r);
      }

  leaf-first : (columns : List (MColumn T)) (v : MValue) (r : MRow T) (rows : List (MRow T)) → IsTrue (all_wild r) →
      row_keyed_tries decides columns v r ≡ leaf_tried columns v r ∷ [] → Every (RowParted decides r) rows →
      Every (TryFirst (leaf_tried columns v r)) (keyed_tries decides columns v rows)
  leaf-first columns v r [] w e o = tt
  leaf-first columns v r (s ∷ rows) w e o =
      every-append (TryFirst (leaf_tried columns v r)) (row_keyed_tries decides columns v s)
      (keyed_tries decides columns v rows)
      (subst (λ l. Every (λ x. Every (TryFirst x) (row_keyed_tries decides columns v s)) l) e
      (row-first columns v r s w o.0)).0
      (leaf-first columns v r rows w e o.1)

  picked : (columns : List (MColumn T)) (v : MValue) (r : MRow T) (rows : List (MRow T)) (all : List KeyedTry) →
      IsTrue (all_wild r) → row_keyed_tries decides columns v r ≡ leaf_tried columns v r ∷ [] →
      Every (RowParted decides r) rows →
      Ordered TryFirst all → SameMembers (keyed_tries decides columns v (r ∷ rows)) all →
      Picked TryFirst (leaf_tried columns v r) (keyed_tries decides columns v rows) all
  picked columns v r rows all w e p o s =
      first-of TryFirst tried-asym (leaf_tried columns v r) (keyed_tries decides columns v rows) all o
      (subst (λ l. SameMembers (l ++ keyed_tries decides columns v rows) all) e s)
      (leaf-first columns v r rows w e p)

  -- a value at a matrix: the things to try are those of the rows
  pub record AtRows (v : MValue) (seen : List (List ℕ)) (columns : List (MColumn T)) (rows : List (MRow T))
      (all : List KeyedTry) : Type 0 where
    pub good : Good columns rows
    pub rows_are : AreRows rows
    pub held : IsHeld V columns v
    pub caught : AreCaught v rows
    pub ps : List (List ℕ)
    pub positions : ArePositions v columns ps
    pub spread : IsSpread seen ps
    pub ordered : Ordered TryFirst all
    pub same : SameMembers (keyed_tries decides columns v rows) all

  -- a value at a column whose or-patterns are taken apart
  record Looks (v : MValue) (seen : List (List ℕ)) (all : List KeyedTry) (i : ℕ) (c : MColumn T)
      (columns : List (MColumn T)) (rows : List (MRow T)) : Type 0 where
    pub ready : Ready i columns rows
    pub there : slice_get columns i ≡ Some c
    pub rows_are : AreRows rows
    pub held : IsHeld V columns v
    pub caught : AreCaught v rows
    pub u : MValue
    pub part : part_at c.place v ≡ Some u
    pub is : V c.type c.sure u
    pub ps : List (List ℕ)
    pub positions : ArePositions v columns ps
    pub spread : IsSpread seen ps
    pub p : List ℕ
    pub at : slice_get ps i ≡ Some p
    pub position : position_at c.place v ≡ Some p
    pub ordered : Ordered TryFirst all
    pub same : SameMembers (keyed_tries decides columns v rows) all

  looks-at : (v : MValue) (seen : List (List ℕ)) (all : List KeyedTry) (i : ℕ) (c : MColumn T)
      (columns : List (MColumn T)) (rows next : List (MRow T)) → AtRows v seen columns rows all →
      slice_get columns i ≡ Some c →
      AreInOrder decides (rows_at expand_head c.place i rows) next → Looks v seen all i c columns next
  looks-at v seen all i c columns rows next a e o =
      let u = at-column V columns a.held.0 v i c a.held.1 a.held.2 e in
      let p = position-of v columns a.ps i c a.positions e in
      record {
        ready = engine.expanded i c columns rows next a.good e o;
        there = e;
        rows_are = rows-expanded i c rows next a.rows_are o;
        held = a.held;
        caught = engine.expanded_caught i c columns rows next v a.good e o a.held a.caught;
        u = u.0;
        part = u.1;
        is = u.2;
        ps = a.ps;
        positions = a.positions;
        spread = a.spread;
        p = p.0;
        at = p.1;
        position = p.2;
        ordered = a.ordered;
        same =
            same-trans (keyed_tries decides columns v rows) (keyed_tries decides columns v next) all
            (engine.expanded_same i c columns rows next v a.good e o a.held) a.same;
      }

  next-dropped : (v : MValue) (seen : List (List ℕ)) (all : List KeyedTry) (i : ℕ) (c : MColumn T)
      (columns : List (MColumn T)) (rows next : List (MRow T)) (pieces : List MCtor)
      (l : Looks v seen all i c columns rows) →
      AreInOrder decides (rows_at default_head c.place i rows) next → IsPassed (cx.set_of c.type) i rows pieces l.u →
      AtRows v (l.p ∷ seen) (replaced_at i columns []) next all
  next-dropped v seen all i c columns rows next pieces l o q = record {
    good = engine.dropped i c columns rows next l.ready l.there o;
    rows_are = rows-dropped i c rows next l.rows_are o;
    held = held-replaced V columns [] v i l.held ([], tt, tt);
    caught = engine.dropped_caught i c columns rows next v l.ready l.there o l.held l.caught;
    ps = replaced_at i l.ps [];
    positions = positions-replaced v columns [] l.ps [] i l.positions tt;
    spread = spread-step seen l.ps i l.p [] l.spread l.at tt;
    ordered = l.ordered;
    same =
        same-trans (keyed_tries decides columns v rows) (keyed_tries decides (replaced_at i columns []) v next) all
        (engine.dropped_same i c columns rows next pieces v l.u l.ready l.there o l.held l.part q) l.same;
  }

  next-entered : (v : MValue) (seen : List (List ℕ)) (all : List KeyedTry) (i : ℕ) (c : MColumn T)
      (columns : List (MColumn T)) (rows next : List (MRow T)) (pieces : List MCtor) (q : MCtor)
      (l : Looks v seen all i c columns rows) →
      ArePieces (cx.set_of c.type) (ctors_at i rows) pieces → IsCut cx V i c rows pieces → Among q pieces →
      builds (named_in pieces) q l.u ≡ true →
      AreInOrder decides (rows_at (specialise_head q (cx.arity q c.type)) c.place i rows) next →
      AtRows v (l.p ∷ seen) (replaced_at i columns (part_columns cx c q)) next all
  next-entered v seen all i c columns rows next pieces q l are cut there b o =
      let opened : IsOpened cx V c (named_in pieces) q = cut.opened q there (l.u, l.is, b) in
      let places = opened.places v l.u l.p l.part l.is b l.position in
      record {
        good = engine.entered i c columns rows next pieces q l.ready l.there are there o;
        rows_are =
            rows-entered i c q (cx.arity q c.type) rows next l.rows_are
            (engine.counted i c columns rows pieces q l.ready l.there are there) o;
        held = held-replaced V columns (part_columns cx c q) v i l.held (opened.gives v l.u l.part l.is b);
        caught =
            engine.entered_caught i c columns rows next pieces q v l.u l.ready l.there are there o l.held l.part b
            l.caught;
        ps = replaced_at i l.ps (map (inside l.p) places.0);
        positions =
            positions-replaced v columns (part_columns cx c q) l.ps (map (inside l.p) places.0) i l.positions places.2;
        spread = spread-step seen l.ps i l.p places.0 l.spread l.at places.1;
        ordered = l.ordered;
        same =
            same-trans (keyed_tries decides columns v rows) (keyed_tries decides
            (replaced_at i columns (part_columns cx c q)) v next) all
            (engine.entered_same i c columns rows next pieces q v l.u l.ready l.there are there o l.held l.part b)
            l.same;
      }

  less-seen : (v : MValue) (p : List ℕ) (seen : List (List ℕ)) (columns : List (MColumn T)) (rows : List (MRow T))
      (all : List KeyedTry) → AtRows v (p ∷ seen) columns rows all → AtRows v seen columns rows all
  less-seen v p seen columns rows all a = record {
    good = a.good;
    rows_are = a.rows_are;
    held = a.held;
    caught = a.caught;
    ps = a.ps;
    positions = a.positions;
    spread = spread-less p seen a.ps a.spread;
    ordered = a.ordered;
    same = a.same;
  }

  -- the branch that a value takes: its number, and what its tree does
  record Taken (v u : MValue) (seen : List (List ℕ)) (answers : List Bool) (s : Selected) (done : List MBranch)
      (branches : MBranches) : Type 0 where
    pub j : ℕ
    pub arc : CaseTree
    pub number : number_for u (done ++ bare_branches branches) ≡ Some (length done + j)
    pub one : one_has u (done ++ bare_branches branches) ≡ true
    pub there : slice_get (case_trees branches) j ≡ Some arc
    pub runs : Runs v seen arc.tree answers s

  -- a branch in front moves to those that are done
  moved-on : (v u : MValue) (seen : List (List ℕ)) (answers : List Bool) (s : Selected) (done : List MBranch)
      (case : MCase) (t : MTree) (branches : MBranches) →
      Taken v u seen answers s (done ++ record { case = case; next = 0 } ∷ []) branches →
      Taken v u seen answers s done (more_branches case t branches)
  moved-on v u seen answers s done case t branches k = record {
    j = suc k.j;
    arc = k.arc;
    number =
        subst (λ l. number_for u l ≡ Some (length done + suc k.j)) (append_assoc done
        (record { case = case; next = 0 } ∷ []) (bare_branches branches)) (k.number ∙ ap Some (sizes done k.j));
    one =
        subst (λ l. one_has u l ≡ true) (append_assoc done (record { case = case; next = 0 } ∷ [])
        (bare_branches branches)) k.one;
    there = k.there;
    runs = k.runs;
  }
    where
      sizes : (l : List MBranch) (j : ℕ) → length (l ++ record { case = case; next = 0 } ∷ []) + j ≡ length l + suc j
      sizes [] j = omega arith
      sizes (b ∷ l) j =
          let h : length (l ++ record { case = case; next = 0 } ∷ []) + j ≡ length l + suc j = sizes l j in
          omega (arith, h)

  pub clash : {A : Type 0} (b : Bool) → b ≡ true → b ≡ false → A
  clash b h k = cc

  pub not-true : (b : Bool) → (b ≡ true → ⊥) → b ≡ false
  not-true true n = absurd (n refl)
  not-true false n = refl

  pub not-among : (p q : MCtor) (ps : List MCtor) → Every (λ x. p ≢ x) ps → Among q ps → p ≡ q → ⊥
  not-among p q [] e a h = a
  not-among p q (x ∷ ps) e (inl k) h = e.0 (h ∙ k)
  not-among p q (x ∷ ps) e (inr a) h = not-among p q ps e.1 a h

  module _ (Chooses : List (MColumn T) → List (MRow T) → ℕ → Type 0) (BareOnly : Type 0) where
    -- the cases of other pieces do not have the value
    pub rest-lacks : (i : ℕ) (c : MColumn T) (columns : List (MColumn T)) (rows : List (MRow T))
        (all pieces : List MCtor) (branches : MBranches) (u : MValue) (q : MCtor) →
        Branches cx V decides Chooses BareOnly i c columns rows all pieces branches →
        IsCut cx V i c rows all → is_switchless (cx.set_of c.type) ≡ false →
        ((x : MCtor) → Among x pieces → Among x all) → ((x : MCtor) → Among x all → builds (named_in all) x u ≡ true →
        x ≡ q) → (Among q pieces → ⊥) →
        Lacks u (bare_branches branches)
    rest-lacks _ _ _ _ _ _ _ u q (no_else i c columns rows all none) cut sw sub only not = tt
    rest-lacks _ _ _ _ _ _ _ u q (with_else i c columns rows next all piece tree m h o k) cut sw sub only not =
        (refl, tt)
    rest-lacks _ _ _ _ _ _ _ u q (no_case i c columns rows all piece pieces branches x k) cut sw sub only not =
        rest-lacks i c columns rows all pieces branches u q k cut sw (λ y a. sub y (inr a)) only (λ a. not (inr a))
    rest-lacks _ _ _ _ _ _ _ u q (one_case i c columns rows next all piece pieces tree branches pr h o t k) cut sw sub only not = (
      (cut.case piece u (sub piece (inl refl)) pr sw).0 ∙ not-true (builds (named_in all) piece u) (λ b. not
          (inl (sym (only piece (sub piece (inl refl)) b)))),
      rest-lacks i c columns rows all pieces branches u q k cut sw (λ y a. sub y (inr a)) only (λ a. not (inr a)),
    )

    pub lacks-more : (u : MValue) (done : List MBranch) (b : MBranch) → Lacks u done →
        case_has b.case u ≡ false → Lacks u (done ++ b ∷ [])
    lacks-more u [] b l h = (h, tt)
    lacks-more u (x ∷ done) b l h = (l.0, lacks-more u done b l.1 h)

    pub else-more : (done : List MBranch) (b : MBranch) → NoElse done → is_else b.case ≡ false → NoElse (done ++ b ∷ [])
    else-more [] b l h = (h, tt)
    else-more (x ∷ done) b l h = (l.0, else-more done b l.1 h)

    plus-zero : (n : ℕ) → n ≡ n + 0
    plus-zero n = omega arith

    -- where a value goes: its piece, and which branches it passed
    record Goes (v : MValue) (seen : List (List ℕ)) (tried : List KeyedTry) (i : ℕ) (c : MColumn T)
        (columns : List (MColumn T)) (rows : List (MRow T)) (all : List MCtor) : Type 0 where
      pub looks : Looks v seen tried i c columns rows
      pub are : ArePieces (cx.set_of c.type) (ctors_at i rows) all
      pub cut : IsCut cx V i c rows all
      pub sw : is_switchless (cx.set_of c.type) ≡ false
      pub q : MCtor
      pub of : Among q all
      pub built : builds (named_in all) q looks.u ≡ true
      pub only : (x : MCtor) → Among x all → builds (named_in all) x looks.u ≡ true → x ≡ q

    mutual
      -- the tree does what is tried first
      pub lowered-runs : (columns : List (MColumn T)) (rows : List (MRow T)) (t : MTree) →
          Lowers cx V decides Chooses BareOnly columns rows t →
          (v : MValue) (seen : List (List ℕ)) (tried : List KeyedTry) (answers : List Bool) →
          AtRows v seen columns rows tried → Runs v seen t answers (select_keyed tried answers)
      lowered-runs _ _ _ (no_value_left columns b) v seen tried answers a =
          rw (no-members tried a.same) (at_void seen answers)
      lowered-runs _ _ _ (no_row_left columns n) v seen tried answers a =
          rw (no-members tried a.same) (at_miss seen answers)
      lowered-runs _ _ _ (takes columns r rows w g) v seen tried answers a =
          let l = engine.leaf columns r rows v a.good w a.held a.caught.0 in
          let k = picked columns v r rows tried w l.0 a.rows_are.parted.0 a.ordered a.same in
          subst (λ x. Runs v seen (TakeTree r.arm (row_binds columns r)) answers x)
          (sym (pick-is (leaf_tried columns v r) k.rest tried k.is false g answers))
          (at_take seen r.arm (row_binds columns r) answers l.1)
      lowered-runs _ _ _ (asks columns r rows refused w g t) v seen tried [] a =
          let l = engine.leaf columns r rows v a.good w a.held a.caught.0 in
          let k = picked columns v r rows tried w l.0 a.rows_are.parted.0 a.ordered a.same in
          subst (λ x. Runs v seen (AskTree r.arm (row_binds columns r) refused) [] x)
          (sym (pick-is (leaf_tried columns v r) k.rest tried k.is true g []))
          (at_short seen r.arm (row_binds columns r) refused l.1)
      lowered-runs _ _ _ (asks columns r rows refused w g t) v seen tried (true ∷ answers) a =
          let l = engine.leaf columns r rows v a.good w a.held a.caught.0 in
          let k = picked columns v r rows tried w l.0 a.rows_are.parted.0 a.ordered a.same in
          subst (λ x. Runs v seen (AskTree r.arm (row_binds columns r) refused) (true ∷ answers) x)
          (sym (pick-is (leaf_tried columns v r) k.rest tried k.is true g (true ∷ answers)))
          (at_granted seen r.arm (row_binds columns r) refused answers l.1)
      lowered-runs _ _ _ (asks columns r rows refused w g t) v seen tried (false ∷ answers) a =
          let l = engine.leaf columns r rows v a.good w a.held a.caught.0 in
          let k = picked columns v r rows tried w l.0 a.rows_are.parted.0 a.ordered a.same in
          subst (λ x. Runs v seen (AskTree r.arm (row_binds columns r) refused) (false ∷ answers) x)
          (sym (pick-is (leaf_tried columns v r) k.rest tried k.is true g (false ∷ answers)))
          (
          at_refused seen r.arm (row_binds columns r) refused answers (select_keyed k.rest answers) l.1
          (lowered-runs columns rows refused t v seen k.rest answers (record {
            good = engine.others columns r rows a.good;
            rows_are = record { free = a.rows_are.free.1; parted = a.rows_are.parted.1 };
            held = a.held;
            caught = a.caught.1;
            ps = a.ps;
            positions = a.positions;
            spread = a.spread;
            ordered = k.ordered;
            same = k.same;
          }))
          )
      lowered-runs _ _ _ (drops i c columns rows expanded next tree pk e o w q t) v seen tried answers a =
          let l = looks-at v seen tried i c columns rows expanded a e o in
          lowered-runs (replaced_at i columns []) next tree t v seen tried answers
          (less-seen v l.p seen (replaced_at i columns []) next tried
          (next-dropped v seen tried i c columns expanded next [] l q (inl w)))
      lowered-runs _ _ _ (opens i c columns rows expanded next piece tree pk e o w sl are q t) v seen tried answers a =
          let l = looks-at v seen tried i c columns rows expanded a e o in
          let cut = engine.cut i c columns expanded (piece ∷ []) l.ready l.there are w in
          let one = cut.one l.u l.is in
          let same : one.0 ≡ piece = elim one.1 [ inl h ↦ h | inr h ↦ absurd h ] in
          let built : builds (named_in (piece ∷ [])) piece l.u ≡ true = subst
          (λ x. builds (named_in (piece ∷ [])) x l.u ≡ true) same one.2 in
          lowered-runs (replaced_at i columns (part_columns cx c piece)) next tree t v seen tried answers
          (less-seen v l.p seen (replaced_at i columns (part_columns cx c piece)) next tried
          (next-entered v seen tried i c columns expanded next (piece ∷ []) piece l are cut (inl refl) built q))
      lowered-runs _ _ _ (switches i c columns rows expanded pieces branches pk e o w sl are k) v seen tried answers a =
          let l = looks-at v seen tried i c columns rows expanded a e o in
          let cut = engine.cut i c columns expanded pieces l.ready l.there are w in
          let one = cut.one l.u l.is in
          let g : Goes v seen tried i c columns expanded pieces = record
          { looks = l; are = are; cut = cut; sw = sl; q = one.0; of = one.1; built = one.2; only = one.3 } in
          let b = branches-run i c columns expanded pieces pieces branches k v seen tried answers g [] tt tt
          (λ x m. m) cut.distinct (either-way (is_present (ctors_at i expanded) one.0) one.1) in
          at_switch seen c.place branches answers (select_keyed tried answers) l.u l.p b.j b.arc l.part l.position
          (not-seen seen l.ps i l.p l.spread l.at) b.one (b.number ∙ ap Some (zero-plus b.j)) b.there b.runs
        where
          zero-plus : (n : ℕ) → 0 + n ≡ n
          zero-plus n = omega arith

          either-way : {A : Type 0} (b : Bool) → A → (A × (b ≡ true)) ⊎ (b ≡ false)
          either-way true m = inl (m, refl)
          either-way false m = inr refl

      branches-run : (i : ℕ) (c : MColumn T) (columns : List (MColumn T)) (rows : List (MRow T))
          (all pieces : List MCtor) (branches : MBranches) →
          Branches cx V decides Chooses BareOnly i c columns rows all pieces branches →
          (v : MValue) (seen : List (List ℕ)) (tried : List KeyedTry) (answers : List Bool)
          (g : Goes v seen tried i c columns rows all) (done : List MBranch) → Lacks g.looks.u done → NoElse done →
          ((x : MCtor) → Among x pieces → Among x all) → Ordered (λ (p q : MCtor). p ≢ q) pieces →
          (Among g.q pieces × (is_present (ctors_at i rows) g.q ≡ true)) ⊎ (is_present (ctors_at i rows) g.q ≡ false) →
          Taken v g.looks.u (g.looks.p ∷ seen) answers (select_keyed tried answers) done branches
      branches-run _ _ _ _ _ _ _ (no_else i c columns rows all none) v seen tried answers g done l n sub d (inl m) =
          absurd m.0
      branches-run _ _ _ _ _ _ _ (no_else i c columns rows all none) v seen tried answers g done l n sub d (inr m) =
          absurd (none g.q (among-contains all g.q g.of, m) (g.looks.u, g.looks.is, g.built))
      branches-run _ _ _ _ _ _ _ (with_else i c columns rows next all piece tree m h o t) v seen tried answers g done l
          n sub d (inl x) =
          absurd x.0
      branches-run _ _ _ _ _ _ _ (with_else i c columns rows next all piece tree m h o t) v seen tried answers g done l
          n sub d (inr x) =
          record {
            j = 0;
            arc = record { case = ElseCase; tree = tree };
            number =
                else-number g.looks.u done (record { case = ElseCase; next = 0 }) l refl n refl
                ∙ ap Some (plus-zero (length done));
            one = one-else g.looks.u done (record { case = ElseCase; next = 0 }) l refl n refl;
            there = refl;
            runs =
                lowered-runs (replaced_at i columns []) next tree t v (g.looks.p ∷ seen) tried answers
                (next-dropped v seen tried i c columns rows next all g.looks o (inr (g.are, g.q, g.of, x, g.built)));
          }
      branches-run _ _ _ _ _ _ _ (no_case i c columns rows all piece pieces branches x k) v seen tried answers g done l
          n sub d (inl (inl e, pr)) =
          absurd (elim x [
            | inl y ↦ clash _ pr (rw e y)
            | inr y ↦ y (
              g.looks.u,
              g.looks.is,
              subst
                  (λ z. builds (named_in all) z g.looks.u ≡ true) e g.built,
            )
          ])
      branches-run _ _ _ _ _ _ _ (no_case i c columns rows all piece pieces branches x k) v seen tried answers g done l
          n sub d (inl (inr m, pr)) =
          branches-run i c columns rows all pieces branches k v seen tried answers g done l n
          (λ y a. sub y (inr a)) d.1 (inl (m, pr))
      branches-run _ _ _ _ _ _ _ (no_case i c columns rows all piece pieces branches x k) v seen tried answers g done l
          n sub d (inr m) =
          branches-run i c columns rows all pieces branches k v seen tried answers g done l n
          (λ y a. sub y (inr a)) d.1 (inr m)
      branches-run _ _ _ _ _ _ _ (one_case i c columns rows next all piece pieces tree branches pr h o t k) v seen
          tried answers g done l n sub d (inl (inl e, there)) =
          let has : case_has (case_of piece) g.looks.u ≡ true = (g.cut.case piece g.looks.u
          (sub piece (inl refl)) pr g.sw).0 ∙ subst (λ z. builds (named_in all) z g.looks.u ≡ true) e g.built in
          let rest : Lacks g.looks.u (bare_branches branches) = rest-lacks i c columns rows all pieces branches
          g.looks.u g.q k g.cut g.sw (λ y a. sub y (inr a)) g.only (λ a. not-among piece g.q pieces d.0 a
          (sym e)) in
          record {
            j = 0;
            arc = record { case = case_of piece; tree = tree };
            number =
                case-number g.looks.u done (bare_branches branches) (record { case = case_of piece; next = 0 }) l has
                ∙ ap Some (plus-zero (length done));
            one =
                one-case g.looks.u done (bare_branches branches) (record { case = case_of piece; next = 0 }) l has rest;
            there = refl;
            runs =
                lowered-runs (replaced_at i columns (part_columns cx c piece)) next tree t v
                (g.looks.p ∷ seen) tried answers
                (next-entered v seen tried i c columns rows next all piece g.looks g.are g.cut (sub piece (inl refl))
                (subst (λ z. builds (named_in all) z g.looks.u ≡ true) e g.built) o);
          }
      branches-run _ _ _ _ _ _ _ (one_case i c columns rows next all piece pieces tree branches pr h o t k) v seen
          tried answers g done l n sub d (inl (inr m, there)) =
          let cases = g.cut.case piece g.looks.u (sub piece (inl refl)) pr g.sw in
          let lacks : case_has (case_of piece) g.looks.u ≡ false = cases.0
          ∙ not-true (builds (named_in all) piece g.looks.u) (λ b. not-among piece g.q pieces d.0 m
          (g.only piece (sub piece (inl refl)) b)) in
          moved-on v g.looks.u (g.looks.p ∷ seen) answers (select_keyed tried answers) done
          (case_of piece) tree branches
          (branches-run i c columns rows all pieces branches k v seen tried answers g
          (done ++ record { case = case_of piece; next = 0 } ∷ []) (lacks-more g.looks.u done
          (record { case = case_of piece; next = 0 }) l lacks) (else-more done
          (record { case = case_of piece; next = 0 }) n cases.1) (λ y a. sub y (inr a)) d.1 (inl (m, there)))
      branches-run _ _ _ _ _ _ _ (one_case i c columns rows next all piece pieces tree branches pr h o t k) v seen
          tried answers g done l n sub d (inr m) =
          let cases = g.cut.case piece g.looks.u (sub piece (inl refl)) pr g.sw in
          let lacks : case_has (case_of piece) g.looks.u ≡ false =
          cases.0 ∙ not-true (builds (named_in all) piece g.looks.u) (λ b. clash (is_present (ctors_at i rows) g.q)
          (subst (λ z. is_present (ctors_at i rows) z ≡ true) (g.only piece (sub piece (inl refl)) b) pr) m) in
          moved-on v g.looks.u (g.looks.p ∷ seen) answers (select_keyed tried answers) done
          (case_of piece) tree branches
          (branches-run i c columns rows all pieces branches k v seen tried answers g
          (done ++ record { case = case_of piece; next = 0 } ∷ []) (lacks-more g.looks.u done
          (record { case = case_of piece; next = 0 }) l lacks) (else-more done
          (record { case = case_of piece; next = 0 }) n cases.1) (λ y a. sub y (inr a)) d.1 (inr m))
