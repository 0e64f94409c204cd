-- Sets of what nodes bind: when two of them are one, and how they grow.
use Rattle.std.proofs.Common.{◌≡◌, ℕ, zero, suc, ◌+◌, ◌<◌, add-one, Bool, true, false, ◌&&◌, ◌||◌, List, [], ◌∷◌, ◌++◌, length, take, get_or, Option, Some, None, refl, sym, ap, subst, ◌∙◌, rules, arith}
use Rattle.std.specs.Str.{bytes_eq}
use Rattle.std.specs.List.{list_any}
use Rattle.std.proofs.Math.Seq.{take-suc}
use Rattle.std.proofs.lemmas.List.{map-append}
use Rattle.std.proofs.lemmas.List.Folds.{list_any-append}
use Rattle.std.proofs.lemmas.Slice.Eq.{bytes_eq-Decides}
use Rattle.indexmap.specs.IndexSet.{insert_key}
use Rattle.list_members.specs.Members as members
use Rattle.match_model.specs.declared.Mode.{Mode}
use Rattle.match_model.specs.declared.Mode.TheVariants.{Move, Ref, RefMut}
use Rattle.match_model.specs.Types.{MType, ArrayType}
use Rattle.type_table.specs.declared.table.TypeTable.{TypeTable}
use Rattle.type_table.specs.declared.table.TyId.{TyId}
use Rattle.type_table.specs.Tables.{IsOf, table_type}
use Rattle.match_model.specs.Matching.{to_move, mode_written}
use Rattle.decl_syntax.specs.Patterns.{PatternTree, bind_shape}
use Rattle.pattern_rules.specs.Settings.{Setting, Place}
use Rattle.pattern_rules.specs.Nodes.{Standing}
use Rattle.pattern_rules.specs.OtherRules.{BoundName, same_type, same_mode, same_bound, are_among, written, bound_by}
use Rattle.pattern_rules.proofs.SameTypes.{both_left, both_right, types_are_one, type_same}
use Rattle.pattern_check.specs.declared.held.Bound.{Bound}
use Rattle.pattern_check.specs.contracts.held.BoundPartialEq.TheImpl as bound_eq
use Rattle.pattern_check.specs.NodeForms.{node_at}
use Rattle.pattern_check.specs.BoundSets.{with_length, held_type, is_array, IsSplit, IsHeld, bound_view, bounds_view, AreHeld, is_bound, Binds, bound_list}

or_false : (b : Bool) → b ≡ (b || false)
or_false true = refl
or_false false = refl

or_true : (b : Bool) → (b || true) ≡ true
or_true true = refl
or_true false = refl

or_both : (a b c : Bool) → ((a || b) || c) ≡ (a || (b || c))
or_both true b c = refl
or_both false b c = refl

both_hold : (a b : Bool) → a ≡ true → b ≡ true → (a && b) ≡ true
both_hold true b h k = k
both_hold false b h k = absurd cc

-- two tests are one where each holds if the other does
same_tests : (x y : Bool) → (x ≡ true → y ≡ true) → (y ≡ true → x ≡ true) → x ≡ y
same_tests true y f g = sym (f refl)
same_tests false true f g = g refl
same_tests false false f g = refl

modes_are_one : (m n : Mode) → same_mode m n ≡ true → m ≡ n
modes_are_one Move Move h = refl
modes_are_one Ref Ref h = refl
modes_are_one RefMut RefMut h = refl
modes_are_one m n h = cc

mode_same : (m : Mode) → same_mode m m ≡ true
mode_same Move = refl
mode_same Ref = refl
mode_same RefMut = refl

-- what is bound twice alike is one
pub bounds_are_one : (a b : BoundName) → same_bound a b ≡ true → a ≡ b
bounds_are_one a b h =
    let names : a.name ≡ b.name = (bytes_eq-Decides a.name b.name).0 (both_left (bytes_eq a.name b.name) (same_type a.type b.type && same_mode a.mode b.mode) h) in
    let rest : (same_type a.type b.type && same_mode a.mode b.mode) ≡ true = both_right (bytes_eq a.name b.name) (same_type a.type b.type && same_mode a.mode b.mode) h in
    let types : a.type ≡ b.type = types_are_one a.type b.type (both_left (same_type a.type b.type) (same_mode a.mode b.mode) rest) in
    let modes : a.mode ≡ b.mode = modes_are_one a.mode b.mode (both_right (same_type a.type b.type) (same_mode a.mode b.mode) rest) in
    ap (λ n. record { name = n; type = a.type; mode = a.mode }) names
    ∙ (ap (λ t. record { name = b.name; type = t; mode = a.mode }) types ∙ ap (λ m. record { name = b.name; type = b.type; mode = m }) modes)

pub bound_same : (a : BoundName) → same_bound a a ≡ true
bound_same a =
    both_hold (bytes_eq a.name a.name) (same_type a.type a.type && same_mode a.mode a.mode) ((bytes_eq-Decides a.name a.name).1 refl)
    (both_hold (same_type a.type a.type) (same_mode a.mode a.mode) (type_same a.type) (mode_same a.mode))

-- members of lists of names that are bound
among_these : (q x : BoundName) (ys : List BoundName) → same_bound q x ≡ true → is_bound x ys ≡ true → is_bound q ys ≡ true
among_these q x ys e h = ap (λ (b : BoundName). is_bound b ys) (bounds_are_one q x e) ∙ h

all_of : (xs ys : List BoundName) → are_among xs ys ≡ true → (q : BoundName) → is_bound q xs ≡ true → is_bound q ys ≡ true
all_of [] ys h q m = absurd cc
all_of (x ∷ xs) ys h q m =
    by (same_bound q x) refl (both_left (is_bound x ys) (are_among xs ys) h) (all_of xs ys (both_right (is_bound x ys) (are_among xs ys) h) q)
  where
    second : (a b : Bool) → a ≡ false → (a || b) ≡ true → b ≡ true
    second true b f k = absurd cc
    second false b f k = k

    by : (t : Bool) → same_bound q x ≡ t → is_bound x ys ≡ true → (is_bound q xs ≡ true → is_bound q ys ≡ true) → is_bound q ys ≡ true
    by true e head later = among_these q x ys e head
    by false e head later = later (second (same_bound q x) (is_bound q xs) e m)

all_from : (xs ys : List BoundName) → ((q : BoundName) → is_bound q xs ≡ true → is_bound q ys ≡ true) → are_among xs ys ≡ true
all_from [] ys f = refl
all_from (x ∷ xs) ys f =
    both_hold (is_bound x ys) (are_among xs ys) (f x (ap (λ (b : Bool). b || is_bound x xs) (bound_same x)))
    (all_from xs ys (λ q m. f q (ap (λ (b : Bool). same_bound q x || b) m ∙ or_true (same_bound q x))))

-- whether all are among others is told by the members
pub among_like : (xs us ys vs : List BoundName) → ((q : BoundName) → is_bound q xs ≡ is_bound q us) → ((q : BoundName) → is_bound q ys ≡ is_bound q vs) → are_among xs ys ≡ are_among us vs
among_like xs us ys vs f g =
    same_tests (are_among xs ys) (are_among us vs)
    (λ h. all_from us vs (λ q m. sym (g q) ∙ all_of xs ys h q (f q ∙ m)))
    (λ h. all_from xs ys (λ q m. g q ∙ all_of us vs h q (sym (f q) ∙ m)))

-- the names that are kept, by their parts
equal_names : (a b : Bound) → bound_eq.ghosts.eq a b ≡ true → a.name.now ≡ b.name.now
equal_names a b h = search (rules, h, bytes_eq-Decides)

equal_held : (a b : Bound) → bound_eq.ghosts.eq a b ≡ true → a.held ≡ b.held
equal_held a b h = search (rules, h, bytes_eq-Decides)

equal_modes : (a b : Bound) → bound_eq.ghosts.eq a b ≡ true → a.mode ≡ b.mode
equal_modes a b h = search (rules, h, bytes_eq-Decides)

equal_by : (a b : Bound) → a.name.now ≡ b.name.now → a.held ≡ b.held → a.mode ≡ b.mode → bound_eq.ghosts.eq a b ≡ true
equal_by a b n h m = search (rules, n, h, m, bytes_eq-Decides)

module _ (table : TypeTable) where
  equal_views : (a b : Bound) → bound_eq.ghosts.eq a b ≡ true → bound_view table a ≡ bound_view table b
  equal_views a b h =
      ap (λ n. record { name = n; type = held_type table a.held; mode = a.mode }) (equal_names a b h)
      ∙ (ap (λ o. record { name = b.name.now; type = held_type table o; mode = a.mode }) (equal_held a b h)
      ∙ ap (λ m. record { name = b.name.now; type = held_type table b.held; mode = m }) (equal_modes a b h))

  -- a set with one more
  there_already : (k : Bound) (ks : List Bound) → list_any (bound_eq.ghosts.eq k) ks ≡ true → is_bound (bound_view table k) (bounds_view table ks) ≡ true
  there_already k [] h = absurd cc
  there_already k (x ∷ xs) h = by (bound_eq.ghosts.eq k x) refl (there_already k xs)
    where
      second : (a b : Bool) → a ≡ false → (a || b) ≡ true → b ≡ true
      second true b f h = absurd cc
      second false b f h = h

      by : (t : Bool) → bound_eq.ghosts.eq k x ≡ t → (list_any (bound_eq.ghosts.eq k) xs ≡ true → is_bound (bound_view table k) (bounds_view table xs) ≡ true) →
          is_bound (bound_view table k) (bounds_view table (x ∷ xs)) ≡ true
      by true e later =
          let same : same_bound (bound_view table k) (bound_view table x) ≡ true
          = ap (λ (b : BoundName). same_bound (bound_view table k) b) (sym (equal_views k x e)) ∙ bound_same (bound_view table k) in
          ap (λ (b : Bool). b || is_bound (bound_view table k) (bounds_view table xs)) same
      by false e later =
          let there = later (second (bound_eq.ghosts.eq k x) (list_any (bound_eq.ghosts.eq k) xs) e h) in
          ap (λ (b : Bool). same_bound (bound_view table k) (bound_view table x) || b) there ∙ or_true (same_bound (bound_view table k) (bound_view table x))

  known : (a b : Bool) → (b ≡ true → a ≡ true) → a ≡ (a || (b || false))
  known true b f = refl
  known false true f = f refl
  known false false f = refl

  pub binds_key : (ks : List Bound) (k : Bound) (new : List Bound) → new ≡ insert_key bound_eq.ghosts.eq ks k → Binds (bounds_view table ks) (bounds_view table new) (bound_view table k ∷ [])
  binds_key ks k new e = by (list_any (bound_eq.ghosts.eq k) ks) refl
    where
      by : (b : Bool) → list_any (bound_eq.ghosts.eq k) ks ≡ b → Binds (bounds_view table ks) (bounds_view table new) (bound_view table k ∷ [])
      by true h = λ q.
          let same : new ≡ ks = e ∙ rw h refl in
          ap (λ (xs : List Bound). is_bound q (bounds_view table xs)) same
          ∙ known (is_bound q (bounds_view table ks)) (same_bound q (bound_view table k)) (λ m. among_these q (bound_view table k) (bounds_view table ks) m (there_already k ks h))
      by false h = λ q.
          let longer : new ≡ ks ++ k ∷ [] = e ∙ rw h refl in
          ap (λ (xs : List Bound). is_bound q (bounds_view table xs)) longer
          ∙ (ap (λ (xs : List BoundName). is_bound q xs) (map-append (bound_view table) ks (k ∷ []))
          ∙ list_any-append (same_bound q) (bounds_view table ks) (bound_view table k ∷ []))

  held_last : (ks : List Bound) (k : Bound) → AreHeld table ks → IsHeld table k.held → AreHeld table (ks ++ k ∷ [])
  held_last [] k h m = (m, tt)
  held_last (x ∷ xs) k h m = (h.0, held_last xs k h.1 m)

  pub held_key : (ks : List Bound) (k : Bound) (new : List Bound) → new ≡ insert_key bound_eq.ghosts.eq ks k → AreHeld table ks → IsHeld table k.held → AreHeld table new
  held_key ks k new e h m = by (list_any (bound_eq.ghosts.eq k) ks) refl
    where
      by : (b : Bool) → list_any (bound_eq.ghosts.eq k) ks ≡ b → AreHeld table new
      by true t =
          let same : new ≡ ks = e ∙ rw t refl in
          subst (λ (xs : List Bound). AreHeld table xs) (sym same) h
      by false t =
          let longer : new ≡ ks ++ k ∷ [] = e ∙ rw t refl in
          subst (λ (xs : List Bound). AreHeld table xs) (sym longer) (held_last ks k h m)

  pub held_at : (ks : List Bound) (i : ℕ) (k : Bound) → i < length ks → k ≡ get_or ks i k → AreHeld table ks → IsHeld table k.held
  held_at [] i k lt e h = absurd (omega arith)
  held_at (x ∷ xs) zero k lt e h = subst (λ (b : Bound). IsHeld table b.held) (sym e) h.0
  held_at (x ∷ xs) (suc i) k lt e h = held_at xs i k (omega arith) e h.1

  pub one_more_bound : (ks : List Bound) (i : ℕ) (k : Bound) → i < length ks → k ≡ get_or ks i k → bounds_view table (take (i + 1) ks) ≡ bounds_view table (take i ks) ++ bound_view table k ∷ []
  one_more_bound ks i k lt e =
      ap (λ (n : ℕ). bounds_view table (take n ks)) (add-one i)
      ∙ (ap (λ (xs : List Bound). bounds_view table xs) (take-suc ks i k lt)
      ∙ (map-append (bound_view table) (take i ks) (get_or ks i k ∷ []) ∙ ap (λ (x : Bound). bounds_view table (take i ks) ++ bound_view table x ∷ []) (sym e)))

  -- where equal types have one number, the test of what is kept is that of what is bound
  module _ (one : (a b : TyId) → IsOf table a → IsOf table b → table_type table a ≡ table_type table b → a ≡ b) where
    no_array : (t u : MType) (n : ℕ) → is_array t ≡ false → t ≡ ArrayType u n → ⊥
    no_array t u n h e =
        let is : is_array (ArrayType u n) ≡ false = subst (λ (v : MType). is_array v ≡ false) e h in
        cc

    one_held : (t u : TyId) (l k : Option ℕ) → IsOf table t → IsOf table u → IsSplit (table_type table t) l → IsSplit (table_type table u) k →
        with_length (table_type table t) l ≡ with_length (table_type table u) k → (t ≡ u) × (l ≡ k)
    one_held t u None None a b h g e = (one t u a b e, refl)
    one_held t u None (Some n) a b h g e = absurd (no_array (table_type table t) (table_type table u) n h e)
    one_held t u (Some n) None a b h g e = absurd (no_array (table_type table u) (table_type table t) n g (sym e))
    one_held t u (Some n) (Some m) a b h g e =
        let types : table_type table t ≡ table_type table u = cc in
        let lengths : n ≡ m = cc in
        (one t u a b types, ap (λ (k : ℕ). Some k) lengths)

    view_equal : (a b : Bound) → IsHeld table a.held → IsHeld table b.held → bound_view table a ≡ bound_view table b → bound_eq.ghosts.eq a b ≡ true
    view_equal a b h g e =
        let types : held_type table a.held ≡ held_type table b.held = ap (λ (x : BoundName). x.type) e in
        let held = one_held a.held.ty b.held.ty a.held.length b.held.length h.0 g.0 h.1 g.1 types in
        let same : a.held ≡ b.held = ap (λ (t : TyId). record { ty = t; length = a.held.length }) held.0 ∙ ap (λ (l : Option ℕ). record { ty = b.held.ty; length = l }) held.1 in
        equal_by a b (ap (λ (x : BoundName). x.name) e) same (ap (λ (x : BoundName). x.mode) e)

    equal_is : (a b : Bound) → IsHeld table a.held → IsHeld table b.held → bound_eq.ghosts.eq a b ≡ same_bound (bound_view table a) (bound_view table b)
    equal_is a b h g =
        same_tests (bound_eq.ghosts.eq a b) (same_bound (bound_view table a) (bound_view table b))
        (λ e. ap (λ (x : BoundName). same_bound (bound_view table a) x) (sym (equal_views a b e)) ∙ bound_same (bound_view table a))
        (λ e. view_equal a b h g (bounds_are_one (bound_view table a) (bound_view table b) e))

    any_is : (a : Bound) (ys : List Bound) → IsHeld table a.held → AreHeld table ys → members.is_among bound_eq.ghosts.eq a ys ≡ is_bound (bound_view table a) (bounds_view table ys)
    any_is a [] h g = refl
    any_is a (y ∷ ys) h g =
        ap (λ (t : Bool). t || members.is_among bound_eq.ghosts.eq a ys) (equal_is a y h g.0)
        ∙ ap (λ (t : Bool). same_bound (bound_view table a) (bound_view table y) || t) (any_is a ys h g.1)

    all_is : (xs ys : List Bound) → AreHeld table xs → AreHeld table ys → members.are_among bound_eq.ghosts.eq xs ys ≡ are_among (bounds_view table xs) (bounds_view table ys)
    all_is [] ys h g = refl
    all_is (x ∷ xs) ys h g =
        ap (λ (t : Bool). t && members.are_among bound_eq.ghosts.eq xs ys) (any_is x ys h.0 g)
        ∙ ap (λ (t : Bool). is_bound (bound_view table x) (bounds_view table ys) && t) (all_is xs ys h.1 g)

    pub alike_is : (xs ys : List Bound) → AreHeld table xs → AreHeld table ys → members.have_same_members bound_eq.ghosts.eq xs ys
        ≡ (are_among (bounds_view table xs) (bounds_view table ys) && are_among (bounds_view table ys) (bounds_view table xs))
    alike_is xs ys h g =
        ap (λ (t : Bool). t && members.are_among bound_eq.ghosts.eq ys xs) (all_is xs ys h g)
        ∙ ap (λ (t : Bool). are_among (bounds_view table xs) (bounds_view table ys) && t) (all_is ys xs g h)

-- what was added in turn
pub binds_none : (a : List BoundName) → Binds a a []
binds_none a q = or_false (is_bound q a)

pub binds_both : (a b c xs ys : List BoundName) → Binds a b xs → Binds b c ys → Binds a c (xs ++ ys)
binds_both a b c xs ys f g q =
    g q
    ∙ (ap (λ (t : Bool). t || is_bound q ys) (f q)
    ∙ (or_both (is_bound q a) (is_bound q xs) (is_bound q ys) ∙ ap (λ (t : Bool). is_bound q a || t) (sym (list_any-append (same_bound q) xs ys))))

-- what is added has these members
pub binds_like : (old new xs ys : List BoundName) → Binds old new xs → ((q : BoundName) → is_bound q xs ≡ is_bound q ys) → Binds old new ys
binds_like old new xs ys f g q = f q ∙ ap (λ (t : Bool). is_bound q old || t) (g q)

pub bound_append : (q : BoundName) (xs ys : List BoundName) → is_bound q (xs ++ ys) ≡ (is_bound q xs || is_bound q ys)
bound_append q xs ys = list_any-append (same_bound q) xs ys

-- a name that is written with `ref`, `mut` or `@` binds as it is written
pub written_bound : (name : List ℕ) (by_ref mutable : Bool) (sub : Option PatternTree) (s : Setting) (at : ℕ) (st : Standing) (p : Place) (before : List (List ℕ)) →
    bound_list (bound_by s (node_at at (bind_shape name by_ref mutable sub) st p before)) ≡ record { name = name; type = p.type; mode = mode_written to_move (written by_ref mutable) p.mode } ∷ []
written_bound name by_ref mutable None s at st p before = refl
written_bound name by_ref mutable (Some q) s at st p before = refl
