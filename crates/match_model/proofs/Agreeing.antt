-- The two readings of `&` and `mut` agree where the mode there is a move.
use Rattle.std.proofs.Common.{◌≡◌, ℕ, zero, suc, ◌+◌, ◌-◌, Bool, true, false, ◌&&◌, List, [], ◌∷◌, ◌++◌, map, length, replicate, nat_eq, if◌then◌else◌, refl, ap}
use Rattle.match_model.specs.declared.Mode.{Mode}
use Rattle.match_model.specs.declared.Mode.TheVariants.{Move, Ref, RefMut}
use Rattle.match_model.specs.Values.{MValue, Flag, Num, Text, Node, Point, Row, Thing, Later, Unseen, values_list}
use Rattle.match_model.specs.Patterns.{Written, WrittenPlain, WrittenMut, WrittenRef, WrittenRefMut, MRest, NoRest, SomeRest, BoundRest, MPat, WildPat, NumPat, FlagPat, TextPat, SpanPat, BindPat, FormPat, ListPat, PointPat, OrPat, MPats, no_pats, more_pats, MNumbered, no_numbered, more_numbered, numbers_in}
use Rattle.match_model.specs.Ways.{Way, under, binding}
use Rattle.match_model.specs.Matching.{Matcher, wild, mode_written, mode_behind, through_points, parts_ways, are_parts, form_ways, items_ways, laid_out, middle_of, bind_rest, list_items_ways, list_ways, point_ways, ways_by, matchers, field_ways, alternatives_ways, to_move}
use Rattle.match_model.specs.Readings.{Test, passes, is_move, move_if_mut, move_if_rest_mut, test_through, test_parts, test_form, test_items, test_row, test_list, test_inside, moves_at, items_move, field_moves, alternatives_move}
use Rattle.match_model.proofs.Basics.{both}

-- where the test passes, both matchers give the same
abbrev Same : Test → Matcher → Matcher → Type 0
Same t f g = (v : MValue) → t v ≡ true → f v ≡ g v

through_same : (t : Mode → Test) (f g : Mode → Matcher) → ((m : Mode) → Same (t m) (f m) (g m)) →
    (m : Mode) (v : MValue) → test_through t m v ≡ true → through_points f m v ≡ through_points g m v
through_same t f g same m (Point mutable w) h = ap (map (under 0)) (through_same t f g same (mode_behind mutable m) w h)
through_same t f g same m (Flag b) h = same m (Flag b) h
through_same t f g same m (Num n) h = same m (Num n) h
through_same t f g same m (Text u) h = same m (Text u) h
through_same t f g same m (Node k parts) h = same m (Node k parts) h
through_same t f g same m (Row items) h = same m (Row items) h
through_same t f g same m Thing h = same m Thing h
through_same t f g same m Later h = same m Later h
through_same t f g same m Unseen h = same m Unseen h

parts_same : (t : ℕ → Test) (f g : ℕ → Matcher) → ((i : ℕ) → Same (t i) (f i) (g i)) →
    (i : ℕ) (vs : List MValue) → test_parts t i vs ≡ true → parts_ways f i vs ≡ parts_ways g i vs
parts_same t f g same i [] h = refl
parts_same t f g same i (v ∷ vs) h =
    let b = both (t i v) (test_parts t (suc i) vs) h in
    rw (same i v b.0, parts_same t f g same (suc i) vs b.1) refl

form_same : (k : ℕ) (is : List ℕ) (t : ℕ → Test) (f g : ℕ → Matcher) → ((i : ℕ) → Same (t i) (f i) (g i)) → Same (test_form k t) (form_ways k is f) (form_ways k is g)
form_same k is t f g same (Node j parts) h =
    elim (nat_eq k j) as
    (λ b. (if b then test_parts t 0 (values_list parts) else true) ≡ true →
    (if b && are_parts is (length (values_list parts)) then parts_ways f 0 (values_list parts) else []) ≡ (if b && are_parts is (length (values_list parts)) then parts_ways g 0 (values_list parts) else []))
    [ true ↦ (λ e. ap (λ ws. if are_parts is (length (values_list parts)) then ws else []) (parts_same t f g same 0 (values_list parts) e)) | false ↦ (λ e. refl) ] h
form_same k is t f g same (Flag b) h = refl
form_same k is t f g same (Num n) h = refl
form_same k is t f g same (Text u) h = refl
form_same k is t f g same (Point m v) h = refl
form_same k is t f g same (Row items) h = refl
form_same k is t f g same Thing h = refl
form_same k is t f g same Later h = refl
form_same k is t f g same Unseen h = refl

-- the same of lists, one by one
data AllSame : List Test → List Matcher → List Matcher → Type 0 where
  no_more : AllSame [] [] []
  one_more : (t : Test) (f g : Matcher) (ts : List Test) (fs gs : List Matcher) → Same t f g → AllSame ts fs gs →
      AllSame (t ∷ ts) (f ∷ fs) (g ∷ gs)

same-append : (ts us : List Test) (fs gs hs ks : List Matcher) → AllSame ts fs gs → AllSame us hs ks →
    AllSame (ts ++ us) (fs ++ hs) (gs ++ ks)
same-append _ us _ _ hs ks no_more b = b
same-append _ us _ _ hs ks (one_more t f g ts fs gs s r) b =
    one_more t f g (ts ++ us) (fs ++ hs) (gs ++ ks) s (same-append ts us fs gs hs ks r b)

same-wild : (n : ℕ) → AllSame (replicate n passes) (replicate n wild) (replicate n wild)
same-wild zero = no_more
same-wild (suc n) = one_more passes wild wild _ _ _ (λ v h. refl) (same-wild n)

same-length : (ts : List Test) (fs gs : List Matcher) → AllSame ts fs gs → (length fs ≡ length gs) × (length ts ≡ length gs)
same-length _ _ _ no_more = (refl, refl)
same-length _ _ _ (one_more t f g ts fs gs s r) =
    let l = same-length ts fs gs r in (ap suc l.0, ap suc l.1)

filled : (n k j : ℕ) → k ≡ n → j ≡ n → AllSame (replicate k passes) (replicate j wild) (replicate n wild)
filled n k j e d = rw (e, d) (same-wild n)

-- laid out over a length, they stay the same
laid_out-same : (ts us : List Test) (fs gs hs ks : List Matcher) → AllSame ts fs gs → AllSame us hs ks → (rest : MRest) (len : ℕ) →
    AllSame (laid_out passes ts rest us len) (laid_out wild fs rest hs len) (laid_out wild gs rest ks len)
laid_out-same ts us fs gs hs ks a b NoRest len = same-append ts us fs gs hs ks a b
laid_out-same ts us fs gs hs ks a b SomeRest len =
    let l = same-length ts fs gs a in
    let r = same-length us hs ks b in
    same-append ts _ fs gs _ _ a (same-append _ us _ _ hs ks
    (filled (len - (length gs + length ks)) (len - (length ts + length us)) (len - (length fs + length hs)) (rw (l.1, r.1) refl) (rw (l.0, r.0) refl)) b)
laid_out-same ts us fs gs hs ks a b (BoundRest name written) len =
    let l = same-length ts fs gs a in
    let r = same-length us hs ks b in
    same-append ts _ fs gs _ _ a (same-append _ us _ _ hs ks
    (filled (len - (length gs + length ks)) (len - (length ts + length us)) (len - (length fs + length hs)) (rw (l.1, r.1) refl) (rw (l.0, r.0) refl)) b)

items_same : (ts : List Test) (fs gs : List Matcher) → AllSame ts fs gs → (i : ℕ) (vs : List MValue) → test_items ts vs ≡ true →
    items_ways fs i vs ≡ items_ways gs i vs
items_same _ _ _ no_more i [] h = refl
items_same _ _ _ no_more i (v ∷ vs) h = refl
items_same _ _ _ (one_more t f g ts fs gs s r) i [] h = refl
items_same _ _ _ (one_more t f g ts fs gs s r) i (v ∷ vs) h =
    let b = both (t v) (test_items ts vs) h in
    rw (s v b.0, items_same ts fs gs r (suc i) vs b.1) refl

module _ (back : Mode → Mode) (fixed : back Move ≡ Move) where
  mode_same : (w : Written) (m : Mode) → move_if_mut w m ≡ true → mode_written back w m ≡ mode_written to_move w m
  mode_same WrittenPlain m h = refl
  mode_same WrittenMut Move h = fixed
  mode_same WrittenMut Ref h = cc
  mode_same WrittenMut RefMut h = cc
  mode_same WrittenRef m h = refl
  mode_same WrittenRefMut m h = refl

  rest_same : (rest : MRest) (m : Mode) (middle : MValue) (ws : List Way) → move_if_rest_mut rest m ≡ true →
      map (bind_rest back rest m middle) ws ≡ map (bind_rest to_move rest m middle) ws
  rest_same NoRest m middle ws h = refl
  rest_same SomeRest m middle ws h = refl
  rest_same (BoundRest name written) m middle ws h = ap (λ n. map (binding name n middle) ws) (mode_same written m h)

  rows_same : (ts us : List Test) (fs gs hs ks : List Matcher) → AllSame ts fs gs → AllSame us hs ks → (rest : MRest) (m : Mode) (items : List MValue) →
      test_row ts rest us m items ≡ true → list_items_ways back fs rest hs m items ≡ list_items_ways to_move gs rest ks m items
  rows_same ts us fs gs hs ks a b rest m items h =
      let t = both (move_if_rest_mut rest m) (test_items (laid_out passes ts rest us (length items)) items) h in
      let l = same-length ts fs gs a in
      let r = same-length us hs ks b in
      rw (items_same _ _ _ (laid_out-same ts us fs gs hs ks a b rest (length items)) 0 items t.1, l.0, r.0)
      (rest_same rest m (middle_of (length gs) (length ks) items) (items_ways (laid_out wild gs rest ks (length items)) 0 items) t.0)

  list_same : (ts us : List Test) (fs gs hs ks : List Matcher) → AllSame ts fs gs → AllSame us hs ks → (rest : MRest) (m : Mode) →
      Same (test_list ts rest us m) (list_ways back fs rest hs m) (list_ways to_move gs rest ks m)
  list_same ts us fs gs hs ks a b rest m (Node k parts) h = rows_same ts us fs gs hs ks a b rest m (values_list parts) h
  list_same ts us fs gs hs ks a b rest m (Row items) h = rows_same ts us fs gs hs ks a b rest m (values_list items) h
  list_same ts us fs gs hs ks a b rest m (Flag c) h = refl
  list_same ts us fs gs hs ks a b rest m (Num n) h = refl
  list_same ts us fs gs hs ks a b rest m (Text u) h = refl
  list_same ts us fs gs hs ks a b rest m (Point n v) h = refl
  list_same ts us fs gs hs ks a b rest m Thing h = refl
  list_same ts us fs gs hs ks a b rest m Later h = refl
  list_same ts us fs gs hs ks a b rest m Unseen h = refl

  point_same : (mutable : Bool) (t : Test) (f g : Matcher) → Same t f g → Same (test_inside t) (point_ways mutable f) (point_ways mutable g)
  point_same true t f g s (Point true w) h = ap (map (under 0)) (s w h)
  point_same false t f g s (Point false w) h = ap (map (under 0)) (s w h)
  point_same true t f g s (Point false w) h = refl
  point_same false t f g s (Point true w) h = refl
  point_same true t f g s (Flag c) h = refl
  point_same true t f g s (Num n) h = refl
  point_same true t f g s (Text u) h = refl
  point_same true t f g s (Node k parts) h = refl
  point_same true t f g s (Row items) h = refl
  point_same true t f g s Thing h = refl
  point_same true t f g s Later h = refl
  point_same true t f g s Unseen h = refl
  point_same false t f g s (Flag c) h = refl
  point_same false t f g s (Num n) h = refl
  point_same false t f g s (Text u) h = refl
  point_same false t f g s (Node k parts) h = refl
  point_same false t f g s (Row items) h = refl
  point_same false t f g s Thing h = refl
  point_same false t f g s Later h = refl
  point_same false t f g s Unseen h = refl

  at_move : (m : Mode) → is_move m ≡ true → m ≡ Move
  at_move Move h = refl
  at_move Ref h = cc
  at_move RefMut h = cc

  either : (b s t : Bool) (xs ys us vs : List Way) → (s ≡ true → xs ≡ ys) → (t ≡ true → us ≡ vs) →
      (if b then s else t) ≡ true → (if b then xs else us) ≡ (if b then ys else vs)
  either true s t xs ys us vs f g h = f h
  either false s t xs ys us vs f g h = g h

  mutual
    pub agree : (p : MPat) (m : Mode) (v : MValue) → moves_at p m v ≡ true → ways_by back p m v ≡ ways_by to_move p m v
    agree WildPat m v h = refl
    agree (NumPat n) m v h = refl
    agree (FlagPat b) m v h = refl
    agree (TextPat t) m v h = refl
    agree (SpanPat at r) m v h = refl
    agree (BindPat name written p) m v h =
        let b = both (move_if_mut written m) (moves_at p m v) h in
        rw (agree p m v b.1, mode_same written m b.0) refl
    agree (FormPat k fields) m v h =
        through_same (λ m' w. test_form k (λ i u. field_moves fields m' i u) w)
        (λ m' w. form_ways k (numbers_in fields) (λ i u. field_ways back fields m' i u) w)
        (λ m' w. form_ways k (numbers_in fields) (λ i u. field_ways to_move fields m' i u) w)
        (λ m' w. form_same k (numbers_in fields) (λ i u. field_moves fields m' i u) (λ i u. field_ways back fields m' i u) (λ i u. field_ways to_move fields m' i u) (λ i u. field_agrees fields m' i u) w)
        m v h
    agree (ListPat front rest tail) m v h =
        through_same (λ m' w. test_list (items_move front m') rest (items_move tail m') m' w)
        (λ m' w. list_ways back (matchers back front m') rest (matchers back tail m') m' w)
        (λ m' w. list_ways to_move (matchers to_move front m') rest (matchers to_move tail m') m' w)
        (λ m' w. list_same (items_move front m') (items_move tail m') (matchers back front m') (matchers to_move front m') (matchers back tail m') (matchers to_move tail m') (items_agree front m') (items_agree tail m') rest m' w)
        m v h
    agree (PointPat mutable p) m v h =
        let b = both (is_move m) (test_inside (λ w. moves_at p Move w) v) h in
        rw (at_move m b.0, fixed)
        (point_same mutable (λ w. moves_at p Move w) (λ w. ways_by back p Move w) (λ w. ways_by to_move p Move w) (λ w k. agree p Move w k) v b.1)
    agree (OrPat alternatives) m v h = alternatives_agree alternatives m v h

    items_agree : (ps : MPats) (m : Mode) → AllSame (items_move ps m) (matchers back ps m) (matchers to_move ps m)
    items_agree no_pats m = no_more
    items_agree (more_pats p ps) m =
        one_more (λ v. moves_at p m v) (λ v. ways_by back p m v) (λ v. ways_by to_move p m v) (items_move ps m) (matchers back ps m) (matchers to_move ps m)
        (λ v k. agree p m v k) (items_agree ps m)

    field_agrees : (ps : MNumbered) (m : Mode) (i : ℕ) (v : MValue) → field_moves ps m i v ≡ true → field_ways back ps m i v ≡ field_ways to_move ps m i v
    field_agrees no_numbered m i v h = refl
    field_agrees (more_numbered j p ps) m i v h =
        either (nat_eq i j) (moves_at p m v) (field_moves ps m i v) (ways_by back p m v) (ways_by to_move p m v) (field_ways back ps m i v) (field_ways to_move ps m i v)
        (λ k. agree p m v k) (λ k. field_agrees ps m i v k) h

    alternatives_agree : (ps : MNumbered) (m : Mode) (v : MValue) → alternatives_move ps m v ≡ true →
        alternatives_ways back ps m v ≡ alternatives_ways to_move ps m v
    alternatives_agree no_numbered m v h = refl
    alternatives_agree (more_numbered at p ps) m v h =
        let b = both (moves_at p m v) (alternatives_move ps m v) h in
        rw (agree p m v b.0, alternatives_agree ps m v b.1) refl

pub readings_agree : (back : Mode → Mode) → back Move ≡ Move → (p : MPat) (m : Mode) (v : MValue) → moves_at p m v ≡ true →
    ways_by back p m v ≡ ways_by to_move p m v
readings_agree back fixed = agree back fixed
