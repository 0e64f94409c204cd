-- The stacks ascend.
use Rattle.std.proofs.Common.{◌≡◌, ◌≤◌, ℕ, ◌+◌, Bool, List, [], ◌∷◌, ◌++◌, map, take, drop, length, IsTrue, ap, subst, ◌∙◌, arith, length-append, length-take-le}
use Rattle.std.specs.List.{flat_map}
use Rattle.match_model.specs.Values.{MValue}
use Rattle.match_model.specs.Constructors.{MCtor, belongs}
use Rattle.match_model.specs.Contexts.{Context, Open}
use Rattle.match_model.specs.ContextLaws.{PartsLaw, ValuesLaw}
use Rattle.match_model.specs.Matrices.{column_at}
use Rattle.match_model.specs.Rows.{Head, expand_row, row_rest, column_of, all_specialised, parts_open, part_open}
use Rattle.match_model.specs.Witness.{MWitness, AnyOf}
use Rattle.match_model.specs.WitnessList.{Witnesses, taken, covered, no_row, anything, by_pieces, PieceWitnesses, no_piece, with_value, without_value, wrapped, named_in}
use Rattle.match_model.specs.WitnessOrder.{Before, and_then}
use Rattle.constructor_sets.specs.InOrder.{IsBeforeEach, AreInOrder}
use Rattle.constructor_sets.proofs.InOrder.{in_order_of}
use Rattle.constructor_sets.proofs.Whole.{made_pieces}
use Rattle.pattern_matrix.specs.HeadRows.{AreTypes}
use Rattle.pattern_matrix.proofs.SpecialTyped.{AllTyped}
use Rattle.pattern_matrix.proofs.Made.{AreMadeRows, expand_made, rests_made, column_made, special_made}
use Rattle.pattern_matrix.proofs.Places.{cols, length-below, rests_typed, expanded_typed, expanded_none, heads_good, specials_typed, specials_types}
use Rattle.pattern_matrix.proofs.Exact.{AreLong, long_stacks, AreAllSided, all_sided, not_wild}
use Rattle.pattern_matrix.proofs.Comparing.{compare_stacks, split_compare, IsPieceBefore, IsPieceSame, piece_same, piece_before}

-- each is after the stack, and each after those before it
abbrev pub AreAfter : List MWitness → List (List MWitness) → Type 0
AreAfter w [] = Unit {0}
AreAfter w (u ∷ us) = (compare_stacks w u ≡ Before) × AreAfter w us

abbrev pub DoAscend : List (List MWitness) → Type 0
DoAscend [] = Unit {0}
DoAscend (w ∷ ws) = AreAfter w ws × DoAscend ws

after-append : (w : List MWitness) (us xs : List (List MWitness)) → AreAfter w us → AreAfter w xs →
    AreAfter w (us ++ xs)
after-append w [] xs h k = k
after-append w (u ∷ us) xs h k = (h.0, after-append w us xs h.1 k)

any_after : (w : List MWitness) (us : List (List MWitness)) → AreAfter w us →
    AreAfter (AnyOf ∷ w) (map (λ u. AnyOf ∷ u) us)
any_after w [] h = tt
any_after w (u ∷ us) h = (h.0, any_after w us h.1)

pub any_ascend : (ws : List (List MWitness)) → DoAscend ws → DoAscend (map (λ u. AnyOf ∷ u) ws)
any_ascend [] h = tt
any_ascend (w ∷ ws) h = (any_after w ws h.0, any_ascend ws h.1)

wrapped_after : (named : List (List ℕ)) (p : MCtor) (n m : ℕ) → IsPieceSame named p n → (w : List MWitness) →
    length w ≡ n + m → (us : List (List MWitness)) → AreLong (n + m) us → AreAfter w us →
    AreAfter (wrapped p named n w) (map (wrapped p named n) us)
wrapped_after named p n m s w l [] k h = tt
wrapped_after named p n m s w l (u ∷ us) k h =
    let a : length (take n w) ≡ n = length-take-le n w (omega (arith, l)) in
    let e = k.0 in
    let b : length (take n u) ≡ n = length-take-le n u (omega (arith, e)) in
    (ap (λ c. and_then c (compare_stacks (drop n w) (drop n u))) (s (take n w) (take n u) a b) ∙ split_compare n w u ∙ h.0, wrapped_after named p n m s w l us k.1 h.1)

wrapped_ascend : (named : List (List ℕ)) (p : MCtor) (n m : ℕ) → IsPieceSame named p n →
    (ws : List (List MWitness)) → AreLong (n + m) ws → DoAscend ws → DoAscend (map (wrapped p named n) ws)
wrapped_ascend named p n m s [] k h = tt
wrapped_ascend named p n m s (w ∷ ws) k h =
    (wrapped_after named p n m s w k.0 ws k.1 h.0, wrapped_ascend named p n m s ws k.1 h.1)

other_after : (named : List (List ℕ)) (p q : MCtor) (n m k : ℕ) → IsPieceBefore named p n q m → (w : List MWitness) →
    n ≤ length w → (us : List (List MWitness)) → AreLong (m + k) us →
    AreAfter (wrapped p named n w) (map (wrapped q named m) us)
other_after named p q n m k s w l [] h = tt
other_after named p q n m k s w l (u ∷ us) h =
    let e = h.0 in
    let b : length (take m u) ≡ m = length-take-le m u (omega (arith, e)) in
    (ap (λ c. and_then c (compare_stacks (drop n w) (drop m u))) (s (take n w) (take m u) (length-take-le n w l) b), other_after named p q n m k s w l us h.1)

module _ {T : Type 0} (IsType : T → Type 0) (IsValue : T → Bool → MValue → Type 0) (cx : Context T) (values : ValuesLaw IsType IsValue cx) (law : PartsLaw IsType IsValue cx) where
  -- the piece is before each of these
  abbrev pub IsBeforeAll : (named : List (List ℕ)) → Open T → MCtor → List MCtor → Type 0
  IsBeforeAll named o p [] = Unit {0}
  IsBeforeAll named o p (q ∷ rest) =
      IsPieceBefore named p (cx.arity p o.type) q (cx.arity q o.type) × IsBeforeAll named o p rest

  -- the pieces ascend
  abbrev pub DoPiecesAscend : (named : List (List ℕ)) → Open T → List MCtor → Type 0
  DoPiecesAscend named o [] = Unit {0}
  DoPiecesAscend named o (p ∷ rest) =
      IsPieceSame named p (cx.arity p o.type) × IsBeforeAll named o p rest × DoPiecesAscend named o rest

  -- pieces that stand in order ascend
  before_all : (named : List (List ℕ)) (o : Open T) (p : MCtor) (pieces : List MCtor) → IsType o.type →
      IsTrue (belongs (cx.set_of o.type) p) → (hss : List (List (Head T))) →
      AreAllSided IsType IsValue cx values law o named hss pieces →
      IsBeforeEach p pieces → IsBeforeAll named o p pieces
  before_all named o p [] d b hss s h = tt
  before_all named o p (q ∷ pieces) d b hss s h =
      (piece_before named p q (cx.arity p o.type) (cx.arity q o.type) h.0 (law.arity o.type p d b) (law.arity o.type q d s.0.0), before_all named o p pieces d b hss s.1 h.1)

  pieces_do : (named : List (List ℕ)) (o : Open T) (pieces : List MCtor) → IsType o.type →
      (hss : List (List (Head T))) → AreAllSided IsType IsValue cx values law o named hss pieces →
      AreInOrder pieces → DoPiecesAscend named o pieces
  pieces_do named o [] d hss s h = tt
  pieces_do named o (p ∷ pieces) d hss s h = (
    piece_same named p (cx.arity p o.type) (not_wild IsType IsValue cx values law (cx.set_of o.type) p s.0.0) (law.arity o.type p d s.0.0),
    before_all named o p pieces d s.0.0 hss s.1 h.0,
    pieces_do named o pieces d hss s.1 h.1,
  )

  long_parts : (q : Open T) (places : List (Open T)) (p : MCtor) (rows : List (List (Head T))) (xs : List (List MWitness)) →
      Witnesses cx IsValue (parts_open cx q p ++ places) (all_specialised p (cx.arity p q.type) rows) xs →
      AreLong (cx.arity p q.type + length places) xs
  long_parts q places p rows xs k =
      subst (λ i. AreLong i xs) (length-append (parts_open cx q p) places ∙ ap (λ i. i + length places) (length-below (part_open cx q p) (cx.arity p q.type)))
      (long_stacks IsType IsValue cx values law (parts_open cx q p ++ places) (all_specialised p (cx.arity p q.type) rows) xs k)

  rest_after : (named : List (List ℕ)) (o : Open T) (places : List (Open T)) (hss : List (List (Head T)))
      (pieces : List MCtor) (ws : List (List MWitness)) →
      PieceWitnesses cx IsValue named o places hss pieces ws →
      (p : MCtor) → IsBeforeAll named o p pieces → (w : List MWitness) → cx.arity p o.type ≤ length w → AreAfter (wrapped p named (cx.arity p o.type) w) ws
  rest_after named o places hss pieces ws (no_piece m q ps rows) p b w l = tt
  rest_after named o places hss pieces ws (with_value m q ps rows r rest xs us v k d) p b w l =
      after-append (wrapped p m (cx.arity p q.type) w) (map (wrapped r m (cx.arity r q.type)) xs) us
      (other_after m p r (cx.arity p q.type) (cx.arity r q.type) (length ps) b.0 w l xs (long_parts q ps r rows xs k)) (rest_after m q ps rows rest us d p b.1 w l)
  rest_after named o places hss pieces ws (without_value m q ps rows r rest us v d) p b w l =
      rest_after m q ps rows rest us d p b.1 w l

  joined : (named : List (List ℕ)) (o : Open T) (n m : ℕ) (p : MCtor) (xs us : List (List MWitness)) →
      AreLong (n + m) xs → DoAscend (map (wrapped p named n) xs) → DoAscend us →
      ((w : List MWitness) → n ≤ length w → AreAfter (wrapped p named n w) us) → DoAscend (map (wrapped p named n) xs ++ us)
  joined named o n m p [] us l h k f = k
  joined named o n m p (x ∷ xs) us l h k f =
      let e = l.0 in
      (after-append (wrapped p named n x) (map (wrapped p named n) xs) us h.0 (f x (omega (arith, e))), joined named o n m p xs us l.1 h.1 k f)

  mutual
    pub stacks_ascend : (places : List (Open T)) (hss : List (List (Head T))) (ws : List (List MWitness)) →
        Witnesses cx IsValue places hss ws → AreTypes IsType (cols places) → AllTyped cx (cols places) hss →
        AreMadeRows hss → DoAscend ws
    stacks_ascend places hss ws (taken row rows) d h g = tt
    stacks_ascend places hss ws (covered ps rows e) d h g = tt
    stacks_ascend places hss ws (no_row ps) d h g = (tt, tt)
    stacks_ascend places hss ws (anything o ps row rows xs e k) d h g =
        let hs = flat_map expand_row (row ∷ rows) in
        let t = expanded_typed cx (column_at [] o) (cols ps) (row ∷ rows) h in
        any_ascend xs (stacks_ascend ps (map row_rest hs) xs k d.1 (rests_typed cx (column_at [] o) (cols ps) hs t) (rests_made hs (expand_made (row ∷ rows) g)))
    stacks_ascend places hss ws (by_pieces o ps row rows pieces xs e p k) d h g =
        let hs = flat_map expand_row (row ∷ rows) in
        let t = expanded_typed cx (column_at [] o) (cols ps) (row ∷ rows) h in
        let mh = expand_made (row ∷ rows) g in
        let n = expanded_none cx (column_at [] o) (cols ps) (row ∷ rows) h in
        let c = made_pieces (cx.set_of o.type) (column_of hs) pieces (values.made o.type d.0) (values.ascend o.type d.0) (heads_good cx (column_at [] o) (cols ps) hs t n) (column_made hs mh) p in
        let s = all_sided IsType IsValue cx values law o ps (named_in pieces) hs pieces d.0 t n c.belong c.one_sided c.room in
        pieces_ascend (named_in pieces) o ps hs pieces xs k d t mh s (pieces_do (named_in pieces) o pieces d.0 hs s (in_order_of (cx.set_of o.type) (column_of hs) pieces (values.made o.type d.0) (values.ascend o.type d.0) p))

    pieces_ascend : (named : List (List ℕ)) (o : Open T) (places : List (Open T)) (hss : List (List (Head T)))
        (pieces : List MCtor) (ws : List (List MWitness)) →
        PieceWitnesses cx IsValue named o places hss pieces ws →
        AreTypes IsType (cols (o ∷ places)) → AllTyped cx (cols (o ∷ places)) hss → AreMadeRows hss → AreAllSided IsType IsValue cx values law o named hss pieces → DoPiecesAscend named o pieces → DoAscend ws
    pieces_ascend named o places hss pieces ws (no_piece m q ps rows) d h g r a = tt
    pieces_ascend named o places hss pieces ws (with_value m q ps rows p rest xs us v k y) d h g r (s, b, a) =
        let n = cx.arity p q.type in
        joined m q n (length ps) p xs us (long_parts q ps p rows xs k)
        (wrapped_ascend m p n (length ps) s xs (long_parts q ps p rows xs k)
        (stacks_ascend (parts_open cx q p ++ ps) (all_specialised p n rows) xs k (specials_types IsType IsValue cx law q ps p r.0.0 d) (specials_typed IsType IsValue cx law q ps p rows d.0 r.0.0 h) (special_made p n rows g)))
        (pieces_ascend m q ps rows rest us y d h g r.1 a) (λ w l. rest_after m q ps rows rest us y p b w l)
    pieces_ascend named o places hss pieces ws (without_value m q ps rows p rest us v y) d h g r (s, b, a) =
        pieces_ascend m q ps rows rest us y d h g r.1 a
