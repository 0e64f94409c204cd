-- Each witness of a stack is of the type of its place.
use Rattle.std.proofs.Common.{◌≡◌, ◌≤◌, ℕ, zero, suc, ◌+◌, Bool, true, false, ◌&&◌, ◌||◌, nat_eq, List, [], ◌∷◌, ◌++◌, map, take, drop, replicate, length, refl, sym, ap, subst, ◌∙◌, arith, length-take-le, length-drop}
use Rattle.std.specs.List.{flat_map}
use Rattle.match_model.specs.Values.{MValue}
use Rattle.match_model.specs.Constructors.{MShape, FixedShape, LongerShape, MCtor, SingleCtor, PointCtor, LaterCtor, OtherTextCtor, VariantCtor, FlagCtor, NumbersCtor, TextCtor, RowCtor, WildCtor, OrCtor, least_length, MSet, SingleSet, PointSet, FlagSet, TextSet, OpaqueSet, NothingSet, VariantSet, NumberSet, RowSet, belongs}
use Rattle.match_model.specs.Contexts.{Context, Open}
use Rattle.match_model.specs.ContextLaws.{PartsLaw, ValuesLaw, ArityIs}
use Rattle.match_model.specs.Matrices.{column_at}
use Rattle.match_model.specs.OfType.{node_ctor, has_ctor, witness_is_of, witnesses_are_of}
use Rattle.match_model.specs.Rows.{Head, is_wild_ctor, is_or_ctor, expand_row, row_rest, column_of, all_specialised, parts_open, part_open}
use Rattle.match_model.specs.Witness.{MWitness, AnyOf, witnesses_of, witnesses_list}
use Rattle.match_model.specs.WitnessList.{Witnesses, taken, covered, no_row, anything, by_pieces, PieceWitnesses, no_piece, with_value, without_value, witness_of, slice_witness, wrapped, named_in}
use Rattle.match_model.proofs.Basics.{untrue, nat_itself, and_true, both}
use Rattle.constructor_sets.proofs.Whole.{made_pieces}
use Rattle.pattern_matrix.specs.HeadRows.{AreTypes}
use Rattle.pattern_matrix.proofs.SpecialTyped.{AllTyped}
use Rattle.pat_context.proofs.EachFrom.{each_from, below_from}
use Rattle.pattern_matrix.proofs.Made.{AreMadeRows, expand_made, rests_made, column_made, special_made}
use Rattle.pattern_matrix.proofs.Places.{cols, length-below, rests_typed, expanded_typed, expanded_none, heads_good, specials_typed, specials_types}
use Rattle.pattern_matrix.proofs.Exact.{AreAllSided, all_sided, not_wild}
use Rattle.pattern_matrix.proofs.Wrapping.{as_list}

-- the constructor of a node is the one that the set has

single_node : (s : MSet) → belongs s SingleCtor ≡ true → node_ctor s 0 ≡ SingleCtor
single_node SingleSet h = refl
single_node PointSet h = untrue h
single_node FlagSet h = untrue h
single_node TextSet h = untrue h
single_node OpaqueSet h = untrue h
single_node NothingSet h = untrue h
single_node (VariantSet c l) h = untrue h
single_node (NumberSet a b) h = untrue h
single_node (RowSet l) h = untrue h

variant_node : (s : MSet) (k : ℕ) → belongs s (VariantCtor k) ≡ true → node_ctor s k ≡ VariantCtor k
variant_node (VariantSet c l) k h = refl
variant_node SingleSet k h = untrue h
variant_node PointSet k h = untrue h
variant_node FlagSet k h = untrue h
variant_node TextSet k h = untrue h
variant_node OpaqueSet k h = untrue h
variant_node NothingSet k h = untrue h
variant_node (NumberSet a b) k h = untrue h
variant_node (RowSet l) k h = untrue h

module _ {T : Type 0} (cx : Context T) where
  -- each witness is of the type of its place
  abbrev pub AreOf : List (Open T) → List MWitness → Type 0
  AreOf [] [] = Unit {0}
  AreOf [] (w ∷ ws) = ⊥
  AreOf (o ∷ places) [] = ⊥
  AreOf (o ∷ places) (w ∷ ws) = (witness_is_of cx o.type w ≡ true) × AreOf places ws

  of-split : (ps qs : List (Open T)) (n : ℕ) (ws : List MWitness) → length ps ≡ n → AreOf (ps ++ qs) ws →
      AreOf ps (take n ws) × AreOf qs (drop n ws)
  of-split [] qs zero ws e a = (tt, a)
  of-split [] qs (suc n) ws e a = absurd (omega (arith, e))
  of-split (p ∷ ps) qs zero ws e a = absurd (omega (arith, e))
  of-split (p ∷ ps) qs (suc n) [] e a = absurd a
  of-split (p ∷ ps) qs (suc n) (w ∷ ws) e a = let r = of-split ps qs n ws (omega (arith, e)) a.1 in ((a.0, r.0), r.1)

  to_types : (f : ℕ → Open T) (type_of_part : ℕ → T) → ((i : ℕ) → (f i).type ≡ type_of_part i) →
      (n i : ℕ) (ws : List MWitness) → AreOf (each_from f i n) ws →
      (length ws ≡ n) × (witnesses_are_of cx type_of_part i (witnesses_of ws) ≡ true)
  unfolding each_from
  to_types f type_of_part e zero i [] a = (refl, refl)
  to_types f type_of_part e zero i (w ∷ ws) a = absurd a
  to_types f type_of_part e (suc n) i [] a = absurd a
  to_types f type_of_part e (suc n) i (w ∷ ws) a =
      let r = to_types f type_of_part e n (suc i) ws a.1 in
      (ap suc r.0, and_true (witness_is_of cx (type_of_part i) w) (witnesses_are_of cx type_of_part (suc i) (witnesses_of ws)) (subst (λ t. witness_is_of cx t w ≡ true) (e i) a.0) r.1)

  parts_of_type : (o : Open T) (p : MCtor) (ws : List MWitness) → AreOf (parts_open cx o p) ws →
      (length ws ≡ cx.arity p o.type) × (witnesses_are_of cx (cx.sub p o.type) 0 (witnesses_of ws) ≡ true)
  parts_of_type o p ws a =
      to_types (part_open cx o p) (cx.sub p o.type) (λ i. refl) (cx.arity p o.type) 0 ws (subst (λ places. AreOf places ws) (below_from (part_open cx o p) (cx.arity p o.type)) a)

  -- witnesses in two parts
  cut : (type_of_part : ℕ → T) (k i : ℕ) (ws : List MWitness) → k ≤ length ws →
      witnesses_are_of cx type_of_part i (witnesses_of ws) ≡ true →
      (witnesses_are_of cx type_of_part i (witnesses_of (take k ws)) ≡ true) × (witnesses_are_of cx type_of_part (i + k) (witnesses_of (drop k ws)) ≡ true)
  cut type_of_part zero i ws l h = let e : i + 0 ≡ i = omega arith in (refl, subst (λ j. witnesses_are_of cx type_of_part j (witnesses_of ws) ≡ true) (sym e) h)
  cut type_of_part (suc k) i [] l h = absurd (omega (arith, l))
  cut type_of_part (suc k) i (w ∷ ws) l h =
      let b = both (witness_is_of cx (type_of_part i) w) (witnesses_are_of cx type_of_part (suc i) (witnesses_of ws)) h in
      let r = cut type_of_part k (suc i) ws (omega (arith, l)) b.1 in
      let e : suc i + k ≡ i + suc k = omega arith in
      (and_true (witness_is_of cx (type_of_part i) w) (witnesses_are_of cx type_of_part (suc i) (witnesses_of (take k ws))) b.0 r.0, subst (λ j. witnesses_are_of cx type_of_part j (witnesses_of (drop k ws)) ≡ true) e r.1)

  node_of : (t : T) (c d : MCtor) (ws : List MWitness) → d ≡ c → belongs (cx.set_of t) c ≡ true →
      length ws ≡ cx.arity c t → witnesses_are_of cx (cx.sub c t) 0 (witnesses_of ws) ≡ true →
      (has_ctor cx t d && (nat_eq (length (witnesses_list (witnesses_of ws))) (cx.arity d t) && witnesses_are_of cx (cx.sub d t) 0 (witnesses_of ws))) ≡ true
  node_of t c d ws e b l h =
      subst (λ x. (has_ctor cx t x && (nat_eq (length (witnesses_list (witnesses_of ws))) (cx.arity x t) && witnesses_are_of cx (cx.sub x t) 0 (witnesses_of ws))) ≡ true) (sym e)
      (and_true (has_ctor cx t c) (nat_eq (length (witnesses_list (witnesses_of ws))) (cx.arity c t) && witnesses_are_of cx (cx.sub c t) 0 (witnesses_of ws)) b
      (and_true (nat_eq (length (witnesses_list (witnesses_of ws))) (cx.arity c t)) (witnesses_are_of cx (cx.sub c t) 0 (witnesses_of ws))
      (ap (λ xs. nat_eq (length xs) (cx.arity c t)) (as_list ws) ∙ ap (λ n. nat_eq n (cx.arity c t)) l ∙ nat_itself (cx.arity c t)) h))

  row_of : (t : T) (s : MShape) (ws : List MWitness) → belongs (cx.set_of t) (RowCtor s) ≡ true →
      length ws ≡ least_length s → witnesses_are_of cx (cx.sub (RowCtor s) t) 0 (witnesses_of ws) ≡ true →
      witness_is_of cx t (slice_witness s ws) ≡ true
  row_of t (FixedShape m) ws b l h =
      let e : length (witnesses_list (witnesses_of ws)) + 0 ≡ m = let x : length (witnesses_list (witnesses_of ws)) ≡ length ws = ap length (as_list ws) in omega (arith, x, l) in
      subst (λ k. (has_ctor cx t (RowCtor (FixedShape k)) && true && (witnesses_are_of cx (cx.sub (RowCtor (FixedShape k)) t) 0 (witnesses_of ws) && true)) ≡ true) (sym e)
      (and_true (has_ctor cx t (RowCtor (FixedShape m)) && true) (witnesses_are_of cx (cx.sub (RowCtor (FixedShape m)) t) 0 (witnesses_of ws) && true)
      (and_true (has_ctor cx t (RowCtor (FixedShape m))) true b refl) (and_true (witnesses_are_of cx (cx.sub (RowCtor (FixedShape m)) t) 0 (witnesses_of ws)) true h refl))
  row_of t (LongerShape f g) ws b l h =
      let x : length (witnesses_list (witnesses_of (take f ws))) ≡ f = ap length (as_list (take f ws)) ∙ length-take-le f ws (omega (arith, l)) in
      let d = length-drop f ws in
      let y : length (witnesses_list (witnesses_of (drop f ws))) ≡ g = ap length (as_list (drop f ws)) ∙ omega (arith, d, l) in
      let r = cut (cx.sub (RowCtor (LongerShape f g)) t) f 0 ws (omega (arith, l)) h in
      let z : 0 + f ≡ f = omega arith in
      let back = subst (λ j. witnesses_are_of cx (cx.sub (RowCtor (LongerShape f g)) t) j (witnesses_of (drop f ws)) ≡ true) z r.1 in
      subst
      (λ i. (has_ctor cx t (RowCtor (LongerShape i (length (witnesses_list (witnesses_of (drop f ws)))))) && true
      && (witnesses_are_of cx (cx.sub (RowCtor (LongerShape i (length (witnesses_list (witnesses_of (drop f ws)))))) t) 0 (witnesses_of (take f ws))
      && witnesses_are_of cx (cx.sub (RowCtor (LongerShape i (length (witnesses_list (witnesses_of (drop f ws)))))) t) i (witnesses_of (drop f ws)))) ≡ true) (sym x)
      (subst
      (λ j. (has_ctor cx t (RowCtor (LongerShape f j)) && true && (witnesses_are_of cx (cx.sub (RowCtor (LongerShape f j)) t) 0 (witnesses_of (take f ws)) && witnesses_are_of cx (cx.sub (RowCtor (LongerShape f j)) t) f (witnesses_of (drop f ws)))) ≡ true)
      (sym y)
      (and_true (has_ctor cx t (RowCtor (LongerShape f g)) && true) (witnesses_are_of cx (cx.sub (RowCtor (LongerShape f g)) t) 0 (witnesses_of (take f ws)) && witnesses_are_of cx (cx.sub (RowCtor (LongerShape f g)) t) f (witnesses_of (drop f ws)))
      (and_true (has_ctor cx t (RowCtor (LongerShape f g))) true b refl) (and_true (witnesses_are_of cx (cx.sub (RowCtor (LongerShape f g)) t) 0 (witnesses_of (take f ws))) (witnesses_are_of cx (cx.sub (RowCtor (LongerShape f g)) t) f (witnesses_of (drop f ws))) r.0 back)))

  -- the witness of a piece, from witnesses of its parts
  piece_of : (t : T) (p : MCtor) (named : List (List ℕ)) (ws : List MWitness) →
      (is_wild_ctor p || is_or_ctor p) ≡ false → belongs (cx.set_of t) p ≡ true → ArityIs p (cx.arity p t) →
      length ws ≡ cx.arity p t →
      witnesses_are_of cx (cx.sub p t) 0 (witnesses_of ws) ≡ true → witness_is_of cx t (witness_of p named ws) ≡ true
  piece_of t SingleCtor named ws x b a l h =
      node_of t SingleCtor (node_ctor (cx.set_of t) 0) ws (single_node (cx.set_of t) b) b l h
  piece_of t (VariantCtor k) named ws x b a l h =
      node_of t (VariantCtor k) (node_ctor (cx.set_of t) k) ws (variant_node (cx.set_of t) k b) b l h
  piece_of t PointCtor named (w ∷ ws) x b a l h =
      and_true (has_ctor cx t PointCtor) (witness_is_of cx (cx.sub PointCtor t 0) w) b (both (witness_is_of cx (cx.sub PointCtor t 0) w) (witnesses_are_of cx (cx.sub PointCtor t) 1 (witnesses_of ws)) h).0
  piece_of t PointCtor named [] x b a l h = absurd (omega (arith, a, l))
  piece_of t LaterCtor named ws x b a l h = b
  piece_of t (FlagCtor y) named ws x b a l h = b
  piece_of t (NumbersCtor r) named ws x b a l h = b
  piece_of t (TextCtor u) named ws x b a l h = b
  piece_of t OtherTextCtor named ws x b a l h = b
  piece_of t (RowCtor s) named ws x b a l h = row_of t s ws b (l ∙ a) h
  piece_of t WildCtor named ws x b a l h = untrue (sym x)
  piece_of t OrCtor named ws x b a l h = untrue (sym x)

  -- stacks

  abbrev pub AreAllOf : List (Open T) → List (List MWitness) → Type 0
  AreAllOf places [] = Unit {0}
  AreAllOf places (w ∷ ws) = AreOf places w × AreAllOf places ws

  all-append : (places : List (Open T)) (ws us : List (List MWitness)) → AreAllOf places ws → AreAllOf places us →
      AreAllOf places (ws ++ us)
  all-append places [] us h k = k
  all-append places (w ∷ ws) us h k = (h.0, all-append places ws us h.1 k)

  any_of : (places : List (Open T)) → AreOf places (replicate (length places) AnyOf)
  any_of [] = tt
  any_of (o ∷ places) = (refl, any_of places)

  any_all : (o : Open T) (places : List (Open T)) (ws : List (List MWitness)) → AreAllOf places ws →
      AreAllOf (o ∷ places) (map (λ w. AnyOf ∷ w) ws)
  any_all o places [] h = tt
  any_all o places (w ∷ ws) h = ((refl, h.0), any_all o places ws h.1)

  wrapped_all : (o : Open T) (places : List (Open T)) (p : MCtor) (named : List (List ℕ)) (ws : List (List MWitness)) →
      (is_wild_ctor p || is_or_ctor p) ≡ false → belongs (cx.set_of o.type) p ≡ true → ArityIs p (cx.arity p o.type) →
      AreAllOf (parts_open cx o p ++ places) ws → AreAllOf (o ∷ places) (map (wrapped p named (cx.arity p o.type)) ws)
  wrapped_all o places p named [] x b a h = tt
  wrapped_all o places p named (w ∷ ws) x b a h =
      let n = cx.arity p o.type in
      let s = of-split (parts_open cx o p) places n w (length-below (part_open cx o p) n) h.0 in
      let r = parts_of_type o p (take n w) s.0 in
      ((piece_of o.type p named (take n w) x b a r.0 r.1, s.1), wrapped_all o places p named ws x b a h.1)

module _ {T : Type 0} (IsType : T → Type 0) (IsValue : T → Bool → MValue → Type 0) (cx : Context T) (values : ValuesLaw IsType IsValue cx) (law : PartsLaw IsType IsValue cx) where
  mutual
    pub stacks_of : (places : List (Open T)) (hss : List (List (Head T))) (ws : List (List MWitness)) →
        Witnesses cx IsValue places hss ws → AreTypes IsType (cols places) → AllTyped cx (cols places) hss →
        AreMadeRows hss → AreAllOf cx places ws
    stacks_of places hss ws (taken row rows) d h g = tt
    stacks_of places hss ws (covered ps rows e) d h g = tt
    stacks_of places hss ws (no_row ps) d h g = (any_of cx ps, tt)
    stacks_of places hss ws (anything o ps row rows xs e k) d h g =
        let hs = flat_map expand_row (row ∷ rows) in
        let t = expanded_typed cx (column_at [] o) (cols ps) (row ∷ rows) h in
        any_all cx o ps xs (stacks_of ps (map row_rest hs) xs k d.1 (rests_typed cx (column_at [] o) (cols ps) hs t) (rests_made hs (expand_made (row ∷ rows) g)))
    stacks_of places hss ws (by_pieces o ps row rows pieces xs e p k) d h g =
        let hs = flat_map expand_row (row ∷ rows) in
        let t = expanded_typed cx (column_at [] o) (cols ps) (row ∷ rows) h in
        let mh = expand_made (row ∷ rows) g in
        let n = expanded_none cx (column_at [] o) (cols ps) (row ∷ rows) h in
        let c = made_pieces (cx.set_of o.type) (column_of hs) pieces (values.made o.type d.0) (values.ascend o.type d.0) (heads_good cx (column_at [] o) (cols ps) hs t n) (column_made hs mh) p in
        pieces_of (named_in pieces) o ps hs pieces xs k d t mh (all_sided IsType IsValue cx values law o ps (named_in pieces) hs pieces d.0 t n c.belong c.one_sided c.room)

    pieces_of : (named : List (List ℕ)) (o : Open T) (places : List (Open T)) (hss : List (List (Head T)))
        (pieces : List MCtor) (ws : List (List MWitness)) →
        PieceWitnesses cx IsValue named o places hss pieces ws →
        AreTypes IsType (cols (o ∷ places)) → AllTyped cx (cols (o ∷ places)) hss → AreMadeRows hss → AreAllSided IsType IsValue cx values law o named hss pieces → AreAllOf cx (o ∷ places) ws
    pieces_of named o places hss pieces ws (no_piece m q ps rows) d h g s = tt
    pieces_of named o places hss pieces ws (with_value m q ps rows p rest xs us v k y) d h g s =
        let n = cx.arity p q.type in
        all-append cx (q ∷ ps) (map (wrapped p m n) xs) us
        (wrapped_all cx q ps p m xs (not_wild IsType IsValue cx values law (cx.set_of q.type) p s.0.0) s.0.0 (law.arity q.type p d.0 s.0.0)
        (stacks_of (parts_open cx q p ++ ps) (all_specialised p n rows) xs k (specials_types IsType IsValue cx law q ps p s.0.0 d) (specials_typed IsType IsValue cx law q ps p rows d.0 s.0.0 h) (special_made p n rows g)))
        (pieces_of m q ps rows rest us y d h g s.1)
    pieces_of named o places hss pieces ws (without_value m q ps rows p rest us v y) d h g s =
        pieces_of m q ps rows rest us y d h g s.1
