-- The stacks that a search gives are parted.
use Rattle.std.proofs.Common.{◌≡◌, ◌≤◌, ◌⊎◌, inl, inr, ℕ, suc, ◌+◌, Bool, List, [], ◌∷◌, ◌++◌, map, take, drop}
use Rattle.std.proofs.Common.{length, refl, ap, subst, ◌∙◌, arith, length-append, length-take-le}
use Rattle.std.specs.List.{flat_map}
use Rattle.match_model.specs.Values.{MValue}
use Rattle.match_model.specs.Constructors.{MCtor}
use Rattle.match_model.specs.Contexts.{Context, Open}
use Rattle.match_model.specs.ContextLaws.{PartsLaw, ValuesLaw}
use Rattle.match_model.specs.Lists.{Among, Every}
use Rattle.match_model.specs.Matrices.{column_at}
use Rattle.match_model.specs.Rows.{Head, expand_row, row_rest, column_of, all_specialised, parts_open, part_open}
use Rattle.match_model.specs.Witness.{MWitness, AnyOf}
use Rattle.match_model.specs.WitnessList.{Witnesses, taken, covered, no_row, anything, by_pieces, PieceWitnesses}
use Rattle.match_model.specs.WitnessList.{no_piece, with_value, without_value, wrapped, witness_of, named_in}
use Rattle.constructor_sets.specs.Columns.{AreColumnPieces}
use Rattle.constructor_sets.proofs.Whole.{made_pieces}
use Rattle.pattern_matrix.specs.HeadRows.{AreTypes, AllTyped, AreMadeRows, cols}
use Rattle.pattern_matrix.proofs.Made.{expand_made, rests_made, column_made, special_made}
use Rattle.pattern_matrix.proofs.Places.{length-below, rests_typed, expanded_typed, expanded_none, heads_good}
use Rattle.pattern_matrix.proofs.Places.{specials_typed, specials_types}
use Rattle.pattern_matrix.proofs.Exact.{AreLong, long_stacks, AreAllSided, all_sided}
use Rattle.arm_laws.specs.Parted.{StandsBefore, first, later, Holding, PartedOne, in_parts, Parted, at_head, behind}
use Rattle.arm_laws.specs.Parted as parted
use Rattle.arm_laws.proofs.Nodes.{AreRows, expand_nodes, rests_nodes, special_nodes, column_nodes}

module _ {T : Type 0} (cx : Context T) (Holds : Holding T) where
  -- each is parted from the stack, and each from those before it
  abbrev pub ArePartedFrom : List (Open T) → List MWitness → List (List MWitness) → Type 0
  ArePartedFrom places w [] = Unit {0}
  ArePartedFrom places w (u ∷ us) = Parted cx Holds places w u × ArePartedFrom places w us

  abbrev pub ArePartedAll : List (Open T) → List (List MWitness) → Type 0
  ArePartedAll places [] = Unit {0}
  ArePartedAll places (w ∷ ws) = ArePartedFrom places w ws × ArePartedAll places ws

  from-append : (places : List (Open T)) (w : List MWitness) (us xs : List (List MWitness)) →
      ArePartedFrom places w us → ArePartedFrom places w xs → ArePartedFrom places w (us ++ xs)
  from-append places w [] xs h k = k
  from-append places w (u ∷ us) xs h k = (h.0, from-append places w us xs h.1 k)

  any_from : (o : Open T) (places : List (Open T)) (w : List MWitness) (us : List (List MWitness)) →
      ArePartedFrom places w us → ArePartedFrom (o ∷ places) (AnyOf ∷ w) (map (λ u. AnyOf ∷ u) us)
  any_from o places w [] h = tt
  any_from o places w (u ∷ us) h = (behind o places AnyOf w u h.0, any_from o places w us h.1)

  any_all : (o : Open T) (places : List (Open T)) (ws : List (List MWitness)) → ArePartedAll places ws →
      ArePartedAll (o ∷ places) (map (λ u. AnyOf ∷ u) ws)
  any_all o places [] h = tt
  any_all o places (w ∷ ws) h = (any_from o places w ws h.0, any_all o places ws h.1)

  -- stacks over two lists of places are parted in the first, or are one there and parted in the second
  abbrev InHalves : (n : ℕ) → (os bs : List (Open T)) → (w u : List MWitness) → Type 0
  InHalves n os bs w u =
      Parted cx Holds os (take n w) (take n u) ⊎ ((take n w ≡ take n u) × Parted cx Holds bs (drop n w) (drop n u))

  divided : (os bs : List (Open T)) (w u : List MWitness) → Parted cx Holds (os ++ bs) w u →
      InHalves (length os) os bs w u
  divided [] bs w u h = inr (refl, h)
  divided (a ∷ os) bs w u (at_head o ps x y ws us d) =
      inl (at_head o os x y (take (length os) ws) (take (length os) us) d)
  divided (a ∷ os) bs w u (behind o ps x ws us d) = go (divided os bs ws us d)
    where
      go : InHalves (length os) os bs ws us → InHalves (suc (length os)) (o ∷ os) bs (x ∷ ws) (x ∷ us)
      go (inl e) = inl (behind o os x (take (length os) ws) (take (length os) us) e)
      go (inr e) = inr (ap (λ z. x ∷ z) e.0, e.1)

  -- one piece, and two stacks for its parts and the places behind
  wrapped_one : (o : Open T) (places : List (Open T)) (p : MCtor) (named : List (List ℕ)) (w u : List MWitness) →
      cx.arity p o.type ≤ length w → cx.arity p o.type ≤ length u →
      Parted cx Holds (parts_open cx o p ++ places) w u →
      Parted cx Holds (o ∷ places) (wrapped p named (cx.arity p o.type) w) (wrapped p named (cx.arity p o.type) u)
  wrapped_one o places p named w u l m h =
      go (subst (λ n. InHalves n (parts_open cx o p) places w u) (length-below (part_open cx o p) (cx.arity p o.type))
      (divided (parts_open cx o p) places w u h))
    where
      go : InHalves (cx.arity p o.type) (parts_open cx o p) places w u →
          Parted cx Holds (o ∷ places) (wrapped p named (cx.arity p o.type) w) (wrapped p named (cx.arity p o.type) u)
      go (inl d) =
          let n = cx.arity p o.type in
          at_head o places (witness_of p named (take n w)) (witness_of p named (take n u)) (drop n w) (drop n u)
          (in_parts o p named (take n w) (take n u) (length-take-le n w l) (length-take-le n u m) d)
      go (inr d) =
          let n = cx.arity p o.type in
          subst (λ x. Parted cx Holds (o ∷ places) (wrapped p named n w) (witness_of p named x ∷ drop n u)) d.0
          (behind o places (witness_of p named (take n w)) (drop n w) (drop n u) d.1)

  wrapped_from : (o : Open T) (places : List (Open T)) (p : MCtor) (named : List (List ℕ)) (m : ℕ) (w : List MWitness)
      →
      length w ≡ cx.arity p o.type + m → (us : List (List MWitness)) → AreLong (cx.arity p o.type + m) us →
      ArePartedFrom (parts_open cx o p ++ places) w us →
      ArePartedFrom (o ∷ places) (wrapped p named (cx.arity p o.type) w) (map (wrapped p named (cx.arity p o.type)) us)
  wrapped_from o places p named m w l [] k h = tt
  wrapped_from o places p named m w l (u ∷ us) k h =
      let e = k.0 in (
        wrapped_one o places p named w u (omega (arith, l)) (omega (arith, e)) h.0,
        wrapped_from o places p named m w l us k.1 h.1,
      )

  wrapped_all : (o : Open T) (places : List (Open T)) (p : MCtor) (named : List (List ℕ)) (m : ℕ)
      (ws : List (List MWitness)) → AreLong (cx.arity p o.type + m) ws → ArePartedAll (parts_open cx o p ++ places) ws
      →
      ArePartedAll (o ∷ places) (map (wrapped p named (cx.arity p o.type)) ws)
  wrapped_all o places p named m [] k h = tt
  wrapped_all o places p named m (w ∷ ws) k h =
      (wrapped_from o places p named m w k.0 ws k.1 h.0, wrapped_all o places p named m ws k.1 h.1)

  -- two pieces of which it holds, and any stacks
  other_from : (o : Open T) (places : List (Open T)) (named : List (List ℕ)) (p q : MCtor) (m : ℕ) →
      Holds o named p q → (w : List MWitness) → cx.arity p o.type ≤ length w → (us : List (List MWitness)) →
      AreLong (cx.arity q o.type + m) us →
      ArePartedFrom (o ∷ places) (wrapped p named (cx.arity p o.type) w) (map (wrapped q named (cx.arity q o.type)) us)
  other_from o places named p q m s w l [] k = tt
  other_from o places named p q m s w l (u ∷ us) k =
      let e = k.0 in
      let i = cx.arity p o.type in
      let j = cx.arity q o.type in (
        at_head o places (witness_of p named (take i w)) (witness_of q named (take j u)) (drop i w) (drop j u)
            (parted.by_pieces o named p q (take i w) (take j u) s (length-take-le i w l)
            (length-take-le j u (omega (arith, e)))),
        other_from o places named p q m s w l us k.1,
      )

  joined : (o : Open T) (places : List (Open T)) (p : MCtor) (named : List (List ℕ)) (m : ℕ)
      (xs us : List (List MWitness)) → AreLong (cx.arity p o.type + m) xs →
      ArePartedAll (o ∷ places) (map (wrapped p named (cx.arity p o.type)) xs) → ArePartedAll (o ∷ places) us →
      ((w : List MWitness) → cx.arity p o.type ≤ length w →
      ArePartedFrom (o ∷ places) (wrapped p named (cx.arity p o.type) w) us) →
      ArePartedAll (o ∷ places) (map (wrapped p named (cx.arity p o.type)) xs ++ us)
  joined o places p named m [] us l h k f = k
  joined o places p named m (x ∷ xs) us l h k f =
      let e = l.0 in (
        from-append (o ∷ places) (wrapped p named (cx.arity p o.type) x)
            (map (wrapped p named (cx.arity p o.type)) xs) us h.0 (f x (omega (arith, e))),
        joined o places p named m xs us l.1 h.1 k f,
      )

  module _ (IsType : T → Type 0) (IsValue : T → Bool → MValue → Type 0) (values : ValuesLaw IsType IsValue cx)
      (law : PartsLaw IsType IsValue cx) (P : T → MCtor → Type 0)
      (tell : (o : Open T) (heads pieces : List MCtor) (p q : MCtor) → IsType o.type → Every (P o.type) heads →
      AreColumnPieces (cx.set_of o.type) heads pieces → StandsBefore p q pieces → Holds o (named_in pieces) p q) where
    long_parts : (o : Open T) (places : List (Open T)) (p : MCtor) (rows : List (List (Head T)))
        (xs : List (List MWitness)) →
        Witnesses cx IsValue (parts_open cx o p ++ places) (all_specialised p (cx.arity p o.type) rows) xs →
        AreLong (cx.arity p o.type + length places) xs
    long_parts o places p rows xs k =
        subst (λ i. AreLong i xs)
        (length-append (parts_open cx o p) places ∙ ap (λ i. i + length places)
        (length-below (part_open cx o p) (cx.arity p o.type)))
        (long_stacks IsType IsValue cx values law (parts_open cx o p ++ places)
        (all_specialised p (cx.arity p o.type) rows) xs k)

    rest_from : (named : List (List ℕ)) (o : Open T) (places : List (Open T)) (hss : List (List (Head T)))
        (rest : List MCtor) (ws : List (List MWitness)) → PieceWitnesses cx IsValue named o places hss rest ws →
        (p : MCtor) → ((q : MCtor) → Among q rest → Holds o named p q) → (w : List MWitness) →
        cx.arity p o.type ≤ length w → ArePartedFrom (o ∷ places) (wrapped p named (cx.arity p o.type) w) ws
    rest_from named o places hss rest ws (no_piece m q ps rows) p b w l = tt
    rest_from named o places hss rest ws (with_value m q ps rows r others xs us v k d) p b w l =
        from-append (q ∷ ps) (wrapped p m (cx.arity p q.type) w) (map (wrapped r m (cx.arity r q.type)) xs) us
        (other_from q ps m p r (length ps) (b r (inl refl)) w l xs (long_parts q ps r rows xs k))
        (rest_from m q ps rows others us d p (λ c h. b c (inr h)) w l)
    rest_from named o places hss rest ws (without_value m q ps rows r others us v d) p b w l =
        rest_from m q ps rows others us d p (λ c h. b c (inr h)) w l

    mutual
      pub stacks_parted : (places : List (Open T)) (hss : List (List (Head T))) (ws : List (List MWitness)) →
          Witnesses cx IsValue places hss ws → AreTypes IsType (cols places) → AllTyped cx (cols places) hss →
          AreMadeRows hss → AreRows P hss → ArePartedAll places ws
      stacks_parted places hss ws (taken row rows) d h g n = tt
      stacks_parted places hss ws (covered ps rows e) d h g n = tt
      stacks_parted places hss ws (no_row ps) d h g n = (tt, tt)
      stacks_parted places hss ws (anything o ps row rows xs e k) d h g n =
          let hs = flat_map expand_row (row ∷ rows) in
          let t = expanded_typed cx (column_at [] o) (cols ps) (row ∷ rows) h in
          any_all o ps xs
          (stacks_parted ps (map row_rest hs) xs k d.1 (rests_typed cx (column_at [] o) (cols ps) hs t)
          (rests_made hs (expand_made (row ∷ rows) g)) (rests_nodes P hs (expand_nodes P (row ∷ rows) n)))
      stacks_parted places hss ws (by_pieces o ps row rows pieces xs e p k) d h g n =
          let hs = flat_map expand_row (row ∷ rows) in
          let t = expanded_typed cx (column_at [] o) (cols ps) (row ∷ rows) h in
          let mh = expand_made (row ∷ rows) g in
          let nh = expand_nodes P (row ∷ rows) n in
          let none = expanded_none cx (column_at [] o) (cols ps) (row ∷ rows) h in
          let c = made_pieces (cx.set_of o.type) (column_of hs) pieces (values.made o.type d.0)
          (values.ascend o.type d.0)
          (heads_good cx (column_at [] o) (cols ps) hs t none) (column_made hs mh) p in
          let s = all_sided IsType IsValue cx values law o ps (named_in pieces) hs pieces d.0 t none c.belong
          c.one_sided c.room in
          pieces_parted (named_in pieces) o ps hs pieces xs k d t mh nh s
          (λ a b z. tell o (column_of hs) pieces a b d.0 (column_nodes P cx (column_at [] o) (cols ps) hs t nh) c z)

      -- those of the pieces from one on, in a column with these pieces
      pieces_parted : (named : List (List ℕ)) (o : Open T) (places : List (Open T)) (hss : List (List (Head T)))
          (rest : List MCtor) (ws : List (List MWitness)) → PieceWitnesses cx IsValue named o places hss rest ws →
          AreTypes IsType (cols (o ∷ places)) → AllTyped cx (cols (o ∷ places)) hss → AreMadeRows hss → AreRows P hss →
          AreAllSided IsType IsValue cx values law o named hss rest →
          ((p q : MCtor) → StandsBefore p q rest → Holds o named p q) → ArePartedAll (o ∷ places) ws
      pieces_parted named o places hss rest ws (no_piece m q ps rows) d h g n r b = tt
      pieces_parted named o places hss rest ws (with_value m q ps rows p others xs us v k y) d h g n r b =
          joined q ps p m (length ps) xs us (long_parts q ps p rows xs k)
          (wrapped_all q ps p m (length ps) xs (long_parts q ps p rows xs k)
          (stacks_parted (parts_open cx q p ++ ps) (all_specialised p (cx.arity p q.type) rows) xs k
          (specials_types IsType IsValue cx law q ps p r.0.0 d)
          (specials_typed IsType IsValue cx law q ps p rows d.0 r.0.0 h)
          (special_made p (cx.arity p q.type) rows g) (special_nodes P p (cx.arity p q.type) rows n)))
          (pieces_parted m q ps rows others us y d h g n r.1 (λ c z e. b c z (later p others e)))
          (λ w l. rest_from m q ps rows others us y p (λ c e. b p c (first others e)) w l)
      pieces_parted named o places hss rest ws (without_value m q ps rows p others us v y) d h g n r b =
          pieces_parted m q ps rows others us y d h g n r.1 (λ c z e. b c z (later p others e))

-- the other way round, where it holds so too
module _ {T : Type 0} (cx : Context T) (Holds : Holding T)
    (other : (o : Open T) (named : List (List ℕ)) (p q : MCtor) → Holds o named p q → Holds o named q p) where
  mutual
    pub turn_one : {o : Open T} {w u : MWitness} → PartedOne cx Holds o w u → PartedOne cx Holds o u w
    turn_one (parted.by_pieces o named p q ws us a l m) = parted.by_pieces o named q p us ws (other o named p q a) m l
    turn_one (in_parts o p named ws us l m d) = in_parts o p named us ws m l (turn d)

    pub turn : {places : List (Open T)} {ws us : List MWitness} → Parted cx Holds places ws us →
        Parted cx Holds places us ws
    turn (at_head o places w u ws us d) = at_head o places u w us ws (turn_one d)
    turn (behind o places w ws us d) = behind o places w us ws (turn d)
