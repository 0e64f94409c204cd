-- The ranges in the witnesses of a match end at literals or lie beyond them, and a text stands in them only where a
-- shared reference to a text leads.
use Rattle.std.proofs.Common.{◌≡◌, ℕ, zero, suc, Bool, true, false, not, ◌&&◌, ◌||◌, List, [], ◌∷◌, ◌++◌, map, take}
use Rattle.std.proofs.Common.{drop, replicate, length, inl, inr, IsTrue, refl, sym, subst, is_some, arith}
use Rattle.std.specs.Prelude.{⊤}
use Rattle.std.specs.List.{flat_map, All}
use Rattle.std.proofs.lemmas.List.Elements.{All-head, All-tail}
use Rattle.match_model.specs.ArenaPatterns.{MDeMatch}
use Rattle.match_model.specs.Constructors.{FixedShape, LongerShape, MCtor, SingleCtor, PointCtor, VariantCtor}
use Rattle.match_model.specs.Constructors.{NumbersCtor, TextCtor, RowCtor, belongs, least_length}
use Rattle.match_model.specs.Contexts.{Open}
use Rattle.match_model.specs.Declarations.{MProgram, node_types}
use Rattle.match_model.specs.Emptiness.{IsRustType}
use Rattle.match_model.specs.Lists.{Among, Every}
use Rattle.match_model.specs.Matrices.{column_at}
use Rattle.match_model.specs.Rows.{Head, expand_row, row_rest, column_of, all_specialised, parts_open, part_open}
use Rattle.match_model.specs.RustTypes.{rust_context, rust_set, inner_type, IsSoundProgram, RustValue}
use Rattle.match_model.specs.Types.{MType, PointType}
use Rattle.match_model.specs.Witness.{MWitness, AnyOf, SpanOf, TextOf, NodeOf, PointOf, RowOf, MWitnesses, no_witnesses}
use Rattle.match_model.specs.Witness.{more_witnesses, witnesses_of}
use Rattle.match_model.specs.WitnessList.{Witnesses, taken, covered, no_row, anything, by_pieces, PieceWitnesses}
use Rattle.match_model.specs.WitnessList.{no_piece, with_value, without_value, IsWitnessList, nothing_to_match, by_rows}
use Rattle.match_model.specs.WitnessList.{row_of, witness_of, wrapped, named_in}
use Rattle.match_model.proofs.Basics.{untrue, both, and_true, or_right}
use Rattle.match_model.proofs.RustValues.{rust_values_law}
use Rattle.match_model.proofs.RustParts.{rust_parts}
use Rattle.constructor_sets.specs.Columns.{AreColumnPieces}
use Rattle.constructor_sets.proofs.Whole.{made_pieces}
use Rattle.pattern_matrix.specs.HeadRows.{AreTypes, AreMadeRows, AllTyped, cols}
use Rattle.pattern_matrix.proofs.Covers.{rows_made, rows_typed}
use Rattle.pattern_matrix.proofs.Exact.{AreAllSided, all_sided}
use Rattle.pattern_matrix.proofs.Made.{expand_made, rests_made, column_made, special_made}
use Rattle.pattern_matrix.proofs.Places.{length-below, rests_typed, expanded_typed, expanded_none, heads_good}
use Rattle.pattern_matrix.proofs.Places.{specials_typed, specials_types}
use Rattle.pattern_matrix.proofs.Whole.{arms_typed}
use Rattle.pattern_rules.specs.Literals.{is_shared_text}
use Rattle.witness_names.specs.Named.{types_there}
use Rattle.arm_laws.specs.LiteralEnds.{has_literal_ends, literal_ends, parts_literal, items_literal}
use Rattle.arm_laws.specs.Meant.{text_in, is_mutable, is_referred, parts_referred, items_referred}
use Rattle.arm_laws.specs.Near.{AreNear, IsNearList}
use Rattle.arm_laws.proofs.Near.{open_piece}
use Rattle.arm_laws.proofs.Nodes.{expand_nodes, rests_nodes, special_nodes, column_nodes, arms_nodes}
use Rattle.arm_laws.proofs.Nodes as nodes
use Rattle.arm_laws.proofs.PieceEnds.{bounded_piece, IsEnded, ended_piece}
use Rattle.arm_laws.proofs.Stacks.{types, variant_types, single_types, row_types}
use Rattle.arm_laws.proofs.TextPlaces.{leads, IsAllowed, Allows, first, rest, AreRows, expand_allowed, rests_allowed}
use Rattle.arm_laws.proofs.TextPlaces.{column_allowed, opened, special_allowed, arms_allowed, piece_allowed}

-- ---- witnesses

abbrev mutual
  -- the ranges in the witness of the type end so, and texts stand in it so; at its own place one may stand or not
  pub is_kept : MProgram → Bool → MType → MWitness → Bool
  is_kept program b t (TextOf u) = b
  is_kept program b t (SpanOf r) = has_literal_ends program.width t r
  is_kept program b t (NodeOf k ws) = parts_kept program (types_there (node_types program t k)) ws
  is_kept program b t (PointOf w) = is_kept program (is_shared_text t) (inner_type t) w
  is_kept program b t (RowOf front longer back) =
      items_kept program (inner_type t) front && items_kept program (inner_type t) back
  is_kept program b t w = true

  pub parts_kept : MProgram → List MType → MWitnesses → Bool
  parts_kept program (t ∷ ts) (more_witnesses w ws) = is_kept program false t w && parts_kept program ts ws
  parts_kept program ts ws = true

  pub items_kept : MProgram → MType → MWitnesses → Bool
  items_kept program t no_witnesses = true
  items_kept program t (more_witnesses w ws) = is_kept program false t w && items_kept program t ws

module _ (program : MProgram) where
  -- the same of witnesses of these types, at places of one kind
  abbrev AllKept : Bool → List MType → List MWitness → Type 0
  AllKept b [] [] = ⊤
  AllKept b [] (w ∷ ws) = ⊥
  AllKept b (t ∷ ts) [] = ⊥
  AllKept b (t ∷ ts) (w ∷ ws) = (is_kept program b t w ≡ true) × AllKept b ts ws

  -- the same of a stack
  abbrev AreKept : List Bool → List (Open MType) → List MWitness → Type 0
  AreKept bs [] [] = ⊤
  AreKept bs [] (w ∷ ws) = ⊥
  AreKept bs (o ∷ places) [] = ⊥
  AreKept bs (o ∷ places) (w ∷ ws) = (is_kept program (first bs) o.type w ≡ true) × AreKept (rest bs) places ws

  abbrev pub StacksKept : List Bool → List (Open MType) → List (List MWitness) → Type 0
  StacksKept bs places [] = ⊤
  StacksKept bs places (w ∷ ws) = AreKept bs places w × StacksKept bs places ws

  -- ---- the witness of a piece

  parts_of : (ts : List MType) (ws : List MWitness) → AllKept false ts ws →
      parts_kept program ts (witnesses_of ws) ≡ true
  parts_of [] [] h = refl
  parts_of [] (w ∷ ws) h = absurd h
  parts_of (t ∷ ts) [] h = absurd h
  parts_of (t ∷ ts) (w ∷ ws) h =
      and_true (is_kept program false t w) (parts_kept program ts (witnesses_of ws)) h.0 (parts_of ts ws h.1)

  abbrev AllItems : MType → List MWitness → Type 0
  AllItems u [] = ⊤
  AllItems u (w ∷ ws) = (is_kept program false u w ≡ true) × AllItems u ws

  all_items : (n : ℕ) (u : MType) (ws : List MWitness) → AllKept false (replicate n u) ws → AllItems u ws
  all_items zero u [] h = tt
  all_items zero u (w ∷ ws) h = absurd h
  all_items (suc n) u [] h = absurd h
  all_items (suc n) u (w ∷ ws) h = (h.0, all_items n u ws h.1)

  items-take : (n : ℕ) (u : MType) (ws : List MWitness) → AllItems u ws → AllItems u (take n ws)
  items-take zero u ws h = tt
  items-take (suc n) u [] h = tt
  items-take (suc n) u (w ∷ ws) h = (h.0, items-take n u ws h.1)

  items-drop : (n : ℕ) (u : MType) (ws : List MWitness) → AllItems u ws → AllItems u (drop n ws)
  items-drop zero u ws h = h
  items-drop (suc n) u [] h = tt
  items-drop (suc n) u (w ∷ ws) h = items-drop n u ws h.1

  items_of : (u : MType) (ws : List MWitness) → AllItems u ws → items_kept program u (witnesses_of ws) ≡ true
  items_of u [] h = refl
  items_of u (w ∷ ws) h =
      and_true (is_kept program false u w) (items_kept program u (witnesses_of ws)) h.0 (items_of u ws h.1)

  piece_kept : (b : Bool) (o : Open MType) (p : MCtor) (named : List (List ℕ)) (ws : List MWitness) →
      IsAllowed b p → IsEnded program o.type p →
      AllKept (leads p o.type) (types (parts_open (rust_context program) o p)) ws →
      is_kept program b o.type (witness_of p named ws) ≡ true
  piece_kept b o SingleCtor named ws a e h =
      parts_of (types_there (node_types program o.type 0)) ws
      (subst (λ ts. AllKept false ts ws) (single_types program o) h)
  piece_kept b o (VariantCtor k) named ws a e h =
      parts_of (types_there (node_types program o.type k)) ws
      (subst (λ ts. AllKept false ts ws) (variant_types program o k) h)
  piece_kept b o PointCtor named [] a e h = absurd h
  piece_kept b o PointCtor named (w ∷ ws) a e h = h.0
  piece_kept b o (NumbersCtor r) named ws a e h = e
  piece_kept b o (TextCtor u) named ws a e h = a
  piece_kept b o (RowCtor (FixedShape m)) named ws a e h =
      let u = inner_type o.type in
      let all = all_items (least_length (FixedShape m)) u ws
      (subst (λ ts. AllKept false ts ws) (row_types program o (FixedShape m)) h) in
      and_true (items_kept program u (witnesses_of ws)) true (items_of u ws all) refl
  piece_kept b o (RowCtor (LongerShape f g)) named ws a e h =
      let u = inner_type o.type in
      let all = all_items (least_length (LongerShape f g)) u ws
      (subst (λ ts. AllKept false ts ws) (row_types program o (LongerShape f g)) h) in
      and_true (items_kept program u (witnesses_of (take f ws))) (items_kept program u (witnesses_of (drop f ws)))
      (items_of u (take f ws) (items-take f u ws all)) (items_of u (drop f ws) (items-drop f u ws all))
  piece_kept b o _ named ws a e h = refl

  -- ---- stacks

  split_kept : (b : Bool) (ps qs : List (Open MType)) (n : ℕ) (bs : List Bool) (ws : List MWitness) → length ps ≡ n →
      AreKept (replicate n b ++ bs) (ps ++ qs) ws → AllKept b (types ps) (take n ws) × AreKept bs qs (drop n ws)
  split_kept b [] qs zero bs ws e a = (tt, a)
  split_kept b [] qs (suc n) bs ws e a = absurd (omega (arith, e))
  split_kept b (p ∷ ps) qs zero bs ws e a = absurd (omega (arith, e))
  split_kept b (p ∷ ps) qs (suc n) bs [] e a = absurd a
  split_kept b (p ∷ ps) qs (suc n) bs (w ∷ ws) e a =
      let r = split_kept b ps qs n bs ws (omega (arith, e)) a.1 in ((a.0, r.0), r.1)

  stacks-append : (bs : List Bool) (places : List (Open MType)) (xs ys : List (List MWitness)) →
      StacksKept bs places xs → StacksKept bs places ys → StacksKept bs places (xs ++ ys)
  stacks-append bs places [] ys h k = k
  stacks-append bs places (x ∷ xs) ys h k = (h.0, stacks-append bs places xs ys h.1 k)

  any_kept : (bs : List Bool) (places : List (Open MType)) → AreKept bs places (replicate (length places) AnyOf)
  any_kept bs [] = tt
  any_kept bs (o ∷ places) = (refl, any_kept (rest bs) places)

  any_all : (bs : List Bool) (o : Open MType) (places : List (Open MType)) (ws : List (List MWitness)) →
      StacksKept (rest bs) places ws → StacksKept bs (o ∷ places) (map (λ w. AnyOf ∷ w) ws)
  any_all bs o places [] h = tt
  any_all bs o places (w ∷ ws) h = ((refl, h.0), any_all bs o places ws h.1)

  wrapped_all : (bs : List Bool) (o : Open MType) (places : List (Open MType)) (p : MCtor) (named : List (List ℕ))
      (ws : List (List MWitness)) → IsAllowed (first bs) p → IsEnded program o.type p →
      StacksKept (opened (rust_context program) bs o p) (parts_open (rust_context program) o p ++ places) ws →
      StacksKept bs (o ∷ places) (map (wrapped p named ((rust_context program).arity p o.type)) ws)
  wrapped_all bs o places p named [] a e h = tt
  wrapped_all bs o places p named (w ∷ ws) a e h =
      let cx = rust_context program in
      let n = cx.arity p o.type in
      let s = split_kept (leads p o.type) (parts_open cx o p) places n (rest bs) w
      (length-below (part_open cx o p) n) h.0 in
      ((piece_kept (first bs) o p named (take n w) a e s.0, s.1), wrapped_all bs o places p named ws a e h.1)

  among_all : {A : Type 0} (P : A → Type 0) (xs : List A) (x : A) → All P xs → Among x xs → P x
  among_all P [] x h a = absurd a
  among_all P (y ∷ xs) x h (inl e) = subst P (sym e) (All-head P y xs h)
  among_all P (y ∷ xs) x h (inr a) = among_all P xs x (All-tail P y xs h) a

  -- what holds of each piece of a column
  abbrev IsKeptPiece : Bool → MType → MCtor → Type 0
  IsKeptPiece b t p = IsAllowed b p × IsEnded program t p

  pieces_good : (b : Bool) (t : MType) (heads pieces : List MCtor) → Every (IsAllowed b) heads →
      Every (AreNear t) heads → AreColumnPieces (rust_set program t) heads pieces → (p : MCtor) → Among p pieces →
      IsKeptPiece b t p
  pieces_good b t heads pieces allows near c p a =
      let m = among_all (λ r. IsTrue (belongs (rust_set program t) r)) pieces p c.belong a in (
        piece_allowed (rust_set program t) heads pieces b p c.listed allows a m,
        ended_piece program t p m (open_piece program t heads pieces p c.listed near a)
            (bounded_piece program t heads pieces p c.listed near a),
      )

  module _ (sound : IsSoundProgram program) where
    mutual
      pub stacks_kept : (bs : List Bool) (places : List (Open MType)) (hss : List (List (Head MType)))
          (ws : List (List MWitness)) → Witnesses (rust_context program) (RustValue program) places hss ws →
          AreTypes (IsRustType program) (cols places) → AllTyped (rust_context program) (cols places) hss →
          AreMadeRows hss → nodes.AreRows AreNear hss → AreRows bs hss → StacksKept bs places ws
      stacks_kept bs places hss ws (taken row rows) d h g n f = tt
      stacks_kept bs places hss ws (covered ps rows e) d h g n f = tt
      stacks_kept bs places hss ws (no_row ps) d h g n f = (any_kept bs ps, tt)
      stacks_kept bs places hss ws (anything o ps row rows xs e k) d h g n f =
          let cx = rust_context program in
          let hs = flat_map expand_row (row ∷ rows) in
          let t = expanded_typed cx (column_at [] o) (cols ps) (row ∷ rows) h in
          any_all bs o ps xs
          (stacks_kept (rest bs) ps (map row_rest hs) xs k d.1 (rests_typed cx (column_at [] o) (cols ps) hs t)
          (rests_made hs (expand_made (row ∷ rows) g)) (rests_nodes AreNear hs (expand_nodes AreNear (row ∷ rows) n))
          (rests_allowed bs hs (expand_allowed bs (row ∷ rows) f)))
      stacks_kept bs places hss ws (by_pieces o ps row rows pieces xs e p k) d h g n f =
          let cx = rust_context program in
          let values = rust_values_law program in
          let hs = flat_map expand_row (row ∷ rows) in
          let t = expanded_typed cx (column_at [] o) (cols ps) (row ∷ rows) h in
          let mh = expand_made (row ∷ rows) g in
          let nh = expand_nodes AreNear (row ∷ rows) n in
          let fh = expand_allowed bs (row ∷ rows) f in
          let none = expanded_none cx (column_at [] o) (cols ps) (row ∷ rows) h in
          let c = made_pieces (cx.set_of o.type) (column_of hs) pieces (values.made o.type d.0)
          (values.ascend o.type d.0) (heads_good cx (column_at [] o) (cols ps) hs t none) (column_made hs mh) p in
          pieces_kept bs (named_in pieces) o ps hs pieces xs k d t mh nh fh
          (all_sided (IsRustType program) (RustValue program) cx values (rust_parts program sound) o ps
          (named_in pieces) hs pieces d.0 t none c.belong c.one_sided c.room)
          (pieces_good (first bs) o.type (column_of hs) pieces (column_allowed bs hs fh)
          (column_nodes AreNear cx (column_at [] o) (cols ps) hs t nh) c)

      pieces_kept : (bs : List Bool) (named : List (List ℕ)) (o : Open MType) (places : List (Open MType))
          (hss : List (List (Head MType))) (pieces : List MCtor) (ws : List (List MWitness)) →
          PieceWitnesses (rust_context program) (RustValue program) named o places hss pieces ws →
          AreTypes (IsRustType program) (cols (o ∷ places)) →
          AllTyped (rust_context program) (cols (o ∷ places)) hss → AreMadeRows hss → nodes.AreRows AreNear hss →
          AreRows bs hss →
          AreAllSided (IsRustType program) (RustValue program) (rust_context program) (rust_values_law program)
          (rust_parts program sound) o named hss pieces →
          ((p : MCtor) → Among p pieces → IsKeptPiece (first bs) o.type p) → StacksKept bs (o ∷ places) ws
      pieces_kept bs named o places hss pieces ws (no_piece m q ps rows) d h g n f s a = tt
      pieces_kept bs named o places hss pieces ws (with_value m q ps rows p others xs us v k y) d h g n f s a =
          let cx = rust_context program in
          let i = cx.arity p q.type in
          let values = rust_values_law program in
          let law = rust_parts program sound in
          let x = a p (inl refl) in
          stacks-append bs (q ∷ ps) (map (wrapped p m i) xs) us
          (wrapped_all bs q ps p m xs x.0 x.1
          (stacks_kept (opened cx bs q p) (parts_open cx q p ++ ps) (all_specialised p i rows) xs k
          (specials_types (IsRustType program) (RustValue program) cx law q ps p s.0.0 d)
          (specials_typed (IsRustType program) (RustValue program) cx law q ps p rows d.0 s.0.0 h)
          (special_made p i rows g) (special_nodes AreNear p i rows n)
          (special_allowed cx (IsRustType program) (RustValue program) law bs q ps p rows d.0 s.0.0 h f)))
          (pieces_kept bs m q ps rows others us y d h g n f s.1 (λ r z. a r (inr z)))
      pieces_kept bs named o places hss pieces ws (without_value m q ps rows p others us v y) d h g n f s a =
          pieces_kept bs m q ps rows others us y d h g n f s.1 (λ r z. a r (inr z))

    each_kept : (o : Open MType) (ws : List MWitness) → StacksKept [] (o ∷ []) (map (λ w. w ∷ []) ws) →
        Every (λ w. is_kept program false o.type w ≡ true) ws
    each_kept o [] h = tt
    each_kept o (w ∷ ws) h = (h.0.0, each_kept o ws h.1)

    -- the witnesses of a match
    pub witnesses_kept : (m : MDeMatch MType) (ws : List MWitness) → IsNearList program m ws →
        Every (λ a. Allows false a.pat) m.arms → Every (λ w. is_kept program false m.type w ≡ true) ws
    witnesses_kept m ws h allows = go ws h.listed
      where
        go : (ws : List MWitness) → IsWitnessList (rust_context program) (RustValue program) m ws →
            Every (λ w. is_kept program false m.type w ≡ true) ws
        go ws (nothing_to_match f) = tt
        go ws (by_rows x us i n k) =
            let cx = rust_context program in
            let values = rust_values_law program in
            let law = rust_parts program sound in
            let o : Open MType = record { type = m.type; sure = m.sure } in
            each_kept o us
            (stacks_kept [] (o ∷ []) (flat_map row_of m.arms) (map (λ z. z ∷ []) us) k (h.type, tt)
            (rows_typed (IsRustType program) (RustValue program) cx values law m m.arms
            (arms_typed cx m.type m.arms h.typed))
            (rows_made (IsRustType program) (RustValue program) cx values law m.arms h.made)
            (arms_nodes AreNear m.arms h.near) (arms_allowed m.arms allows))

  -- ---- what follows

  mutual
    pub kept_ends : (b : Bool) (t : MType) (w : MWitness) → is_kept program b t w ≡ true →
        literal_ends program t w ≡ true
    kept_ends b t (SpanOf r) h = h
    kept_ends b t (NodeOf k ws) h = parts_ends (types_there (node_types program t k)) ws h
    kept_ends b t (PointOf w) h = kept_ends (is_shared_text t) (inner_type t) w h
    kept_ends b t (RowOf front longer back) h =
        let u = inner_type t in
        let s = both (items_kept program u front) (items_kept program u back) h in
        and_true (items_literal program u front) (items_literal program u back) (items_ends u front s.0)
        (items_ends u back s.1)
    kept_ends b t _ h = refl

    parts_ends : (ts : List MType) (ws : MWitnesses) → parts_kept program ts ws ≡ true →
        parts_literal program ts ws ≡ true
    parts_ends [] ws h = refl
    parts_ends (t ∷ ts) no_witnesses h = refl
    parts_ends (t ∷ ts) (more_witnesses w ws) h =
        let s = both (is_kept program false t w) (parts_kept program ts ws) h in
        and_true (literal_ends program t w) (parts_literal program ts ws) (kept_ends false t w s.0)
        (parts_ends ts ws s.1)

    items_ends : (t : MType) (ws : MWitnesses) → items_kept program t ws ≡ true → items_literal program t ws ≡ true
    items_ends t no_witnesses h = refl
    items_ends t (more_witnesses w ws) h =
        let s = both (is_kept program false t w) (items_kept program t ws) h in
        and_true (literal_ends program t w) (items_literal program t ws) (kept_ends false t w s.0)
        (items_ends t ws s.1)

  -- a reference to a text that is shared is not mutable
  shared_is : (t : MType) → is_shared_text t ≡ true → not (is_mutable t) ≡ true
  shared_is (PointType false u) h = refl
  shared_is (PointType true u) h = untrue h
  shared_is _ h = untrue h

  loosened : (a c s r : Bool) → (a ≡ true → c ≡ true) → ((a && s) || r) ≡ true → ((c && s) || r) ≡ true
  loosened true c s r f h = rw (f refl) h
  loosened false c s r f h = or_right (c && s) r h

  mutual
    pub kept_texts : (b : Bool) (t : MType) (w : MWitness) → is_kept program b t w ≡ true →
        ((b && is_some (text_in w)) || is_referred program t w) ≡ true
    kept_texts b t (TextOf u) h = rw h refl
    kept_texts b t (NodeOf k ws) h =
        let ts = types_there (node_types program t k) in
        or_right (b && false) (parts_referred program ts ws) (parts_texts ts ws h)
    kept_texts b t (PointOf w) h =
        let u = inner_type t in
        or_right (b && false) ((not (is_mutable t) && is_some (text_in w)) || is_referred program u w)
        (loosened (is_shared_text t) (not (is_mutable t)) (is_some (text_in w)) (is_referred program u w) (shared_is t)
        (kept_texts (is_shared_text t) u w h))
    kept_texts b t (RowOf front longer back) h =
        let u = inner_type t in
        let s = both (items_kept program u front) (items_kept program u back) h in
        or_right (b && false) (items_referred program u front && items_referred program u back)
        (and_true (items_referred program u front) (items_referred program u back) (items_texts u front s.0)
        (items_texts u back s.1))
    kept_texts b t _ h = or_right (b && false) true refl

    parts_texts : (ts : List MType) (ws : MWitnesses) → parts_kept program ts ws ≡ true →
        parts_referred program ts ws ≡ true
    parts_texts [] ws h = refl
    parts_texts (t ∷ ts) no_witnesses h = refl
    parts_texts (t ∷ ts) (more_witnesses w ws) h =
        let s = both (is_kept program false t w) (parts_kept program ts ws) h in
        and_true (is_referred program t w) (parts_referred program ts ws) (kept_texts false t w s.0)
        (parts_texts ts ws s.1)

    items_texts : (t : MType) (ws : MWitnesses) → items_kept program t ws ≡ true →
        items_referred program t ws ≡ true
    items_texts t no_witnesses h = refl
    items_texts t (more_witnesses w ws) h =
        let s = both (is_kept program false t w) (items_kept program t ws) h in
        and_true (is_referred program t w) (items_referred program t ws) (kept_texts false t w s.0)
        (items_texts t ws s.1)
