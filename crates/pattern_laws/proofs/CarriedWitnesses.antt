-- Along a view of a context, rows with the same constructors have the same witnesses, and a witness is of a type where
-- it is of the type that this stands for.
use Rattle.std.proofs.Common.{◌≡◌, ℕ, zero, suc, Bool, ◌&&◌, List, [], ◌∷◌, ◌++◌, length, map, replicate, nat_eq, refl, sym, ap, subst, ◌∙◌}
use Rattle.std.specs.List.{list_any, list_all, flat_map}
use Rattle.std.proofs.lemmas.List.{map-append}
use Rattle.match_model.specs.Values.{MValue}
use Rattle.match_model.specs.Constructors.{MCtor, PointCtor, LaterCtor, OtherTextCtor, FlagCtor, NumbersCtor, TextCtor, RowCtor, sure_inside, belongs}
use Rattle.match_model.specs.Contexts.{Context, Open}
use Rattle.match_model.specs.ContextViews.{Seen}
use Rattle.match_model.specs.Pieces.{each_below, ArePieces}
use Rattle.match_model.specs.OfType.{node_ctor, witness_is_of, witnesses_are_of}
use Rattle.match_model.specs.Rows.{Head, expand_row, starts_wild, row_rest, column_of, all_specialised, part_open, parts_open}
use Rattle.match_model.specs.Witness.{MWitness, AnyOf, LaterOf, FlagOf, SpanOf, TextOf, ElseOf, NodeOf, PointOf, RowOf, MWitnesses, no_witnesses, more_witnesses, witnesses_list, slice_shape, back_is_allowed}
use Rattle.match_model.specs.WitnessList.{Witnesses, PieceWitnesses, are_wild, named_in, wrapped, taken, covered, no_row, anything, by_pieces, no_piece, with_value, without_value}
use Rattle.pattern_laws.proofs.Skeletons.{row_skeletons, bare_place, any_wild, all_wild, column_by, rests_by, expanded_by, specialised_by}

module _ {S U : Type 0} (f : S → U) (cy : Context S) (cx : Context U) (set : (s : S) → cx.set_of (f s) ≡ cy.set_of s)
    (arity : (c : MCtor) (s : S) → cx.arity c (f s) ≡ cy.arity c s)
    (sub : (c : MCtor) (s : S) (i : ℕ) → cx.sub c (f s) i ≡ f (cy.sub c s i)) where
  -- ---- witnesses of a type

  -- from the parts of a node to the node
  node_carried : (s : S) (c : MCtor) (ws : MWitnesses) →
      witnesses_are_of cy (cy.sub c s) 0 ws ≡ witnesses_are_of cx (cx.sub c (f s)) 0 ws →
      (belongs (cy.set_of s) c && (nat_eq (length (witnesses_list ws)) (cy.arity c s)
      && witnesses_are_of cy (cy.sub c s) 0 ws))
      ≡ (belongs (cx.set_of (f s)) c && (nat_eq (length (witnesses_list ws)) (cx.arity c (f s))
      && witnesses_are_of cx (cx.sub c (f s)) 0 ws))
  node_carried s c ws e =
      ap (λ st. belongs st c && (nat_eq (length (witnesses_list ws)) (cy.arity c s)
      && witnesses_are_of cy (cy.sub c s) 0 ws)) (sym (set s))
      ∙ (ap (λ n. belongs (cx.set_of (f s)) c
      && (nat_eq (length (witnesses_list ws)) n && witnesses_are_of cy (cy.sub c s) 0 ws)) (sym (arity c s))
      ∙ ap (λ b. belongs (cx.set_of (f s)) c && (nat_eq (length (witnesses_list ws)) (cx.arity c (f s)) && b)) e)

  -- from the items of a row to the row
  row_carried : (s : S) (c : MCtor) (allowed : Bool) (front : MWitnesses) (n : ℕ) (back : MWitnesses) →
      witnesses_are_of cy (cy.sub c s) 0 front ≡ witnesses_are_of cx (cx.sub c (f s)) 0 front →
      witnesses_are_of cy (cy.sub c s) n back ≡ witnesses_are_of cx (cx.sub c (f s)) n back →
      (belongs (cy.set_of s) c && allowed
      && (witnesses_are_of cy (cy.sub c s) 0 front && witnesses_are_of cy (cy.sub c s) n back))
      ≡ (belongs (cx.set_of (f s)) c && allowed
      && (witnesses_are_of cx (cx.sub c (f s)) 0 front && witnesses_are_of cx (cx.sub c (f s)) n back))
  row_carried s c allowed front n back e g =
      ap (λ st. belongs st c && allowed
      && (witnesses_are_of cy (cy.sub c s) 0 front && witnesses_are_of cy (cy.sub c s) n back)) (sym (set s))
      ∙ (ap (λ b. belongs (cx.set_of (f s)) c && allowed && (b && witnesses_are_of cy (cy.sub c s) n back)) e
      ∙ ap (λ b. belongs (cx.set_of (f s)) c && allowed && (witnesses_are_of cx (cx.sub c (f s)) 0 front && b)) g)

  mutual
    -- the witness is of the type where it is of what this stands for
    pub witness_carried : (s : S) (w : MWitness) → witness_is_of cy s w ≡ witness_is_of cx (f s) w
    witness_carried s AnyOf = refl
    witness_carried s LaterOf = ap (λ st. belongs st LaterCtor) (sym (set s))
    witness_carried s (FlagOf b) = ap (λ st. belongs st (FlagCtor b)) (sym (set s))
    witness_carried s (SpanOf r) = ap (λ st. belongs st (NumbersCtor r)) (sym (set s))
    witness_carried s (TextOf u) = ap (λ st. belongs st (TextCtor u)) (sym (set s))
    witness_carried s (ElseOf us) = ap (λ st. belongs st OtherTextCtor) (sym (set s))
    witness_carried s (NodeOf k ws) =
        node_carried s (node_ctor (cy.set_of s) k) ws (witnesses_carried (cy.sub (node_ctor (cy.set_of s) k) s)
        (cx.sub (node_ctor (cy.set_of s) k) (f s)) (sub (node_ctor (cy.set_of s) k) s) 0 ws)
        ∙ ap (λ st. belongs (cx.set_of (f s)) (node_ctor st k)
        && (nat_eq (length (witnesses_list ws)) (cx.arity (node_ctor st k) (f s))
        && witnesses_are_of cx (cx.sub (node_ctor st k) (f s)) 0 ws)) (sym (set s))
    witness_carried s (PointOf w) =
        ap (λ st. belongs st PointCtor && witness_is_of cy (cy.sub PointCtor s 0) w) (sym (set s))
        ∙ ap (λ b. belongs (cx.set_of (f s)) PointCtor && b)
        (witness_carried (cy.sub PointCtor s 0) w ∙ ap (λ t. witness_is_of cx t w) (sym (sub PointCtor s 0)))
    witness_carried s (RowOf front longer back) =
        row_carried s (RowCtor (slice_shape (length (witnesses_list front)) longer (length (witnesses_list back))))
        (back_is_allowed longer (length (witnesses_list back))) front (length (witnesses_list front)) back
        (witnesses_carried (cy.sub (RowCtor (slice_shape (length (witnesses_list front)) longer
        (length (witnesses_list back)))) s)
        (cx.sub (RowCtor (slice_shape (length (witnesses_list front)) longer (length (witnesses_list back)))) (f s))
        (sub (RowCtor (slice_shape (length (witnesses_list front)) longer (length (witnesses_list back)))) s) 0 front)
        (witnesses_carried (cy.sub (RowCtor (slice_shape (length (witnesses_list front)) longer
        (length (witnesses_list back)))) s)
        (cx.sub (RowCtor (slice_shape (length (witnesses_list front)) longer (length (witnesses_list back)))) (f s))
        (sub (RowCtor (slice_shape (length (witnesses_list front)) longer (length (witnesses_list back)))) s)
        (length (witnesses_list front)) back)

    witnesses_carried : (ts : ℕ → S) (us : ℕ → U) → ((i : ℕ) → us i ≡ f (ts i)) → (i : ℕ) (ws : MWitnesses) →
        witnesses_are_of cy ts i ws ≡ witnesses_are_of cx us i ws
    witnesses_carried ts us same i no_witnesses = refl
    witnesses_carried ts us same i (more_witnesses w ws) =
        ap (λ b. b && witnesses_are_of cy ts (suc i) ws)
        (witness_carried (ts i) w ∙ ap (λ t. witness_is_of cx t w) (sym (same i)))
        ∙ ap (λ b. witness_is_of cx (us i) w && b) (witnesses_carried ts us same (suc i) ws)

  -- ---- witness lists

  -- the open place of what the type stands for
  abbrev pub seen_place : Open S → Open U
  seen_place o = record { type = f o.type; sure = o.sure }

  bare_seen : (places : List (Open S)) → map bare_place (map seen_place places) ≡ map bare_place places
  bare_seen [] = refl
  bare_seen (o ∷ places) = ap (λ os. bare_place o ∷ os) (bare_seen places)

  count_seen : (places : List (Open S)) → length (map seen_place places) ≡ length places
  count_seen [] = refl
  count_seen (o ∷ places) = ap suc (count_seen places)

  below_seen : (g : ℕ → Open S) (h : ℕ → Open U) → ((i : ℕ) → seen_place (g i) ≡ h i) → (n : ℕ) →
      map seen_place (each_below g n) ≡ each_below h n
  below_seen g h same zero = refl
  below_seen g h same (suc n) =
      map-append seen_place (each_below g n) (g n ∷ [])
      ∙ (ap (λ os. os ++ seen_place (g n) ∷ []) (below_seen g h same n)
      ∙ ap (λ o. each_below h n ++ o ∷ []) (same n))

  parts_seen : (o : Open S) (piece : MCtor) → map seen_place (parts_open cy o piece)
      ≡ parts_open cx (seen_place o) piece
  parts_seen o piece =
      below_seen (part_open cy o piece) (part_open cx (seen_place o) piece)
      (λ i. ap (λ t. record { type = t; sure = sure_inside piece o.sure }) (sym (sub piece o.type i)))
      (cy.arity piece o.type)
      ∙ ap (each_below (part_open cx (seen_place o) piece)) (sym (arity piece o.type))

  abbrev Rows : Type 0 → Type 0
  Rows T = List (List (Head T))

  any_same : (places : List (Open S)) (xs : Rows S) (ys : Rows U) → row_skeletons ys ≡ row_skeletons xs →
      list_any (are_wild (map seen_place places)) ys ≡ list_any (are_wild places) xs
  any_same places xs ys e =
      sym (any_wild (map seen_place places) ys)
      ∙ (ap (λ os. list_any (are_wild os) (row_skeletons ys)) (bare_seen places)
      ∙ (ap (list_any (are_wild (map bare_place places))) e ∙ any_wild places xs))

  all_same : (xs : Rows S) (ys : Rows U) → row_skeletons ys ≡ row_skeletons xs → list_all starts_wild ys
      ≡ list_all starts_wild xs
  all_same xs ys e = sym (all_wild ys) ∙ (ap (list_all starts_wild) e ∙ all_wild xs)

  column_same : (xs : Rows S) (ys : Rows U) → row_skeletons ys ≡ row_skeletons xs → column_of ys ≡ column_of xs
  column_same xs ys e = sym (column_by ys) ∙ (ap column_of e ∙ column_by xs)

  rests_same : (xs : Rows S) (ys : Rows U) → row_skeletons ys ≡ row_skeletons xs →
      row_skeletons (map row_rest ys) ≡ row_skeletons (map row_rest xs)
  rests_same xs ys e = rests_by ys ∙ (ap (map row_rest) e ∙ sym (rests_by xs))

  expanded_same : (xs : Rows S) (ys : Rows U) → row_skeletons ys ≡ row_skeletons xs →
      row_skeletons (flat_map expand_row ys) ≡ row_skeletons (flat_map expand_row xs)
  expanded_same xs ys e = expanded_by ys ∙ (ap (flat_map expand_row) e ∙ sym (expanded_by xs))

  specialised_same : (piece : MCtor) (n : ℕ) (xs : Rows S) (ys : Rows U) → row_skeletons ys ≡ row_skeletons xs →
      row_skeletons (all_specialised piece n ys) ≡ row_skeletons (all_specialised piece n xs)
  specialised_same piece n xs ys e =
      specialised_by piece n ys ∙ (ap (all_specialised piece n) e ∙ sym (specialised_by piece n xs))

  module _ (IsValue : U → Bool → MValue → Type 0) where
    mutual
      -- the rows have the witnesses of the others
      pub witnesses_kept : (places : List (Open S)) (xs : Rows S) (ws : List (List MWitness)) →
          Witnesses cy (Seen f IsValue) places xs ws → (ys : Rows U) → row_skeletons ys ≡ row_skeletons xs →
          Witnesses cx IsValue (map seen_place places) ys ws
      witnesses_kept places xs ws (taken row rows) [] e = cc
      witnesses_kept places xs ws (taken row rows) (y ∷ ys) e = taken y ys
      witnesses_kept places xs ws (covered ps rows c) ys e = covered (map seen_place ps) ys (any_same ps rows ys e ∙ c)
      witnesses_kept places xs ws (no_row ps) [] e =
          subst (λ n. Witnesses cx IsValue (map seen_place ps) [] (replicate n AnyOf ∷ [])) (count_seen ps)
          (no_row (map seen_place ps))
      witnesses_kept places xs ws (no_row ps) (y ∷ ys) e = cc
      witnesses_kept places xs ws (anything o ps row rows us w k) [] e = cc
      witnesses_kept places xs ws (anything o ps row rows us w k) (y ∷ ys) e =
          let old = flat_map expand_row (row ∷ rows) in
          let new = flat_map expand_row (y ∷ ys) in
          let same = expanded_same (row ∷ rows) (y ∷ ys) e in
          anything (seen_place o) (map seen_place ps) y ys us (all_same old new same ∙ w)
          (witnesses_kept ps (map row_rest old) us k (map row_rest new) (rests_same old new same))
      witnesses_kept places xs ws (by_pieces o ps row rows pieces us w a k) [] e = cc
      witnesses_kept places xs ws (by_pieces o ps row rows pieces us w a k) (y ∷ ys) e =
          let old = flat_map expand_row (row ∷ rows) in
          let new = flat_map expand_row (y ∷ ys) in
          let same = expanded_same (row ∷ rows) (y ∷ ys) e in
          by_pieces (seen_place o) (map seen_place ps) y ys pieces us (all_same old new same ∙ w)
          (subst (λ st. ArePieces st (column_of new) pieces) (sym (set o.type))
          (subst (λ cs. ArePieces (cy.set_of o.type) cs pieces) (sym (column_same old new same)) a))
          (pieces_kept (named_in pieces) o ps old pieces us k new same)

      pieces_kept : (named : List (List ℕ)) (o : Open S) (places : List (Open S)) (xs : Rows S) (pieces : List MCtor)
          (ws : List (List MWitness)) → PieceWitnesses cy (Seen f IsValue) named o places xs pieces ws → (ys : Rows U) →
          row_skeletons ys ≡ row_skeletons xs →
          PieceWitnesses cx IsValue named (seen_place o) (map seen_place places) ys pieces ws
      pieces_kept named o places xs pieces ws (no_piece m q ps rows) ys e = no_piece m (seen_place q)
          (map seen_place ps) ys
      pieces_kept named o places xs pieces ws (with_value m q ps rows p rest us vs v k r) ys e =
          let n = cx.arity p (f q.type) in
          let inner : Witnesses cx IsValue (parts_open cx (seen_place q) p ++ map seen_place ps)
          (all_specialised p n ys) us =
          subst (λ i. Witnesses cx IsValue (parts_open cx (seen_place q) p ++ map seen_place ps)
          (all_specialised p i ys) us) (sym (arity p q.type))
          (subst (λ os. Witnesses cx IsValue os (all_specialised p (cy.arity p q.type) ys) us)
          (map-append seen_place (parts_open cy q p) ps ∙ ap (λ os. os ++ map seen_place ps) (parts_seen q p))
          (witnesses_kept (parts_open cy q p ++ ps) (all_specialised p (cy.arity p q.type) rows) us k
          (all_specialised p (cy.arity p q.type) ys) (specialised_same p (cy.arity p q.type) rows ys e))) in
          subst (λ i. PieceWitnesses cx IsValue m (seen_place q) (map seen_place ps) ys (p ∷ rest)
          (map (wrapped p m i) us ++ vs)) (arity p q.type)
          (with_value m (seen_place q) (map seen_place ps) ys p rest us vs v inner
          (pieces_kept m q ps rows rest vs r ys e))
      pieces_kept named o places xs pieces ws (without_value m q ps rows p rest vs v r) ys e =
          without_value m (seen_place q) (map seen_place ps) ys p rest vs v (pieces_kept m q ps rows rest vs r ys e)
