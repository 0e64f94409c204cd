-- Entering a piece of a lawful context keeps the ways of a well-typed head on a value that the piece builds.
use Rattle.std.proofs.Common.{◌≡◌, ◌≤◌, ℕ, ◌+◌, ◌-◌, Bool, true, false, ◌||◌, List, [], ◌∷◌, ◌++◌, map, take, drop, length, cond, Some, None, refl, sym, ap, ◌∙◌, arith, subst}
use Rattle.std.proofs.lemmas.List.{append-nil}
use Rattle.match_model.specs.Values.{MValue, Row, values_list, parts_of}
use Rattle.match_model.specs.Ways.{Way}
use Rattle.match_model.specs.Matching.{span_way}
use Rattle.match_model.specs.Constructors.{FixedShape, LongerShape, MCtor, SingleCtor, PointCtor, LaterCtor, OtherTextCtor, WildCtor, OrCtor, VariantCtor, FlagCtor, NumbersCtor, TextCtor, RowCtor, builds, belongs, has_piece}
use Rattle.match_model.specs.Contexts.{Context}
use Rattle.match_model.specs.ContextLaws.{PartsLaw, ValuesLaw, ArityIs}
use Rattle.match_model.specs.ArenaPatterns.{MBound, MDePats, no_de_pats, de_pat, de_pats_list}
use Rattle.match_model.specs.ArenaWays.{with_bounds, with_spans_of, ways_where, parts_met, numbered_from, ways_by_ctor, arena_alternatives_ways, chosen_of, subs_ways}
use Rattle.match_model.specs.Places.{part_at, position_at, some_if}
use Rattle.match_model.specs.Rows.{Head, is_wild_ctor, wildcards, heads_of}
use Rattle.match_model.specs.Matrices.{MColumn, head_ways, under_all, ways_at, part_columns}
use Rattle.match_model.specs.WellTyped.{IsTyped, IsHeadTyped}
use Rattle.match_model.proofs.Basics.{untrue, nat_equal}
use Rattle.match_model.specs.Keys.{Decision}
use Rattle.match_model.specs.Lists.{Among}
use Rattle.match_model.specs.Steps.{Replacement, specialise_head}
use Rattle.keyed_rows.proofs.PullOut.{HeadKeeps}
use Rattle.keyed_rows.proofs.PieceKeeps.{all_done, nothing_done, heads_done, between-done, AtColumns, piece-keeps}
use Rattle.keyed_rows.proofs.PartsDone.{MeetsAll, all-met, longer-met}
use Rattle.keyed_steps.specs.Positions.{ArePositions}
use Rattle.keyed_steps.specs.Filled.{ArePartsAt}
use Rattle.keyed_steps.proofs.Opening.{HasParts, placed, positioned}
use Rattle.keyed_steps.specs.Fits.{IsPlain, HasRoom, FitsPiece, HeadFits}
use Rattle.keyed_steps.proofs.Cutting.{in-three, ends-in-three, ends-length, middle-length, length-below}
use Rattle.keyed_steps.proofs.RowItems.{at-least}
use Rattle.keyed_steps.proofs.PieceParts.{parts_by, piece-parts}
use Rattle.keyed_steps.proofs.OwnNames.{own-bound}
use Rattle.keyed_steps.proofs.HeadCounts.{IsWritten, own-parts, written, head-count}

-- a head without replacements and without ways
pub none-keeps : {T : Type 0} (decides : ℕ → Decision) (f : Head T → List (Replacement T)) (e : MColumn T)
    (new : List (MColumn T)) (v u : MValue) (is : List ℕ) → part_at e.place v ≡ Some u →
    position_at e.place v ≡ Some is → (h : Head T) →
    f h ≡ [] → head_ways h u ≡ [] → HeadKeeps decides f e new v h
none-keeps decides f e new v u is part position h none ways = record {
  wide = λ y a. absurd (subst (Among y) none a);
  forth = λ a i. absurd (subst (Among a) here i);
  back = λ y a w i. absurd (subst (Among y) none a);
}
  where
    here : ways_at (position_at e.place v) (part_at e.place v) h ≡ []
    here = rw (position, part) (ap (map (under_all is)) ways)

-- a constructor that does not build the value has no ways on it
pub none-ways : {T : Type 0} (k : MCtor) (t : T) (uid at : ℕ) (subs : MDePats T) (binds : List MBound) (u : MValue) →
    IsPlain k → (is_wild_ctor k || builds [] k u) ≡ false → head_ways (Some (de_pat k t uid at subs binds)) u ≡ []
none-ways WildCtor t uid at subs binds u p b = untrue (sym b)
none-ways OrCtor t uid at subs binds u p b = elim p [ ]
none-ways (NumbersCtor r) t uid at subs binds u p b =
    ap (λ x. map (with_bounds binds u) (map (with_spans_of (span_way at r))
    (ways_where (some_if x (parts_met (NumbersCtor r) (numbered_from 0 (parts_of u))))
    (λ parts. subs_ways subs parts)))) b
none-ways SingleCtor t uid at subs binds u p b =
    ap (λ x. map (with_bounds binds u) (ways_where (some_if x (parts_met SingleCtor (numbered_from 0 (parts_of u))))
    (λ parts. subs_ways subs parts))) b
none-ways PointCtor t uid at subs binds u p b =
    ap (λ x. map (with_bounds binds u) (ways_where (some_if x (parts_met PointCtor (numbered_from 0 (parts_of u))))
    (λ parts. subs_ways subs parts))) b
none-ways LaterCtor t uid at subs binds u p b =
    ap (λ x. map (with_bounds binds u) (ways_where (some_if x (parts_met LaterCtor (numbered_from 0 (parts_of u))))
    (λ parts. subs_ways subs parts))) b
none-ways OtherTextCtor t uid at subs binds u p b =
    ap (λ x. map (with_bounds binds u) (ways_where (some_if x (parts_met OtherTextCtor (numbered_from 0 (parts_of u))))
    (λ parts. subs_ways subs parts))) b
none-ways (VariantCtor k) t uid at subs binds u p b =
    ap (λ x. map (with_bounds binds u) (ways_where
    (some_if x (parts_met (VariantCtor k) (numbered_from 0 (parts_of u)))) (λ parts. subs_ways subs parts))) b
none-ways (FlagCtor k) t uid at subs binds u p b =
    ap (λ x. map (with_bounds binds u) (ways_where (some_if x (parts_met (FlagCtor k) (numbered_from 0 (parts_of u))))
    (λ parts. subs_ways subs parts))) b
none-ways (TextCtor k) t uid at subs binds u p b =
    ap (λ x. map (with_bounds binds u) (ways_where (some_if x (parts_met (TextCtor k) (numbered_from 0 (parts_of u))))
    (λ parts. subs_ways subs parts))) b
none-ways (RowCtor k) t uid at subs binds u p b =
    ap (λ x. map (with_bounds binds u) (ways_where (some_if x (parts_met (RowCtor k) (numbered_from 0 (parts_of u))))
    (λ parts. subs_ways subs parts))) b

at-columns : {T : Type 0} (decides : ℕ → Decision) (v : MValue) (cs : List (MColumn T)) (xs : List MValue)
    (ps : List (List ℕ)) → ArePartsAt v cs xs → ArePositions v cs ps → AtColumns decides v cs xs
at-columns decides v [] [] [] a b = tt
at-columns decides v [] [] (p ∷ ps) a b = elim b [ ]
at-columns decides v [] (x ∷ xs) ps a b = elim a [ ]
at-columns decides v (c ∷ cs) [] ps a b = elim a [ ]
at-columns decides v (c ∷ cs) (x ∷ xs) [] a b = elim b [ ]
at-columns decides v (c ∷ cs) (x ∷ xs) (p ∷ ps) a b = (a.0, ((p, b.0), at-columns decides v cs xs ps a.1 b.1))

-- a row with a rest, on the parts of a piece that it has
pub row-ways : {T : Type 0} (decides : ℕ → Decision) (f b : ℕ) (subs : MDePats T) (at n : ℕ)
    (alternatives : MValue → List Way) (named : List (List ℕ)) (p : MCtor) (u : MValue) →
    length (de_pats_list subs) ≡ f + b →
    HasRoom p (RowCtor (LongerShape f b)) → has_piece (RowCtor (LongerShape f b)) p ≡ true → builds named p u ≡ true →
    builds [] (RowCtor (LongerShape f b)) u ≡ true → ArityIs p n →
    all_done decides (ways_by_ctor (RowCtor (LongerShape f b)) at alternatives
    (λ parts. subs_ways subs parts) u) ≡ heads_done decides (heads_of (RowCtor (LongerShape f b))
    (map Some (de_pats_list subs)) n) (parts_by p u)
row-ways decides f b subs at n alternatives named (RowCtor (FixedShape m)) (Row items) count r h built e a =
    let l : List MValue = values_list items in
    let few : f + b ≤ length l = at-least (f + b) (length l) e in
    let same : m ≡ length l = nat_equal m (length l) built in
    let len : length l - (f + b) ≡ n - (f + b) = ap (λ k. k - (f + b)) (sym same ∙ sym a) in
    longer-met decides f b subs at n alternatives items (take (length l - (f + b)) (drop f l)) l few e count
    (middle-length f b l few ∙ len) (in-three f b l few)
row-ways decides f b subs at n alternatives named (RowCtor (LongerShape front back)) (Row items) count r h built e a =
    let l : List MValue = values_list items in
    let few : f + b ≤ length l = at-least (f + b) (length l) e in
    let more : front + back ≤ length l = at-least (front + back) (length l) built in
    longer-met decides f b subs at n alternatives items (drop f (take front l) ++ take (back - b)
    (drop (length l - back) l)) (take front l ++ drop (length l - back) l) few e count
    (ends-length f b front back l r.0 r.1 more ∙ ap (λ k. k - (f + b)) (sym a))
    (ends-in-three f b front back l r.0 r.1 more)
row-ways decides f b subs at n alternatives named (RowCtor s) _ count r h built e a = untrue e
row-ways decides f b subs at n alternatives named _ u count r h built e a = untrue h

module _ {T : Type 0} (decides : ℕ → Decision) (IsType : T → Type 0) (cx : Context T) (V : T → Bool → MValue → Type 0)
    (law : PartsLaw IsType V cx) (values : ValuesLaw IsType V cx) (c : MColumn T) (is : IsType c.type)
    (named : List (List ℕ)) (p : MCtor) (of : belongs (cx.set_of c.type) p ≡ true)
    (v u : MValue) (pos : List ℕ) (part : part_at c.place v ≡ Some u) (position : position_at c.place v ≡ Some pos)
    (value : V c.type c.sure u) (built : builds named p u ≡ true) where
  abbrev N : ℕ
  N = cx.arity p c.type

  has-parts : HasParts cx V c named p u (parts_by p u)
  has-parts = piece-parts IsType cx V law values c is named p u of value built

  columns-at : AtColumns decides v (part_columns cx c p) (parts_by p u)
  columns-at =
      let s = placed cx V c named p v u (parts_by p u) part has-parts in
      let q = positioned cx V c named p v u pos (parts_by p u) part position has-parts in
      at-columns decides v (part_columns cx c p) (parts_by p u) _ s.1 q.2

  column-count : length (part_columns cx c p) ≡ N
  column-count = length-below _ N

  wild-ways : (n : ℕ) (xs : List MValue) → length xs ≡ n → heads_done decides
      (wildcards {T = T} n) xs ≡ nothing_done ∷ []
  wild-ways n xs e =
      ap (λ hs. heads_done decides hs xs) (sym (append-nil (wildcards {T = T} n)))
      ∙ (ap (heads_done decides (wildcards {T = T} n ++ [])) (sym (append-nil xs))
      ∙ between-done decides 0 n [] [] xs [] refl e (omega arith))

  -- a constructor that has all parts of the piece
  meets-parts : (k p : MCtor) → MeetsAll k → has_piece k p ≡ true → parts_by p u ≡ parts_of u
  meets-parts WildCtor p m h = elim m [ ]
  meets-parts OrCtor p m h = elim m [ ]
  meets-parts (RowCtor (LongerShape f g)) p m h = elim m [ ]
  meets-parts (RowCtor (FixedShape i)) (RowCtor (LongerShape f g)) m h = untrue h
  meets-parts (RowCtor (FixedShape i)) (RowCtor (FixedShape n)) m h = refl
  meets-parts (RowCtor (FixedShape i)) _ m h = untrue h
  meets-parts SingleCtor SingleCtor m h = refl
  meets-parts SingleCtor _ m h = untrue h
  meets-parts PointCtor PointCtor m h = refl
  meets-parts PointCtor _ m h = untrue h
  meets-parts LaterCtor LaterCtor m h = refl
  meets-parts LaterCtor _ m h = untrue h
  meets-parts OtherTextCtor OtherTextCtor m h = refl
  meets-parts OtherTextCtor _ m h = untrue h
  meets-parts (VariantCtor i) (VariantCtor j) m h = refl
  meets-parts (VariantCtor i) _ m h = untrue h
  meets-parts (FlagCtor i) (FlagCtor j) m h = refl
  meets-parts (FlagCtor i) _ m h = untrue h
  meets-parts (NumbersCtor i) (NumbersCtor j) m h = refl
  meets-parts (NumbersCtor i) _ m h = untrue h
  meets-parts (TextCtor i) (TextCtor j) m h = refl
  meets-parts (TextCtor i) _ m h = untrue h

  own-count : (k : MCtor) → MeetsAll k → parts_by k u ≡ parts_of u
  own-count WildCtor m = elim m [ ]
  own-count OrCtor m = elim m [ ]
  own-count (RowCtor (LongerShape f g)) m = elim m [ ]
  own-count (RowCtor (FixedShape n)) m = refl
  own-count SingleCtor m = refl
  own-count PointCtor m = refl
  own-count LaterCtor m = refl
  own-count OtherTextCtor m = refl
  own-count (VariantCtor i) m = refl
  own-count (FlagCtor i) m = refl
  own-count (NumbersCtor i) m = refl
  own-count (TextCtor i) m = refl

  module _ (ty : T) (uid at : ℕ) (subs : MDePats T) (binds : List MBound) where
    -- what the constructor's ways do, where it has the piece
    abbrev Same : MCtor → Type 0
    Same k =
        all_done decides (ways_by_ctor k at (λ w. arena_alternatives_ways (chosen_of subs) subs w)
        (λ parts. subs_ways subs parts) u) ≡ heads_done decides (heads_of k (map Some (de_pats_list subs)) N)
        (parts_by p u)

    meet-same : (k : MCtor) → MeetsAll k → IsWritten cx c.type k subs → has_piece k p ≡ true → builds [] k u ≡ true →
        Same k
    meet-same k m w h b =
        let own : HasParts cx V c [] k u (parts_by k u) = piece-parts IsType cx V law values c is [] k u w.belong value
        b in
        let count : length (de_pats_list subs) ≡ length (parts_of u) = w.count
        ∙ (sym own.count ∙ ap length (own-count k m)) in
        all-met decides k subs at N (λ w. arena_alternatives_ways (chosen_of subs) subs w) u m b count
        ∙ ap (heads_done decides (heads_of k (map Some (de_pats_list subs)) N)) (sym (meets-parts k p m h))

    row-same : (f b : ℕ) → IsWritten cx c.type (RowCtor (LongerShape f b)) subs →
        HasRoom p (RowCtor (LongerShape f b)) → has_piece (RowCtor (LongerShape f b)) p ≡ true →
        builds [] (RowCtor (LongerShape f b)) u ≡ true → Same (RowCtor (LongerShape f b))
    row-same f b w r h e =
        row-ways decides f b subs at N (λ w. arena_alternatives_ways (chosen_of subs) subs w) named p u
        (w.count ∙ law.arity c.type (RowCtor (LongerShape f b)) is w.belong) r h built e (law.arity c.type p is of)

    ctor-same : (k : MCtor) → IsPlain k → (is_wild_ctor k ≡ false → IsWritten cx c.type k subs) → HasRoom p k →
        has_piece k p ≡ true → (is_wild_ctor k || builds [] k u) ≡ true → Same k
    ctor-same WildCtor pl w r h b = sym (wild-ways N (parts_by p u) has-parts.count)
    ctor-same OrCtor pl w r h b = elim pl [ ]
    ctor-same (RowCtor (LongerShape f g)) pl w r h b = row-same f g (w refl) r h b
    ctor-same (RowCtor (FixedShape n)) pl w r h b = meet-same (RowCtor (FixedShape n)) tt (w refl) h b
    ctor-same SingleCtor pl w r h b = meet-same SingleCtor tt (w refl) h b
    ctor-same PointCtor pl w r h b = meet-same PointCtor tt (w refl) h b
    ctor-same LaterCtor pl w r h b = meet-same LaterCtor tt (w refl) h b
    ctor-same OtherTextCtor pl w r h b = meet-same OtherTextCtor tt (w refl) h b
    ctor-same (VariantCtor i) pl w r h b = meet-same (VariantCtor i) tt (w refl) h b
    ctor-same (FlagCtor i) pl w r h b = meet-same (FlagCtor i) tt (w refl) h b
    ctor-same (NumbersCtor i) pl w r h b = meet-same (NumbersCtor i) tt (w refl) h b
    ctor-same (TextCtor i) pl w r h b = meet-same (TextCtor i) tt (w refl) h b

    pattern-enters : (k : MCtor) → IsTyped cx c.type (de_pat k ty uid at subs binds) → FitsPiece named p k →
        HeadKeeps decides (specialise_head p N) c (part_columns cx c p) v (Some (de_pat k ty uid at subs binds))
    pattern-enters k t f = go (has_piece k p) refl
      where
        go : (has : Bool) → has_piece k p ≡ has → HeadKeeps decides (specialise_head p N) c (part_columns cx c p) v (Some (de_pat k ty uid at subs binds))
        go true e =
            let b : (is_wild_ctor k || builds [] k u) ≡ true = f.sided u built ∙ e in
            let w : is_wild_ctor k ≡ false → IsWritten cx c.type k subs = λ x. written cx c.type ty uid at subs binds k
            f.plain x t in
            piece-keeps decides p N c (part_columns cx c p) v u pos
            (parts_by p u) part position columns-at column-count k ty uid at subs binds e
            (head-count IsType cx V law c.type is named p (Some (de_pat k ty uid at subs binds)) of t f e)
            (own-bound c.place v u part k b binds (own-parts cx c.type ty uid at subs binds k t))
            (ctor-same k f.plain w (f.room e) e b)
        go false e =
            none-keeps decides (specialise_head p N) c (part_columns cx c p) v u pos part position
            (Some (de_pat k ty uid at subs binds)) (none e) (none-ways k ty uid at subs binds u f.plain
            (f.sided u built ∙ e))
          where
            none : has_piece k p ≡ false → specialise_head p N (Some (de_pat k ty uid at subs binds)) ≡ []
            none e =
                ap (λ x. cond x (record {
                  heads = heads_of k
                      (map Some (de_pats_list subs)) N;
                  chosen = [];
                  binds = binds;
                } ∷ []) []) e

  -- entering the piece keeps the ways of each head that fits it
  pub head-enters : (h : Head T) → IsHeadTyped cx c.type h → HeadFits named p h →
      HeadKeeps decides (specialise_head p N) c (part_columns cx c p) v h
  head-enters None t f =
      let k = pattern-enters c.type 0 0 no_de_pats [] WildCtor (refl, refl, tt)
      (record { plain = tt; sided = λ u b. refl; room = λ e. room p }) in
      record {
        wide = k.wide;
        forth = λ a i. k.forth a (subst (Among a) same i);
        back = λ y a w i. (let m = k.back y a w i in (m.0, subst (Among m.0) (sym same) m.1, m.2));
      }
    where
      same : ways_at {T = T} (position_at c.place v) (part_at c.place v) None ≡ ways_at (position_at c.place v)
          (part_at c.place v) (Some (de_pat WildCtor c.type 0 0 no_de_pats []))
      same = rw (position, part) refl

      room : (q : MCtor) → HasRoom q WildCtor
      room (RowCtor (LongerShape f g)) = tt
      room _ = tt
  head-enters (Some (de_pat k ty uid at subs binds)) t f = pattern-enters ty uid at subs binds k t f
