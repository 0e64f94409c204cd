-- Every well-typed match is judged in some way: what comes to a submatrix can be told, and each match has a witness
-- list.
use Rattle.std.proofs.Common.{◌≡◌, ◌≢◌, ◌↔◌, ◌⊎◌, inl, inr, ℕ, zero, suc, ◌+◌, ◌<◌, ◌≤◌, Bool, true, false, cond, ◌&&◌, List, [], ◌∷◌, ◌++◌, length, map, replicate, Some, None, refl, sym, ap, subst, ◌∙◌, arith}
use Rattle.std.specs.List.{list_all, flat_map, Contains}
use Rattle.match_model.specs.Values.{MValue, Unseen, Thing}
use Rattle.match_model.specs.Constructors.{MCtor, WildCtor, MSet, SingleSet, PointSet, FlagSet, TextSet, OpaqueSet, NothingSet, VariantSet, NumberSet, RowSet}
use Rattle.match_model.specs.Contexts.{Context, Open}
use Rattle.match_model.specs.ContextLaws.{PartsLaw, ValuesLaw, EmptyLaw, UnsureLaw, ValueIs}
use Rattle.match_model.specs.ArenaPatterns.{de_pat, MDeMatch}
use Rattle.match_model.specs.ArenaWays.{match_arms, InMatchDomain}
use Rattle.match_model.specs.Made.{AreArmsMade}
use Rattle.match_model.specs.Match.{is_empty_list}
use Rattle.match_model.specs.ArenaUnreachable.{in_reading_order}
use Rattle.match_model.specs.PieceStates.{HasValue, named_in, is_present, IsPresentPiece, IsMissingPiece}
use Rattle.match_model.specs.Rows.{Head, is_wild, starts_wild, row_rest, column_of, expand_row, all_specialised, parts_open}
use Rattle.match_model.specs.Matrices.{MRow, column_at, first_wild, row_with, first_binds, expand_rows, specialised_rows}
use Rattle.match_model.specs.Steps.{Replacement, default_head, expand_head, with_others, own_binds}
use Rattle.match_model.specs.WellTyped.{IsWellTyped}
use Rattle.match_model.specs.Weights.{heads_weight, rows_weight}
use Rattle.match_model.specs.Unreachable.{Entry}
use Rattle.match_model.specs.Witness.{MWitness, AnyOf}
use Rattle.match_model.specs.WitnessList.{Witnesses, taken, no_row, anything, by_pieces, PieceWitnesses, no_piece, with_value, without_value, wrapped, IsWitnessList, nothing_to_match, by_rows, row_of}
use Rattle.match_model.proofs.Basics.{untrue, both}
use Rattle.match_model.proofs.Falling.{steps_lower}
use Rattle.constructor_sets.proofs.Whole.{made_pieces}
use Rattle.constructor_sets.proofs.PieceLaws.{values_told}
use Rattle.pat_context.specs.Parts.{AreValues, Tells, ctor_has_value}
use Rattle.pattern_matrix.specs.Counting.{Question, WantedRow, counts, to_arm, through_alternative}
use Rattle.pattern_matrix.specs.HeadRows.{cols, all_heads, AreTypes, AllTyped, AreMadeRows}
use Rattle.pattern_matrix.specs.ReachLaws.{SplitsHandOn, left_from}
use Rattle.pattern_matrix.specs.Searching.{Submatrix, heads_in, weight_of, Comes, SomeComes, apart, left_over, entered, settled, first_ctors, IsColumnCut, IsSplit, all_wild, none_missing, some_missing, first_submatrix}
use Rattle.pattern_matrix.specs.SearchLaws.{IsReached, IsJudged, FirstTells}
use Rattle.pattern_matrix.proofs.MatrixHeads.{expand_all, special_all}
use Rattle.pattern_matrix.proofs.Made.{expand_made, rests_made, column_made, special_made}
use Rattle.pattern_matrix.proofs.Places.{rests_typed, expanded_typed, expanded_none, heads_good, specials_typed, specials_types}
use Rattle.pattern_matrix.proofs.Exact.{built, AreAllSided, all_sided}
use Rattle.pattern_matrix.proofs.Covers.{rows_made, rows_typed}
use Rattle.pattern_matrix.proofs.Whole.{arms_typed}
use Rattle.pattern_matrix.proofs.OfTypes.{AreOf, AreAllOf, stacks_of}
use Rattle.pattern_matrix.proofs.HandingOn.{tell, here, there, in_cons, some_heads, Fit, apart_fit, apart_none}
use Rattle.pattern_matrix.proofs.Lighter.{total, rows_total}
use Rattle.pattern_matrix.proofs.Splits.{replaced_heads, wanted_heads, AreSome, expanded_heads}
use Rattle.pattern_matrix.proofs.Splitting.{splits_hand_on}
use Rattle.pattern_matrix.proofs.PiecesExist.{pieces_exist}
use Rattle.pattern_matrix.proofs.FirstTold.{first_tells}
use Rattle.pattern_matrix.proofs.Judged.{judged}

-- it holds or does not
abbrev pub Decided : Type 0 → Type 0
Decided X = X ⊎ ¬ X

flag : (X : Type 0) → Decided X → Bool
flag X (inl x) = true
flag X (inr n) = false

flag_is : (X : Type 0) (d : Decided X) → (flag X d ≡ true) ↔ X
unfolding flag
flag_is X (inl x) = ((λ e. x), (λ y. refl))
flag_is X (inr n) = ((λ e. cc), (λ x. absurd (n x)))

told : (b : Bool) {P : Type 0} → Tells b P → Decided P
told true h = inl h
told false h = inr h

-- ---- weights

abbrev bare : {T : Type 0} → List (List (Head T)) → List (MRow T)
bare hss = map (λ hs. record { heads = hs; arm = 0; guarded = false; chosen = []; caught = [] }) hss

bare_heads : {T : Type 0} (hss : List (List (Head T))) → all_heads (bare hss) ≡ hss
bare_heads [] = refl
bare_heads (hs ∷ hss) = ap (λ xs. hs ∷ xs) (bare_heads hss)

bare_wild : {T : Type 0} (hss : List (List (Head T))) → list_all first_wild (bare hss) ≡ list_all starts_wild hss
bare_wild [] = refl
bare_wild (hs ∷ hss) = ap (λ b. starts_wild hs && b) (bare_wild hss)

expand_light : {T : Type 0} (hss : List (List (Head T))) → total (flat_map expand_row hss) ≤ total hss
expand_light hss =
    let k = steps_lower.expanded [] (bare hss) in
    let a = rows_total (expand_rows [] (bare hss))
    ∙ ap total (expand_all [] (bare hss) ∙ ap (flat_map expand_row) (bare_heads hss)) in
    let b = rows_total (bare hss) ∙ ap total (bare_heads hss) in
    omega (arith, k, a, b)

special_light : {T : Type 0} (p : MCtor) (n : ℕ) (hss : List (List (Head T))) → list_all starts_wild hss ≡ false →
    total (all_specialised p n hss) < total hss
special_light p n hss e =
    let k = steps_lower.fewer_ctors [] p n (bare hss) (bare_wild hss ∙ e) in
    let a = rows_total (specialised_rows [] p n (bare hss))
    ∙ ap total (special_all [] p n (bare hss) ∙ ap (all_specialised p n) (bare_heads hss)) in
    let b = rows_total (bare hss) ∙ ap total (bare_heads hss) in
    omega (arith, k, a, b)

-- a row without its first head weighs no more
rest_weight : {T : Type 0} (hs : List (Head T)) → starts_wild hs ≡ true → heads_weight (row_rest hs) ≤ heads_weight hs
rest_weight {T} hs e = go (starts_wild hs) e (steps_lower.default [] (r ∷ []))
  where
    r : MRow T
    r = record { heads = hs; arm = 0; guarded = false; chosen = []; caught = [] }

    go : (w : Bool) → w ≡ true →
        rows_weight (cond w (row_with r (row_rest hs) [] (first_binds [] hs) ∷ []) [] ++ []) ≤ heads_weight hs + 0 →
        heads_weight (row_rest hs) ≤ heads_weight hs
    go true w k = omega (arith, k)
    go false w k = untrue w

rest_light : {T : Type 0} (hss : List (List (Head T))) → list_all starts_wild hss ≡ true →
    total (map row_rest hss) ≤ total hss
rest_light [] e = omega arith
rest_light (hs ∷ hss) e =
    let b = both (starts_wild hs) (list_all starts_wild hss) e in
    omega (arith, rest_light hss b.1, rest_weight hs b.0)

-- so do the rows that are left over
default_light : {T : Type 0} (hss : List (List (Head T))) → AreSome hss →
    total (flat_map (replaced_heads default_head) hss) ≤ total hss
default_light [] s = omega arith
default_light {T} (hs ∷ hss) s = one_row hs s.0 (default_light hss s.1)
  where
    one_row : (hs : List (Head T)) → (hs ≡ [] → ⊥) → total (flat_map (replaced_heads default_head) hss) ≤ total hss →
        total (replaced_heads default_head hs ++ flat_map (replaced_heads default_head) hss)
        ≤ heads_weight hs + total hss
    one_row [] n k = absurd (n refl)
    one_row (h ∷ rest) n k = go (is_wild h) refl
      where
        put : Bool → List (Replacement T)
        put b = cond b (record { heads = []; chosen = []; binds = own_binds h } ∷ []) []

        go : (b : Bool) → is_wild h ≡ b →
            total (map (λ (y : Replacement T). y.heads) (map (with_others rest) (put b))
            ++ flat_map (replaced_heads default_head) hss)
            ≤ heads_weight (h ∷ rest) + total hss
        go true e = let m = rest_weight (h ∷ rest) e in omega (arith, k, m)
        go false e = omega (arith, k)

heads_of_rows : {T : Type 0} (rows : List (WantedRow T)) → all_heads (map (λ x. x.row) rows) ≡ heads_in rows
heads_of_rows [] = refl
heads_of_rows (x ∷ rows) = ap (λ hss. x.row.heads ∷ hss) (heads_of_rows rows)

weighs : {T : Type 0} (s : Submatrix T) → weight_of s ≡ total (heads_in s.rows)
weighs s = rows_total (map (λ x. x.row) s.rows) ∙ ap total (heads_of_rows s.rows)

-- rows that are wild at the first place have no or-pattern there
wild_alone : {T : Type 0} (hss : List (List (Head T))) → list_all starts_wild hss ≡ true → flat_map expand_row hss ≡ hss
wild_alone [] e = refl
wild_alone {T} (hs ∷ hss) e =
    let b = both (starts_wild hs) (list_all starts_wild hss) e in
    ap (λ xs. xs ++ flat_map expand_row hss) (one_row hs b.0) ∙ ap (λ xs. hs ∷ xs) (wild_alone hss b.1)
  where
    one_row : (hs : List (Head T)) → starts_wild hs ≡ true → expand_row hs ≡ hs ∷ []
    one_row [] e = refl
    one_row (None ∷ rest) e = refl
    one_row (Some (de_pat WildCtor t uid at subs binds) ∷ rest) e = refl
    one_row (Some (de_pat _ t uid at subs binds) ∷ rest) e = untrue e

module _ {T : Type 0} (IsType : T → Type 0) (IsValue : T → Bool → MValue → Type 0) (cx : Context T)
    (values : ValuesLaw IsType IsValue cx)
    (law : PartsLaw IsType IsValue cx) (is_empty : T → Bool) (variant_empty : T → ℕ → Bool)
    (empty : EmptyLaw IsType IsValue cx is_empty variant_empty) (unsure : UnsureLaw IsType IsValue) where
  -- ---- witness lists

  -- the rows have witnesses
  abbrev Left : List (Open T) → List (List (Head T)) → Type 0
  Left places hss = (ws : List (List MWitness)) × Witnesses cx IsValue places hss ws

  abbrev LeftWhere : List (Open T) → List (List (Head T)) → Type 0
  LeftWhere places hss = AreTypes IsType (cols places) → AllTyped cx (cols places) hss → AreMadeRows hss →
      Left places hss

  left_pieces : (w : ℕ) → ((places : List (Open T)) (hss : List (List (Head T))) → total hss < w →
      LeftWhere places hss) →
      (o : Open T) (places : List (Open T)) (hss : List (List (Head T))) (named : List (List ℕ)) (pieces : List MCtor) →
      total hss < suc w → list_all starts_wild hss ≡ false → AreTypes IsType (cols (o ∷ places)) →
      AllTyped cx (cols (o ∷ places)) hss → AreMadeRows hss →
      AreAllSided IsType IsValue cx values law o named hss pieces →
      ((p : MCtor) → Contains pieces p → Decided (HasValue IsValue o named p)) →
      (us : List (List MWitness)) × PieceWitnesses cx IsValue named o places hss pieces us
  left_pieces w lighter o places hss named [] l e d h g s k = ([], no_piece named o places hss)
  left_pieces w lighter o places hss named (p ∷ pieces) l e d h g s k =
      go (k p (here p pieces)) (left_pieces w lighter o places hss named pieces l e d h g s.1
      (λ x i. k x (there p x pieces i)))
    where
      n : ℕ
      n = cx.arity p o.type

      go : Decided (HasValue IsValue o named p) → (us : List (List MWitness))
          × PieceWitnesses cx IsValue named o places hss pieces us →
          (us : List (List MWitness)) × PieceWitnesses cx IsValue named o places hss (p ∷ pieces) us
      go (inr v) (us, r) = (us, without_value named o places hss p pieces us v r)
      go (inl v) (us, r) =
          let m = special_light p n hss e in
          let first = lighter (parts_open cx o p ++ places) (all_specialised p n hss) (omega (arith, m, l))
          (specials_types IsType IsValue cx law o places p s.0.0 d)
          (specials_typed IsType IsValue cx law o places p hss d.0 s.0.0 h)
          (special_made p n hss g) in
          (map (wrapped p named n) first.0 ++ us, with_value named o places hss p pieces first.0 us v first.1 r)

  left_by : (w : ℕ) → ((places : List (Open T)) (hss : List (List (Head T))) → total hss < w → LeftWhere places hss) →
      (places : List (Open T)) (hss : List (List (Head T))) → total hss < suc w → LeftWhere places hss
  left_by w lighter [] [] l d h g = (replicate 0 AnyOf ∷ [], no_row [])
  left_by w lighter [] (row ∷ rows) l d h g = ([], taken row rows)
  left_by w lighter (o ∷ places) [] l d h g = (replicate (length (o ∷ places)) AnyOf ∷ [], no_row (o ∷ places))
  left_by w lighter (o ∷ places) (row ∷ rows) l d h g =
      let es = flat_map expand_row (row ∷ rows) in
      let t = expanded_typed cx (column_at [] o) (cols places) (row ∷ rows) h in
      let m = expand_made (row ∷ rows) g in
      let n = expanded_none cx (column_at [] o) (cols places) (row ∷ rows) h in
      let light = expand_light (row ∷ rows) in
      tell (list_all starts_wild es)
      (λ e.
      let k = rest_light es e in
      let rest = left_by w lighter places (map row_rest es) (omega (arith, k, light, l)) d.1
      (rests_typed cx (column_at [] o) (cols places) es t) (rests_made es m) in
      (map (λ x. AnyOf ∷ x) rest.0, anything o places row rows rest.0 e rest.1))
      (λ e.
      let ps = pieces_exist (cx.set_of o.type) (column_of es) (values.made o.type d.0) in
      let column = heads_good cx (column_at [] o) (cols places) es t n in
      let c = made_pieces (cx.set_of o.type) (column_of es) ps.0 (values.made o.type d.0) (values.ascend o.type d.0)
      column (column_made es m) ps.1 in
      let rest = left_pieces w lighter o places es (named_in ps.0) ps.0 (omega (arith, light, l)) e d t m
      (all_sided IsType IsValue cx values law o places (named_in ps.0) es ps.0 d.0 t n c.belong c.one_sided c.room)
      (λ p i.
      told (ctor_has_value cx is_empty variant_empty o.type o.sure p)
      (values_told IsType IsValue cx values law is_empty variant_empty empty unsure o (column_of es) ps.0 p d.0
      (record {
        ascend = values.ascend o.type d.0;
        ranges = values.made o.type d.0;
        allowed = column;
        made = column_made es m;
      }) ps.1 i)) in
      (rest.0, by_pieces o places row rows ps.0 rest.0 e ps.1 rest.1))

  left : (w : ℕ) (places : List (Open T)) (hss : List (List (Head T))) → total hss < w → LeftWhere places hss
  left zero places hss l = absurd (omega (arith, l))
  left (suc w) places hss l = left_by w (left w) places hss l

  -- stacks of one place are witnesses one by one
  lone : (o : Open T) (zs : List (List MWitness)) → AreAllOf cx (o ∷ []) zs → (ws : List MWitness)
      × (map (λ w. w ∷ []) ws ≡ zs)
  lone o [] h = ([], refl)
  lone o (z ∷ zs) h = one z h.0 (lone o zs h.1)
    where
      one : (z : List MWitness) → AreOf cx (o ∷ []) z → (ws : List MWitness) × (map (λ w. w ∷ []) ws ≡ zs) →
          (ws : List MWitness) × (map (λ w. w ∷ []) ws ≡ z ∷ zs)
      one [] a r = absurd a
      one (w ∷ []) a (ws, e) = (w ∷ ws, ap (λ xs. (w ∷ []) ∷ xs) e)
      one (w ∷ x ∷ xs) a r = absurd a.1

  abbrev HasValues : MDeMatch T → Type 0
  HasValues m = (v : MValue) × InMatchDomain IsValue m v

  some_value : (m : MDeMatch T) → IsType m.type → Decided (HasValues m)
  some_value m d = by_sure m.sure
    where
      by_empty : (b : Bool) → is_empty m.type ≡ b → Decided ((v : MValue) × IsValue m.type true v)
      by_empty true e = inr (λ v. empty.empty m.type d e v.0 v.1)
      by_empty false e = inl (empty.inhabited m.type d e)

      by_sure : (sure : Bool) → Decided ((v : MValue) × IsValue m.type sure v)
      by_sure true = by_empty (is_empty m.type) refl
      by_sure false = inl (unsure m.type d)

  abbrev Listed : MDeMatch T → Type 0
  Listed m = (ws : List MWitness) × IsWitnessList cx IsValue m ws

  list_by : (m : MDeMatch T) → IsWellTyped IsType cx m → AreArmsMade m.arms → (v : MValue) → InMatchDomain IsValue m v →
      v ≢ Unseen → Listed m
  list_by m w y v a n =
      let o : Open T = record { type = m.type; sure = m.sure } in
      let hss = flat_map row_of m.arms in
      let typed = rows_typed IsType IsValue cx values law m m.arms (arms_typed cx m.type m.arms w.typed) in
      let made = rows_made IsType IsValue cx values law m.arms y in
      let r = left (suc (total hss)) (o ∷ []) hss (omega arith) (w.type, tt) typed made in
      let s = lone o r.0 (stacks_of IsType IsValue cx values law (o ∷ []) hss r.0 r.1 (w.type, tt) typed made) in
      let back = sym {a = map (λ x. x ∷ []) s.0} s.1 in
      (s.0, by_rows v s.0 a n (subst (Witnesses cx IsValue (o ∷ []) hss) {y = map (λ x. x ∷ []) s.0} back r.1))

  list_exists : (m : MDeMatch T) → IsWellTyped IsType cx m → AreArmsMade m.arms → Listed m
  list_exists m w y = elim (some_value m w.type) [
    | inl v ↦ by_set (cx.set_of m.type) refl v
    | inr n ↦
        ([], nothing_to_match (λ v a. absurd (n (v, a))))
  ]
    where
      thing : Thing ≡ Unseen → ⊥
      thing e = cc

      other : (s : MSet) → cx.set_of m.type ≡ s → ((u : MValue) → ValueIs s m.sure u → u ≢ Unseen) → HasValues m →
          Listed m
      other s e f (v, a) = list_by m w y v a
          (f v (subst (λ z. ValueIs z m.sure v) e (values.each m.type m.sure v w.type a)))

      by_set : (s : MSet) → cx.set_of m.type ≡ s → HasValues m → Listed m
      by_set NothingSet e v = (
        [],
        nothing_to_match
            (λ u b. (subst (λ z. ValueIs z m.sure u) e (values.each m.type m.sure u w.type b)).0),
      )
      by_set OpaqueSet e v = other OpaqueSet e (λ u b c. thing (sym b ∙ c)) v
      by_set SingleSet e v = other SingleSet e (λ u b. (built IsType IsValue cx values law SingleSet m.sure u tt b).0) v
      by_set PointSet e v = other PointSet e (λ u b. (built IsType IsValue cx values law PointSet m.sure u tt b).0) v
      by_set FlagSet e v = other FlagSet e (λ u b. (built IsType IsValue cx values law FlagSet m.sure u tt b).0) v
      by_set TextSet e v = other TextSet e (λ u b. (built IsType IsValue cx values law TextSet m.sure u tt b).0) v
      by_set (VariantSet c k) e v = other (VariantSet c k) e
          (λ u b. (built IsType IsValue cx values law (VariantSet c k) m.sure u tt b).0) v
      by_set (NumberSet c k) e v = other (NumberSet c k) e
          (λ u b. (built IsType IsValue cx values law (NumberSet c k) m.sure u tt b).0) v
      by_set (RowSet c) e v = other (RowSet c) e
          (λ u b. (built IsType IsValue cx values law (RowSet c) m.sure u tt b).0) v

  -- ---- what comes to a submatrix

  hand : SplitsHandOn IsType IsValue cx
  hand = splits_hand_on IsType IsValue cx values law

  some_decided : (q : Question) (subs : List (Submatrix T)) →
      ((n : Submatrix T) → Contains subs n → Decided (Comes IsValue q n)) →
      Decided (SomeComes IsValue q subs)
  some_decided q [] f = inr (λ (s, i, c). nothing s i)
    where
      nothing : (s : Submatrix T) → Contains [] s → ⊥
      nothing s (k, l, e) = omega (arith, l)
  some_decided q (n ∷ subs) f = by (f n (here n subs)) (some_decided q subs (λ m i. f m (there n m subs i)))
    where
      by : Decided (Comes IsValue q n) → Decided (SomeComes IsValue q subs) → Decided (SomeComes IsValue q (n ∷ subs))
      by (inl c) rest = inl (n, here n subs, c)
      by (inr never) (inl (m, i, c)) = inl (m, there n m subs i, c)
      by (inr never) (inr none) = inr (λ (m, i, c). in_cons n m subs (λ z. Comes IsValue q z → ⊥) never
          (λ z j d. none (z, j, d)) i c)

  split_decided : (q : Question) (o : Open T) (places : List (Open T)) (rows : List (WantedRow T))
      (subs : List (Submatrix T)) →
      Fit IsType IsValue cx values law (o ∷ places) rows → IsSplit IsValue cx o places (apart rows) subs →
      ((n : Submatrix T) → Contains subs n → Decided (Comes IsValue q n)) →
      Decided (Comes IsValue q (record { places = o ∷ places; rows = rows }))
  split_decided q o places rows subs f split each = by (some_decided q subs each)
    where
      by : Decided (SomeComes IsValue q subs) → Decided (Comes IsValue q (record { places = o ∷ places; rows = rows }))
      by (inl (n, i, c)) = inl (hand.back o places rows subs f split n i q c)
      by (inr none) = inr (λ c. none (hand.on o places rows subs f split q c))

  -- the pieces of a column that have values: which are in heads, and whether one is in none
  record Cut (o : Open T) (named : List (List ℕ)) (heads pieces : List MCtor) : Type 0 where
    present : List MCtor
    missing : Bool
    each : (p : MCtor) → Contains present p → Contains pieces p × IsPresentPiece IsValue o named heads p
    all : (p : MCtor) → Contains pieces p → IsPresentPiece IsValue o named heads p → Contains present p
    one : missing ≡ true → (p : MCtor) × Contains pieces p × IsMissingPiece IsValue o named heads p
    none : missing ≡ false → (p : MCtor) → Contains pieces p → IsMissingPiece IsValue o named heads p → ⊥

  cut_of : (o : Open T) (named : List (List ℕ)) (heads pieces : List MCtor) →
      ((p : MCtor) → Contains pieces p → Decided (HasValue IsValue o named p)) → Cut o named heads pieces
  cut_of o named heads [] f = record {
    present = [];
    missing = false;
    each = λ p i. absurd (nothing p i);
    all = λ p i h. i;
    one = λ e. absurd (apart_flags e);
    none = λ e p i h. nothing p i;
  }
    where
      nothing : (p : MCtor) → Contains [] p → ⊥
      nothing p (k, l, e) = omega (arith, l)

      apart_flags : false ≡ true → ⊥
      apart_flags e = cc
  cut_of o named heads (p ∷ pieces) f = by (f p (here p pieces)) (is_present heads p) refl
      (cut_of o named heads pieces (λ x i. f x (there p x pieces i)))
    where
      clash : (b : Bool) → b ≡ true → b ≡ false → ⊥
      clash b e g = cc

      by : Decided (HasValue IsValue o named p) → (b : Bool) → is_present heads p ≡ b → Cut o named heads pieces →
          Cut o named heads (p ∷ pieces)
      by (inl v) true e c = record {
        present = p ∷ c.present;
        missing = c.missing;
        each = λ x i. in_cons p x c.present (λ z. Contains (p ∷ pieces) z × IsPresentPiece IsValue o named heads z)
            (here p pieces, (v, e))
            (λ z j. let r = c.each z j in (there p z pieces r.0, r.1)) i;
        all = λ x i h. in_cons p x pieces (λ z. IsPresentPiece IsValue o named heads z → Contains (p ∷ c.present) z)
            (λ k. here p c.present)
            (λ z j k. there p z c.present (c.all z j k)) i h;
        one = λ m. let r = c.one m in (r.0, there p r.0 pieces r.1, r.2);
        none = λ m x i h. in_cons p x pieces (λ z. IsMissingPiece IsValue o named heads z → ⊥)
            (λ k. clash (is_present heads p) e k.1)
            (λ z j k. c.none m z j k) i h;
      }
      by (inl v) false e c = record {
        present = c.present;
        missing = true;
        each = λ x i. let r = c.each x i in (there p x pieces r.0, r.1);
        all = λ x i h. in_cons p x pieces (λ z. IsPresentPiece IsValue o named heads z → Contains c.present z)
            (λ k. absurd (clash (is_present heads p) k.1 e)) (λ z j k. c.all z j k) i h;
        one = λ m. (p, here p pieces, (v, e));
        none = λ m. absurd (clash true refl m);
      }
      by (inr never) b e c = record {
        present = c.present;
        missing = c.missing;
        each = λ x i. let r = c.each x i in (there p x pieces r.0, r.1);
        all = λ x i h. in_cons p x pieces (λ z. IsPresentPiece IsValue o named heads z → Contains c.present z)
            (λ k. absurd (never k.0))
            (λ z j k. c.all z j k) i h;
        one = λ m. let r = c.one m in (r.0, there p r.0 pieces r.1, r.2);
        none = λ m x i h. in_cons p x pieces (λ z. IsMissingPiece IsValue o named heads z → ⊥) (λ k. never k.0)
            (λ z j k. c.none m z j k) i h;
      }

  -- how rows without or-patterns at the first place are cut there
  abbrev Splitting : (o : Open T) (places : List (Open T)) (rows : List (WantedRow T)) → Type 0
  Splitting o places rows = (subs : List (Submatrix T)) × IsSplit IsValue cx o places rows subs

  cut_column : (o : Open T) (places : List (Open T)) (rows : List (WantedRow T)) →
      Fit IsType IsValue cx values law (o ∷ places) rows →
      list_all starts_wild (heads_in (apart rows)) ≡ false → Splitting o places (apart rows)
  cut_column o places rows f e =
      let es = heads_in (apart rows) in
      let g = apart_fit IsType IsValue cx values law o places rows f in
      let n = apart_none IsType IsValue cx values law o places rows f in
      let set = cx.set_of o.type in
      let d = g.types.0 in
      let ps = pieces_exist set (column_of es) (values.made o.type d) in
      let column = heads_good cx (column_at [] o) (cols places) es g.typed n in
      let c : Cut o (named_in ps.0) (column_of es) ps.0 = cut_of o (named_in ps.0) (column_of es) ps.0
      (λ p i.
      told (ctor_has_value cx is_empty variant_empty o.type o.sure p)
      (values_told IsType IsValue cx values law is_empty variant_empty empty unsure o (column_of es) ps.0 p d
      (record {
        ascend = values.ascend o.type d;
        ranges = values.made o.type d;
        allowed = column;
        made = column_made es g.made;
      }) ps.1 i)) in
      by c.missing (record {
        pieces = ps.0;
        listed = ps.1;
        each_present = c.each;
        all_present = c.all;
        one_missing = c.one;
        none_missing = c.none;
      }) c.present
    where
      by : (b : Bool) {present : List MCtor} → IsColumnCut IsValue cx o (first_ctors (apart rows)) present b →
          (ps : List MCtor) → Splitting o places (apart rows)
      by true {present} k ps = (
        left_over places (apart rows) ∷ map (entered cx o places (settled (apart rows)))
            present,
        some_missing present e k,
      )
      by false {present} k ps = (map (entered cx o places (apart rows)) present, none_missing present e k)

  -- what is left over weighs no more
  left_weight : (o : Open T) (places : List (Open T)) (rows : List (WantedRow T)) →
      Fit IsType IsValue cx values law (o ∷ places) rows →
      weight_of (left_over places (apart rows)) ≤ weight_of (record { places = o ∷ places; rows = rows })
  left_weight o places rows f =
      let g = apart_fit IsType IsValue cx values law o places rows f in
      let some = some_heads cx o places (heads_in rows) f.typed in
      let a = weighs (left_over places (apart rows)) ∙ ap total (wanted_heads default_head (apart rows)) in
      let b = default_light (heads_in (apart rows)) (some_heads cx o places (heads_in (apart rows)) g.typed) in
      let c = ap total (wanted_heads expand_head rows ∙ expanded_heads (heads_in rows) some) in
      let k = expand_light (heads_in rows) in
      let w = weighs (record { places = o ∷ places; rows = rows }) in
      omega (arith, a, b, c, k, w)

  -- rows that are not wild at the first place once or-patterns are taken apart were not before
  still_sharp : (o : Open T) (places : List (Open T)) (rows : List (WantedRow T)) →
      Fit IsType IsValue cx values law (o ∷ places) rows →
      list_all starts_wild (heads_in (apart rows)) ≡ false → list_all starts_wild (heads_in rows) ≡ false
  still_sharp o places rows f e = go (list_all starts_wild (heads_in rows)) refl
    where
      same : list_all starts_wild (heads_in rows) ≡ true → list_all starts_wild (heads_in (apart rows)) ≡ true
      same w =
          ap (list_all starts_wild) (wanted_heads expand_head rows
          ∙ (expanded_heads (heads_in rows) (some_heads cx o places (heads_in rows) f.typed)
          ∙ wild_alone (heads_in rows) w)) ∙ w

      clash : (b : Bool) → b ≡ true → b ≡ false → ⊥
      clash b e g = cc

      go : (b : Bool) → list_all starts_wild (heads_in rows) ≡ b → list_all starts_wild (heads_in rows) ≡ false
      go false w = w
      go true w = absurd (clash (list_all starts_wild (heads_in (apart rows))) (same w) e)

  abbrev DecidedWhere : Question → List (Open T) → List (WantedRow T) → Type 0
  DecidedWhere q places rows =
      Fit IsType IsValue cx values law places rows → Decided (Comes IsValue q (record { places = places; rows = rows }))

  decided_by : (q : Question) (w : ℕ) →
      ((places : List (Open T)) (rows : List (WantedRow T)) → weight_of (record { places = places; rows = rows }) < w →
      DecidedWhere q places rows) →
      (places : List (Open T)) (rows : List (WantedRow T)) → weight_of (record { places = places; rows = rows })
      < suc w → DecidedWhere q places rows
  decided_by q w lighter [] rows l f = by (counts q rows []) refl
    where
      clash : (b : Bool) → b ≡ true → b ≡ false → ⊥
      clash b e g = cc

      only : counts q rows [] ≡ false → (vs : List MValue) → AreValues IsValue [] vs → counts q rows vs ≡ true → ⊥
      only e [] a c = clash (counts q rows []) c e
      only e (v ∷ vs) a c = absurd a

      by : (b : Bool) → counts q rows [] ≡ b → Decided (Comes IsValue q (record { places = []; rows = rows }))
      by true e = inl ([], tt, e)
      by false e = inr (λ (vs, a, c). only e vs a c)
  decided_by q w lighter (o ∷ places) rows l f =
      tell (list_all starts_wild (heads_in (apart rows)))
      (λ e.
      let over = left_over places (apart rows) in
      let light = left_weight o places rows f in
      let fit = hand.fit o places rows (over ∷ []) f (all_wild e) over (here over []) in
      let rest = decided_by q w lighter places over.rows (omega (arith, light, l)) fit in
      split_decided q o places rows (over ∷ []) f (all_wild e)
      (λ n i. in_cons over n [] (λ z. Decided (Comes IsValue q z)) rest (λ z (k, m, d). absurd (omega (arith, m))) i))
      (λ e.
      let split = cut_column o places rows f e in
      split_decided q o places rows split.0 f split.1
      (λ n i.
      let less = hand.falls o places rows split.0 f split.1 (still_sharp o places rows f e) n i in
      lighter n.places n.rows (omega (arith, less, l)) (hand.fit o places rows split.0 f split.1 n i)))

  decided : (q : Question) (w : ℕ) (places : List (Open T)) (rows : List (WantedRow T)) →
      weight_of (record { places = places; rows = rows }) < w → DecidedWhere q places rows
  decided q zero places rows l = absurd (omega (arith, l))
  decided q (suc w) places rows l = decided_by q w (decided q w) places rows l

  -- ---- marks

  marks_exist : (m : MDeMatch T) → IsWellTyped IsType cx m → AreArmsMade m.arms → (is_marked : Question → Bool)
      × IsReached IsValue m is_marked
  marks_exist m w y = by (some_value m w.type)
    where
      tells : FirstTells IsType IsValue cx
      tells = first_tells IsType IsValue cx

      first : Submatrix T
      first = first_submatrix m

      by : Decided (HasValues m) → (is_marked : Question → Bool) × IsReached IsValue m is_marked
      by (inl v) =
          let fit = tells.fit m w y v in
          let dec : (q : Question) → Decided (Comes IsValue q first) = λ q. decided q (suc (weight_of first))
          first.places first.rows (omega arith) fit in (
            (λ q. flag (Comes IsValue q first) (dec q)),
            tells.reached m (λ q. flag (Comes IsValue q first) (dec q))
                (λ q. flag_is (Comes IsValue q first) (dec q)),
          )
      by (inr none) = (
        (λ q. false),
        tells.reached m (λ q. false)
            (λ q. ((λ e. absurd (never e)), (λ c. absurd (nobody q c)))),
      )
        where
          never : false ≡ true → ⊥
          never e = cc

          nobody : (q : Question) → Comes IsValue q first → ⊥
          nobody q ([], a, c) = a
          nobody q (v ∷ vs, a, c) = none (v, a.0)

  -- ---- judging

  pub some_judged : (m : MDeMatch T) → IsWellTyped IsType cx m → AreArmsMade m.arms →
      (exhaustive : Bool) × (unreachable : List Entry) × (witnesses : List MWitness)
      × IsJudged IsValue cx m exhaustive unreachable witnesses
  some_judged m w y =
      let marks = marks_exist m w y in
      let list = list_exists m w y in
      tell (marks.0 (to_arm (length m.arms)))
      (λ e. judged_with marks.0 marks.1 list.0 (λ k. list.1)
      (λ k. absurd (clash (marks.0 (to_arm (length m.arms))) e k)))
      (λ e. judged_with marks.0 marks.1 [] (λ k. absurd (clash (marks.0 (to_arm (length m.arms))) k e)) (λ k. refl))
    where
      clash : (b : Bool) → b ≡ true → b ≡ false → ⊥
      clash b e g = cc

      judged_with : (is_marked : Question → Bool) → IsReached IsValue m is_marked → (ws : List MWitness) →
          (is_marked (to_arm (length m.arms)) ≡ true → IsWitnessList cx IsValue m ws) →
          (is_marked (to_arm (length m.arms)) ≡ false → ws ≡ []) →
          (exhaustive : Bool) × (unreachable : List Entry) × (witnesses : List MWitness)
          × IsJudged IsValue cx m exhaustive unreachable witnesses
      judged_with is_marked r ws some none = (
        is_empty_list ws,
        in_reading_order (left_from (λ j. is_marked (to_arm j)) (λ j id. is_marked (through_alternative j id)) 0
            (match_arms m)),
        ws,
        judged IsType IsValue cx values law is_empty variant_empty empty unsure m is_marked ws w y r some none,
      )
