-- Rows that take all values have no witness, so an exhaustive match has the empty witness list.
use Rattle.std.proofs.Common.{◌≡◌, ◌≢◌, ◌⊎◌, inl, inr, ◌≤◌, ◌<◌, ℕ, zero, suc, ◌+◌, Bool, true, false, ◌&&◌, List, [], ◌∷◌, ◌++◌, map, take, drop, cond, refl, sym, ap, subst, ◌∙◌, arith}
use Rattle.std.specs.List.{list_all, flat_map, Contains}
use Rattle.std.proofs.lemmas.List.{take-append-drop}
use Rattle.match_model.specs.Values.{MValue, Unseen, Thing}
use Rattle.match_model.specs.Constructors.{MCtor, MSet, SingleSet, PointSet, FlagSet, TextSet, OpaqueSet, NothingSet, VariantSet, NumberSet, RowSet, builds}
use Rattle.match_model.specs.Contexts.{Context, Open}
use Rattle.match_model.specs.ContextLaws.{PartsLaw, ValuesLaw, EmptyLaw, UnsureLaw, ValueIs}
use Rattle.match_model.specs.ArenaPatterns.{MDeMatch}
use Rattle.match_model.specs.ArenaWays.{match_arms, InMatchDomain}
use Rattle.match_model.specs.Made.{AreArmsMade}
use Rattle.match_model.specs.Match.{IsExhaustive}
use Rattle.match_model.specs.PieceStates.{HasValue, named_in}
use Rattle.match_model.specs.Rows.{Head, starts_wild, row_rest, column_of, expand_row, all_specialised, parts_open, part_open}
use Rattle.match_model.specs.Matrices.{MRow, column_at, first_wild, row_with, first_binds, expand_rows, specialised_rows}
use Rattle.match_model.specs.WellTyped.{IsWellTyped}
use Rattle.match_model.specs.Weights.{heads_weight, rows_weight}
use Rattle.match_model.specs.Witness.{parts_under}
use Rattle.match_model.specs.WitnessList.{Witnesses, taken, anything, by_pieces, PieceWitnesses, no_piece, with_value, without_value, IsWitnessList, nothing_to_match, by_rows, row_of}
use Rattle.match_model.proofs.Basics.{untrue, both}
use Rattle.match_model.proofs.Falling.{steps_lower}
use Rattle.constructor_sets.proofs.Whole.{made_pieces}
use Rattle.constructor_sets.proofs.PieceLaws.{values_told}
use Rattle.pat_context.specs.Parts.{AreValues, Tells, ctor_has_value}
use Rattle.pat_context.proofs.Parting.{parts_values, refill}
use Rattle.pattern_matrix.specs.Covering.{some_takes}
use Rattle.pattern_matrix.specs.HeadRows.{cols, AreTypes, AllTyped, AreMadeRows, all_heads}
use Rattle.pattern_matrix.specs.SearchLaws.{ExhaustiveHasNone}
use Rattle.pattern_matrix.proofs.MatrixHeads.{expand_all, special_all}
use Rattle.pattern_matrix.proofs.Takes.{expand_takes}
use Rattle.pattern_matrix.proofs.Specials.{special_takes}
use Rattle.pattern_matrix.proofs.Made.{expand_made, rests_made, column_made, special_made}
use Rattle.pattern_matrix.proofs.Places.{length-below, values-append, rests_typed, expanded_typed, expanded_none, heads_good, wild_takes, specials_typed, specials_types}
use Rattle.pattern_matrix.proofs.Exact.{built, AreAllSided, all_sided, values-split}
use Rattle.pattern_matrix.proofs.Covers.{rows_made, rows_typed, covered_is}
use Rattle.pattern_matrix.proofs.Whole.{arms_typed}
use Rattle.pattern_matrix.proofs.HandingOn.{tell, here, there}
use Rattle.pattern_matrix.proofs.Lighter.{total, rows_total}
use Rattle.pattern_matrix.proofs.PiecesExist.{pieces_exist}

-- weights of rows of heads

abbrev bare : {T : Type 0} → List (List (Head T)) → List (MRow T)
bare hss = map (λ hs. record { heads = hs; arm = 0; guarded = false; chosen = []; caught = [] }) hss

bare_heads : {T : Type 0} (hss : List (List (Head T))) → all_heads (bare hss) ≡ hss
bare_heads [] = refl
bare_heads (hs ∷ hss) = ap (λ xs. hs ∷ xs) (bare_heads hss)

bare_wild : {T : Type 0} (hss : List (List (Head T))) → list_all first_wild (bare hss) ≡ list_all starts_wild hss
bare_wild [] = refl
bare_wild (hs ∷ hss) = ap (λ b. starts_wild hs && b) (bare_wild hss)

expand_light : {T : Type 0} (hss : List (List (Head T))) → total (flat_map expand_row hss) ≤ total hss
expand_light hss =
    let k = steps_lower.expanded [] (bare hss) in
    let a = rows_total (expand_rows [] (bare hss)) ∙ ap total (expand_all [] (bare hss) ∙ ap (flat_map expand_row) (bare_heads hss)) in
    let b = rows_total (bare hss) ∙ ap total (bare_heads hss) in
    omega (arith, k, a, b)

special_light : {T : Type 0} (p : MCtor) (n : ℕ) (hss : List (List (Head T))) → list_all starts_wild hss ≡ false → total (all_specialised p n hss) < total hss
special_light p n hss e =
    let k = steps_lower.fewer_ctors [] p n (bare hss) (bare_wild hss ∙ e) in
    let a = rows_total (specialised_rows [] p n (bare hss)) ∙ ap total (special_all [] p n (bare hss) ∙ ap (all_specialised p n) (bare_heads hss)) in
    let b = rows_total (bare hss) ∙ ap total (bare_heads hss) in
    omega (arith, k, a, b)

rest_light : {T : Type 0} (hss : List (List (Head T))) → list_all starts_wild hss ≡ true → total (map row_rest hss) ≤ total hss
rest_light [] e = omega arith
rest_light {T} (hs ∷ hss) e =
    let b = both (starts_wild hs) (list_all starts_wild hss) e in
    let k = rest_light hss b.1 in
    let m = go (starts_wild hs) b.0 (steps_lower.default [] (r ∷ [])) in
    omega (arith, k, m)
  where
    r : MRow T
    r = record { heads = hs; arm = 0; guarded = false; chosen = []; caught = [] }

    go : (w : Bool) → w ≡ true → rows_weight (cond w (row_with r (row_rest hs) [] (first_binds [] hs) ∷ []) [] ++ []) ≤ heads_weight hs + 0 → heads_weight (row_rest hs) ≤ heads_weight hs
    go true w k = omega (arith, k)
    go false w k = untrue w

told : (b : Bool) {P : Type 0} → Tells b P → P ⊎ ¬ P
told true h = inl h
told false h = inr h

module _ {T : Type 0} (IsType : T → Type 0) (IsValue : T → Bool → MValue → Type 0) (cx : Context T) (values : ValuesLaw IsType IsValue cx) (law : PartsLaw IsType IsValue cx)
    (is_empty : T → Bool) (variant_empty : T → ℕ → Bool) (empty : EmptyLaw IsType IsValue cx is_empty variant_empty) (unsure : UnsureLaw IsType IsValue) where
  -- rows that take all values of their places leave none
  abbrev pub LeaveNone : List (Open T) → List (List (Head T)) → Type 0
  LeaveNone places hss =
      AreTypes IsType (cols places) → AllTyped cx (cols places) hss → AreMadeRows hss → (us : List MValue) → AreValues IsValue places us →
      ((vs : List MValue) → AreValues IsValue places vs → some_takes hss vs ≡ true) → Witnesses cx IsValue places hss []

  -- the pieces, given the same of lighter rows
  none_of_pieces : (w : ℕ) → ((places : List (Open T)) (hss : List (List (Head T))) → total hss < w → LeaveNone places hss) →
      (o : Open T) (places : List (Open T)) (hss : List (List (Head T))) (named : List (List ℕ)) (pieces : List MCtor) → total hss < suc w → list_all starts_wild hss ≡ false →
      AreTypes IsType (cols (o ∷ places)) → AllTyped cx (cols (o ∷ places)) hss → AreMadeRows hss → AreAllSided IsType IsValue cx values law o named hss pieces →
      ((p : MCtor) → Contains pieces p → HasValue IsValue o named p ⊎ ¬ HasValue IsValue o named p) →
      (us : List MValue) → AreValues IsValue places us → ((vs : List MValue) → AreValues IsValue (o ∷ places) vs → some_takes hss vs ≡ true) →
      PieceWitnesses cx IsValue named o places hss pieces []
  none_of_pieces w lighter o places hss named [] l e d h g s k us a f = no_piece named o places hss
  none_of_pieces w lighter o places hss named (p ∷ pieces) l e d h g s k us a f =
      go (k p (here p pieces)) (none_of_pieces w lighter o places hss named pieces l e d h g s.1 (λ x i. k x (there p x pieces i)) us a f)
    where
      n : ℕ
      n = cx.arity p o.type

      all_taken : (x : MValue) → IsValue o.type o.sure x → builds named p x ≡ true → (zs : List MValue) → AreValues IsValue (parts_open cx o p ++ places) zs → some_takes (all_specialised p n hss) zs ≡ true
      all_taken x y b zs c =
          let z = values-split IsType IsValue cx values law (parts_open cx o p) places n zs (length-below (part_open cx o p) n) c in
          let r = refill IsType IsValue cx values law o p named x (cx.set_of o.type) d.0 refl s.0.0 y b (take n zs) z.0 in
          let long = (parts_values IsType IsValue cx values law o p named r.value (cx.set_of o.type) d.0 refl s.0.0 r.is r.build).0 in
          ap (some_takes (all_specialised p n hss)) (sym (take-append-drop n zs))
          ∙ ap (λ ys. some_takes (all_specialised p n hss) (ys ++ drop n zs)) (sym r.parts)
          ∙ special_takes named p n r.value (drop n zs) r.build long hss s.0.1
          ∙ f (r.value ∷ drop n zs) (r.is, z.1)

      go : HasValue IsValue o named p ⊎ ¬ HasValue IsValue o named p → PieceWitnesses cx IsValue named o places hss pieces [] → PieceWitnesses cx IsValue named o places hss (p ∷ pieces) []
      go (inr v) r = without_value named o places hss p pieces [] v r
      go (inl v) r =
          let m = special_light p n hss e in
          let parts = parts_values IsType IsValue cx values law o p named v.0 (cx.set_of o.type) d.0 refl s.0.0 v.1 v.2 in
          with_value named o places hss p pieces [] [] v
          (lighter (parts_open cx o p ++ places) (all_specialised p n hss) (omega (arith, m, l))
          (specials_types IsType IsValue cx law o places p s.0.0 d) (specials_typed IsType IsValue cx law o places p hss d.0 s.0.0 h) (special_made p n hss g)
          (parts_under p v.0 ++ us) (values-append IsValue (parts_open cx o p) places (parts_under p v.0) us parts.1 a) (all_taken v.0 v.1 v.2)) r

  none_by : (w : ℕ) → ((places : List (Open T)) (hss : List (List (Head T))) → total hss < w → LeaveNone places hss) →
      (places : List (Open T)) (hss : List (List (Head T))) → total hss < suc w → LeaveNone places hss
  none_by w lighter [] [] l d h g us a f = untrue (f us a)
  none_by w lighter [] (row ∷ rows) l d h g us a f = taken row rows
  none_by w lighter (o ∷ places) [] l d h g us a f = untrue (f us a)
  none_by w lighter (o ∷ places) (row ∷ rows) l d h g [] a f = absurd a
  none_by w lighter (o ∷ places) (row ∷ rows) l d h g (u ∷ us) a f =
      let es = flat_map expand_row (row ∷ rows) in
      let t = expanded_typed cx (column_at [] o) (cols places) (row ∷ rows) h in
      let m = expand_made (row ∷ rows) g in
      let n = expanded_none cx (column_at [] o) (cols places) (row ∷ rows) h in
      let light = expand_light (row ∷ rows) in
      tell (list_all starts_wild es)
      (λ e.
      let k = rest_light es e in
      anything o places row rows [] e
      (none_by w lighter places (map row_rest es) (omega (arith, k, light, l)) d.1 (rests_typed cx (column_at [] o) (cols places) es t) (rests_made es m) us a.1
      (λ vs b. sym (wild_takes cx (column_at [] o) (cols places) es u vs t e) ∙ expand_takes (row ∷ rows) (u ∷ vs) ∙ f (u ∷ vs) (a.0, b))))
      (λ e.
      let ps = pieces_exist (cx.set_of o.type) (column_of es) (values.made o.type d.0) in
      let column = heads_good cx (column_at [] o) (cols places) es t n in
      let c = made_pieces (cx.set_of o.type) (column_of es) ps.0 (values.made o.type d.0) (values.ascend o.type d.0) column (column_made es m) ps.1 in
      by_pieces o places row rows ps.0 [] e ps.1
      (none_of_pieces w lighter o places es (named_in ps.0) ps.0 (omega (arith, light, l)) e d t m (all_sided IsType IsValue cx values law o places (named_in ps.0) es ps.0 d.0 t n c.belong c.one_sided c.room)
      (λ p i.
      told (ctor_has_value cx is_empty variant_empty o.type o.sure p)
      (values_told IsType IsValue cx values law is_empty variant_empty empty unsure o (column_of es) ps.0 p d.0
      (record { ascend = values.ascend o.type d.0; ranges = values.made o.type d.0; allowed = column; made = column_made es m }) ps.1 i))
      us a.1 (λ vs b. expand_takes (row ∷ rows) vs ∙ f vs b)))

  pub none_left : (w : ℕ) (places : List (Open T)) (hss : List (List (Head T))) → total hss < w → LeaveNone places hss
  none_left zero places hss l = absurd (omega (arith, l))
  none_left (suc w) places hss l = none_by w (none_left w) places hss l

  -- a match

  abbrev HasValues : MDeMatch T → Type 0
  HasValues m = (v : MValue) × InMatchDomain IsValue m v

  some_value : (m : MDeMatch T) → IsType m.type → HasValues m ⊎ ((v : MValue) → InMatchDomain IsValue m v → ⊥)
  some_value m d = by_sure m.sure
    where
      by_empty : (b : Bool) → is_empty m.type ≡ b → ((v : MValue) × IsValue m.type true v) ⊎ ((v : MValue) → IsValue m.type true v → ⊥)
      by_empty true e = inr (empty.empty m.type d e)
      by_empty false e = inl (empty.inhabited m.type d e)

      by_sure : (sure : Bool) → ((v : MValue) × IsValue m.type sure v) ⊎ ((v : MValue) → IsValue m.type sure v → ⊥)
      by_sure true = by_empty (is_empty m.type) refl
      by_sure false = inl (unsure m.type d)

  by_takes : (m : MDeMatch T) → IsWellTyped IsType cx m → AreArmsMade m.arms → IsExhaustive (InMatchDomain IsValue m) (match_arms m) →
      ((v : MValue) → InMatchDomain IsValue m v → v ≢ Unseen) → (v : MValue) → InMatchDomain IsValue m v → IsWitnessList cx IsValue m []
  by_takes m w y x n v a =
      let o : Open T = record { type = m.type; sure = m.sure } in
      let hss = flat_map row_of m.arms in
      by_rows v [] a (n v a)
      (none_left (suc (total hss)) (o ∷ []) hss (omega arith) (w.type, tt) (rows_typed IsType IsValue cx values law m m.arms (arms_typed cx m.type m.arms w.typed)) (rows_made IsType IsValue cx values law m.arms y) (v ∷ []) (a, tt) all)
    where
      all : (vs : List MValue) → AreValues IsValue (record { type = m.type; sure = m.sure } ∷ []) vs → some_takes (flat_map row_of m.arms) vs ≡ true
      all [] b = absurd b
      all (u ∷ []) b = sym (covered_is m u) ∙ x u b.0 (n u b.0)
      all (u ∷ z ∷ vs) b = absurd b.1

  pub exhaustive_has_none : ExhaustiveHasNone IsType IsValue cx
  exhaustive_has_none m w y x =
      elim (some_value m w.type) [
        | inl v ↦ by_set (cx.set_of m.type) refl v
        | inr n ↦ nothing_to_match (λ v a. absurd (n v a))
      ]
    where
      thing : Thing ≡ Unseen → ⊥
      thing e = cc

      other : (s : MSet) → cx.set_of m.type ≡ s → ((u : MValue) → ValueIs s m.sure u → u ≢ Unseen) → HasValues m → IsWitnessList cx IsValue m []
      other s e f (v, a) = by_takes m w y x (λ u b. f u (subst (λ z. ValueIs z m.sure u) e (values.each m.type m.sure u w.type b))) v a

      by_set : (s : MSet) → cx.set_of m.type ≡ s → HasValues m → IsWitnessList cx IsValue m []
      by_set NothingSet e v = nothing_to_match (λ u b. (subst (λ z. ValueIs z m.sure u) e (values.each m.type m.sure u w.type b)).0)
      by_set OpaqueSet e v = other OpaqueSet e (λ u b c. thing (sym b ∙ c)) v
      by_set SingleSet e v = other SingleSet e (λ u b. (built IsType IsValue cx values law SingleSet m.sure u tt b).0) v
      by_set PointSet e v = other PointSet e (λ u b. (built IsType IsValue cx values law PointSet m.sure u tt b).0) v
      by_set FlagSet e v = other FlagSet e (λ u b. (built IsType IsValue cx values law FlagSet m.sure u tt b).0) v
      by_set TextSet e v = other TextSet e (λ u b. (built IsType IsValue cx values law TextSet m.sure u tt b).0) v
      by_set (VariantSet c k) e v = other (VariantSet c k) e (λ u b. (built IsType IsValue cx values law (VariantSet c k) m.sure u tt b).0) v
      by_set (NumberSet c k) e v = other (NumberSet c k) e (λ u b. (built IsType IsValue cx values law (NumberSet c k) m.sure u tt b).0) v
      by_set (RowSet c) e v = other (RowSet c) e (λ u b. (built IsType IsValue cx values law (RowSet c) m.sure u tt b).0) v
