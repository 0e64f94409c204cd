-- The witness list of a match is an exact cover, and its witnesses are of the match's type.
use Rattle.std.proofs.Common.{◌≡◌, ◌≢◌, ◌<◌, ℕ, zero, suc, Bool, true, List, [], ◌∷◌, map, Some, slice_get, refl, sym, subst, ◌∙◌, arith, IsTrue}
use Rattle.std.specs.List.{flat_map, Contains}
use Rattle.match_model.specs.Values.{MValue, Unseen, Thing}
use Rattle.match_model.specs.Constructors.{MSet, SingleSet, PointSet, FlagSet, TextSet, OpaqueSet, NothingSet, VariantSet, NumberSet, RowSet}
use Rattle.match_model.specs.Contexts.{Context}
use Rattle.match_model.specs.ContextLaws.{PartsLaw, ValuesLaw, ValueIs}
use Rattle.match_model.specs.ArenaPatterns.{MDeArm, MDeMatch}
use Rattle.match_model.specs.ArenaWays.{match_arms, InMatchDomain}
use Rattle.match_model.specs.Made.{AreArmsMade}
use Rattle.match_model.specs.OfType.{witness_is_of}
use Rattle.match_model.specs.WellTyped.{IsTyped}
use Rattle.match_model.specs.Witness.{MWitness}
use Rattle.match_model.specs.WitnessList.{IsWitnessList, nothing_to_match, by_rows, row_of}
use Rattle.match_model.specs.WitnessOrder.{Before, compare_witness}
use Rattle.match_model.proofs.Empties.{empty_exactly}
use Rattle.pattern_matrix.specs.CoverLaws.{ListsAreCovers, EmptyIsExhaustive, WitnessesAreOfType}
use Rattle.pattern_matrix.proofs.Comparing.{and_then-same}
use Rattle.pattern_matrix.proofs.Ascending.{AreAfter, DoAscend, stacks_ascend}
use Rattle.pattern_matrix.proofs.Covers.{AreArmsTyped, rows_made, rows_typed, uncovered_is, apart_is, each_is}
use Rattle.pattern_matrix.proofs.Exact.{built}
use Rattle.pattern_matrix.proofs.OfTypes.{AreAllOf, stacks_of}

pub arms_typed : {T : Type 0} (cx : Context T) (t : T) (arms : List (MDeArm T)) →
    ((a : MDeArm T) → Contains arms a → IsTyped cx t a.pat) → AreArmsTyped cx t arms
arms_typed cx t [] f = tt
arms_typed cx t (a ∷ arms) f =
    (f a (0, omega arith, refl), arms_typed cx t arms (λ b (k, l, e). f b (suc k, omega (arith, l), e)))

-- stacks of one witness

after_at : (w : MWitness) (us : List MWitness) → AreAfter (w ∷ []) (map (λ x. x ∷ []) us) → (j : ℕ) (u : MWitness) →
    slice_get us j ≡ Some u → compare_witness w u ≡ Before
after_at w [] h j u e = cc
after_at w (x ∷ us) h zero u e = let s : x ≡ u = cc in subst (λ y. compare_witness w y ≡ Before) s (sym (and_then-same (compare_witness w x)) ∙ h.0)
after_at w (x ∷ us) h (suc j) u e = after_at w us h.1 j u e

ascend_at : (ws : List MWitness) → DoAscend (map (λ x. x ∷ []) ws) → (i j : ℕ) (w u : MWitness) →
    slice_get ws i ≡ Some w → slice_get ws j ≡ Some u → i < j → compare_witness w u ≡ Before
ascend_at [] h i j w u e f l = cc
ascend_at (x ∷ ws) h zero zero w u e f l = absurd (omega (arith, l))
ascend_at (x ∷ ws) h zero (suc j) w u e f l = let s : x ≡ w = cc in subst (λ y. compare_witness y u ≡ Before) s (after_at x ws h.0 j u f)
ascend_at (x ∷ ws) h (suc i) zero w u e f l = absurd (omega (arith, l))
ascend_at (x ∷ ws) h (suc i) (suc j) w u e f l = ascend_at ws h.1 i j w u e f (omega (arith, l))

module _ {T : Type 0} (IsType : T → Type 0) (IsValue : T → Bool → MValue → Type 0) (cx : Context T) (values : ValuesLaw IsType IsValue cx) (law : PartsLaw IsType IsValue cx) where
  -- where one value is no bare unseen, none is
  no_bare : (s : MSet) (sure : Bool) (x v : MValue) → ValueIs s sure x → x ≢ Unseen → ValueIs s sure v → v ≢ Unseen
  no_bare NothingSet sure x v h n k = absurd (n h.0)
  no_bare OpaqueSet sure x v h n k = λ e. differ (sym k ∙ e)
    where
      differ : Thing ≡ Unseen → ⊥
      differ e = cc
  no_bare SingleSet sure x v h n k = (built IsType IsValue cx values law SingleSet sure v tt k).0
  no_bare PointSet sure x v h n k = (built IsType IsValue cx values law PointSet sure v tt k).0
  no_bare FlagSet sure x v h n k = (built IsType IsValue cx values law FlagSet sure v tt k).0
  no_bare TextSet sure x v h n k = (built IsType IsValue cx values law TextSet sure v tt k).0
  no_bare (VariantSet c l) sure x v h n k = (built IsType IsValue cx values law (VariantSet c l) sure v tt k).0
  no_bare (NumberSet f o) sure x v h n k = (built IsType IsValue cx values law (NumberSet f o) sure v tt k).0
  no_bare (RowSet l) sure x v h n k = (built IsType IsValue cx values law (RowSet l) sure v tt k).0

  -- the domain of a match with a witness has no bare unseen
  pub seen_all : (m : MDeMatch T) (ws : List MWitness) → IsType m.type → IsWitnessList cx IsValue m ws →
      (w : MWitness) → Contains ws w → (v : MValue) → InMatchDomain IsValue m v → v ≢ Unseen
  seen_all m ws d (nothing_to_match f) w (k, l, e) v a = absurd (omega (arith, l))
  seen_all m ws d (by_rows x us k n y) w c v a =
      no_bare (cx.set_of m.type) m.sure x v (values.each m.type m.sure x d k) n (values.each m.type m.sure v d a)

  ascending_is : (m : MDeMatch T) (ws : List MWitness) → IsType m.type → AreArmsTyped cx m.type m.arms →
      AreArmsMade m.arms → IsWitnessList cx IsValue m ws → (i j : ℕ) (w u : MWitness) →
      slice_get ws i ≡ Some w → slice_get ws j ≡ Some u → i < j → compare_witness w u ≡ Before
  ascending_is m ws d h y (nothing_to_match f) i j w u a b l = cc
  ascending_is m ws d h y (by_rows x us k n r) i j w u a b l =
      ascend_at us
      (stacks_ascend IsType IsValue cx values law (record { type = m.type; sure = m.sure } ∷ []) (flat_map row_of m.arms) (map (λ z. z ∷ []) us) r (d, tt) (rows_typed IsType IsValue cx values law m m.arms h) (rows_made IsType IsValue cx values law m.arms y))
      i j w u a b l

  pub covers_of : ListsAreCovers IsType IsValue cx
  covers_of m ws k =
      let d = k.typed.type in
      let h = arms_typed cx m.type m.arms k.typed.typed in
      record {
        each_fitted = λ w c. let r = each_is IsType IsValue cx values law m ws d h k.made k.listed w c in (r.0, r.1, seen_all m ws d k.listed w c r.0 r.1, r.2);
        apart = λ i j w u v a b n i2 f g. apart_is IsType IsValue cx values law m ws d h k.made k.listed i j w u v a b n i2 f g;
        uncovered = λ v i n. uncovered_is IsType IsValue cx values law m ws d h k.made k.listed v i n;
        ascending = λ i j w u a b l. ascending_is m ws d h k.made k.listed i j w u a b l;
      }

  pub empties_of : EmptyIsExhaustive IsType IsValue cx
  empties_of m ws k = empty_exactly (InMatchDomain IsValue m) (match_arms m) ws (covers_of m ws k)

  each_of : (m : MDeMatch T) (us : List MWitness) →
      AreAllOf cx (record { type = m.type; sure = m.sure } ∷ []) (map (λ z. z ∷ []) us) → (w : MWitness) →
      Contains us w → IsTrue (witness_is_of cx m.type w)
  each_of m [] h w (k, l, e) = absurd (omega (arith, l))
  each_of m (u ∷ us) h w (zero, l, e) = subst (λ x. witness_is_of cx m.type x ≡ true) e h.0.0
  each_of m (u ∷ us) h w (suc k, l, e) = each_of m us h.1 w (k, omega (arith, l), e)

  pub types_of : WitnessesAreOfType IsType IsValue cx
  types_of m ws k = go ws k.listed
    where
      go : (ws : List MWitness) → IsWitnessList cx IsValue m ws → (w : MWitness) → Contains ws w →
          IsTrue (witness_is_of cx m.type w)
      go ws (nothing_to_match f) w (n, l, e) = absurd (omega (arith, l))
      go ws (by_rows x us a n r) w c =
          each_of m us
          (stacks_of IsType IsValue cx values law (record { type = m.type; sure = m.sure } ∷ []) (flat_map row_of m.arms) (map (λ z. z ∷ []) us) r (k.typed.type, tt)
          (rows_typed IsType IsValue cx values law m m.arms (arms_typed cx m.type m.arms k.typed.typed)) (rows_made IsType IsValue cx values law m.arms k.made))
          w c
