-- The arms for the witnesses of a verdict complete the match.
use Rattle.std.proofs.Common.{◌≡◌, ◌<◌, inl, inr, ℕ, zero, suc, ◌+◌, Bool, true, false, not, ◌&&◌, ◌||◌, List, []}
use Rattle.std.proofs.Common.{◌∷◌, ◌++◌, map, length, Some, slice_get, refl, sym, ap, subst, ◌∙◌, arith}
use Rattle.std.specs.List.{Contains}
use Rattle.std.proofs.lemmas.Option.{slice_get_within, get_or_from_slice_get}
use Rattle.match_model.specs.Types.{MType}
use Rattle.match_model.specs.Values.{MValue}
use Rattle.match_model.specs.Constructors.{MCtor, NumbersCtor}
use Rattle.match_model.specs.Numbers.{MRange}
use Rattle.match_model.specs.ArenaPatterns.{MDePat, de_pat, MDePats, no_de_pats, more_de_pats, MDeArm}
use Rattle.match_model.specs.Lists.{Among, Every, Ordered, Each}
use Rattle.match_model.specs.Made.{IsMade, IsMadeRange, IsMadePat, AreMadePats, AreArmsMade}
use Rattle.match_model.specs.Match.{ArmWays, arm_ways, arm_matches, arm_covers, is_covered, comes_to, IsExhaustive}
use Rattle.match_model.specs.Match.{IsArmReachable}
use Rattle.match_model.specs.RustTypes.{rust_context}
use Rattle.match_model.specs.WellTyped.{IsTyped}
use Rattle.match_model.specs.Witness.{MWitness, fits}
use Rattle.match_model.proofs.Basics.{untrue, or_left, or_right}
use Rattle.keyed_rows.proofs.Members.{among-contains, contains-among}
use Rattle.decl_syntax.specs.Patterns.{PatternTree}
use Rattle.decl_syntax.specs.Items.{ArmTree}
use Rattle.decl_syntax.specs.Functions.{FunctionTree}
use Rattle.pattern_rules.specs.ArenaForms.{all_within, all_below}
use Rattle.pattern_rules.specs.Settings.{Setting, program}
use Rattle.pattern_rules.specs.Faults.{scrutinee_type}
use Rattle.pattern_rules.specs.Resolved.{resolved_arm}
use Rattle.pattern_rules.specs.ShownMatches.{IsSoundArm, elaborated_arm}
use Rattle.pattern_rules.specs.Verdicts.{Domain, written_arms, elaborated_match}
use Rattle.pattern_laws.proofs.ArmsKept.{arms_typed, arm_made}
use Rattle.pattern_laws.proofs.Everywhere.{RangeHolds}
use Rattle.pattern_laws.proofs.Everywhere as everywhere
use Rattle.arm_maker.specs.Order.{AreInArmOrder, IsOneFirst}
use Rattle.arm_laws.specs.Completed.{Serves, AreCompleting, IsPatternFor}
use Rattle.arm_laws.specs.Completes.{plain_arm, DoComplete}
use Rattle.arm_laws.specs.FunctionLaws.{VerdictIsOrdered, ArmsComplete, PatternsComplete, IsJudged}
use Rattle.arm_laws.specs.TakingLaws.{TakesNone}
use Rattle.arm_laws.specs.Near.{AreNear, HasNodes, IsNearList}
use Rattle.arm_laws.specs.Takes.{takes}
use Rattle.arm_laws.proofs.Fitting.{fits_takes}
use Rattle.arm_laws.proofs.Telling.{earlier_takes_none}
use Rattle.arm_laws.proofs.Written.{written_is_near}

-- ---- lists

contains_later : {A : Type 0} (x y : A) (xs : List A) → Contains xs y → Contains (x ∷ xs) y
contains_later x y xs (k, l, e) = (suc k, omega (arith, l), e)

-- what holds of each element of one list holds of what stands for it in another
pub every_made : {A B : Type 0} (P : B → Type 0) (g : A → B) (xs : List A) → ((x : A) → Contains xs x → P (g x)) →
    Every P (map g xs)
every_made P g [] f = tt
every_made P g (x ∷ xs) f =
    (f x (0, omega arith, refl), every_made P g xs (λ y c. f y (contains_later x y xs c)))

pub every_of : {A : Type 0} (P : A → Type 0) (xs : List A) → Every P xs → (x : A) → Contains xs x → P x
every_of P [] h x (k, l, e) = absurd (omega (arith, l))
every_of P (y ∷ xs) h x (zero, l, e) = subst P e h.0
every_of P (y ∷ xs) h x (suc k, l, e) = every_of P xs h.1 x (k, omega (arith, l), e)

every_get : {A : Type 0} (P : A → Type 0) (xs : List A) → ((j : ℕ) (x : A) → slice_get xs j ≡ Some x → P x) → Every P
    xs
every_get P [] f = tt
every_get P (x ∷ xs) f = (f 0 x refl, every_get P xs (λ j y e. f (suc j) y e))

ordered_get : {A : Type 0} (R : A → A → Type 0) (xs : List A) →
    ((i j : ℕ) (x y : A) → slice_get xs i ≡ Some x → slice_get xs j ≡ Some y → i < j → R x y) → Ordered R xs
ordered_get R [] f = tt
ordered_get R (x ∷ xs) f = (
  every_get (R x) xs (λ j y e. f 0 (suc j) x y refl e (omega arith)),
  ordered_get R xs (λ i j y z d e l. f (suc i) (suc j) y z d e (omega (arith, l))),
)

pub verdict_is_ordered : VerdictIsOrdered
verdict_is_ordered s f exhaustive unreachable witnesses h =
    ordered_get IsOneFirst witnesses (λ i j w u a b l. inl (h.cover.ascending i j w u a b l))

-- ---- the match that is judged

module _ (s : Setting) (f : FunctionTree) where
  range_of_ctor : (c : MCtor) (t : MType) → ((r : MRange) → c ≡ NumbersCtor r → IsMadeRange r) → IsMade c
  range_of_ctor (NumbersCtor r) t k = k r refl
  range_of_ctor _ t k = tt

  every_left : (E : MDePat MType → Type 0) (xs ys : List (MDePat MType)) → everywhere.Every E (xs ++ ys) →
      everywhere.Every E xs
  every_left E [] ys g = tt
  every_left E (x ∷ xs) ys g = (g.0, every_left E xs ys g.1)

  every_right : (E : MDePat MType → Type 0) (xs ys : List (MDePat MType)) → everywhere.Every E (xs ++ ys) →
      everywhere.Every E ys
  every_right E [] ys g = g
  every_right E (x ∷ xs) ys g = every_right E xs ys g.1

  mutual
    pat_made : (p : MDePat MType) → everywhere.Every (RangeHolds (λ r t. IsMadeRange r)) (all_within p) → IsMadePat p
    pat_made (de_pat c t uid at subs binds) g = (range_of_ctor c t g.0, pats_made subs g.1)

    pats_made : (ps : MDePats MType) → everywhere.Every (RangeHolds (λ r t. IsMadeRange r)) (all_below ps) →
        AreMadePats ps
    pats_made no_de_pats g = tt
    pats_made (more_de_pats p ps) g = (
      pat_made p (every_left (RangeHolds (λ r t. IsMadeRange r)) (all_within p) (all_below ps) g),
      pats_made ps (every_right (RangeHolds (λ r t. IsMadeRange r)) (all_within p) (all_below ps) g),
    )

  abbrev pub shown : ArmTree → MDeArm MType
  shown a = record { pat = elaborated_arm s f a; guarded = a.guarded }

  arms_made : (arms : List ArmTree) → ((a : ArmTree) → Contains arms a → IsSoundArm s f a) → AreArmsMade
      (map shown arms)
  arms_made [] h = tt
  arms_made (a ∷ arms) h = (
    pat_made (elaborated_arm s f a) (arm_made s f a (h a (0, omega arith, refl))),
    arms_made arms (λ b c. h b (contains_later a b arms c)),
  )

  pub near_list : (witnesses : List MWitness) → IsJudged s f witnesses →
      IsNearList (program s) (elaborated_match s f) witnesses
  near_list witnesses h = record {
    type = h.type;
    typed = every_of (λ (d : MDeArm MType). IsTyped (rust_context (program s)) (scrutinee_type s f) d.pat)
        (map shown f.arms)
        (every_made (λ (d : MDeArm MType). IsTyped (rust_context (program s)) (scrutinee_type s f) d.pat) shown f.arms
        (λ a c. arms_typed s f a (h.arms a c)));
    made = arms_made f.arms h.arms;
    near = every_made (λ (d : MDeArm MType). HasNodes AreNear d.pat) shown f.arms
        (λ a c. written_is_near s f a (h.arms a c));
    listed = h.verdict.listed;
  }

  -- ---- the arms that are added

  covers_by : (w : MWitness) (a : ArmWays) (v : MValue) → Serves s f w a → Domain s f v →
      takes (program s) (scrutinee_type s f) w v ≡ true → arm_covers v a ≡ true
  covers_by w a v h d e = ap (λ g. not g && arm_matches v a) h.plain ∙ (h.matches v d ∙ e)

  not_covers : (w : MWitness) (a : ArmWays) (v : MValue) → Serves s f w a → Domain s f v →
      (takes (program s) (scrutinee_type s f) w v ≡ true → ⊥) → arm_covers v a ≡ false
  not_covers w a v h d n = ap (λ g. not g && arm_matches v a) h.plain ∙ go (arm_matches v a) refl
    where
      go : (b : Bool) → arm_matches v a ≡ b → b ≡ false
      go false e = refl
      go true e = absurd (n (sym (h.matches v d) ∙ e))

  -- a value that fits one of the witnesses is covered
  covered_by : (ws : List MWitness) (arms : List ArmWays) → Each (Serves s f) ws arms → (w : MWitness) → Among w ws →
      (v : MValue) → Domain s f v → takes (program s) (scrutinee_type s f) w v ≡ true → is_covered arms v ≡ true
  covered_by [] arms h w a v d e = absurd a
  covered_by (x ∷ ws) [] h w a v d e = absurd h
  covered_by (x ∷ ws) (b ∷ arms) h w (inl q) v d e =
      or_left (arm_covers v b) (is_covered arms v)
      (covers_by x b v h.0 d (subst (λ z. takes (program s) (scrutinee_type s f) z v ≡ true) q e))
  covered_by (x ∷ ws) (b ∷ arms) h w (inr a) v d e =
      or_right (arm_covers v b) (is_covered arms v) (covered_by ws arms h.1 w a v d e)

  covered_first : (xs ys : List ArmWays) (v : MValue) → is_covered xs v ≡ true → is_covered (xs ++ ys) v ≡ true
  covered_first [] ys v e = untrue e
  covered_first (x ∷ xs) ys v e = go (arm_covers v x) e (covered_first xs ys v)
    where
      go : (b : Bool) → (b || is_covered xs v) ≡ true → (is_covered xs v ≡ true → is_covered (xs ++ ys) v ≡ true) →
          (b || is_covered (xs ++ ys) v) ≡ true
      go true e k = refl
      go false e k = k e

  covered_then : (xs ys : List ArmWays) (v : MValue) → is_covered ys v ≡ true → is_covered (xs ++ ys) v ≡ true
  covered_then [] ys v e = e
  covered_then (x ∷ xs) ys v e = or_right (arm_covers v x) (is_covered (xs ++ ys) v) (covered_then xs ys v e)

  -- a value that no arm covers comes to the arms behind
  comes_behind : (xs ys : List ArmWays) (k : ℕ) (v : MValue) → is_covered xs v ≡ false → comes_to ys k v ≡ true →
      comes_to (xs ++ ys) (length xs + k) v ≡ true
  comes_behind [] ys k v e c = let z : 0 + k ≡ k = omega arith in subst (λ j. comes_to ys j v ≡ true) (sym z) c
  comes_behind (x ∷ xs) ys k v e c =
      let z : suc (length xs) + k ≡ suc (length xs + k) = omega arith in
      subst (λ j. comes_to (x ∷ xs ++ ys) j v ≡ true) (sym z)
      (go (arm_covers v x) e (λ d. comes_behind xs ys k v d c))
    where
      go : (b : Bool) → (b || is_covered xs v) ≡ false →
          (is_covered xs v ≡ false → comes_to (xs ++ ys) (length xs + k) v ≡ true) →
          (not b && comes_to (xs ++ ys) (length xs + k) v) ≡ true
      go true e f = untrue (sym e)
      go false e f = f e

  -- a value that fits a witness comes to its arm, where no earlier arm takes it
  comes_at : (ws : List MWitness) (arms : List ArmWays) → Each (Serves s f) ws arms →
      Ordered (TakesNone (program s) (scrutinee_type s f)) ws → (k : ℕ) (w : MWitness) → slice_get ws k ≡ Some w →
      (v : MValue) → Domain s f v → fits w v ≡ true → takes (program s) (scrutinee_type s f) w v ≡ true →
      comes_to arms k v ≡ true
  comes_at [] arms h o k w g v d e t = absurd cc
  comes_at (x ∷ ws) [] h o k w g v d e t = absurd h
  comes_at (x ∷ ws) (b ∷ arms) h o zero w g v d e t =
      let same : x ≡ w = cc in
      h.0.matches v d ∙ subst (λ z. takes (program s) (scrutinee_type s f) z v ≡ true) (sym same) t
  comes_at (x ∷ ws) (b ∷ arms) h o (suc k) w g v d e t =
      let there : Contains ws w = (k, slice_get_within ws k w g, get_or_from_slice_get ws k w w g) in
      let none = every_of (TakesNone (program s) (scrutinee_type s f) x) ws o.0 w there in
      ap (λ c. not c && comes_to arms k v) (not_covers x b v h.0 d (λ q. none v q e))
      ∙ comes_at ws arms h.1 o.1 k w g v d e t

  -- as many arms as witnesses
  witness_at : (ws : List MWitness) (arms : List ArmWays) → Each (Serves s f) ws arms → (k : ℕ) → k < length arms →
      (w : MWitness) × (slice_get ws k ≡ Some w)
  witness_at [] [] h k l = absurd (omega (arith, l))
  witness_at [] (b ∷ arms) h k l = absurd h
  witness_at (x ∷ ws) [] h k l = absurd h
  witness_at (x ∷ ws) (b ∷ arms) h zero l = (x, refl)
  witness_at (x ∷ ws) (b ∷ arms) h (suc k) l = witness_at ws arms h.1 k (omega (arith, l))

  many : (arms : List ArmTree) → length (map (λ a. arm_ways (resolved_arm s (scrutinee_type s f) a)) arms) ≡ length
      arms
  many [] = refl
  many (a ∷ arms) = ap suc (many arms)

  module _ (witnesses sorted : List MWitness) (arms : List ArmWays) (h : IsJudged s f witnesses)
      (order : AreInArmOrder (program s) (scrutinee_type s f) witnesses sorted)
      (serve : Each (Serves s f) sorted arms) where
    fit_taken : (w : MWitness) → Contains witnesses w → (v : MValue) → fits w v ≡ true →
        takes (program s) (scrutinee_type s f) w v ≡ true
    fit_taken w c v e = fits_takes (program s) (scrutinee_type s f) w v (h.verdict.typed w c) e

    exhaustive_now : IsExhaustive (Domain s f) (written_arms s f ++ arms)
    exhaustive_now v d n = go (is_covered (written_arms s f) v) refl
      where
        go : (b : Bool) → is_covered (written_arms s f) v ≡ b → is_covered (written_arms s f ++ arms) v ≡ true
        go true e = covered_first (written_arms s f) arms v e
        go false e =
            let r = (h.verdict.cover.uncovered v d n).0 e in
            let w = r.0 in
            covered_then (written_arms s f) arms v
            (covered_by sorted arms serve w (order.same.forth w (contains-among witnesses w r.1)) v d
            (fit_taken w r.1 v r.2))

    reached_now : (k : ℕ) → k < length arms →
        IsArmReachable (Domain s f) (written_arms s f ++ arms) (length f.arms + k)
    reached_now k l =
        let g = witness_at sorted arms serve k l in
        let w = g.0 in
        let there : Contains sorted w = (k, slice_get_within sorted k w g.1, get_or_from_slice_get sorted k w w g.1) in
        let c = among-contains witnesses w (order.same.back w (contains-among sorted w there)) in
        let r = h.verdict.cover.each_fitted w c in
        let v = r.0 in
        let none = (h.verdict.cover.uncovered v r.1 r.2).1 (w, c, r.3) in
        let last = earlier_takes_none (program s) (elaborated_match s f) witnesses sorted h.sound
        (near_list witnesses h) order in (
          v,
          r.1,
          subst (λ n. comes_to (written_arms s f ++ arms) (n + k) v ≡ true) (many f.arms)
              (comes_behind (written_arms s f) arms k v none
              (comes_at sorted arms serve last k w g.1 v r.1 r.3 (fit_taken w c v r.3))),
        )

pub arms_complete : ArmsComplete
arms_complete s f witnesses sorted arms h order serve = record {
  exhaustive = exhaustive_now s f witnesses sorted arms h order serve;
  each_reached = reached_now s f witnesses sorted arms h order serve;
}

-- ---- arms of patterns

module _ (s : Setting) (f : FunctionTree) where
  abbrev ways_by : ArmTree → ArmWays
  ways_by a = arm_ways (resolved_arm s (scrutinee_type s f) a)

  abbrev added : PatternTree → ArmWays
  added p = ways_by (plain_arm p)

  serve_all : (ws : List MWitness) (ps : List PatternTree) → Each (IsPatternFor s f) ws ps →
      Each (Serves s f) ws (map added ps)
  serve_all [] [] h = tt
  serve_all [] (p ∷ ps) h = absurd h
  serve_all (w ∷ ws) [] h = absurd h
  serve_all (w ∷ ws) (p ∷ ps) h = (record { plain = refl; matches = λ v d. h.0 v d }, serve_all ws ps h.1)

  map_more : (xs : List ArmTree) (ps : List PatternTree) →
      map ways_by (xs ++ map plain_arm ps) ≡ map ways_by xs ++ map added ps
  map_more [] [] = refl
  map_more [] (p ∷ ps) = ap (λ ys. added p ∷ ys) (map_more [] ps)
  map_more (x ∷ xs) ps = ap (λ ys. ways_by x ∷ ys) (map_more xs ps)

  as_many : (ps : List PatternTree) → length (map added ps) ≡ length ps
  as_many [] = refl
  as_many (p ∷ ps) = ap suc (as_many ps)

  with_patterns : (ps : List PatternTree) → AreCompleting s f (map added ps) → DoComplete s f ps
  with_patterns ps h = record {
    exhaustive = subst (λ arms. IsExhaustive (Domain s f) arms) (sym (map_more f.arms ps)) h.exhaustive;
    each_reached = λ k l. subst (λ arms. IsArmReachable (Domain s f) arms (length f.arms + k))
        (sym (map_more f.arms ps))
        (h.each_reached k (subst (λ n. k < n) (sym (as_many ps)) l));
  }

pub patterns_complete : PatternsComplete
patterns_complete s f witnesses sorted ps h order serve =
    with_patterns s f ps (arms_complete s f witnesses sorted (map (added s f) ps) h order
    (serve_all s f sorted ps serve))
