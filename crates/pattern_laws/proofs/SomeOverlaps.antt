-- Each well-typed match has a list of overlaps, and so has each function that breaks no rule.
use Rattle.std.proofs.Common.{◌≡◌, inl, inr, ℕ, zero, suc, ◌<◌, ℤ, Bool, true, false, List, [], ◌∷◌, slice_get, Some, nat_lt, refl, sym, ap, subst, ◌∙◌, arith}
use Rattle.std.proofs.lemmas.Bool.Decides.{nat_tests}
use Rattle.std.proofs.lemmas.Option.{slice_get-get_or}
use Rattle.std.specs.List.{Contains}
use Rattle.match_model.specs.Values.{MValue}
use Rattle.match_model.specs.Contexts.{Context}
use Rattle.match_model.specs.ContextLaws.{ValuesLaw, PartsLaw, EmptyLaw, UnsureLaw}
use Rattle.match_model.specs.Lists.{Among}
use Rattle.match_model.specs.Made.{IsMadePat, AreArmsMade}
use Rattle.match_model.specs.Overlaps.{MOverlap, MeetAt, Overlaps, IsOverlapList}
use Rattle.match_model.specs.ArenaPatterns.{MDeArm, MDeMatch}
use Rattle.match_model.specs.ArenaWays.{match_arms, InMatchDomain}
use Rattle.match_model.specs.WellTyped.{IsTyped, IsWellTyped}
use Rattle.keyed_rows.proofs.Members.{contains-among}
use Rattle.pat_context.specs.Parts.{Tells}
use Rattle.pattern_lints.specs.Along.{Touching, MeetTogether}
use Rattle.pattern_lints.specs.Spots.{Spot, spots_in}
use Rattle.pattern_lints.specs.Pairs.{SpotsMeet}
use Rattle.pattern_lints.proofs.SpotLaws.{spot-ends}
use Rattle.pattern_lints.proofs.Middle.{overlaps-are-spots}
use Rattle.pattern_lints.proofs.Decided.{along_decided}
use Rattle.pattern_laws.proofs.Candidates.{all_of, among_all, Inside, each_inside, listed, NumberMet, numbers_met, met_there}
use Rattle.pattern_laws.proofs.SomeList.{some_list}

module _ {T : Type 0} (IsType : T → Type 0) (IsValue : T → Bool → MValue → Type 0) (cx : Context T)
    (values : ValuesLaw IsType IsValue cx) (parts : PartsLaw IsType IsValue cx)
    (is_empty : T → Bool) (variant_empty : T → ℕ → Bool) (empty : EmptyLaw IsType IsValue cx is_empty variant_empty)
    (unsure : UnsureLaw IsType IsValue) (m : MDeMatch T) (typed : IsWellTyped IsType cx m) (made : AreArmsMade m.arms) where
  -- ---- a range in an arm

  record ArmSpot : Type 0 where
    index : ℕ
    arm : MDeArm T
    there : slice_get m.arms index ≡ Some arm
    well : IsTyped cx m.type arm.pat
    held : IsMadePat arm.pat
    spot : Spot
    inside : Contains (spots_in arm.pat) spot

  made_of : (arms : List (MDeArm T)) → AreArmsMade arms → (a : MDeArm T) → Among a arms → IsMadePat a.pat
  made_of [] h a i = absurd i
  made_of (b ∷ arms) h a (inl e) = subst (λ (x : MDeArm T). IsMadePat x.pat) (sym e) h.0
  made_of (b ∷ arms) h a (inr i) = made_of arms h.1 a i

  spot_of : (a : Inside m.arms) → Inside (spots_in a.one.pat) → ArmSpot
  spot_of a s = record {
    index = a.inside.0;
    arm = a.one;
    there = slice_get-get_or m.arms a.inside.0 a.one a.inside.1 ∙ ap (λ x. Some x) a.inside.2;
    well = typed.typed a.one a.inside;
    held = made_of m.arms made a.one (contains-among m.arms a.one a.inside);
    spot = s.one;
    inside = s.inside;
  }

  spots_of_arm : (a : Inside m.arms) → List (Inside (spots_in a.one.pat)) → List ArmSpot
  spots_of_arm a [] = []
  spots_of_arm a (s ∷ rest) = spot_of a s ∷ spots_of_arm a rest

  arm_spots : List ArmSpot
  arm_spots = all_of (λ a. spots_of_arm a (each_inside (spots_in a.one.pat))) (each_inside m.arms)

  among_spots : (a : Inside m.arms) (all : List (Inside (spots_in a.one.pat))) (s : Inside (spots_in a.one.pat)) → Among s all →
      Among (spot_of a s) (spots_of_arm a all)
  unfolding spots_of_arm
  among_spots a [] s i = absurd i
  among_spots a (t ∷ all) s (inl e) = inl (ap (spot_of a) e)
  among_spots a (t ∷ all) s (inr i) = inr (among_spots a all s i)

  record SpotListed (arm : MDeArm T) (spot : Spot) : Type 0 where
    at : ArmSpot
    listed_there : Among at arm_spots
    arm_is : at.arm ≡ arm
    spot_is : at.spot ≡ spot

  spot_listed : (arm : MDeArm T) (spot : Spot) → Among arm m.arms → Contains (spots_in arm.pat) spot → SpotListed arm spot
  unfolding arm_spots spot_of
  spot_listed arm spot i c =
      let a = listed m.arms arm i in
      let inside : Contains (spots_in a.at.one.pat) spot =
      subst (λ (x : MDeArm T). Contains (spots_in x.pat) spot) (sym a.is) c in
      let s = listed (spots_in a.at.one.pat) spot (contains-among (spots_in a.at.one.pat) spot inside) in
      record {
        at = spot_of a.at s.at;
        listed_there = among_all (λ b. spots_of_arm b (each_inside (spots_in b.one.pat))) (each_inside m.arms) a.at
            (spot_of a.at s.at) a.there
            (among_spots a.at (each_inside (spots_in a.at.one.pat)) s.at s.there);
        arm_is = a.is;
        spot_is = s.is;
      }

  -- ---- two of them that may overlap

  record Candidate : Type 0 where
    one : ArmSpot
    two : ArmSpot
    ordered : one.spot.at < two.spot.at
    met : NumberMet one.spot.range two.spot.range

  candidates_met : (a b : ArmSpot) → a.spot.at < b.spot.at → List (NumberMet a.spot.range b.spot.range) → List Candidate
  candidates_met a b l [] = []
  candidates_met a b l (n ∷ rest) = record { one = a; two = b; ordered = l; met = n } ∷ candidates_met a b l rest

  among_met : (a b : ArmSpot) (l : a.spot.at < b.spot.at) (all : List (NumberMet a.spot.range b.spot.range))
      (n : NumberMet a.spot.range b.spot.range) → Among n all →
      Among (record { one = a; two = b; ordered = l; met = n }) (candidates_met a b l all)
  unfolding candidates_met
  among_met a b l [] n i = absurd i
  among_met a b l (k ∷ all) n (inl e) =
      inl (ap (λ (x : NumberMet a.spot.range b.spot.range). record { one = a; two = b; ordered = l; met = x }) e)
  among_met a b l (k ∷ all) n (inr i) = inr (among_met a b l all n i)

  below : (i j : ℕ) → nat_lt i j ≡ true → i < j
  below i j h = grind (arith, nat_tests)

  not_below : (i j : ℕ) → nat_lt i j ≡ false → i < j → ⊥
  not_below i j h l = grind (arith, nat_tests)

  candidates_if : (a b : ArmSpot) (t : Bool) → nat_lt a.spot.at b.spot.at ≡ t → List Candidate
  candidates_if a b true h =
      candidates_met a b (below a.spot.at b.spot.at h) (numbers_met a.spot.range b.spot.range)
  candidates_if a b false h = []

  candidates : List Candidate
  candidates = all_of (λ a. all_of (λ b. candidates_if a b (nat_lt a.spot.at b.spot.at) refl) arm_spots) arm_spots

  record IsCandidate (a b : ArmSpot) (all : List Candidate) (x : ℤ) : Type 0 where
    it : Candidate
    there : Among it all
    one_is : it.one ≡ a
    two_is : it.two ≡ b
    number_is : it.met.number ≡ x

  candidate_if : (a b : ArmSpot) (x : ℤ) (t : Bool) (h : nat_lt a.spot.at b.spot.at ≡ t) → a.spot.at < b.spot.at →
      MeetAt a.spot.range b.spot.range x → IsCandidate a b (candidates_if a b t h) x
  unfolding candidates_if
  candidate_if a b x true h l e =
      let n = met_there a.spot.range b.spot.range x e in
      record {
        it = record { one = a; two = b; ordered = below a.spot.at b.spot.at h; met = n.at };
        there = among_met a b (below a.spot.at b.spot.at h) (numbers_met a.spot.range b.spot.range) n.at n.there;
        one_is = refl;
        two_is = refl;
        number_is = n.is;
      }
  candidate_if a b x false h l e = absurd (not_below a.spot.at b.spot.at h l)

  candidate_there : (a b : ArmSpot) (x : ℤ) → Among a arm_spots → Among b arm_spots → a.spot.at < b.spot.at →
      MeetAt a.spot.range b.spot.range x → IsCandidate a b candidates x
  unfolding candidates
  candidate_there a b x i j l e =
      let c = candidate_if a b x (nat_lt a.spot.at b.spot.at) refl l e in
      record {
        it = c.it;
        there = among_all (λ y. all_of (λ z. candidates_if y z (nat_lt y.spot.at z.spot.at) refl) arm_spots) arm_spots a
            c.it i
            (among_all (λ z. candidates_if a z (nat_lt a.spot.at z.spot.at) refl) arm_spots b c.it j c.there);
        one_is = c.one_is;
        two_is = c.two_is;
        number_is = c.number_is;
      }

  -- ---- which of them overlap

  touching : (c : Candidate) → Touching c.one.arm.pat c.one.spot.path c.two.arm.pat c.two.spot.path
  touching c = record {
    first_at = c.one.spot.at;
    second_at = c.two.spot.at;
    first_range = c.one.spot.range;
    second_range = c.two.spot.range;
    number = c.met.number;
    first = spot-ends c.one.arm.pat c.one.spot c.one.inside;
    second = spot-ends c.two.arm.pat c.two.spot c.two.inside;
    meet = c.met.meet;
  }

  abbrev Together : Candidate → Type 0
  Together c = MeetTogether IsValue m.type m.sure c.one.arm.pat c.one.spot.path c.two.arm.pat c.two.spot.path

  told : (c : Candidate) → (b : Bool) × Tells b (Together c)
  told c =
      along_decided IsType IsValue cx values parts is_empty variant_empty empty unsure m.type m.sure
      c.one.arm.pat c.one.spot.path c.two.arm.pat c.two.spot.path typed.type c.one.well c.two.well c.one.held c.two.held
      (touching c)

  test : Candidate → Bool
  test c = (told c).0

  tells_yes : (b : Bool) (P : Type 0) → Tells b P → b ≡ true → P
  tells_yes true P h e = h
  tells_yes false P h e = absurd cc

  tells_no : (b : Bool) (P : Type 0) → Tells b P → P → b ≡ true
  tells_no true P h p = refl
  tells_no false P h p = absurd (h p)

  shown : Candidate → MOverlap
  shown c = record { first = c.one.spot.at; second = c.two.spot.at; number = c.met.number }

  sound : (c : Candidate) → Among c candidates → test c ≡ true →
      Overlaps (InMatchDomain IsValue m) (match_arms m) (shown c).first (shown c).second (shown c).number
  unfolding test shown
  sound c i e =
      (overlaps-are-spots IsValue m c.one.spot.at c.two.spot.at c.met.number).1
      (record {
        first_index = c.one.index;
        second_index = c.two.index;
        first_arm = c.one.arm;
        second_arm = c.two.arm;
        first_spot = c.one.spot;
        second_spot = c.two.spot;
        first_there = c.one.there;
        second_there = c.two.there;
        first_inside = c.one.inside;
        second_inside = c.two.inside;
        first_at = refl;
        second_at = refl;
        ordered = c.ordered;
        meet = c.met.meet;
        together = tells_yes (told c).0 (Together c) (told c).1 e;
      })

  among_at : (arms : List (MDeArm T)) (i : ℕ) (a : MDeArm T) → slice_get arms i ≡ Some a → Among a arms
  among_at [] i a e = absurd cc
  among_at (b ∷ arms) zero a e = let same : b ≡ a = cc in inl (sym same)
  among_at (b ∷ arms) (suc i) a e = inr (among_at arms i a e)

  record Shows (o : MOverlap) : Type 0 where
    it : Candidate
    there : Among it candidates
    found : test it ≡ true
    is : shown it ≡ o

  complete : (o : MOverlap) → SpotsMeet IsValue m.type m.sure m.arms o.first o.second o.number → Shows o
  unfolding test shown
  complete o h =
      let a = spot_listed h.first_arm h.first_spot (among_at m.arms h.first_index h.first_arm h.first_there) h.first_inside in
      let b = spot_listed h.second_arm h.second_spot (among_at m.arms h.second_index h.second_arm h.second_there) h.second_inside in
      let left : a.at.spot.at ≡ o.first = ap (λ (s : Spot). s.at) a.spot_is ∙ h.first_at in
      let right : b.at.spot.at ≡ o.second = ap (λ (s : Spot). s.at) b.spot_is ∙ h.second_at in
      let ordered : a.at.spot.at < b.at.spot.at =
      subst (λ n. n < b.at.spot.at) (sym left) (subst (λ n. o.first < n) (sym right) h.ordered) in
      let meet : MeetAt a.at.spot.range b.at.spot.range o.number =
      subst (λ (s : Spot). MeetAt s.range b.at.spot.range o.number) (sym a.spot_is)
      (subst (λ (s : Spot). MeetAt h.first_spot.range s.range o.number) (sym b.spot_is) h.meet) in
      let c = candidate_there a.at b.at o.number a.listed_there b.listed_there ordered meet in
      let arm_one : c.it.one.arm ≡ h.first_arm = ap (λ (x : ArmSpot). x.arm) c.one_is ∙ a.arm_is in
      let arm_two : c.it.two.arm ≡ h.second_arm = ap (λ (x : ArmSpot). x.arm) c.two_is ∙ b.arm_is in
      let spot_one : c.it.one.spot ≡ h.first_spot = ap (λ (x : ArmSpot). x.spot) c.one_is ∙ a.spot_is in
      let spot_two : c.it.two.spot ≡ h.second_spot = ap (λ (x : ArmSpot). x.spot) c.two_is ∙ b.spot_is in
      let together : Together c.it =
      subst (λ (x : MDeArm T). MeetTogether IsValue m.type m.sure x.pat c.it.one.spot.path c.it.two.arm.pat c.it.two.spot.path)
      (sym arm_one)
      (subst (λ (x : MDeArm T). MeetTogether IsValue m.type m.sure h.first_arm.pat c.it.one.spot.path x.pat c.it.two.spot.path)
      (sym arm_two)
      (subst (λ (s : Spot). MeetTogether IsValue m.type m.sure h.first_arm.pat s.path h.second_arm.pat c.it.two.spot.path)
      (sym spot_one)
      (subst (λ (s : Spot). MeetTogether IsValue m.type m.sure h.first_arm.pat h.first_spot.path h.second_arm.pat s.path)
      (sym spot_two) h.together))) in
      record {
        it = c.it;
        there = c.there;
        found = tells_no (told c.it).0 (Together c.it) (told c.it).1 together;
        is = ap (λ n. record { first = n; second = c.it.two.spot.at; number = c.it.met.number })
            (ap (λ (s : Spot). s.at) spot_one ∙ h.first_at)
            ∙ (ap (λ n. record { first = o.first; second = n; number = c.it.met.number })
            (ap (λ (s : Spot). s.at) spot_two ∙ h.second_at)
            ∙ ap (λ x. record { first = o.first; second = o.second; number = x }) c.number_is);
      }

  -- the match has a list of overlaps
  pub overlaps_exist : (os : List MOverlap) × IsOverlapList (InMatchDomain IsValue m) (match_arms m) os
  overlaps_exist =
      some_list shown test (InMatchDomain IsValue m) (match_arms m) candidates sound
      (λ o h. let c = complete o ((overlaps-are-spots IsValue m o.first o.second o.number).0 h) in
      (c.it, c.there, c.found, c.is))
