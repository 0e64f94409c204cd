-- What judging an engine's match says of the function that it shows.
use Rattle.std.proofs.Common.{◌≡◌, ◌↔◌, ℕ, zero, suc, Bool, true, false, not, ◌||◌, List, [], ◌∷◌, ◌++◌, map, length, Option, Some, None, slice_get, IsTrue, nat_eq, refl, sym, ap, subst, ◌∙◌, arith}
use Rattle.std.specs.Prelude.{is_some, is_none}
use Rattle.std.specs.List.{list_any, flat_map, Contains}
use Rattle.std.proofs.lemmas.Bool.Decides.{nat_tests}
use Rattle.std.proofs.lemmas.List.{map-append}
use Rattle.std.proofs.lemmas.Option.{slice_get_read}
use Rattle.match_model.specs.declared.Mode.TheVariants.{Move}
use Rattle.match_model.specs.Types.{MType}
use Rattle.match_model.specs.Values.{MValue}
use Rattle.match_model.specs.Typing.{is_value}
use Rattle.match_model.specs.RustTypes.{rust_context, is_type, RustValue}
use Rattle.match_model.specs.Constructors.{MCtor}
use Rattle.match_model.specs.Contexts.{Context}
use Rattle.match_model.specs.ContextLaws.{ValuesLaw, PartsLaw}
use Rattle.match_model.specs.ContextViews.{Passing, Seen}
use Rattle.match_model.specs.Lists.{Each}
use Rattle.match_model.specs.Ways.{Way}
use Rattle.match_model.specs.Match.{arm_ways, is_empty_list, counting_ways, goes_through, IsExhaustive}
use Rattle.match_model.specs.Matching.{ways}
use Rattle.match_model.specs.SourcePatterns.{ids_in}
use Rattle.match_model.specs.Unreachable.{Entry, IsUnreachableList}
use Rattle.match_model.specs.ArenaUnreachable.{in_reading_order}
use Rattle.match_model.specs.ExactCover.{IsExactCover}
use Rattle.match_model.specs.OfType.{witness_is_of}
use Rattle.match_model.specs.Witness.{MWitness}
use Rattle.match_model.specs.WitnessList.{IsWitnessList, nothing_to_match, by_rows, row_of}
use Rattle.match_model.specs.ArenaPatterns.{MDePat, de_pat, MDePats, no_de_pats, more_de_pats, MDeArm, MDeMatch}
use Rattle.match_model.specs.ArenaWays.{arena_ways, arena_arm, arena_alternatives, match_arms}
use Rattle.match_model.specs.WellTyped.{IsWellTyped, uids_in}
use Rattle.match_model.proofs.Carried.{values_carry, parts_carry}
use Rattle.match_model.proofs.RustValues.{rust_values_law}
use Rattle.match_model.proofs.RustParts.{rust_parts}
use Rattle.pattern_matrix.specs.SearchLaws.{IsJudged}
use Rattle.pattern_matrix.specs.CoverLaws.{IsListOf}
use Rattle.pattern_matrix.proofs.Whole.{covers_of, types_of}
use Rattle.decl_syntax.specs.Items.{ArmTree}
use Rattle.decl_syntax.specs.Functions.{FunctionTree}
use Rattle.pattern_rules.specs.Settings.{Setting, program}
use Rattle.pattern_rules.specs.Faults.{scrutinee_type}
use Rattle.pattern_rules.specs.Resolved.{resolved, resolved_arm}
use Rattle.pattern_rules.specs.ArenaForms.{by_offsets, number_or, offset_in, in_reading}
use Rattle.pattern_rules.specs.Shown.{uid_under, settled, settled_all}
use Rattle.pattern_rules.specs.ShownMatches.{IsShownArm, elaborated_arm}
use Rattle.pattern_rules.specs.Verdicts.{Domain, written_arms, elaborated_match, IsVerdictOn}
use Rattle.pattern_laws.specs.JudgedLaws.{by_offset, IsEngineMatch, ShownMatchIsWellTyped, JudgedShownMatch}
use Rattle.pattern_laws.proofs.Reading.{Rising}
use Rattle.pattern_laws.proofs.Renamed.{renamed, Told, told_in, differ_from}
use Rattle.pattern_laws.proofs.ArmsKept.{arm_rises}
use Rattle.pattern_laws.proofs.ShownKept.{shown_arm, names_shown}
use Rattle.pattern_laws.proofs.TypedShown.{typed_shown}
use Rattle.pattern_laws.proofs.EntryOrder.{order_by_offset}
use Rattle.pattern_laws.proofs.ReadingEntries.{offsets_of, HasChoice, reading_offsets, one_name}
use Rattle.pattern_laws.proofs.TraceChoices.{AreNames, GoWithin, ways_within, told_choice}
use Rattle.pattern_laws.proofs.SameArms.{SameArm, exhaustive_same, exhaustive_back, cover_same, unreachable_same}
use Rattle.pattern_laws.proofs.Skeletons.{skeleton, skeletons, row_skeletons}
use Rattle.pattern_laws.proofs.CarriedWitnesses.{witness_carried, witnesses_kept}

-- ---- ways that count, by offsets

empty_map : (f : Way → Way) (ws : List Way) → is_empty_list (map f ws) ≡ is_empty_list ws
empty_map f [] = refl
empty_map f (w ∷ ws) = refl

counting_map : (f : Way → Way) (b : Bool) (ws : List Way) → counting_ways b (map f ws) ≡ map f (counting_ways b ws)
counting_map f true ws = refl
counting_map f false [] = refl
counting_map f false (w ∷ ws) = refl

counting_within : {T : Type 0} (p : MDePat T) (b : Bool) (ws : List Way) → GoWithin (arena_alternatives p) ws →
    GoWithin (arena_alternatives p) (counting_ways b ws)
counting_within p true ws h = h
counting_within p false [] h = tt
counting_within p false (w ∷ ws) h = (h.0, tt)

module _ {T : Type 0} (p : MDePat T) (g : ℕ → ℕ) (told : Told g p)
    (rises : Rising (offsets_of (in_reading (arena_alternatives p))))
    (i a : ℕ) (c : HasChoice i a (arena_alternatives p)) where
  -- a name is the alternative's where its offset is
  name_same : (u b : ℕ) → HasChoice u b (arena_alternatives p) → nat_eq i u ≡ nat_eq a (g u)
  name_same u b k = by (nat_eq i u) (nat_eq a (g u)) refl refl
    where
      offset : g u ≡ b
      offset = told_choice g p u b told k

      by : (x y : Bool) → nat_eq i u ≡ x → nat_eq a (g u) ≡ y → nat_eq i u ≡ nat_eq a (g u)
      by true true e f = e ∙ sym f
      by false false e f = e ∙ sym f
      by true false e f =
          let same : i ≡ u = grind (arith, nat_tests, e) in
          let there : a ≡ g u = sym (told_choice g p i a told c) ∙ ap g same in
          grind (arith, nat_tests, f, there)
      by false true e f =
          let there : a ≡ g u = grind (arith, nat_tests, f) in
          let same : i ≡ u = one_name (arena_alternatives p) rises i u a c
          (subst (λ n. HasChoice u n (arena_alternatives p)) (sym (there ∙ offset)) k) in
          grind (arith, nat_tests, e, same)

  trace_same : (us : List ℕ) → AreNames (arena_alternatives p) us → list_any (nat_eq i) us
      ≡ list_any (nat_eq a) (map g us)
  trace_same [] h = refl
  trace_same (u ∷ us) h =
      ap (λ b. b || list_any (nat_eq i) us) (name_same u h.0.0 h.0.1)
      ∙ ap (λ b. nat_eq a (g u) || b) (trace_same us h.1)

  ways_same : (ws : List Way) → GoWithin (arena_alternatives p) ws →
      list_any (goes_through i) ws ≡ list_any (goes_through a) (map (renamed g) ws)
  ways_same [] h = refl
  ways_same (w ∷ ws) h =
      ap (λ b. b || list_any (goes_through i) ws) (trace_same w.trace h.0)
      ∙ ap (λ b. list_any (nat_eq a) (map g w.trace) || b) (ways_same ws h.1)

-- ---- arms that are shown

-- a shown arm is the written one
same_arm : {T : Type 0} (type : T → MType) (s : Setting) (f : FunctionTree) (a : ArmTree) (d : MDeArm T) →
    IsShownArm type s f a d →
    SameArm (Domain s f) (arena_arm d) (arm_ways (resolved_arm s (scrutinee_type s f) a))
same_arm type s f a d h =
    let kept = shown_arm type s f a d h in
    let ids : Rising (ids_in (in_reading (arena_alternatives d.pat))) =
    subst (λ x. Rising (ids_in x)) (sym kept.choice) (arm_rises s f a h.sound) in
    let rises : Rising (offsets_of (in_reading (arena_alternatives d.pat))) =
    subst Rising (reading_offsets (arena_alternatives d.pat)) ids in
    record {
      guarded = kept.guard;
      matched = λ v i. sym (empty_map (by_offsets d.pat) (arena_ways d.pat v)) ∙ ap is_empty_list (kept.way v i);
      at = kept.offset;
      id = refl;
      through = λ i at c v k.
          ways_same d.pat (λ u. number_or u (offset_in u d.pat)) (told_in (λ u. offset_in u d.pat) d.pat
          (differ_from (uids_in d.pat) h.uids) (λ u b. refl)) rises i at c
          (counting_ways d.guarded (arena_ways d.pat v))
          (counting_within d.pat d.guarded (arena_ways d.pat v) (ways_within d.pat v))
          ∙ (ap (list_any (goes_through at)) (sym (counting_map (by_offsets d.pat) d.guarded (arena_ways d.pat v)))
          ∙ (ap (λ ws. list_any (goes_through at) (counting_ways d.guarded ws)) (kept.way v k)
          ∙ ap (λ b. list_any (goes_through at)
          (counting_ways b (ways (resolved s (scrutinee_type s f) a.pattern) Move v))) kept.guard));
      reading = kept.choice;
      rises = rises;
    }

-- the arms one by one
shown_each : {T : Type 0} (type : T → MType) (s : Setting) (f : FunctionTree) (bs : List ArmTree)
    (ds : List (MDeArm T)) →
    length ds ≡ length bs →
    ((j : ℕ) (a : ArmTree) (d : MDeArm T) → slice_get bs j ≡ Some a → slice_get ds j ≡ Some d →
    IsShownArm type s f a d) →
    Each (λ d a. IsShownArm type s f a d) ds bs
shown_each type s f [] [] e h = tt
shown_each type s f [] (d ∷ ds) e h = absurd (omega (arith, e))
shown_each type s f (a ∷ bs) [] e h = absurd (omega (arith, e))
shown_each type s f (a ∷ bs) (d ∷ ds) e h =
    (h 0 a d refl refl, shown_each type s f bs ds (omega (arith, e)) (λ j b x k l. h (suc j) b x k l))

same_arms : {T : Type 0} (type : T → MType) (s : Setting) (f : FunctionTree) (bs : List ArmTree)
    (ds : List (MDeArm T)) →
    Each (λ d a. IsShownArm type s f a d) ds bs →
    Each (SameArm (Domain s f)) (map arena_arm ds) (map (λ a. arm_ways (resolved_arm s (scrutinee_type s f) a)) bs)
same_arms type s f [] [] h = tt
same_arms type s f (a ∷ bs) [] h = absurd h
same_arms type s f [] (d ∷ ds) h = absurd h
same_arms type s f (a ∷ bs) (d ∷ ds) h = (same_arm type s f a d h.0, same_arms type s f bs ds h.1)

-- one of them shows an arm
one_shown : {T : Type 0} (type : T → MType) (s : Setting) (f : FunctionTree) (bs : List ArmTree)
    (ds : List (MDeArm T)) →
    Each (λ d a. IsShownArm type s f a d) ds bs → (j : ℕ) (d : MDeArm T) → slice_get ds j ≡ Some d →
    (a : ArmTree) × IsShownArm type s f a d
one_shown type s f bs [] h j d e = cc
one_shown type s f [] (x ∷ ds) h j d e = absurd h
one_shown type s f (a ∷ bs) (x ∷ ds) h zero d e =
    let same : x ≡ d = cc in (a, subst (IsShownArm type s f a) same h.0)
one_shown type s f (a ∷ bs) (x ∷ ds) h (suc j) d e = one_shown type s f bs ds h.1 j d e

module _ {T : Type 0} (type : T → MType) (is_type_s : T → Bool) (cy : Context T) (s : Setting) (f : FunctionTree)
    (m : MDeMatch T)
    (k : IsEngineMatch type is_type_s cy s f m) where
  pub each : Each (λ d a. IsShownArm type s f a d) m.arms f.arms
  each = shown_each type s f f.arms m.arms k.shown.count k.shown.arms

  shown_at : (d : MDeArm T) → Contains m.arms d → (a : ArmTree) × IsShownArm type s f a d
  shown_at d c = one_shown type s f f.arms m.arms each c.0 d (slice_get_read m.arms (length m.arms) c.0 d refl c.1
      (sym c.2))

  -- it is well typed
  pub well_typed : IsWellTyped (Passing is_type_s) cy m
  well_typed = record {
    type = k.type_is;
    typed = λ d c.
        let a = shown_at d c in
        typed_shown T type is_type_s cy s f a.0 d m.type k.view a.1 (k.types d c) k.type_is k.shown.type_is;
    names = λ d c. let a = shown_at d c in names_shown T type s f a.0 d a.1;
    uids = k.uids;
  }

  -- the values of the two domains are the same
  none_not : {A : Type 0} (o : Option A) → is_none o ≡ not (is_some o)
  none_not None = refl
  none_not (Some x) = refl

  sure_is : m.sure ≡ not (is_some f.deref)
  sure_is = k.shown.sure_is ∙ none_not f.deref

  pub in_domain : (X : (MValue → Type 0) → Type 0) → X (λ v. IsTrue (is_value (program s) m.sure (type m.type) v)) →
      X (Domain s f)
  in_domain X x =
      subst (λ b. X (λ v. IsTrue (is_value (program s) b (scrutinee_type s f) v))) sure_is
      (subst (λ t. X (λ v. IsTrue (is_value (program s) m.sure t v))) k.shown.type_is x)

  arms : Each (SameArm (Domain s f)) (match_arms m) (written_arms s f)
  arms = same_arms type s f f.arms m.arms each

  values : ValuesLaw (Passing is_type_s) (Seen type (RustValue (program s))) cy
  values = values_carry type (Passing is_type_s) (Passing (is_type (program s))) (RustValue (program s)) cy
      (rust_context (program s)) k.view
      (rust_values_law (program s))

  parts : PartsLaw (Passing is_type_s) (Seen type (RustValue (program s))) cy
  parts = parts_carry type (Passing is_type_s) (Passing (is_type (program s))) (RustValue (program s)) cy
      (rust_context (program s)) k.view
      (rust_parts (program s) k.sound)

  listed_is : (ws : List MWitness) → IsWitnessList cy (Seen type (RustValue (program s))) m ws →
      IsListOf (Passing is_type_s) (Seen type (RustValue (program s))) cy m ws
  listed_is ws h = record { typed = well_typed; made = k.made; listed = h }

  -- ---- the witness list of the match by constructors

  mutual
    skeleton_settled : (u : ℕ) (p : MDePat T) → skeleton (settled type u p) ≡ skeleton p
    skeleton_settled u (de_pat c t uid at subs binds) = ap (λ ps. de_pat c 0 0 0 ps []) (skeletons_settled c subs)

    skeletons_settled : (c : MCtor) (ps : MDePats T) → skeletons (settled_all type c ps) ≡ skeletons ps
    skeletons_settled c no_de_pats = refl
    skeletons_settled c (more_de_pats p ps) =
        ap (λ q. more_de_pats q (skeletons (settled_all type c ps))) (skeleton_settled (uid_under c p) p)
        ∙ ap (more_de_pats (skeleton p)) (skeletons_settled c ps)

  row_same : (b : Bool) (p : MDePat T) (q : MDePat MType) → skeleton q ≡ skeleton p →
      row_skeletons (row_of (record { pat = q; guarded = b }))
      ≡ row_skeletons (row_of (record { pat = p; guarded = b }))
  row_same true p q e = refl
  row_same false p q e = ap (λ x. (Some x ∷ []) ∷ []) e

  -- an arm by constructors
  abbrev plain_arm : ArmTree → MDeArm MType
  plain_arm a = record { pat = elaborated_arm s f a; guarded = a.guarded }

  arm_same : (a : ArmTree) (d : MDeArm T) → IsShownArm type s f a d → row_skeletons (row_of (plain_arm a))
      ≡ row_skeletons (row_of d)
  arm_same a d h =
      subst (λ b. row_skeletons (row_of (record { pat = elaborated_arm s f a; guarded = b }))
      ≡ row_skeletons (row_of d)) h.guard
      (row_same d.guarded d.pat (elaborated_arm s f a) (ap skeleton (sym h.pattern) ∙ skeleton_settled _ d.pat))

  rows_same : (bs : List ArmTree) (ds : List (MDeArm T)) → Each (λ d a. IsShownArm type s f a d) ds bs →
      row_skeletons (flat_map row_of (map plain_arm bs)) ≡ row_skeletons (flat_map row_of ds)
  rows_same [] [] h = refl
  rows_same (a ∷ bs) [] h = absurd h
  rows_same [] (d ∷ ds) h = absurd h
  rows_same (a ∷ bs) (d ∷ ds) h =
      map-append _ (row_of (plain_arm a)) (flat_map row_of (map plain_arm bs))
      ∙ (ap (λ xs. xs ++ row_skeletons (flat_map row_of (map plain_arm bs))) (arm_same a d h.0)
      ∙ (ap (λ xs. row_skeletons (row_of d) ++ xs) (rows_same bs ds h.1)
      ∙ sym (map-append _ (row_of d) (flat_map row_of ds))))

  -- the match with the types that its own stand for
  abbrev seen_match : MType → Bool → MDeMatch MType
  seen_match t b = record { type = t; sure = b; arms = map plain_arm f.arms }

  list_seen : (ws : List MWitness) → IsWitnessList cy (Seen type (RustValue (program s))) m ws →
      IsWitnessList (rust_context (program s)) (RustValue (program s)) (seen_match (type m.type) m.sure) ws
  list_seen ws (nothing_to_match h) = nothing_to_match (λ v d. h v d)
  list_seen ws (by_rows v us d n h) =
      by_rows v us d n
      (witnesses_kept type cy (rust_context (program s)) k.view.set k.view.arity k.view.sub (RustValue (program s))
      (record { type = m.type; sure = m.sure } ∷ []) (flat_map row_of m.arms) (map (λ w. w ∷ []) us) h
      (flat_map row_of (map plain_arm f.arms)) (rows_same f.arms m.arms each))

  list_kept : (ws : List MWitness) → IsWitnessList cy (Seen type (RustValue (program s))) m ws →
      IsWitnessList (rust_context (program s)) (RustValue (program s)) (elaborated_match s f) ws
  list_kept ws h =
      subst (λ b. IsWitnessList (rust_context (program s)) (RustValue (program s)) (seen_match (scrutinee_type s f) b)
      ws) k.shown.sure_is
      (subst (λ t. IsWitnessList (rust_context (program s)) (RustValue (program s)) (seen_match t m.sure) ws)
      k.shown.type_is
      (list_seen ws h))

  -- ---- the verdict

  pub verdict : (exhaustive : Bool) (unreachable : List Entry) (witnesses : List MWitness) →
      IsJudged (Seen type (RustValue (program s))) cy m exhaustive unreachable witnesses →
      IsVerdictOn s f exhaustive (map by_offset unreachable) witnesses
  verdict e us ws j =
      let told : (e ≡ true) ↔ IsExhaustive (Domain s f) (match_arms m) =
      in_domain (λ D. (e ≡ true) ↔ IsExhaustive D (match_arms m)) j.tells in
      let listed : IsUnreachableList (Domain s f) (written_arms s f) (in_reading_order (map by_offset j.list.0)) =
      unreachable_same (Domain s f) (match_arms m) (written_arms s f) arms j.list.0
      (in_domain (λ D. IsUnreachableList D (match_arms m) j.list.0) j.list.1) in
      let list = listed_is ws j.witness_list in
      let cover : IsExactCover (Domain s f) (match_arms m) ws =
      in_domain (λ D. IsExactCover D (match_arms m) ws)
      (covers_of (Passing is_type_s) (Seen type (RustValue (program s))) cy values parts m ws list) in
      record {
        tells = (
          λ t. exhaustive_same (Domain s f) (match_arms m) (written_arms s f) arms (told.0 t),
          λ t. told.1 (exhaustive_back (Domain s f) (match_arms m) (written_arms s f) arms t),
        );
        unreachable_is = subst (IsUnreachableList (Domain s f) (written_arms s f))
            (sym (ap (map by_offset) j.list.2 ∙ order_by_offset j.list.0)) listed;
        cover = cover_same (Domain s f) (match_arms m) (written_arms s f) ws arms cover;
        typed = λ w c. subst (λ t. IsTrue (witness_is_of (rust_context (program s)) t w)) k.shown.type_is
            (sym (witness_carried type cy (rust_context (program s)) k.view.set k.view.arity k.view.sub m.type w)
            ∙ types_of (Passing is_type_s) (Seen type (RustValue (program s))) cy values parts m ws list w c);
        listed = list_kept ws j.witness_list;
      }

pub shown_typed : (T : Type 0) → ShownMatchIsWellTyped T
shown_typed T type is_type_s cy s f m k = well_typed type is_type_s cy s f m k

pub judged_shown : (T : Type 0) → JudgedShownMatch T
judged_shown T type is_type_s cy s f m e us ws k j = verdict type is_type_s cy s f m k e us ws j
