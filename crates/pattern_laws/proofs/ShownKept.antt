-- A match that shows the function's arms keeps all that is promised of it.
use Rattle.std.proofs.Common.{◌≡◌, ℕ, suc, ◌≤◌, Bool, true, false, List, [], ◌∷◌, length, filter, slice_get, Some, refl, sym, ap, subst, ◌∙◌, arith, length-append}
use Rattle.std.specs.List.{Contains}
use Rattle.std.proofs.lemmas.Option.{slice_get_read}
use Rattle.match_model.specs.Types.{MType}
use Rattle.match_model.specs.Numbers.{MRange}
use Rattle.match_model.specs.Constructors.{MCtor, OrCtor, NumbersCtor}
use Rattle.match_model.specs.declared.Mode.TheVariants.{Move}
use Rattle.match_model.specs.Match.{Alternatives, no_alternative, alternative, and_others}
use Rattle.match_model.specs.ArenaPatterns.{MDePat, de_pat, MDePats, no_de_pats, more_de_pats, MDeArm, MDeMatch, ctor_of, type_of, at_of}
use Rattle.match_model.specs.ArenaWays.{alternatives_by_ctor, arena_ways, arena_alternatives, alternatives_in_subs, choices_in}
use Rattle.match_model.specs.WellTyped.{names_differ}
use Rattle.decl_syntax.specs.Items.{ArmTree}
use Rattle.decl_syntax.specs.Counts.{pattern_nodes}
use Rattle.decl_syntax.specs.Functions.{FunctionTree}
use Rattle.pattern_rules.specs.Settings.{Setting, place}
use Rattle.pattern_rules.specs.Nodes.{Elsewhere, nodes}
use Rattle.pattern_rules.specs.Faults.{scrutinee_type, nodes_of_arm, nodes_of_arms, function_nodes}
use Rattle.pattern_rules.specs.ArenaForms.{in_reading, all_within, subs_in, is_or}
use Rattle.pattern_rules.specs.Promises.{IsWritten, or_patterns, KeepsArm, KeepsMatch}
use Rattle.pattern_rules.specs.Shown.{uid_under, settled, settled_all, shown}
use Rattle.pattern_laws.specs.Laws.{IsInForm}
use Rattle.pattern_rules.specs.ShownMatches.{IsShownArm, IsShownMatch}
use Rattle.pattern_laws.specs.ShownLaws.{ShownNamesDiffer, ShownMatchIsKept}
use Rattle.pattern_laws.proofs.FormsMet.{mapped_length}
use Rattle.pattern_laws.proofs.Everywhere.{Every, every_append, every_at, RangeHolds, FewChoices}
use Rattle.pattern_laws.proofs.Renamed.{offset_ways}
use Rattle.pattern_laws.proofs.Settled.{differ_settled, lone_shown, texts_shown, every_settled, ctor_settled, type_settled, at_settled, subs_settled, or_is_settled, ors_settled}
use Rattle.pattern_laws.proofs.TreeCounts.{node_count}
use Rattle.pattern_laws.proofs.ArmsKept.{arm_nodes, ways_kept, names_apart, arms_in_form, arm_ranges, arm_few, arm_reading}

-- alternatives by their offsets alone
abbrev unnamed : Alternatives → Alternatives
unnamed no_alternative = no_alternative
unnamed (alternative id at inside others) = alternative at at (unnamed inside) (unnamed others)

reading_unnamed : (x : Alternatives) → in_reading (unnamed x) ≡ in_reading x
reading_unnamed no_alternative = refl
reading_unnamed (alternative id at inside others) = rw (reading_unnamed inside, reading_unnamed others) refl

unnamed_others : (x y : Alternatives) → unnamed (and_others x y) ≡ and_others (unnamed x) (unnamed y)
unnamed_others no_alternative y = refl
unnamed_others (alternative id at inside others) y = ap (alternative at at (unnamed inside)) (unnamed_others others y)

by_ctor_settled : {T : Type 0} (type : T → MType) (c : MCtor) (ps : MDePats T) (x x' y y' : Alternatives) →
    unnamed x ≡ unnamed x' → unnamed y ≡ unnamed y' →
    unnamed (alternatives_by_ctor c (settled_all type c ps) x y) ≡ unnamed (alternatives_by_ctor c ps x' y')
by_ctor_settled type OrCtor no_de_pats x x' y y' h k = k
by_ctor_settled type OrCtor (more_de_pats p no_de_pats) x x' y y' h k = k
by_ctor_settled type OrCtor (more_de_pats p (more_de_pats q ps)) x x' y y' h k = h
by_ctor_settled type c ps x x' y y' h k = k

mutual
  alternatives_settled : {T : Type 0} (type : T → MType) (u : ℕ) (p : MDePat T) →
      unnamed (arena_alternatives (settled type u p)) ≡ unnamed (arena_alternatives p)
  alternatives_settled {T} type u (de_pat c t uid at subs binds) =
      by_ctor_settled type c subs (choices_in (settled_all type c subs)) (choices_in subs)
      (alternatives_in_subs (settled_all type c subs)) (alternatives_in_subs subs)
      (choices_settled type c subs) (subs_alternatives type c subs)

  subs_alternatives : {T : Type 0} (type : T → MType) (c : MCtor) (ps : MDePats T) →
      unnamed (alternatives_in_subs (settled_all type c ps)) ≡ unnamed (alternatives_in_subs ps)
  subs_alternatives {T} type c no_de_pats = refl
  subs_alternatives {T} type c (more_de_pats p ps) =
      unnamed_others (arena_alternatives (settled type (uid_under c p) p))
      (alternatives_in_subs (settled_all type c ps))
      ∙ (rw (alternatives_settled type (uid_under c p) p, subs_alternatives type c ps) refl
      ∙ sym (unnamed_others (arena_alternatives p) (alternatives_in_subs ps)))

  choices_settled : {T : Type 0} (type : T → MType) (c : MCtor) (ps : MDePats T) →
      unnamed (choices_in (settled_all type c ps)) ≡ unnamed (choices_in ps)
  choices_settled {T} type c no_de_pats = refl
  choices_settled {T} type c (more_de_pats p ps) =
      rw (
        at_settled type (uid_under c p) p,
        alternatives_settled type (uid_under c p) p,
        choices_settled type c ps,
      ) refl

reading_settled : {T : Type 0} (type : T → MType) (u : ℕ) (p : MDePat T) →
    in_reading (arena_alternatives (settled type u p)) ≡ in_reading (arena_alternatives p)
reading_settled type u p =
    sym (reading_unnamed (arena_alternatives (settled type u p)))
    ∙ (ap in_reading (alternatives_settled type u p) ∙ reading_unnamed (arena_alternatives p))

-- what is among patterns of which something holds
among_every : {A : Type 0} (E : A → Type 0) (xs : List A) (q : A) → Contains xs q → Every E xs → E q
among_every E xs q c h = every_at E xs c.0 q (slice_get_read xs (length xs) c.0 q refl c.1 (sym c.2)) h

-- an or-pattern has at most so many alternatives
FewOf : {T : Type 0} → ℕ → MDePat T → Type 0
FewOf most q = is_or q ≡ true → length (subs_in q) ≤ most

module _ {T : Type 0} (type : T → MType) (s : Setting) (f : FunctionTree) where
  -- the ranges are written
  shown_ranges : (a : ArmTree) (d : MDeArm T) → IsShownArm type s f a d →
      Every (λ q. (r : MRange) → ctor_of q ≡ NumbersCtor r → IsWritten s f a (type (type_of q)) r) (all_within d.pat)
  shown_ranges a d h =
      every_settled type (RangeHolds (λ w t. IsWritten s f a t w)) (λ q. (r : MRange) → ctor_of q ≡ NumbersCtor r →
      IsWritten s f a (type (type_of q)) r)
      (λ u q k r e. subst (λ t. IsWritten s f a t r) (type_settled type u q) (k r (ctor_settled type u q ∙ e)))
      (at_of d.pat) d.pat (subst (λ p. Every (RangeHolds (λ w t. IsWritten s f a t w)) (all_within p)) (sym h.pattern)
      (arm_ranges s f a h.sound))

  shown_few : (a : ArmTree) (d : MDeArm T) → IsShownArm type s f a d → Every (FewOf (length (arm_nodes s f a)))
      (all_within d.pat)
  unfolding FewOf
  shown_few a d h =
      every_settled type (FewChoices (length (arm_nodes s f a)))
      (λ q. is_or q ≡ true → length (subs_in q) ≤ length (arm_nodes s f a))
      (λ u q k e. subst (λ n. n ≤ length (arm_nodes s f a)) (subs_settled type u q) (k (or_is_settled type u q ∙ e)))
      (at_of d.pat) d.pat (subst (λ p. Every (FewChoices (length (arm_nodes s f a))) (all_within p)) (sym h.pattern)
      (arm_few s f a h.sound))

  form : (a : ArmTree) (d : MDeArm T) → IsShownArm type s f a d → IsInForm s f a (shown type d.pat)
  form a d h = subst (λ p. IsInForm s f a p) (sym h.pattern) (arms_in_form s f a h.sound)

  -- an arm
  pub shown_arm : (a : ArmTree) (d : MDeArm T) → IsShownArm type s f a d → KeepsArm type s f a d
  shown_arm a d h = record {
    guard = h.guard;
    offset = sym (at_settled type (at_of d.pat) d.pat) ∙ (form a d h).offset;
    way = λ v i. offset_ways type d.pat (at_of d.pat) v h.uids
        ∙ (ap (λ p. arena_ways p v) h.pattern ∙ ways_kept s f a v h.sound i);
    choice = sym (reading_settled type (at_of d.pat) d.pat)
        ∙ (ap (λ p. in_reading (arena_alternatives p)) h.pattern ∙ arm_reading s f a h.sound);
    lone = sym (lone_shown type (at_of d.pat) d.pat) ∙ (form a d h).lone;
    text = sym (texts_shown type (at_of d.pat) d.pat) ∙ (form a d h).text;
    range = λ q r c e. among_every (λ q. (r : MRange) → ctor_of q ≡ NumbersCtor r →
        IsWritten s f a (type (type_of q)) r) (all_within d.pat) q c (shown_ranges a d h) r e;
  }

  -- or-patterns, arm by arm
  arm_count : (t : MType) (i : ℕ) (a : ArmTree) → length (nodes_of_arm s t i a) ≡ pattern_nodes a.pattern
  arm_count t i a = mapped_length (λ n. record { arm = i; node = n }) (nodes s Elsewhere [] (place t Move) a.pattern)
      ∙ node_count s Elsewhere [] (place t Move) a.pattern

  few_all : (t : MType) (i : ℕ) (bs : List ArmTree) (ds : List (MDeArm T)) → length ds ≡ length bs →
      ((j : ℕ) (a : ArmTree) (d : MDeArm T) → slice_get bs j ≡ Some a → slice_get ds j ≡ Some d →
      length (filter is_or (all_within d.pat)) ≤ pattern_nodes a.pattern) →
      length (or_patterns ds) ≤ length (nodes_of_arms s t i bs)
  few_all t i bs [] e h = omega arith
  few_all t i [] (d ∷ ds) e h = absurd (omega (arith, e))
  few_all t i (a ∷ bs) (d ∷ ds) e h =
      omega (
        arith,
        h 0 a d refl refl,
        few_all t (suc i) bs ds (omega (arith, e)) (λ j b c k l. h (suc j) b c k l),
        arm_count t i a,
        length-append (filter is_or (all_within d.pat)) (or_patterns ds),
        length-append (nodes_of_arm s t i a)
            (nodes_of_arms s t (suc i) bs),
      )

  -- none has more alternatives
  filter_every : (n most : ℕ) (qs : List (MDePat T)) → n ≤ most → Every (FewOf n) qs →
      Every (λ q. length (subs_in q) ≤ most) (filter is_or qs)
  unfolding FewOf
  filter_every n most [] le h = tt
  filter_every n most (q ∷ qs) le h = go (is_or q) refl (filter_every n most qs le h.1)
    where
      go : (b : Bool) → is_or q ≡ b → Every (λ q. length (subs_in q) ≤ most) (filter is_or qs) →
          Every (λ q. length (subs_in q) ≤ most) (filter is_or (q ∷ qs))
      go true e rest = rw e (omega (arith, h.0 e, le), rest)
      go false e rest = rw e rest

  narrow_all : (t : MType) (i most : ℕ) (bs : List ArmTree) (ds : List (MDeArm T)) → length ds ≡ length bs →
      length (nodes_of_arms s t i bs) ≤ most →
      ((j : ℕ) (a : ArmTree) (d : MDeArm T) → slice_get bs j ≡ Some a → slice_get ds j ≡ Some d →
      Every (FewOf (pattern_nodes a.pattern)) (all_within d.pat)) →
      Every (λ q. length (subs_in q) ≤ most) (or_patterns ds)
  narrow_all t i most bs [] e le h = tt
  narrow_all t i most [] (d ∷ ds) e le h = absurd (omega (arith, e))
  narrow_all t i most (a ∷ bs) (d ∷ ds) e le h =
      every_append (λ q. length (subs_in q) ≤ most) (filter is_or (all_within d.pat)) (or_patterns ds)
      (filter_every (pattern_nodes a.pattern) most (all_within d.pat)
      (omega (arith, le, arm_count t i a, length-append (nodes_of_arm s t i a) (nodes_of_arms s t (suc i) bs)))
      (h 0 a d refl refl))
      (narrow_all t (suc i) most bs ds (omega (arith, e))
      (omega (arith, le, length-append (nodes_of_arm s t i a) (nodes_of_arms s t (suc i) bs)))
      (λ j b c k l. h (suc j) b c k l))

  counted : (a : ArmTree) (d : MDeArm T) → IsShownArm type s f a d →
      length (filter is_or (all_within d.pat)) ≤ pattern_nodes a.pattern
  counted a d h = subst (λ n. n ≤ pattern_nodes a.pattern) (ors_settled type (at_of d.pat) d.pat) (form a d h).few

  few_here : (a : ArmTree) (d : MDeArm T) → IsShownArm type s f a d → Every (FewOf (pattern_nodes a.pattern))
      (all_within d.pat)
  few_here a d h = subst (λ n. Every (FewOf n) (all_within d.pat))
      (node_count s Elsewhere [] (place (scrutinee_type s f) Move) a.pattern) (shown_few a d h)

  -- a match
  pub shown_match : (m : MDeMatch T) → IsShownMatch type s f m → KeepsMatch type s f m
  shown_match m h = record {
    type_is = h.type_is;
    sure_is = h.sure_is;
    count = h.count;
    arms = λ j a d e g. shown_arm a d (h.arms j a d e g);
    few = few_all (scrutinee_type s f) 0 f.arms m.arms h.count (λ j a d e g. counted a d (h.arms j a d e g));
    narrow = λ q c. among_every (λ x. length (subs_in x) ≤ length (function_nodes s f)) (or_patterns m.arms) q c
        (narrow_all (scrutinee_type s f) 0 (length (function_nodes s f)) f.arms m.arms h.count (omega arith)
        (λ j a d e g. few_here a d (h.arms j a d e g)));
  }

pub names_shown : (T : Type 0) → ShownNamesDiffer T
names_shown T type s f a d h = sym (differ_settled type (at_of d.pat) d.pat)
    ∙ (ap names_differ h.pattern ∙ names_apart s f a h.sound)

pub match_kept : (T : Type 0) → ShownMatchIsKept T
match_kept T type s f m h = shown_match type s f m h
