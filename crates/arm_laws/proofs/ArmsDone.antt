-- The texts of the arms for the witnesses of a verdict complete the match.
use Rattle.std.proofs.Common.{◌≡◌, ℕ, zero, suc, Bool, true, List, [], ◌∷◌, inl, inr, refl, sym, subst, arith}
use Rattle.std.specs.List.{AllZip, Contains, list_all}
use Rattle.decl_syntax.specs.Functions.{FunctionTree}
use Rattle.decl_syntax.specs.Patterns.{PatternTree}
use Rattle.decl_syntax.specs.Units.{units}
use Rattle.match_model.specs.Lists.{Among, Each}
use Rattle.match_model.specs.OfType.{witness_is_of}
use Rattle.match_model.specs.RustTypes.{rust_context}
use Rattle.match_model.specs.Values.{MValue}
use Rattle.match_model.specs.Witness.{MWitness, fits}
use Rattle.match_model.proofs.Basics.{both}
use Rattle.keyed_rows.proofs.Members.{among-contains}
use Rattle.pattern_rules.specs.Faults.{scrutinee_type}
use Rattle.pattern_rules.specs.Settings.{Setting, program}
use Rattle.pattern_laws.proofs.ParsedSound.{parsed_functions}
use Rattle.pattern_laws.proofs.SoundFiles.{files_are_sound}
use Rattle.file_names.specs.Named.{AreNames}
use Rattle.file_names.proofs.Programs.{program_names_are_names}
use Rattle.arm_maker.specs.Arms.{arm_tree, patterns_of, AreArms}
use Rattle.arm_maker.specs.Sizes.{arm_fits, most_levels}
use Rattle.arm_laws.specs.Completed.{IsPatternFor}
use Rattle.arm_laws.specs.Fine.{IsFinePattern}
use Rattle.arm_laws.specs.FunctionLaws.{IsJudged}
use Rattle.arm_laws.specs.LiteralEnds.{literal_ends}
use Rattle.arm_laws.specs.Meant.{is_referred}
use Rattle.arm_laws.specs.NamedOnce.{IsNamedOnce}
use Rattle.arm_laws.specs.Spelled.{SpellsAlone}
use Rattle.arm_laws.specs.SpellingLaws.{SpellsItsPattern}
use Rattle.arm_laws.specs.VerdictLaws.{ArmTextsComplete, ArmsCompleteMatch}
use Rattle.arm_laws.proofs.Completing.{patterns_complete}
use Rattle.arm_laws.proofs.FineArms.{arm_pattern_is_fine}
use Rattle.arm_laws.proofs.FineFunctions.{fine_arms_break_none}
use Rattle.arm_laws.proofs.NamedOnce.{names_stand_once}
use Rattle.arm_laws.proofs.PatternTakes.{arm_pattern_takes}
use Rattle.arm_laws.proofs.ReferredTrees.{tree_referred}
use Rattle.arm_laws.proofs.Spelled.{arm_of_witness_spells}
use Rattle.arm_laws.proofs.VerdictKept.{verdict_ends_at_literals, verdict_texts_are_referred}

passes_each : {A : Type 0} (f : A → Bool) (xs : List A) (x : A) → list_all f xs ≡ true → Among x xs → f x ≡ true
passes_each f [] x h a = absurd a
passes_each f (y ∷ xs) x h (inl e) = subst (λ z. f z ≡ true) (sym e) (both (f y) (list_all f xs) h).0
passes_each f (y ∷ xs) x h (inr a) = passes_each f xs x (both (f y) (list_all f xs) h).1 a

module _ (s : Setting) (f : FunctionTree) where
  -- what the steps ask of a witness
  record IsReady (w : MWitness) : Type 0 where
    value : MValue
    fitted : fits w value ≡ true
    typed : witness_is_of (rust_context (program s)) (scrutinee_type s f) w ≡ true
    ends : literal_ends (program s) (scrutinee_type s f) w ≡ true
    texts : is_referred (program s) (scrutinee_type s f) w ≡ true
    small : arm_fits most_levels (arm_tree (program s) (scrutinee_type s f) w) ≡ true

  -- patterns for witnesses, one each: the text spells it, it matches what the arm takes, and it breaks no rule
  record AreMade (ws : List MWitness) : Type 0 where
    patterns : List PatternTree
    spelled : AllZip SpellsAlone (patterns_of (program s) (scrutinee_type s f) ws) patterns
    served : Each (IsPatternFor s f) ws patterns
    fine : (p : PatternTree) → Contains patterns p → IsFinePattern s (scrutinee_type s f) p

  none_there : (p : PatternTree) → Contains [] p → IsFinePattern s (scrutinee_type s f) p
  none_there p (k, l, e) = absurd (omega (arith, l))

  one_more : (q : PatternTree) (qs : List PatternTree) → IsFinePattern s (scrutinee_type s f) q →
      ((p : PatternTree) → Contains qs p → IsFinePattern s (scrutinee_type s f) p) →
      (p : PatternTree) → Contains (q ∷ qs) p → IsFinePattern s (scrutinee_type s f) p
  one_more q qs h k p (zero, l, e) = subst (IsFinePattern s (scrutinee_type s f)) e h
  one_more q qs h k p (suc i, l, e) = k p (i, omega (arith, l), e)

  module _ (once : IsNamedOnce s) (names : AreNames (program s)) where
    spells : (w : MWitness) → IsReady w → SpellsItsPattern (arm_tree (program s) (scrutinee_type s f) w)
    spells w r =
        arm_of_witness_spells (program s) (scrutinee_type s f) w names r.typed r.ends r.small
        (tree_referred (program s) (scrutinee_type s f) w r.texts)

    made : (ws : List MWitness) → ((w : MWitness) → Among w ws → IsReady w) → AreMade ws
    made [] k = record { patterns = []; spelled = tt; served = tt; fine = none_there }
    made (w ∷ ws) k =
        let r = k w (inl refl) in
        let p = spells w r in
        let others = made ws (λ u a. k u (inr a)) in
        record {
          patterns = p.0 ∷ others.patterns;
          spelled = (p.1, others.spelled);
          served = (arm_pattern_takes s f w p.0 once r.typed r.ends r.texts p.2, others.served);
          fine = one_more p.0 others.patterns
              (arm_pattern_is_fine s f w r.value p.0 once r.typed r.ends r.fitted p.2)
              others.fine;
        }

  ready : (witnesses : List MWitness) (texts : List (List ℕ)) → IsJudged s f witnesses →
      AreArms (program s) (scrutinee_type s f) witnesses texts → (w : MWitness) → Among w witnesses → IsReady w
  ready witnesses texts h arms w a =
      let c = among-contains witnesses w a in
      let r = h.verdict.cover.each_fitted w c in
      record {
        value = r.0;
        fitted = r.3;
        typed = h.verdict.typed w c;
        ends = verdict_ends_at_literals s f witnesses w h c;
        texts = verdict_texts_are_referred s f witnesses w h c;
        small = passes_each (λ (u : MWitness). arm_fits most_levels (arm_tree (program s) (scrutinee_type s f) u))
            witnesses w arms.small a;
      }

pub arm_texts_complete : ArmTextsComplete
arm_texts_complete s f witnesses texts h fine unbroken names arms =
    let sorted = arms.sorted in
    let all = made s f (names_stand_once s unbroken) names sorted
    (λ w a. ready s f witnesses texts h arms w (arms.in_order.same.back w a)) in
    record {
      patterns = all.patterns;
      spelled = subst (λ ts. AllZip SpellsAlone ts all.patterns) (sym arms.texts_are) all.spelled;
      fine = fine_arms_break_none s f all.patterns fine all.fine;
      complete = patterns_complete s f witnesses sorted all.patterns h arms.in_order all.served;
    }

pub arms_complete_match : ArmsCompleteMatch
arms_complete_match bytes tokens s f witnesses texts h arms =
    let sound = files_are_sound (units tokens) s h.spelled h.unbroken in
    let parsed = parsed_functions bytes tokens s.items h.item f h.lexed h.spelled h.among h.is in
    let type_is = sound.scrutinee h.item f h.among h.is h.fine in
    let names = program_names_are_names bytes tokens s.items s.width h.lexed h.spelled in
    arm_texts_complete s f witnesses texts
    (record {
      sound = sound.sound;
      type = type_is;
      arms = λ a c. record {
        sound = sound.sound;
        type_is = type_is;
        fine = h.fine;
        among = c;
        spelled = parsed.spelled a c;
        ascend = parsed.ascend a c;
      };
      exhaustive = h.exhaustive;
      unreachable = h.unreachable;
      verdict = h.verdict;
    })
    h.fine h.unbroken names arms
