-- What is told of a function and a value is one thing.
use Rattle.std.proofs.Common.{◌≡◌, ◌∙◌, ℕ, Bool, List, Option, Some, None, refl, sym, ap, subst}
use Rattle.match_model.specs.Declarations.{MProgram}
use Rattle.match_model.specs.Types.{MType}
use Rattle.match_model.specs.Values.{MValue}
use Rattle.match_model.specs.Select.{select}
use Rattle.decl_syntax.specs.Functions.{FunctionTree}
use Rattle.pattern_rules.specs.Faults.{BreaksNone}
use Rattle.pattern_rules.specs.FirstFault.{PatternFault, AnswerIsOne}
use Rattle.pattern_rules.specs.Settings.{Setting}
use Rattle.pattern_rules.specs.Verdicts.{written_arms}
use Rattle.value_syntax.specs.Laws.{OneWritten}
use Rattle.value_syntax.specs.Trees.{WrittenTree}
use Rattle.value_text.specs.Meanings.{meant}
use Rattle.value_text.specs.Reading.{IsReadValue, IsUnreadValue, is_unwritten, is_no_value}
use Rattle.verdict_json.specs.Outcomes.{outcome_text}
use Rattle.verdict_json.specs.Refused.{refusal_text}
use Rattle.match_top.specs.declared.statuses.Status.{Status}
use Rattle.match_top.specs.Refusals.{IsRefusedBy}
use Rattle.match_top.specs.Reports.{NumberedFunction, functions_of, refusal_of}
use Rattle.match_top.specs.Outcomes.{function_named, meant_name, shown_outcome, status_of_outcome, IsRefusedRule, IsRefusedValue, IsSelected, IsEvaluatedOf, of_broken_rule, of_no_value, of_value, IsEvaluatedBy, IsEvaluated}
use Rattle.match_top.specs.Words.{EvaluationForm}

-- the same text and the same status
abbrev pub Same : (text other : List ℕ) → (status ending : Status) → Type 0
Same text other status ending = (text ≡ other) × (status ≡ ending)

some_is : {A : Type 0} (x y : A) → Some x ≡ Some y → x ≡ y
some_is x y e = cc

some_is_none : {A : Type 0} (x : A) → Some x ≡ None → ⊥
some_is_none x e = cc

by_same_rule : (rule other : ℕ) (t u : List ℕ) (s r : Status) → rule ≡ other → IsRefusedBy rule t s → IsRefusedBy other u r → Same t u s r
by_same_rule rule other t u s r e a b =
    let there : IsRefusedBy rule u r = subst (λ (k : ℕ). IsRefusedBy k u r) (sym e) b in
    (a.0 ∙ sym there.0, a.1 ∙ sym there.1)

-- what the law of written trees tells of a text
module _ (one_written : OneWritten) where
  -- a text means one value
  pub one_read : (p : MProgram) (sure : Bool) (t : MType) (text : List ℕ) (v u : MValue) → IsReadValue p sure t text v → IsReadValue p sure t text u → v ≡ u
  one_read p sure t text v u a b =
      let same : b.0 ≡ a.0 = one_written text b.0 a.0 b.1 a.1 in
      some_is v u (sym a.2 ∙ ap (λ (w : WrittenTree). meant p sure t w) (sym same) ∙ b.2)

  -- or none
  pub read_or_not : (p : MProgram) (sure : Bool) (t : MType) (text : List ℕ) (v : MValue) (rule : ℕ) → IsReadValue p sure t text v
      → IsUnreadValue p sure t text rule → ⊥
  read_or_not p sure t text v rule a (is_unwritten none) = none a.0 a.1
  read_or_not p sure t text v rule a (is_no_value w there nothing) =
      let same : w ≡ a.0 = one_written text w a.0 there a.1 in
      some_is_none v (sym a.2 ∙ ap (λ (w : WrittenTree). meant p sure t w) (sym same) ∙ nothing)

  -- for one reason
  pub one_reason : (p : MProgram) (sure : Bool) (t : MType) (text : List ℕ) (rule other : ℕ) → IsUnreadValue p sure t text rule
      → IsUnreadValue p sure t text other → rule ≡ other
  one_reason p sure t text rule other (is_unwritten none) (is_unwritten neither) = refl
  one_reason p sure t text rule other (is_unwritten none) (is_no_value w there nothing) = absurd (none w there)
  one_reason p sure t text rule other (is_no_value w there nothing) (is_unwritten none) = absurd (none w there)
  one_reason p sure t text rule other (is_no_value w there nothing) (is_no_value x here neither) = refl

  -- and the law of rules on patterns of a function
  module _ (answer_is_one : AnswerIsOne) where
    both_broken : (s : Setting) (f : NumberedFunction) (t u : List ℕ) (x y : Status) → IsRefusedRule s f t x → IsRefusedRule s f u y → Same t u x y
    both_broken s f t u x y a b =
        let one : PatternFault = record { rule = a.rule; arm = a.arm; at = a.at } in
        let other : PatternFault = record { rule = b.rule; arm = b.arm; at = b.at } in
        let same : one ≡ other = some_is one other (answer_is_one s f.function (Some one) (Some other) a.fault b.fault) in (
          a.refused.0
              ∙ ap (λ (z : PatternFault). refusal_text (refusal_of f.number z.rule z.arm z.at)) same
              ∙ sym b.refused.0,
          a.refused.1 ∙ sym b.refused.1,
        )

    broken_or_fine : (s : Setting) (f : NumberedFunction) (t : List ℕ) (x : Status) → IsRefusedRule s f t x → BreaksNone s f.function → ⊥
    broken_or_fine s f t x a fine =
        let one : PatternFault = record { rule = a.rule; arm = a.arm; at = a.at } in
        some_is_none one (answer_is_one s f.function (Some one) None a.fault fine)

    both_unread : (s : Setting) (f : FunctionTree) (value t u : List ℕ) (x y : Status) → IsRefusedValue s f value t x → IsRefusedValue s f value u y
        → Same t u x y
    both_unread s f value t u x y a b =
        by_same_rule a.rule b.rule t u x y (one_reason _ _ _ value a.rule b.rule a.unread b.unread) a.refused b.refused

    both_selected : (s : Setting) (f : FunctionTree) (e : EvaluationForm) (t u : List ℕ) (x y : Status) → IsSelected s f e t x → IsSelected s f e u y
        → Same t u x y
    both_selected s f e t u x y a b =
        let same : a.value ≡ b.value = one_read _ _ _ e.value a.value b.value a.read b.read in (
          a.shown.0
              ∙ ap (λ (v : MValue). outcome_text (shown_outcome s f (select (written_arms s f) v e.answers))) same
              ∙ sym b.shown.0,
          a.shown.1
              ∙ ap (λ (v : MValue). status_of_outcome (select (written_arms s f) v e.answers).outcome) same
              ∙ sym b.shown.1,
        )

    of_function_same : (s : Setting) (f : NumberedFunction) (e : EvaluationForm) (t u : List ℕ) (x y : Status) → IsEvaluatedOf s f e t x
        → IsEvaluatedOf s f e u y → Same t u x y
    of_function_same s f e t u x y (of_broken_rule a) (of_broken_rule b) = both_broken s f t u x y a b
    of_function_same s f e t u x y (of_broken_rule a) (of_no_value b) = absurd (broken_or_fine s f t x a b.fine)
    of_function_same s f e t u x y (of_broken_rule a) (of_value b) = absurd (broken_or_fine s f t x a b.fine)
    of_function_same s f e t u x y (of_no_value a) (of_broken_rule b) = absurd (broken_or_fine s f u y b a.fine)
    of_function_same s f e t u x y (of_no_value a) (of_no_value b) = both_unread s f.function e.value t u x y a b
    of_function_same s f e t u x y (of_no_value a) (of_value b) = absurd (read_or_not _ _ _ e.value b.value a.rule b.read a.unread)
    of_function_same s f e t u x y (of_value a) (of_broken_rule b) = absurd (broken_or_fine s f u y b a.fine)
    of_function_same s f e t u x y (of_value a) (of_no_value b) = absurd (read_or_not _ _ _ e.value a.value b.rule a.read b.unread)
    of_function_same s f e t u x y (of_value a) (of_value b) = both_selected s f.function e t u x y a b

    of_found_same : (s : Setting) (found : Option NumberedFunction) (e : EvaluationForm) (t u : List ℕ) (x y : Status) → IsEvaluatedBy s found e t x
        → IsEvaluatedBy s found e u y → Same t u x y
    of_found_same s None e t u x y a b = by_same_rule 42 42 t u x y refl a b
    of_found_same s (Some f) e t u x y a b = of_function_same s f e t u x y a b

    -- what is told for a function, a value and answers is one thing
    pub evaluated_same : (e : EvaluationForm) (s : Setting) (t u : List ℕ) (x y : Status) → IsEvaluated e s t x → IsEvaluated e s u y
        → Same t u x y
    evaluated_same e s t u x y a b =
        of_found_same s (function_named (functions_of s.items) (meant_name e.function)) e t u x y a b
