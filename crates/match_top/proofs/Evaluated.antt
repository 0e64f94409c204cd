-- What is told for a function and a value.
use Rattle.std.proofs.Common.{◌≡◌, ◌∙◌, ℕ, Bool, not, List, map, Result, Ok, Err, IfOk, Option, Some, None, refl, sym, ap, subst, IsTrue}
use Rattle.std.specs.Prelude.{is_none, is_some, option_map}
use Rattle.decl_syntax.specs.Functions.{FunctionTree}
use Rattle.decl_syntax.specs.Items.{ItemTree, file_view, item_view}
use Rattle.decl_syntax.specs.declared.items.File.{File}
use Rattle.decl_syntax.specs.declared.items.Item.{Item}
use Rattle.match_model.specs.ArenaPatterns.{MDeMatch}
use Rattle.match_model.specs.ArenaWays.{match_arms}
use Rattle.match_model.specs.Declarations.{MProgram}
use Rattle.match_model.specs.Select.{Selected, select}
use Rattle.match_model.specs.Types.{MType}
use Rattle.match_model.specs.Typing.{is_value}
use Rattle.match_model.specs.Values.{MValue}
use Rattle.pattern_rules.specs.Faults.{BreaksNone, IsFirstPatternFault, scrutinee_type}
use Rattle.pattern_rules.specs.Settings.{Setting, program}
use Rattle.pattern_rules.specs.Verdicts.{Domain, written_arms}
use Rattle.type_table.specs.declared.table.TyId.{TyId}
use Rattle.type_table.specs.Tables.{table_program, table_type}
use Rattle.value_text.specs.Reading.{IsReadValue, IsUnreadValue, is_unwritten, is_no_value}
use Rattle.verdict_json.specs.Outcomes.{outcome_text}
use Rattle.verdict_json.specs.Rules.{IsRule}
use Rattle.verdict_json.specs.declared.refusal.Refusal.{Refusal}
use Rattle.match_top.specs.declared.answering.Answer.{Answer}
use Rattle.match_top.specs.declared.finding.Numbered.{Numbered}
use Rattle.match_top.specs.declared.source.Source.{Source}
use Rattle.match_top.specs.declared.statuses.Status.{Status}
use Rattle.match_top.specs.Outcomes.{function_named, meant_name, is_sure, shown_outcome, status_of_outcome, IsShownOutcome, IsEvaluatedBy, IsEvaluatedOf, of_broken_rule, of_no_value, of_value}
use Rattle.match_top.specs.Refusals.{IsRefusal, IsRefusedBy}
use Rattle.match_top.specs.Reporting.{setting_in, IsMatchOf}
use Rattle.match_top.specs.Reports.{NumberedFunction, functions_of, refusal_of}
use Rattle.match_top.specs.Selections.{numbered_view, IsReady}
use Rattle.match_top.specs.Telling.{told_outcome}
use Rattle.match_top.specs.Words.{EvaluationForm}
use Rattle.match_top.proofs.ArmsSelected.{selected_on}
use Rattle.match_top.proofs.Told.{outcome_shown}

-- what was looked for is the function that is meant
pub looked_for : (file : File) (items : List Item) (name made word : List ℕ) (r : Option Numbered)
    → option_map numbered_view r ≡ function_named (functions_of (map item_view items)) name → items ≡ file.items.items → name ≡ made
    → made ≡ meant_name word → option_map numbered_view r ≡ function_named (functions_of (file_view file)) (meant_name word)
looked_for file items name made word r found items_are name_is made_is =
    found
    ∙ ap (λ (is : List Item). function_named (functions_of (map item_view is)) name) items_are
    ∙ ap (function_named (functions_of (file_view file))) (name_is ∙ made_is)

-- the answer by the function that was found
pub found_answer : {E : Type 0} (s : Setting) (o found : Option NumberedFunction) (e : EvaluationForm) (r : Result Answer E) → o ≡ found
    → IfOk r (λ a. IsEvaluatedBy s found e a.text.items a.status) → IfOk r (λ a. IsEvaluatedBy s o e a.text.items a.status)
found_answer s o found e (Ok a) is h = subst (λ (x : Option NumberedFunction). IsEvaluatedBy s x e a.text.items a.status) (sym is) h
found_answer s o found e (Err x) is h = tt

-- a function that breaks a rule is answered by the first one
pub broken_answer : {E : Type 0} (s : Setting) (f : NumberedFunction) (e : EvaluationForm) (rule : ℕ) (arm : Option ℕ) (at : ℕ) (r : Result Answer E)
    → IsFirstPatternFault s f.function rule arm at → IfOk r (λ a. IsRefusal (refusal_of f.number rule arm at) a.text.items a.status)
    → IfOk r (λ a. IsEvaluatedOf s f e a.text.items a.status)
broken_answer s f e rule arm at (Ok a) fault h = of_broken_rule (record { rule = rule; arm = arm; at = at; fault = fault; refused = h })
broken_answer s f e rule arm at (Err x) fault h = tt

-- the refusal that was told, by another name
pub refusal_is : {E : Type 0} (told refusal : Refusal) (r : Result Answer E) → told ≡ refusal → IfOk r (λ a. IsRefusal told a.text.items a.status)
    → IfOk r (λ a. IsRefusal refusal a.text.items a.status)
refusal_is told refusal (Ok a) is h = subst (λ (x : Refusal). IsRefusal x a.text.items a.status) is h
refusal_is told refusal (Err x) is h = tt

-- the place of the scrutinee is sure where the definitions of values have it so
sure_is : (o : Option ℕ) → is_none o ≡ not (is_some o)
sure_is None = refl
sure_is (Some n) = refl

-- the match of a function, by the types of the table
module _ (x : Source) (items : List ItemTree) (f : FunctionTree) (m : MDeMatch TyId) (h : IsMatchOf x items f m) where
  -- what is read at the match's type is read at the function's
  pub moved : (P : MProgram → Bool → MType → Type 0) → P (table_program x.table.now) m.sure (table_type x.table.now m.type)
      → P (program (setting_in x items)) (is_sure f) (scrutinee_type (setting_in x items) f)
  moved P there =
      subst (λ (t : MType). P (program (setting_in x items)) (is_sure f) t) h.shown.type_is
      (subst (λ (b : Bool). P (program (setting_in x items)) b (table_type x.table.now m.type)) h.shown.sure_is
      (subst (λ (p : MProgram). P p m.sure (table_type x.table.now m.type)) h.table_is.program there))

  -- a value of the match's type is one of the function's domain
  pub in_domain : (v : MValue) → IsTrue (is_value (table_program x.table.now) m.sure (table_type x.table.now m.type) v) → Domain (setting_in x items) f v
  in_domain v inside =
      subst (λ (b : Bool). IsTrue (is_value (program (setting_in x items)) b (scrutinee_type (setting_in x items) f) v)) (sure_is f.deref)
      (moved (λ p b t. IsTrue (is_value p b t v)) inside)

  -- a function whose value is refused is answered by that
  pub unread_answer : {E : Type 0} (number : ℕ) (e : EvaluationForm) (rule : ℕ) (r : Result Answer E) → BreaksNone (setting_in x items) f
      → IsUnreadValue (table_program x.table.now) m.sure (table_type x.table.now m.type) e.value rule → IfOk r (λ a. IsRefusedBy rule a.text.items a.status)
      → IfOk r (λ a. IsEvaluatedOf (setting_in x items) (record { number = number; function = f }) e a.text.items a.status)
  unread_answer number e rule (Ok a) fine unread refused = of_no_value (record {
    fine = fine;
    rule = rule;
    unread = moved (λ p b t. IsUnreadValue p b t e.value rule) unread;
    refused = refused;
  })
  unread_answer number e rule (Err y) fine unread refused = tt

  -- one whose value is read by what the match does with it
  pub read_answer : {E : Type 0} (number : ℕ) (e : EvaluationForm) (v : MValue) (r : Result Answer E) → BreaksNone (setting_in x items) f
      → IsReadValue (table_program x.table.now) m.sure (table_type x.table.now m.type) e.value v
      → IfOk r (λ a. IsShownOutcome (setting_in x items) f (select (written_arms (setting_in x items) f) v e.answers) a.text.items a.status)
      → IfOk r (λ a. IsEvaluatedOf (setting_in x items) (record { number = number; function = f }) e a.text.items a.status)
  read_answer number e v (Ok a) fine read shown = of_value (record {
    fine = fine;
    value = v;
    read = moved (λ p b t. IsReadValue p b t e.value v) read;
    shown = shown;
  })
  read_answer number e v (Err y) fine read shown = tt

-- what is told of the answers that were made is told of those that were given
pub answers_given : {E : Type 0} (x : Source) (items : List ItemTree) (f : FunctionTree) (v : MValue) (slice made given : List Bool) (r : Result Answer E) → slice ≡ made → made ≡ given
    → IfOk r (λ a. IsShownOutcome (setting_in x items) f (select (written_arms (setting_in x items) f) v slice) a.text.items a.status)
    → IfOk r (λ a. IsShownOutcome (setting_in x items) f (select (written_arms (setting_in x items) f) v given) a.text.items a.status)
answers_given x items f v slice made given (Ok a) e d h =
    subst (λ (answers : List Bool). IsShownOutcome (setting_in x items) f (select (written_arms (setting_in x items) f) v answers) a.text.items a.status) (e ∙ d) h
answers_given x items f v slice made given (Err y) e d h = tt

-- the rules on values have names
pub unread_is_named : (p : MProgram) (b : Bool) (t : MType) (text : List ℕ) (rule : ℕ) → IsUnreadValue p b t text rule → IsRule rule
unread_is_named p b t text rule (is_unwritten none) = refl
unread_is_named p b t text rule (is_no_value w there nothing) = refl

-- what is told of what the match's arms do with a value of the domain is what the function's do
pub outcome_told : (x : Source) (items : List ItemTree) (f : FunctionTree) (m : MDeMatch TyId) (v : MValue) (answers : List Bool) (s : Selected)
    (text : List ℕ) (status : Status) → IsReady x items f m v → s ≡ select (match_arms m) v answers
    → text ≡ outcome_text (told_outcome x.table.now m s) → status ≡ status_of_outcome s.outcome
    → IsShownOutcome (setting_in x items) f (select (written_arms (setting_in x items) f) v answers) text status
outcome_told x items f m v answers s text status ready is text_is status_is =
    let same : s ≡ select (written_arms (setting_in x items) f) v answers =
    is ∙ selected_on x.table.now (setting_in x items) f m ready.match_is v answers ready.inside in (
      text_is
          ∙ ap outcome_text (outcome_shown x items f m ready.match_is s)
          ∙ ap (λ (t : Selected). outcome_text (shown_outcome (setting_in x items) f t)) same,
      status_is ∙ ap (λ (t : Selected). status_of_outcome t.outcome) same,
    )
