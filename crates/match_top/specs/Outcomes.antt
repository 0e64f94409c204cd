-- What the match of one function does with one value, as `eval` tells it.
use Rattle.std.specs.Prelude.{◌≡◌, ℕ, Bool, List, [], ◌∷◌, map, chars, encode_utf8_all, slice_get, Option, Some, None, is_none, if◌then◌else◌}
use Rattle.std.specs.Str.{bytes_eq}
use Rattle.unicode_normalization.specs.Forms.{nfc}
use Rattle.bound_types.specs.Types.{bound_type}
use Rattle.decl_syntax.specs.Functions.{FunctionTree}
use Rattle.decl_syntax.specs.Items.{ArmTree}
use Rattle.match_model.specs.RustTypes.{type_or}
use Rattle.match_model.specs.Select.{Asked, Outcome, Took, Missed, Short, Selected, select}
use Rattle.match_model.specs.Types.{MType}
use Rattle.match_model.specs.Values.{MValue}
use Rattle.match_model.specs.Ways.{Binding}
use Rattle.pattern_rules.specs.Faults.{BreaksNone, IsFirstPatternFault, scrutinee_type}
use Rattle.pattern_rules.specs.Settings.{Setting, program}
use Rattle.pattern_rules.specs.ShownMatches.{elaborated_arm}
use Rattle.pattern_rules.specs.Verdicts.{written_arms}
use Rattle.value_syntax.specs.Texts.{written_text}
use Rattle.value_text.specs.Reading.{IsReadValue, IsUnreadValue}
use Rattle.verdict_json.specs.OutcomeTrees.{HeldTree, AskedTree, EndingTree, ArmTaken, NoArmTaken, AnswerMissing, OutcomeTree}
use Rattle.verdict_json.specs.Outcomes.{outcome_text}
use Rattle.witness_names.specs.NamedValues.{written_value}
use Rattle.match_top.specs.declared.statuses.Status.{Status}
use Rattle.match_top.specs.declared.statuses.Status.TheVariants.{Clean, Found}
use Rattle.match_top.specs.Refusals.{IsRefusal, IsRefusedBy}
use Rattle.match_top.specs.Reports.{NumberedFunction, functions_of, refusal_of}
use Rattle.match_top.specs.Words.{EvaluationForm}

-- the name that a word of the command line means: its NFC, which the names of a source are in too
abbrev pub meant_name : List ℕ → List ℕ
meant_name word = encode_utf8_all (nfc (chars word))

-- the function of this name; a file in which no item breaks a rule on declarations has no two
abbrev pub function_named : List NumberedFunction → (name : List ℕ) → Option NumberedFunction
function_named [] name = None
function_named (f ∷ fs) name = if bytes_eq f.function.name name then Some f else function_named fs name

-- the place of the scrutinee is sure to hold a valid value: that of `match x` is, that of `match *x` is not
abbrev pub is_sure : FunctionTree → Bool
is_sure f = is_none f.deref

-- the type that a name has in an arm: that of the first pattern of the arm which binds the name; for a name that the arm does not
-- bind, as no way does, it is the scrutinee's
abbrev pub type_in_arm : Setting → FunctionTree → Option ArmTree → (name : List ℕ) → MType
type_in_arm s f None name = scrutinee_type s f
type_in_arm s f (Some a) name = type_or (scrutinee_type s f) (bound_type (elaborated_arm s f a) name)

-- a binding of the arm with this number: its value is shown as it is written at the type that the name has in the arm
abbrev pub shown_binding : Setting → FunctionTree → (arm : ℕ) → Binding → HeldTree
shown_binding s f j b = record {
  name = b.name;
  mode = b.mode;
  value = written_text (written_value (program s) (type_in_arm s f (slice_get f.arms j) b.name) b.value);
}

-- a guard that got an answer, with the bindings that it saw
abbrev pub shown_asked : Setting → FunctionTree → Asked → AskedTree
shown_asked s f a = record { arm = a.arm; bindings = map (shown_binding s f a.arm) a.bindings }

-- how it ends
abbrev pub shown_ending : Setting → FunctionTree → Outcome → EndingTree
shown_ending s f (Took arm bindings) = ArmTaken arm (map (shown_binding s f arm) bindings)
shown_ending s f Missed = NoArmTaken
shown_ending s f Short = AnswerMissing

-- what the match does, as it is shown
abbrev pub shown_outcome : Setting → FunctionTree → Selected → OutcomeTree
shown_outcome s f x = record { asked = map (shown_asked s f) x.asked; ending = shown_ending s f x.outcome }

-- the status of an outcome: an arm is taken, or none is
abbrev pub status_of_outcome : Outcome → Status
status_of_outcome (Took arm bindings) = Clean
status_of_outcome Missed = Found
status_of_outcome Short = Found

-- the text is what the match does, and the status whether an arm is taken
abbrev pub IsShownOutcome : Setting → FunctionTree → Selected → List ℕ → Status → Type 0
IsShownOutcome s f x text status = (text ≡ outcome_text (shown_outcome s f x)) × (status ≡ status_of_outcome x.outcome)

-- the function breaks a rule: the text refuses it by the first one
pub record IsRefusedRule (s : Setting) (f : NumberedFunction) (text : List ℕ) (status : Status) : Type 0 where
  pub rule : ℕ
  pub arm : Option ℕ
  pub at : ℕ
  pub fault : IsFirstPatternFault s f.function rule arm at
  pub refused : IsRefusal (refusal_of f.number rule arm at) text status

-- the function breaks no rule, and nothing of its scrutinee's type is written: the text refuses what is written by its rule
pub record IsRefusedValue (s : Setting) (f : FunctionTree) (value text : List ℕ) (status : Status) : Type 0 where
  pub fine : BreaksNone s f
  pub rule : ℕ
  pub unread : IsUnreadValue (program s) (is_sure f) (scrutinee_type s f) value rule
  pub refused : IsRefusedBy rule text status

-- the function breaks no rule, and a value of the domain is written: the text tells what the arms as they are written do with it,
-- the guards giving these answers
pub record IsSelected (s : Setting) (f : FunctionTree) (e : EvaluationForm) (text : List ℕ) (status : Status) : Type 0 where
  pub fine : BreaksNone s f
  pub value : MValue
  pub read : IsReadValue (program s) (is_sure f) (scrutinee_type s f) e.value value
  pub shown : IsShownOutcome s f (select (written_arms s f) value e.answers) text status

-- what is told of a function
pub data IsEvaluatedOf (s : Setting) (f : NumberedFunction) (e : EvaluationForm) (text : List ℕ) (status : Status) : Type 0 where
  of_broken_rule : IsRefusedRule s f text status → IsEvaluatedOf s f e text status
  of_no_value : IsRefusedValue s f.function e.value text status → IsEvaluatedOf s f e text status
  of_value : IsSelected s f.function e text status → IsEvaluatedOf s f e text status

-- what is told of the function that is found by its name: where there is none, that is refused by rule 42
abbrev pub IsEvaluatedBy : Setting → Option NumberedFunction → EvaluationForm → List ℕ → Status → Type 0
IsEvaluatedBy s None e text status = IsRefusedBy 42 text status
IsEvaluatedBy s (Some f) e text status = IsEvaluatedOf s f e text status

-- what is told for a function, a value and answers, in the file of a setting
abbrev pub IsEvaluated : EvaluationForm → Setting → List ℕ → Status → Type 0
IsEvaluated e s text status =
    IsEvaluatedBy s (function_named (functions_of s.items) (meant_name e.function)) e text status
