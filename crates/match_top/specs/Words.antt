-- The words of the command line.
use Rattle.std.specs.Prelude.{List, [], ◌∷◌, ℕ, Bool, ◌||◌, nat_eq, Option, Some, None, map, codes, if◌then◌else◌, String, string_bytes}
use Rattle.std.specs.List.{list_all}
use Rattle.std.specs.Str.{bytes_eq}
use Rattle.std.specs.Option.{option_or}
use Rattle.std.specs.declared.alloc.Global.{Global}
use Rattle.match_top.specs.declared.option_words.Options.{Options}
use Rattle.match_top.specs.declared.words.Command.{Command}
use Rattle.match_top.specs.declared.words.Command.TheVariants.{Check, Trees, Arms}
use Rattle.match_top.specs.OptionWords.{options_of}

-- a function by its name, a value of its scrutinee as it is written, and the answers of the guards: whether each accepts
pub record EvaluationForm : Type 0 where
  pub function : List ℕ
  pub value : List ℕ
  pub answers : List Bool

-- what is asked of a file: a report on its functions, what the match of one of them does with a value, or the counts in its report
pub data QuestionForm : Type 0 where
  ReportForm : Command → QuestionForm
  OutcomeForm : EvaluationForm → QuestionForm
  CountsForm : QuestionForm

-- what is asked of a file, and the options by which it is read
pub record RequestForm : Type 0 where
  pub question : QuestionForm
  pub options : Options

-- what the words ask for, and the file that they name
pub record Form : Type 0 where
  pub request : RequestForm
  pub file : List ℕ

-- the letter of a guard that accepts: `t`
abbrev pub accepts : ℕ → Bool
accepts letter = nat_eq letter 116

-- the letter is an answer of a guard: `t`, or `f` for one that refuses
abbrev pub is_answer : ℕ → Bool
is_answer letter = nat_eq letter 116 || nat_eq letter 102

-- the outcome for a function, a value and the letters of the answers, where each letter is an answer
abbrev pub evaluation_of : (function value letters : List ℕ) → Option QuestionForm
evaluation_of function value letters =
    if list_all is_answer letters then
    Some (OutcomeForm (record { function = function; value = value; answers = map accepts letters }))
    else None

-- what is asked of this file, if anything is, by options, if there are such
abbrev pub form_with : Option QuestionForm → (file : List ℕ) → Option Options → Option Form
form_with (Some question) file (Some options) =
    Some (record { request = record { question = question; options = options }; file = file })
form_with None file options = None
form_with (Some question) file None = None

-- FN VALUE behind `eval FILE`, and options
abbrev pub unanswered_form : (file : List ℕ) → List (String Global) → Option Form
unanswered_form file (function ∷ value ∷ options) =
    form_with (evaluation_of (string_bytes function) (string_bytes value) []) file (options_of options)
unanswered_form file words = None

-- FN VALUE ANSWERS behind `eval FILE`, and options
abbrev pub answered_form : (file : List ℕ) → List (String Global) → Option Form
answered_form file (function ∷ value ∷ answers ∷ options) =
    form_with (evaluation_of (string_bytes function) (string_bytes value) (string_bytes answers)) file (options_of options)
answered_form file words = None

-- what is asked by the words behind the command of this name and a file: behind `check`, `trees` or `arms` stand options
-- alone, behind `eval` one of two forms. No words have both, since options are an even number of words
abbrev pub form_behind : (name file : List ℕ) → List (String Global) → Option Form
form_behind name file words =
    if bytes_eq name (codes "check") then form_with (Some (ReportForm Check)) file (options_of words)
    else (if bytes_eq name (codes "trees") then form_with (Some (ReportForm Trees)) file (options_of words)
    else (if bytes_eq name (codes "arms") then form_with (Some (ReportForm Arms)) file (options_of words)
    else (if bytes_eq name (codes "eval") then option_or (unanswered_form file words) (answered_form file words) else None)))

-- `check FILE`, `trees FILE`, `arms FILE`, `eval FILE FN VALUE` or `eval FILE FN VALUE ANSWERS`, and options behind it; no
-- other words have a form
abbrev pub form_of : List (String Global) → Option Form
form_of (name ∷ file ∷ words) = form_behind (string_bytes name) (string_bytes file) words
form_of words = None
