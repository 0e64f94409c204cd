-- Laws of what is written for a file: there is one answer, and no function is left out.
use Rattle.std.specs.Prelude.{◌≡◌, ℕ, List, slice_get, Some}
use Rattle.decl_lexer.specs.Lexing.{Placed, HasTokens}
use Rattle.decl_parser.specs.FileGrammar.{IsFile}
use Rattle.decl_syntax.specs.Functions.{FunctionTree}
use Rattle.decl_syntax.specs.Items.{ItemTree, Function}
use Rattle.decl_syntax.specs.Units.{units}
use Rattle.match_model.specs.declared.Width.{Width}
use Rattle.pattern_rules.specs.Settings.{Setting}
use Rattle.type_table.specs.Faults.{BreaksNone, IsFirstFault}
use Rattle.verdict_json.specs.Report.{ReportEntry}
use Rattle.match_top.specs.declared.option_words.Options.{Options}
use Rattle.match_top.specs.declared.statuses.Status.{Status}
use Rattle.match_top.specs.declared.words.Command.{Command}
use Rattle.match_top.specs.declared.words.Command.TheVariants.{Check, Trees}
use Rattle.match_top.specs.Answers.{Answers}
use Rattle.match_top.specs.Reports.{NumberedFunction, numbered, functions_of, without_tree, IsEntry, IsReported}
use Rattle.match_top.specs.Words.{RequestForm, ReportForm}

-- whatever is asked, the bytes of a file have one text and one status at most
abbrev pub OneAnswer : Type 0
OneAnswer =
    (request : RequestForm) (bytes text other : List ℕ) (status ending : Status) → Answers request bytes text status
    → Answers request bytes other ending → (text ≡ other) × (status ≡ ending)

-- items have one first fault at most, at any width
abbrev pub OneFirstFault : Type 0
OneFirstFault =
    (items : List ItemTree) (width : Width) (rule i at other j elsewhere : ℕ) → IsFirstFault items width rule i at
    → IsFirstFault items width other j elsewhere
    → (rule ≡ other) × (i ≡ j) × (at ≡ elsewhere)

-- for each command a function has one entry at most, in any setting
abbrev pub OneEntry : Type 0
OneEntry =
    (command : Command) (s : Setting) (f : NumberedFunction) (e other : ReportEntry) → IsEntry command s f e
    → IsEntry command s f other → e ≡ other

-- each function of a file that the tokens of a source spell, and of which no item breaks a rule on declarations, has an entry
-- for the command
abbrev pub SomeEntry : Command → Type 0
SomeEntry command =
    (source : List ℕ) (tokens : List Placed) (s : Setting) (k : ℕ) (f : NumberedFunction)
    → HasTokens source tokens → IsFile (units tokens) s.items → BreaksNone s.items s.width
    → slice_get (functions_of s.items) k ≡ Some f → (e : ReportEntry) × IsEntry command s f e

-- each item that is a function stands among the functions of its file, with its number
abbrev pub EachFunctionStands : Type 0
EachFunctionStands =
    (items : List ItemTree) (i : ℕ) (item : ItemTree) (f : FunctionTree) → slice_get items i ≡ Some item
    → item.kind ≡ Function f.name f.param f.deref f.arms → (k : ℕ) × (slice_get (functions_of items) k ≡ Some (numbered i f))

-- a file that the tokens of a source spell, and of which no item breaks a rule on declarations, has a report for the
-- command
abbrev pub SomeReport : Command → Type 0
SomeReport command =
    (source : List ℕ) (tokens : List Placed) (s : Setting) → HasTokens source tokens → IsFile (units tokens) s.items
    → BreaksNone s.items s.width → (text : List ℕ) × (status : Status) × IsReported command s text status

-- what `check` has for a function is what `trees` has without its decision tree
abbrev pub EntriesAreWithoutTrees : Type 0
EntriesAreWithoutTrees =
    (s : Setting) (f : NumberedFunction) (e : ReportEntry) → IsEntry Trees s f e → IsEntry Check s f (without_tree e)

-- the report that is asked for by these options
abbrev pub report_by : Options → Command → RequestForm
report_by options command = record { question = ReportForm command; options = options }

-- a file that `trees` answers `check` answers too, by the same options and with the same status
abbrev pub AnswersAreWithoutTrees : Type 0
AnswersAreWithoutTrees =
    (options : Options) (bytes text : List ℕ) (status : Status) → Answers (report_by options Trees) bytes text status
    → (other : List ℕ) × Answers (report_by options Check) bytes other status
