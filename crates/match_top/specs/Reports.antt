-- The report on the functions of a file of which no item breaks a rule on declarations.
use Rattle.std.specs.Prelude.{◌≡◌, ℕ, ◌+◌, Bool, true, false, List, [], ◌∷◌, ◌++◌, length, map, sum_by, Option, Some, None}
use Rattle.std.specs.List.{AllZip, list_all}
use Rattle.decl_syntax.specs.Functions.{FunctionTree}
use Rattle.decl_syntax.specs.Items.{KindTree, Enum, Struct, Import, Function, ItemTree}
use Rattle.match_model.specs.Overlaps.{MOverlap}
use Rattle.match_model.specs.Trees.{MNode}
use Rattle.match_model.specs.Unreachable.{Entry}
use Rattle.match_model.specs.Witness.{MWitness}
use Rattle.type_table.specs.Faults.{BreaksNone}
use Rattle.arm_laws.specs.Completes.{Completes}
use Rattle.arm_maker.specs.Arms.{AreArms, are_small}
use Rattle.pattern_rules.specs.Faults as patterns
use Rattle.pattern_rules.specs.Faults.{IsFirstPatternFault, scrutinee_type}
use Rattle.pattern_rules.specs.Settings.{Setting, program}
use Rattle.pattern_rules.specs.Verdicts.{IsVerdictOn}
use Rattle.pattern_laws.specs.OverlapLaws.{IsOverlapListOn}
use Rattle.pattern_laws.specs.TreeLaws.{IsTreeOn}
use Rattle.tree_text.specs.Trees.{NodeTree}
use Rattle.witness_names.specs.Named.{named_witness}
use Rattle.witness_names.specs.NamedTrees.{named_node}
use Rattle.verdict_json.specs.declared.refusal.Refusal.{Refusal}
use Rattle.verdict_json.specs.declared.summary.Summary.{Summary}
use Rattle.verdict_json.specs.Report.{ReportEntry, JudgedFunction, RefusedFunction, ArmedFunction, report_text}
use Rattle.verdict_json.specs.Summaries.{IsSummary, summary_text}
use Rattle.verdict_json.specs.Trees.{ReportTree, UnreachableTree}
use Rattle.match_top.specs.declared.option_words.Options.{Options}
use Rattle.match_top.specs.declared.statuses.Status.{Status}
use Rattle.match_top.specs.declared.statuses.Status.TheVariants.{Clean, Found}
use Rattle.match_top.specs.declared.words.Command.{Command}
use Rattle.match_top.specs.declared.words.Command.TheVariants.{Check, Trees, Arms}

-- a function of a file, with the number of its item
pub record NumberedFunction : Type 0 where
  pub number : ℕ
  pub function : FunctionTree

abbrev pub numbered : ℕ → FunctionTree → NumberedFunction
numbered number f = record { number = number; function = f }

-- the item's function, if it is one, with the item's number
abbrev pub function_at : ℕ → KindTree → List NumberedFunction
function_at number (Enum name variants) = []
function_at number (Struct name form) = []
function_at number (Import owner names) = []
function_at number (Function name param deref arms) =
    numbered number (record { name = name; param = param; deref = deref; arms = arms }) ∷ []

-- the functions among items, in order, where the first item has this number
abbrev pub functions_from : ℕ → List ItemTree → List NumberedFunction
functions_from number [] = []
functions_from number (i ∷ items) = function_at number i.kind ++ functions_from (number + 1) items

-- the functions of a file in order, with the numbers of their items; items are counted from 0
abbrev pub functions_of : List ItemTree → List NumberedFunction
functions_of items = functions_from 0 items

-- what the patterns of a file are read against: its items, and the width of `usize` and `isize` and the edition of the options
abbrev pub setting_of : Options → List ItemTree → Setting
setting_of options items = record { items = items; width = options.width; edition = options.edition }

-- the refusal of a function by its first broken rule, with the arm where it is in one, and the place
abbrev pub refusal_of : (number rule : ℕ) → (arm : Option ℕ) → (at : ℕ) → Refusal
refusal_of number rule arm at = record { rule = rule; item = Some number; arm = arm; at = Some at }

-- an unreachable arm or alternative as a report shows it: its arm, its place, and whether it is the whole arm
abbrev pub shown_entry : Entry → UnreachableTree
shown_entry e = record { arm = e.arm; at = e.at; whole = e.whole }

-- the nodes of a tree as a report shows them: with the names of the file's types
abbrev pub named_tree : Setting → FunctionTree → List MNode → List NodeTree
named_tree s f nodes = map (named_node (program s) (scrutinee_type s f)) nodes

-- what a report shows of a function's decision tree: nothing, unless trees are asked for
abbrev pub IsShownTree : Command → Setting → FunctionTree → Option (List NodeTree) → Type 0
IsShownTree Check s f tree = tree ≡ None
IsShownTree Arms s f tree = tree ≡ None
IsShownTree Trees s f tree = (nodes : List MNode) × IsTreeOn s f nodes × (tree ≡ Some (named_tree s f nodes))

-- what is reported of a function by what is found of it: the witnesses are told with the names of the file's types
abbrev pub report_of : Setting → FunctionTree → (exhaustive : Bool) → (overlaps : List MOverlap) → (tree : Option (List NodeTree)) →
    (unreachable : List Entry) → (witnesses : List MWitness) → ReportTree
report_of s f exhaustive overlaps tree unreachable witnesses = record {
  name = f.name;
  exhaustive = exhaustive;
  overlaps = overlaps;
  tree = tree;
  unreachable = map shown_entry unreachable;
  witnesses = map (named_witness (program s) (scrutinee_type s f)) witnesses;
}

-- a function that breaks no rule, what is found of it, and the entry that shows this
pub record IsJudgedFunction (command : Command) (s : Setting) (f : FunctionTree) (e : ReportEntry) : Type 0 where
  pub fine : patterns.BreaksNone s f
  pub exhaustive : Bool
  pub unreachable : List Entry
  pub witnesses : List MWitness
  pub verdict : IsVerdictOn s f exhaustive unreachable witnesses
  pub overlaps : List MOverlap
  pub overlaps_are : IsOverlapListOn s f overlaps
  pub tree : Option (List NodeTree)
  pub tree_is : IsShownTree command s f tree
  pub shows : e ≡ JudgedFunction (report_of s f exhaustive overlaps tree unreachable witnesses)

-- a function that breaks a rule, and the entry that tells the first one
pub record IsRefusedFunction (s : Setting) (number : ℕ) (f : FunctionTree) (e : ReportEntry) : Type 0 where
  pub rule : ℕ
  pub arm : Option ℕ
  pub at : ℕ
  pub fault : IsFirstPatternFault s f rule arm at
  pub tells : e ≡ RefusedFunction f.name (refusal_of number rule arm at)

-- the refusal of a function to which no arms can be added, since one of them would be too large
abbrev pub too_large : (number : ℕ) → Refusal
too_large number = record { rule = 50; item = Some number; arm = None; at = None }

-- the entry shows the arms to add for these witnesses, which complete the match, or it tells that one would be too large
pub data ShowsArms (s : Setting) (number : ℕ) (f : FunctionTree) (witnesses : List MWitness) (e : ReportEntry) : Type 0 where
  has_arms : (texts : List (List ℕ)) → AreArms (program s) (scrutinee_type s f) witnesses texts → Completes s f texts →
      e ≡ ArmedFunction f.name texts → ShowsArms s number f witnesses e
  is_too_large : are_small (program s) (scrutinee_type s f) witnesses ≡ false →
      e ≡ RefusedFunction f.name (too_large number) → ShowsArms s number f witnesses e

-- a function that breaks no rule, what is found of it, and the entry that shows the arms to add
pub record IsArmedFunction (s : Setting) (number : ℕ) (f : FunctionTree) (e : ReportEntry) : Type 0 where
  pub fine : patterns.BreaksNone s f
  pub exhaustive : Bool
  pub unreachable : List Entry
  pub witnesses : List MWitness
  pub verdict : IsVerdictOn s f exhaustive unreachable witnesses
  pub shows : ShowsArms s number f witnesses e

-- the entry of a function that breaks no rule, as the command asks for it
abbrev pub IsFineEntry : Command → Setting → NumberedFunction → ReportEntry → Type 0
IsFineEntry Check s f e = IsJudgedFunction Check s f.function e
IsFineEntry Trees s f e = IsJudgedFunction Trees s f.function e
IsFineEntry Arms s f e = IsArmedFunction s f.number f.function e

-- the entry of a function in the report on the file of a setting: the refusal by its first broken rule, or else what the
-- command asks for: what is found of its match, with its decision tree or without, or the arms to add
pub data IsEntry (command : Command) (s : Setting) (f : NumberedFunction) (e : ReportEntry) : Type 0 where
  is_refused : IsRefusedFunction s f.number f.function e → IsEntry command s f e
  is_judged : IsFineEntry command s f e → IsEntry command s f e

-- the entry, without a decision tree
abbrev pub without_tree : ReportEntry → ReportEntry
without_tree (JudgedFunction report) = JudgedFunction (record report { tree = None })
without_tree (RefusedFunction name refusal) = RefusedFunction name refusal
without_tree (ArmedFunction name arms) = ArmedFunction name arms

-- there is no arm
abbrev pub is_no_arm : List (List ℕ) → Bool
is_no_arm [] = true
is_no_arm (_ ∷ _) = false

-- the function is judged, and its match is exhaustive; or there is no arm to add
abbrev pub is_clean : ReportEntry → Bool
is_clean (JudgedFunction report) = report.exhaustive
is_clean (RefusedFunction name refusal) = false
is_clean (ArmedFunction name arms) = is_no_arm arms

-- the status of a report, by whether every function is judged and every match is exhaustive
abbrev pub status_of : Bool → Status
status_of true = Clean
status_of false = Found

-- no item breaks a rule on declarations, and the text is the report: an entry for each function, in file order
pub record IsReported (command : Command) (s : Setting) (text : List ℕ) (status : Status) : Type 0 where
  pub unbroken : BreaksNone s.items s.width
  pub entries : List ReportEntry
  pub each : AllZip (IsEntry command s) (functions_of s.items) entries
  pub text_is : text ≡ report_text entries
  pub status_is : status ≡ status_of (list_all is_clean entries)

-- how many arms functions have together
abbrev pub arms_of : List NumberedFunction → ℕ
arms_of fs = sum_by (λ f. length f.function.arms) fs

-- no item breaks a rule on declarations, and the text is the counts in the report: of the arms of all functions, and of what
-- the entries of the functions tell. The status is that of the report
pub record IsCounted (command : Command) (s : Setting) (text : List ℕ) (status : Status) : Type 0 where
  pub unbroken : BreaksNone s.items s.width
  pub entries : List ReportEntry
  pub each : AllZip (IsEntry command s) (functions_of s.items) entries
  pub counts : Summary
  pub counts_are : IsSummary (arms_of (functions_of s.items)) entries counts
  pub text_is : text ≡ summary_text counts
  pub status_is : status ≡ status_of (list_all is_clean entries)
