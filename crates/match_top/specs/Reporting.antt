-- No meaning: what the private functions of `judging` and `reporting` give, for their proofs.
use Rattle.std.specs.Prelude.{◌≡◌, ⊤, ℕ, List, map, slice_get, Option, Some, None}
use Rattle.std.specs.List.{AllZip, list_all}
use Rattle.decl_lexer.specs.Lexing.{Placed, HasTokens}
use Rattle.decl_parser.specs.FileGrammar.{IsFile}
use Rattle.decl_syntax.specs.Functions.{FunctionTree}
use Rattle.decl_syntax.specs.Items.{ItemTree}
use Rattle.decl_syntax.specs.Units.{units}
use Rattle.match_model.specs.ArenaPatterns.{MDeMatch}
use Rattle.pattern_laws.specs.OverlapLaws.{IsOverlapListOn}
use Rattle.pattern_laws.specs.JudgedLaws.{by_offset}
use Rattle.pattern_laws.specs.TableLaws.{IsTableMatch}
use Rattle.pattern_laws.specs.TreeLaws.{IsTreeOn}
use Rattle.pattern_rules.specs.Faults.{BreaksNone, function_of, scrutinee_type}
use Rattle.pattern_rules.specs.Settings.{Setting}
use Rattle.pattern_rules.specs.Verdicts.{IsVerdictOn}
use Rattle.tree_eval.specs.Nodes.{tree_nodes}
use Rattle.tree_eval.specs.declared.tree.Tree.{Tree}
use Rattle.type_table.specs.Tables.{IsTableOf, table_type}
use Rattle.type_table.specs.declared.table.TyId.{TyId}
use Rattle.verdict_json.specs.Report.{ReportEntry}
use Rattle.verdict_json.specs.Summaries.{IsSummary}
use Rattle.verdict_json.specs.Trees.{overlap_view}
use Rattle.verdict_json.specs.Writing.{HasEntries}
use Rattle.witness_search.specs.Entries.{plain_entries}
use Rattle.witnesses.specs.Views.{plain_witness}
use Rattle.witnesses.specs.declared.judgement.Judgement.{Judgement}
use Rattle.witnesses.specs.declared.judgement.Overlap.{Overlap}
use Rattle.match_top.specs.declared.reporting.Progress.{Progress}
use Rattle.match_top.specs.declared.source.Source.{Source}
use Rattle.match_top.specs.declared.words.Command.{Command}
use Rattle.match_top.specs.declared.words.Command.TheVariants.{Check, Trees, Arms}
use Rattle.match_top.specs.Reports.{NumberedFunction, IsEntry, arms_of, is_clean, setting_of}

-- what the patterns of a file of these items are read against
abbrev pub setting_in : Source → List ItemTree → Setting
setting_in x items = setting_of x.options items

-- some bytes have tokens that spell the items
abbrev pub AreSpelled : List ItemTree → Type 0
AreSpelled items = (bytes : List ℕ) × (tokens : List Placed) × HasTokens bytes tokens × IsFile (units tokens) items

-- tokens spell the items, and the table is theirs at the width of the options
pub record IsSound (x : Source) (items : List ItemTree) : Type 0 where
  pub spelled : AreSpelled items
  pub table_is : IsTableOf items x.options.width x.table.now

-- the item with this number is the function
pub record StandsAt (items : List ItemTree) (number : ℕ) (f : FunctionTree) : Type 0 where
  pub item : ItemTree
  pub there : slice_get items number ≡ Some item
  pub is : function_of item.kind ≡ Some f

-- the function, which breaks no rule, is the item with this number
pub record IsFineFunction (x : Source) (items : List ItemTree) (number : ℕ) (f : FunctionTree) : Type 0 where
  pub sound : IsSound x items
  pub stands : StandsAt items number f
  pub fine : BreaksNone (setting_in x items) f

-- the match is the function's, as the engine has it
abbrev pub IsMatchOf : Source → List ItemTree → FunctionTree → MDeMatch TyId → Type 0
IsMatchOf x items f m = IsTableMatch x.table.now (setting_in x items) f m

-- what was found is found of the function
abbrev pub IsVerdictFor : Source → List ItemTree → FunctionTree → Judgement → Type 0
IsVerdictFor x items f j =
    IsVerdictOn (setting_in x items) f j.exhaustive (map by_offset (plain_entries j.unreachable.items)) (map plain_witness j.witnesses.items)

-- the overlaps that were found are those of the function
abbrev pub AreOverlapsFor : Source → List ItemTree → FunctionTree → List Overlap → Type 0
AreOverlapsFor x items f overlaps = IsOverlapListOn (setting_in x items) f (map overlap_view overlaps)

-- the tree that was made is the function's, where trees are asked for
abbrev pub IsTreeFor : Command → Source → List ItemTree → FunctionTree → Option Tree → Type 0
IsTreeFor Check x items f tree = tree ≡ None
IsTreeFor Arms x items f tree = tree ≡ None
IsTreeFor Trees x items f tree = (t : Tree) × (tree ≡ Some t) × IsTreeOn (setting_in x items) f (tree_nodes t)

-- the command asks for what is found of each function, not for arms
abbrev pub AsksForFindings : Command → Type 0
AsksForFindings Check = ⊤
AsksForFindings Trees = ⊤
AsksForFindings Arms = ⊥

-- the command asks for findings. What was found, the overlaps, and the tree that was made, are those of the function, the
-- item with this number, which breaks no rule; its scrutinee's type has this number in the table
pub record IsFoundOn (command : Command) (x : Source) (items : List ItemTree) (number : ℕ) (f : FunctionTree) (ty : TyId) (j : Judgement)
    (overlaps : List Overlap) (tree : Option Tree) : Type 0 where
  pub asked : AsksForFindings command
  pub fine : IsFineFunction x items number f
  pub type_is : table_type x.table.now ty ≡ scrutinee_type (setting_in x items) f
  pub verdict : IsVerdictFor x items f j
  pub overlaps_are : AreOverlapsFor x items f overlaps
  pub tree_is : IsTreeFor command x items f tree

-- the text has the entries of these functions of the setting's file, and the counts are theirs
pub record ReportsOn (command : Command) (s : Setting) (fs : List NumberedFunction) (p : Progress) : Type 0 where
  pub entries : List ReportEntry
  pub each : AllZip (IsEntry command s) fs entries
  pub text : HasEntries entries p.text
  pub counts : IsSummary (arms_of fs) entries p.counts
  pub clean_is : p.clean ≡ list_all is_clean entries
