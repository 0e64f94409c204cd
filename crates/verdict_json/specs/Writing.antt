-- A report to which functions are still added.
use Rattle.std.specs.Prelude.{◌≡◌, ℕ, List, [], ◌∷◌, ◌++◌, Bool, true, false, Option, Some, None, codes, string_bytes}
use Rattle.serde_json.specs.Written.{comma_if, compact_text}
use Rattle.tree_text.specs.Trees.{NodeTree}
use Rattle.tree_text.specs.Reported.{tree_data}
use Rattle.verdict_json.specs.declared.report.ReportText.{ReportText}
use Rattle.verdict_json.specs.Report.{ReportEntry, entry_data}

-- a truth value as JSON writes it
abbrev pub flag_word : Bool → List ℕ
flag_word true = codes "true"
flag_word false = codes "false"

-- the key of a decision tree with the comma in front, where it is shown
abbrev pub shown_tree_text : Option (List NodeTree) → List ℕ
shown_tree_text None = []
shown_tree_text (Some nodes) = codes ",\"tree\":" ++ compact_text (tree_data nodes)

-- the texts of the entries with commas between them, and one in front where something stands before
abbrev pub listed : Bool → List ReportEntry → List ℕ
listed later [] = []
listed later (e ∷ es) = comma_if later ++ (compact_text (entry_data e) ++ listed true es)

-- whether something stands before what comes behind these entries
abbrev pub is_behind : Bool → List ReportEntry → Bool
is_behind later [] = later
is_behind later (e ∷ es) = true

-- the text has these entries, and nothing behind them
pub record HasEntries (entries : List ReportEntry) (t : ReportText) : Type 0 where
  pub begun : string_bytes t.text ≡ codes "{\"functions\":[" ++ listed false entries
  pub behind : t.later ≡ is_behind false entries
