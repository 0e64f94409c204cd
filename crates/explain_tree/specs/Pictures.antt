-- What becomes of a report, a file and the name of a function.
use Rattle.std.specs.Prelude.{◌≡◌, ℕ, ◌+◌, List, length, Bool, false, if◌then◌else◌, Option, Some, None, Result, Ok, Err, ⊤, Vec, codes}
use Rattle.std.specs.List.{list_all}
use Rattle.std.specs.Str.{bytes_eq}
use Rattle.std.specs.declared.alloc.Global.{Global}
use Rattle.serde_json.specs.Data.{Data, Items, no_items, item}
use Rattle.serde_json.specs.View.{view}
use Rattle.explain_report.specs.Fields.{text_at, items_at}
use Rattle.explain_report.specs.Records.{ReportTree, OfFunctions, OfRefused}
use Rattle.explain_report.specs.Reading.{report_of, all_of}
use Rattle.explain_places.specs.declared.pieces.Piece.{Piece}
use Rattle.explain_places.specs.Pieces.{ArePieces}
use Rattle.explain_tree.specs.Nodes.{NodeTree, node_of, is_node_inside}
use Rattle.explain_tree.specs.Graphs.{graph_text}
use Rattle.explain_tree.specs.Places.{arm_lines}
use Rattle.explain_tree.specs.declared.pictures.Entry.{Entry}
use Rattle.explain_tree.specs.declared.pictures.Fault.{Fault}
use Rattle.explain_tree.specs.declared.pictures.Fault.TheVariants.{NoReport, NoTree, NoMemory}

-- a picture; or the JSON is no report, or what it says of the function is no tree; or it has no tree of such a function
pub data Outcome : Type 0 where
  Drawn : List ℕ → Outcome
  NotReport : Outcome
  NotThere : Outcome

-- the entry of a function with its number
pub record EntryTree : Type 0 where
  pub number : ℕ
  pub json : Data

abbrev pub entry_view : Entry → EntryTree
entry_view e = record { number = e.number; json = view e.value.now }

-- the text is this name
abbrev pub is_this : List ℕ → Option (List ℕ) → Bool
is_this name (Some text) = bytes_eq text name
is_this name None = false

-- the first entry of this name; the first of the entries has this number
abbrev pub entry_from : List ℕ → ℕ → Items → Option EntryTree
entry_from name number no_items = None
entry_from name number (item d ds) =
    if is_this name (text_at (codes "name") d) then Some (record { number = number; json = d }) else entry_from name (number + 1) ds

-- the picture of these nodes, where each way goes on at one of them
abbrev pub outcome_of_nodes : List ℕ → List Piece → List ℕ → ℕ → Option (List NodeTree) → Outcome
outcome_of_nodes file ps name number (Some nodes) =
    if list_all (is_node_inside (length nodes)) nodes then Drawn (graph_text name (arm_lines file ps number) nodes) else NotReport
outcome_of_nodes file ps name number None = NotReport

-- the picture of these items, where they are the nodes of a tree
abbrev pub outcome_of_tree : List ℕ → List Piece → List ℕ → ℕ → Option Items → Outcome
outcome_of_tree file ps name number (Some items) = outcome_of_nodes file ps name number (all_of node_of items)
outcome_of_tree file ps name number None = NotThere

-- the picture of the tree of an entry
abbrev pub outcome_of_entry : List ℕ → List Piece → List ℕ → Option EntryTree → Outcome
outcome_of_entry file ps name (Some e) = outcome_of_tree file ps name e.number (items_at (codes "tree") e.json)
outcome_of_entry file ps name None = NotThere

-- the picture by the entries of a report
abbrev pub outcome_of_entries : List ℕ → List Piece → List ℕ → Option Items → Outcome
outcome_of_entries file ps name (Some entries) = outcome_of_entry file ps name (entry_from name 0 entries)
outcome_of_entries file ps name None = NotThere

-- the picture by a JSON value, which is this report
abbrev pub outcome_of_report : List ℕ → List Piece → List ℕ → Data → Option ReportTree → Outcome
outcome_of_report file ps name d None = NotReport
outcome_of_report file ps name d (Some (OfFunctions functions)) = outcome_of_entries file ps name (items_at (codes "functions") d)
outcome_of_report file ps name d (Some (OfRefused refused)) = NotThere

-- the picture of the tree of the function of this name by a JSON value, where there is one, beside the file that it is
-- of, which has these tokens
unfoldable pub outcome_of : List ℕ → List ℕ → Option Data → List Piece → Outcome
outcome_of file name None ps = NotReport
outcome_of file name (Some d) ps = outcome_of_report file ps name d (report_of d)

-- the answer is this outcome; memory may be wanted and refused
abbrev pub Answers : Outcome → Result (Vec ℕ Global) Fault → Type 0
Answers outcome (Ok picture) = outcome ≡ Drawn picture.items
Answers outcome (Err NoReport) = outcome ≡ NotReport
Answers outcome (Err NoTree) = outcome ≡ NotThere
Answers outcome (Err NoMemory) = ⊤

-- the same by the tokens of the file
abbrev pub AnswersBy : List ℕ → (List Piece → Outcome) → Result (Vec ℕ Global) Fault → Type 0
AnswersBy file outcome (Ok picture) = (ps : List Piece) × ArePieces file ps × (outcome ps ≡ Drawn picture.items)
AnswersBy file outcome (Err NoReport) = (ps : List Piece) × ArePieces file ps × (outcome ps ≡ NotReport)
AnswersBy file outcome (Err NoTree) = (ps : List Piece) × ArePieces file ps × (outcome ps ≡ NotThere)
AnswersBy file outcome (Err NoMemory) = ⊤
