-- The report on functions as JSON.
use Rattle.std.specs.Prelude.{ℕ, List, [], ◌∷◌, ◌++◌, map, Option, Some, None, codes}
use Rattle.serde_json.specs.Data.{Data, boolean, number, unsigned, string, array, object, Members, no_members, member}
use Rattle.serde_json.specs.View.{items_of}
use Rattle.serde_json.specs.Written.{compact_text}
use Rattle.match_model.specs.Overlaps.{MOverlap}
use Rattle.tree_text.specs.Trees.{NodeTree}
use Rattle.tree_text.specs.Reported.{tree_data}
use Rattle.verdict_json.specs.declared.refusal.Refusal.{Refusal}
use Rattle.verdict_json.specs.Refused.{name_or_empty, refusal_data}
use Rattle.verdict_json.specs.Rules.{name_of}
use Rattle.verdict_json.specs.Trees.{ReportTree, UnreachableTree}
use Rattle.witness_text.specs.Reported.{overlap_data, witnesses_data}

-- an entry of the list of overlaps: where the two ranges begin, and their one common number
abbrev pub overlap_entry : MOverlap → Data
overlap_entry o = overlap_data o.first o.second o.number

-- an entry of the unreachable list
abbrev pub unreachable_data : UnreachableTree → Data
unreachable_data u =
    object (member (codes "arm") (number (unsigned u.arm))
    (member (codes "at") (number (unsigned u.at))
    (member (codes "whole") (boolean u.whole) no_members)))

-- the key of a decision tree in front of the others, where it is shown
abbrev pub with_tree : Option (List NodeTree) → Members → Members
with_tree None others = others
with_tree (Some nodes) others = member (codes "tree") (tree_data nodes) others

-- what is reported of one function
abbrev pub function_data : ReportTree → Data
function_data f =
    object (member (codes "exhaustive") (boolean f.exhaustive)
    (member (codes "name") (string f.name)
    (member (codes "overlaps") (array (items_of (map overlap_entry f.overlaps)))
    (with_tree f.tree
    (member (codes "unreachable") (array (items_of (map unreachable_data f.unreachable)))
    (member (codes "witnesses") (witnesses_data f.witnesses) no_members))))))

-- the refusal of the function of this name
abbrev pub refused_data : List ℕ → Refusal → Data
refused_data name r =
    object (member (codes "name") (string name)
    (member (codes "refused") (refusal_data r (name_or_empty (name_of r.rule))) no_members))

-- the arms to add to the function of this name
abbrev pub arms_data : List ℕ → List (List ℕ) → Data
arms_data name arms =
    object (member (codes "arms") (array (items_of (map string arms))) (member (codes "name") (string name) no_members))

-- an entry of a report: what is reported of a function; the name of one that is refused with its refusal; or the name of one
-- with the arms to add
pub data ReportEntry : Type 0 where
  JudgedFunction : ReportTree → ReportEntry
  RefusedFunction : List ℕ → Refusal → ReportEntry
  ArmedFunction : List ℕ → List (List ℕ) → ReportEntry

-- an entry as it is written
abbrev pub entry_data : ReportEntry → Data
entry_data (JudgedFunction f) = function_data f
entry_data (RefusedFunction name r) = refused_data name r
entry_data (ArmedFunction name arms) = arms_data name arms

-- the report of these entries, in their order
abbrev pub report_data : List ReportEntry → Data
report_data entries = object (member (codes "functions") (array (items_of (map entry_data entries))) no_members)

-- the bytes that are written for a report, the line feed included
unfoldable pub report_text : List ReportEntry → List ℕ
report_text entries = compact_text (report_data entries) ++ 10 ∷ []
