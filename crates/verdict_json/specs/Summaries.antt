-- The counts of a report on a file as JSON.
use Rattle.std.specs.Prelude.{◌≡◌, ℕ, List, [], ◌∷◌, ◌++◌, length, codes, if◌then◌else◌}
use Rattle.std.specs.List.{sum_by}
use Rattle.serde_json.specs.Data.{Data, number, unsigned, object, no_members, member}
use Rattle.serde_json.specs.Written.{compact_text}
use Rattle.verdict_json.specs.declared.summary.Summary.{Summary}
use Rattle.verdict_json.specs.Report.{ReportEntry, JudgedFunction, RefusedFunction, ArmedFunction}

-- the counts, each under its name
abbrev pub summary_data : Summary → Data
summary_data s =
    object (member (codes "arms") (number (unsigned s.arms))
    (member (codes "exhaustive") (number (unsigned s.exhaustive))
    (member (codes "functions") (number (unsigned s.functions))
    (member (codes "overlaps") (number (unsigned s.overlaps))
    (member (codes "unreachable") (number (unsigned s.unreachable))
    (member (codes "witnesses") (number (unsigned s.witnesses)) no_members))))))

-- the bytes that are written for the counts, the line feed included
unfoldable pub summary_text : Summary → List ℕ
summary_text s = compact_text (summary_data s) ++ 10 ∷ []

-- 1 for a function that is reported exhaustive
abbrev pub exhaustive_in : ReportEntry → ℕ
exhaustive_in (JudgedFunction f) = if f.exhaustive then 1 else 0
exhaustive_in (RefusedFunction name r) = 0
exhaustive_in (ArmedFunction name arms) = 0

-- how many overlaps an entry tells
abbrev pub overlaps_in : ReportEntry → ℕ
overlaps_in (JudgedFunction f) = length f.overlaps
overlaps_in (RefusedFunction name r) = 0
overlaps_in (ArmedFunction name arms) = 0

-- how many unreachable arms and alternatives an entry tells
abbrev pub unreachable_in : ReportEntry → ℕ
unreachable_in (JudgedFunction f) = length f.unreachable
unreachable_in (RefusedFunction name r) = 0
unreachable_in (ArmedFunction name arms) = 0

-- how many witnesses an entry tells
abbrev pub witnesses_in : ReportEntry → ℕ
witnesses_in (JudgedFunction f) = length f.witnesses
witnesses_in (RefusedFunction name r) = 0
witnesses_in (ArmedFunction name arms) = 0

-- the counts of a report of these entries, on functions that have so many arms together
pub record IsSummary (arms : ℕ) (entries : List ReportEntry) (s : Summary) : Type 0 where
  pub arms_are : s.arms ≡ arms
  pub exhaustive_are : s.exhaustive ≡ sum_by exhaustive_in entries
  pub functions_are : s.functions ≡ length entries
  pub overlaps_are : s.overlaps ≡ sum_by overlaps_in entries
  pub unreachable_are : s.unreachable ≡ sum_by unreachable_in entries
  pub witnesses_are : s.witnesses ≡ sum_by witnesses_in entries
