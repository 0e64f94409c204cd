-- What callers see of a report: its values, without where they lie in memory.
use Rattle.std.specs.Prelude.{ℕ, Bool, List, map, Option}
use Rattle.explain_report.specs.declared.records.Refused.{Refused}
use Rattle.explain_report.specs.declared.records.Unreached.{Unreached}
use Rattle.explain_report.specs.declared.records.Overlap.{Overlap}
use Rattle.explain_report.specs.declared.records.Judged.{Judged}
use Rattle.explain_report.specs.declared.records.Verdict.{Verdict}
use Rattle.explain_report.specs.declared.records.Verdict.TheVariants as verdicts
use Rattle.explain_report.specs.declared.records.Function.{Function}
use Rattle.explain_report.specs.declared.records.Report.{Report}
use Rattle.explain_report.specs.declared.records.Report.TheVariants as reports

-- a broken rule, and where
pub record RefusedTree : Type 0 where
  pub rule : ℕ
  pub name : List ℕ
  pub item : Option ℕ
  pub arm : Option ℕ
  pub at : Option ℕ

-- two ranges with one number in common
pub record OverlapTree : Type 0 where
  pub at : ℕ
  pub «with» : ℕ
  pub value : List ℕ

-- what is found of a match
pub record JudgedTree : Type 0 where
  pub exhaustive : Bool
  pub overlaps : List OverlapTree
  pub unreachable : List Unreached
  pub witnesses : List (List ℕ)

-- what is said of a function
pub data VerdictTree : Type 0 where
  IsJudged : JudgedTree → VerdictTree
  IsRefused : RefusedTree → VerdictTree

-- a function
pub record FunctionTree : Type 0 where
  pub name : List ℕ
  pub verdict : VerdictTree

-- a report: its functions, or the refusal of the file
pub data ReportTree : Type 0 where
  OfFunctions : List FunctionTree → ReportTree
  OfRefused : RefusedTree → ReportTree

abbrev pub refused_view : Refused → RefusedTree
refused_view r = record { rule = r.rule; name = r.name.now; item = r.item; arm = r.arm; at = r.at }

abbrev pub overlap_view : Overlap → OverlapTree
overlap_view o = record { at = o.at; «with» = o.«with»; value = o.value.now }

abbrev pub judged_view : Judged → JudgedTree
judged_view j = record {
  exhaustive = j.exhaustive;
  overlaps = map overlap_view j.overlaps.items;
  unreachable = j.unreachable.items;
  witnesses = map (λ t. t.now) j.witnesses.items;
}

abbrev pub verdict_view : Verdict → VerdictTree
verdict_view (verdicts.Judged j) = IsJudged (judged_view j)
verdict_view (verdicts.Refused r) = IsRefused (refused_view r)

abbrev pub function_view : Function → FunctionTree
function_view f = record { name = f.name.now; verdict = verdict_view f.verdict }

abbrev pub report_view : Report → ReportTree
report_view (reports.Functions fs) = OfFunctions (map function_view fs.items)
report_view (reports.Refused r) = OfRefused (refused_view r)
