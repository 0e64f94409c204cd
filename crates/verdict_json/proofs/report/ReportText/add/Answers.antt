use Rattle.std.proofs.Common.{◌∙◌, ap, ◌++◌, refl}
use Rattle.serde_json.specs.Written.{compact_text}
use Rattle.verdict_json.specs.Report.{JudgedFunction, function_data}
use Rattle.verdict_json.specs.Trees.{report_view}
use Rattle.verdict_json.proofs.Lines.{grown}
use Rattle.verdict_json.proofs.report.ReportText.add.Goals as goal

pub returns : goal.returns
returns c entries has =
    grown entries (JudgedFunction (report_view c.args.report.now)) c.args.self _ has refl
    (c.in_ok-push_function.ensures ∙ ap (λ z. z ++ compact_text (function_data (report_view c.args.report.now))) c.in_ok-push_comma.ensures)
