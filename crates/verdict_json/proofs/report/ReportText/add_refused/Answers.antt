use Rattle.std.proofs.Common.{◌∙◌, ap, ◌++◌, refl}
use Rattle.serde_json.specs.Written.{compact_text}
use Rattle.verdict_json.specs.Report.{RefusedFunction, refused_data}
use Rattle.verdict_json.proofs.Lines.{grown}
use Rattle.verdict_json.proofs.report.ReportText.add_refused.Goals as goal

pub returns : goal.returns
returns c entries has =
    grown entries (RefusedFunction c.args.name.now c.args.refusal.now) c.args.self _ has refl
    (c.in_ok-push_refused.ensures
    ∙ ap (λ z. z ++ compact_text (refused_data c.args.name.now c.args.refusal.now)) c.in_ok-push_comma.ensures)
