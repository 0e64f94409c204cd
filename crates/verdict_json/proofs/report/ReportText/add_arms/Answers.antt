use Rattle.std.proofs.Common.{◌∙◌, ap, ◌++◌, map, refl, string_bytes}
use Rattle.serde_json.specs.Written.{compact_text}
use Rattle.verdict_json.specs.Report.{ArmedFunction, arms_data}
use Rattle.verdict_json.proofs.Lines.{grown}
use Rattle.verdict_json.proofs.report.ReportText.add_arms.Goals as goal

pub returns : goal.returns
returns c entries has =
    grown entries (ArmedFunction c.args.name.now (map string_bytes c.args.arms.now)) c.args.self _ has refl
    (c.in_ok-push_arms.ensures
    ∙ ap (λ z. z ++ compact_text (arms_data c.args.name.now (map string_bytes c.args.arms.now))) c.in_ok-push_comma.ensures)
