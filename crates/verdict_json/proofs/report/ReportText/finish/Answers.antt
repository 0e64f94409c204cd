use Rattle.std.proofs.Common.{◌∙◌, ap, string_bytes}
use Rattle.verdict_json.proofs.Lines.{closed}
use Rattle.verdict_json.proofs.report.ReportText.finish.Goals as goal

pub returns : goal.returns
returns c entries has =
    ap (λ v. v.items) c.into_bytes.ensures.value ∙ (c.in_ok-push_str.ensures.bytes ∙ closed (string_bytes c.args.self.text) entries has.begun)
