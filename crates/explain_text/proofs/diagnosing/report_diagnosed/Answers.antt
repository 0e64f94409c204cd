use Rattle.std.proofs.Common.{◌∙◌, ap, subst, List, map}
use Rattle.explain_report.specs.Arms.{arms_view}
use Rattle.explain_text.specs.Diagnosing.{Diagnoses, checked, described}
use Rattle.explain_text.specs.Findings.{FindingTree, finding_view}
use Rattle.explain_text.specs.Order.{in_file_order}
use Rattle.explain_text.specs.declared.findings.Finding.{Finding}
use Rattle.explain_text.proofs.diagnosing.report_diagnosed.Goals as goal

pub returns : goal.returns
returns c =
    subst (λ (fs : List FindingTree). Diagnoses (checked c.args.file.now (described c.args.file.now (map arms_view c.args.arms.now) fs)) c.findings_diagnosed.result)
    (ap (λ (fs : List Finding). map finding_view fs) c.as_slice-2.ensures.value ∙ c.in_ok-findings.ensures ∙ ap in_file_order c.in_ok-found.ensures)
    c.findings_diagnosed.ensures
