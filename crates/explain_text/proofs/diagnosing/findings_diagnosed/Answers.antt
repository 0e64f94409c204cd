use Rattle.std.proofs.Common.{◌≡◌, ◌∙◌, ap, sym, map, List, cond}
use Rattle.explain_report.specs.Arms.{arms_view}
use Rattle.std.specs.List.{list_all}
use Rattle.explain_text.specs.Diagnosing.{Diagnosed, NotInFile, is_inside}
use Rattle.explain_text.specs.Diagnostics.{diagnostic_view}
use Rattle.explain_text.specs.Findings.{finding_view}
use Rattle.explain_text.specs.declared.diagnostics.Diagnostic.{Diagnostic}
use Rattle.explain_text.proofs.Whole.{checked_is, described_is}
use Rattle.explain_text.proofs.diagnosing.findings_diagnosed.Goals as goal

pub returns-then-are_inside : goal.returns-then-are_inside
returns-then-are_inside c =
    let ds = map diagnostic_view c.in_ok-all.all.items in
    checked_is c.args.file.now ds _ c.are_inside.result
    (described_is c.args.file.now (map arms_view c.args.arms.now) (map finding_view c.args.findings.now) c.mark_length-mark.result ds
    c.mark_length-mark.ensures.exact c.in_ok-all.ensures)
    (c.are_inside.ensures ∙ ap (λ (l : List Diagnostic). list_all (is_inside c.args.file.now) (map diagnostic_view l)) c.as_slice.ensures.value)
    ∙ ap (λ b. cond b (Diagnosed ds) NotInFile) c.if-are_inside.true

pub returns-else-are_inside : goal.returns-else-are_inside
returns-else-are_inside c =
    let ds = map diagnostic_view c.in_ok-all.all.items in
    checked_is c.args.file.now ds _ c.are_inside.result
    (described_is c.args.file.now (map arms_view c.args.arms.now) (map finding_view c.args.findings.now) c.mark_length-mark.result ds
    c.mark_length-mark.ensures.exact c.in_ok-all.ensures)
    (c.are_inside.ensures ∙ ap (λ (l : List Diagnostic). list_all (is_inside c.args.file.now) (map diagnostic_view l)) c.as_slice.ensures.value)
    ∙ ap (λ b. cond b (Diagnosed ds) NotInFile) c.if-are_inside.false
