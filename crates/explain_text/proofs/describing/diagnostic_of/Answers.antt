use Rattle.std.proofs.Common.{◌∙◌, ap, map, string_bytes}
use Rattle.explain_report.specs.Arms.{arms_view}
use Rattle.explain_text.specs.Findings.{finding_view, kind_view}
use Rattle.explain_text.specs.Messages.{label_text, title_text}
use Rattle.explain_text.specs.Notes.{notes_of}
use Rattle.explain_text.proofs.InWords.{described_one}
use Rattle.explain_text.proofs.describing.diagnostic_of.Goals as goal

pub returns : goal.returns
returns c =
    let arms = map arms_view c.args.arms.now in
    let kind = kind_view c.args.finding.now.kind in
    described_one c.args.text.now c.args.mark arms (finding_view c.args.finding.now) c.is_error.result c.in_ok-code.code c.in_ok-title.title c.in_ok-label.label
    c.in_ok-notes.notes (string_bytes c.in_ok-name.name) c.in_ok-name.ensures c.is_error.ensures c.in_ok-code.ensures
    (c.in_ok-title.ensures ∙ ap (λ n. title_text n kind) c.as_str.ensures.value)
    (c.in_ok-label.ensures ∙ ap (λ n. label_text n kind) c.as_str-2.ensures.value)
    (c.in_ok-notes.ensures ∙ ap (λ n. notes_of arms n kind) c.as_str-3.ensures.value)
