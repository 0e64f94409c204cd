use Rattle.std.proofs.Common.{map, string_bytes}
use Rattle.explain_text.specs.Diagnostics.{diagnostic_view}
use Rattle.explain_json.proofs.Told.{behind_mark, findings_told}
use Rattle.explain_json.proofs.explaining.findings_explained.Goals as goal

pub push_findings-requires-clause-within : goal.push_findings-requires-clause-within
push_findings-requires-clause-within c =
    behind_mark c.args.file.now c.mark_length-mark.result (map diagnostic_view c.args.found.now) c.mark_length-mark.ensures.exact c.requires

pub returns : goal.returns
returns c = record {
  text = findings_told c.args.name.now c.args.file.now c.mark_length-mark.result (map diagnostic_view c.args.found.now) (string_bytes c.new-text.result)
      (string_bytes c.push_findings.new.text) c.mark_length-mark.ensures.exact c.new-text.ensures.bytes c.in_ok-push_findings.ensures;
  breaks = c.any_breaks-breaks.ensures;
}
