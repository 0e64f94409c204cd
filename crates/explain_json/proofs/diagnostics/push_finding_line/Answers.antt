use Rattle.explain_lines.proofs.Adding.{two_added}
use Rattle.explain_json.specs.Diagnostics.{finding_line}
use Rattle.explain_json.proofs.diagnostics.push_finding_line.Goals as goal

pub returns : goal.returns
unfolding finding_line
returns c = two_added _ _ _ _ _ c.in_ok-push_finding.ensures c.in_ok-push_str.ensures.bytes
