use Rattle.explain_lines.proofs.Adding.{two_added}
use Rattle.explain_json.proofs.values.push_counted.Goals as goal

pub returns : goal.returns
returns c = two_added _ _ _ _ _ c.in_ok-push_str.ensures.bytes c.in_ok-write.ensures.bytes
