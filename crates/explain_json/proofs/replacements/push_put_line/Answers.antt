use Rattle.explain_lines.proofs.Adding.{three_added}
use Rattle.explain_json.proofs.replacements.push_put_line.Goals as goal

pub returns : goal.returns
returns c = three_added _ _ _ _ _ _ _ c.in_ok-push_str.ensures.bytes c.in_ok-push_str-2.ensures.bytes c.in_ok-push_str-3.ensures.bytes
