use Rattle.explain_text.proofs.Noting.{lines_added}
use Rattle.explain_text.proofs.notes.arm_lines.Goals as goal

pub returns : goal.returns
returns c = lines_added c.args.arms.now _ _ _ c.min-shown.result c.min-shown.ensures c.new-lines.ensures.items c.in_ok-add_arms.ensures c.in_ok-add_rest.ensures
