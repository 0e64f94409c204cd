use Rattle.std.proofs.Common.{arith}
use Rattle.explain_text.proofs.Noting.{rest_added}
use Rattle.explain_text.proofs.notes.add_rest.Goals as goal

pub returns : goal.returns
returns c = rest_added _ _ _ _ c.args.count (omega arith) c.new-line.ensures.bytes c.in_ok-write.ensures.bytes c.in_ok-push.ensures.items
