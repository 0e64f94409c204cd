use Rattle.std.proofs.Common.{refl}
use Rattle.serde_json.proofs.OnLiterals.{serde_json_on_literals}
use Rattle.verdict_json.proofs.entry.last_piece.Goals as goal

pub returns-then-whole : goal.returns-then-whole
unfolding serde_json_on_literals
returns-then-whole c = rw c.if-whole.true refl

pub returns-else-whole : goal.returns-else-whole
unfolding serde_json_on_literals
returns-else-whole c = rw c.if-whole.false refl
