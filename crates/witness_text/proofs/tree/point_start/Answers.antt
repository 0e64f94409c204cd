use Rattle.std.proofs.Common.{refl}
use Rattle.serde_json.proofs.OnLiterals.{serde_json_on_literals}
use Rattle.witness_text.proofs.tree.point_start.Goals as goal

pub returns-then-mutable : goal.returns-then-mutable
unfolding serde_json_on_literals
returns-then-mutable c = rw c.if-mutable.true refl

pub returns-else-mutable : goal.returns-else-mutable
unfolding serde_json_on_literals
returns-else-mutable c = rw c.if-mutable.false refl
