use Rattle.std.proofs.Common.{refl}
use Rattle.serde_json.proofs.OnLiterals.{serde_json_on_literals}
use Rattle.verdict_json.proofs.outcome.last_piece.Goals as goal

pub returns-in-Took : goal.returns-in-Took
unfolding serde_json_on_literals
returns-in-Took c = rw c.in-Took.is refl

pub returns-in-Missed : goal.returns-in-Missed
unfolding serde_json_on_literals
returns-in-Missed c = rw c.in-Missed.is refl

pub returns-in-Short : goal.returns-in-Short
unfolding serde_json_on_literals
returns-in-Short c = rw c.in-Short.is refl
