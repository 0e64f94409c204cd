use Rattle.std.proofs.Common.{refl}
use Rattle.serde_json.proofs.OnLiterals.{serde_json_on_literals}
use Rattle.verdict_json.proofs.outcome.mode_text.Goals as goal

pub returns-in-Move : goal.returns-in-Move
unfolding serde_json_on_literals
returns-in-Move c = rw c.in-Move.is refl

pub returns-in-Ref : goal.returns-in-Ref
unfolding serde_json_on_literals
returns-in-Ref c = rw c.in-Ref.is refl

pub returns-in-RefMut : goal.returns-in-RefMut
unfolding serde_json_on_literals
returns-in-RefMut c = rw c.in-RefMut.is refl
