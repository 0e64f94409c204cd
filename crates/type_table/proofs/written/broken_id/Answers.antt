use Rattle.std.proofs.Common.{refl}
use Rattle.type_table.proofs.Declares.{ok_keeps, keeps_alone}
use Rattle.type_table.proofs.written.broken_id.Goals as goal

pub returns-clause-declared : goal.returns-clause-declared
returns-clause-declared c = ok_keeps c.leaf.result (keeps_alone (λ is. refl)) c.leaf.ensures.declared
