use Rattle.std.proofs.Common.{refl}
use Rattle.type_table.proofs.Declares.{ok_keeps, keeps_alone}
use Rattle.type_table.proofs.written.slice_id.Goals as goal

pub returns-else-sized-clause-declared : goal.returns-else-sized-clause-declared
returns-else-sized-clause-declared c = ok_keeps c.intern_one.result (keeps_alone (λ is. refl)) c.intern_one.ensures.declared
