use Rattle.std.proofs.Common.{◌≡◌, Some, rules}
use Rattle.type_table.specs.Readings.{array_length}
use Rattle.type_table.proofs.Declares.{ok_keeps, keeps_alone, length_few}
use Rattle.type_table.proofs.written.array_id.Goals as goal

pub returns-in-Some-clause-declared : goal.returns-in-Some-clause-declared
returns-in-Some-clause-declared c =
    let length : Some c.in-Some.n ≡ array_length c.args.len c.args.suffix.now = search rules in
    ok_keeps c.intern_one.result (keeps_alone (λ is. length_few is c.args.len c.args.suffix.now c.in-Some.n length)) c.intern_one.ensures.declared
