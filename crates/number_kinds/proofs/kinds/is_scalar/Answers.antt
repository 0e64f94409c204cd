use Rattle.number_kinds.proofs.Ends.{first_true, first_false}
use Rattle.number_kinds.proofs.kinds.is_scalar.Goals as goal

pub returns-then-contains : goal.returns-then-contains
returns-then-contains c = first_true c.char_numbers.result.0 c.char_numbers.result.1 _ c.char_numbers.ensures c.contains.ensures c.if-contains.true

pub returns-else-contains : goal.returns-else-contains
returns-else-contains c = first_false c.char_numbers.result.0 c.char_numbers.result.1 _ c.char_numbers.ensures c.contains.ensures c.if-contains.false c.contains-else-contains.ensures
