use Rattle.type_table.proofs.ContextLemmas.{one_id}
use Rattle.type_table.proofs.table.TypeTable.equal_types_have_one_number.Goals as goal

pub returns : goal.returns
returns c = one_id c.args.self.now
