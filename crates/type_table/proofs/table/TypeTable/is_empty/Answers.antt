use Rattle.type_table.proofs.EmptyTypes.{found_here, tells_empty}
use Rattle.type_table.proofs.table.TypeTable.is_empty.Goals as goal

pub returns-clause-found : goal.returns-clause-found
returns-clause-found c = found_here c.args.self.now c.args.ty c.requires.of c.index.result.now c.index.ensures

pub returns-clause-tells : goal.returns-clause-tells
returns-clause-tells c = tells_empty c.args.self.now c.args.ty c.requires.of _ (returns-clause-found c)
