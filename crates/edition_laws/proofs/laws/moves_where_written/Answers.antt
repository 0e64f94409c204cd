use Rattle.edition_laws.proofs.Agreed.{moves_where_written}
use Rattle.edition_laws.proofs.laws.moves_where_written.Goals as goal

pub returns : goal.returns
returns c = moves_where_written
