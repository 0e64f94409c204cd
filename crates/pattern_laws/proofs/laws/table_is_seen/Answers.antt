use Rattle.pattern_laws.proofs.TableSeen.{tables_seen}
use Rattle.pattern_laws.proofs.laws.table_is_seen.Goals as goal

pub returns : goal.returns
returns c = tables_seen
