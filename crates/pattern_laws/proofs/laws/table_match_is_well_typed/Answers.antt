use Rattle.pattern_laws.proofs.TableSeen.{table_match_typed}
use Rattle.pattern_laws.proofs.laws.table_match_is_well_typed.Goals as goal

pub returns : goal.returns
returns c = table_match_typed
