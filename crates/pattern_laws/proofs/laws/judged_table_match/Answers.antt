use Rattle.pattern_laws.proofs.TableSeen.{judged_table}
use Rattle.pattern_laws.proofs.laws.judged_table_match.Goals as goal

pub returns : goal.returns
returns c = judged_table
