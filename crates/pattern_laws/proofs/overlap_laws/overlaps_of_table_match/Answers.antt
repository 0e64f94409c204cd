use Rattle.pattern_laws.proofs.Written.{overlaps_of_table}
use Rattle.pattern_laws.proofs.overlap_laws.overlaps_of_table_match.Goals as goal

pub returns : goal.returns
returns c = overlaps_of_table
