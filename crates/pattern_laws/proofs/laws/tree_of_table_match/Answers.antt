use Rattle.pattern_laws.proofs.TableTrees.{tree_of_table}
use Rattle.pattern_laws.proofs.laws.tree_of_table_match.Goals as goal

pub returns : goal.returns
returns c = tree_of_table
