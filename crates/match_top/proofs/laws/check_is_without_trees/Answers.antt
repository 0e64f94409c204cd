use Rattle.match_top.proofs.WithoutTrees.{entry_without, answers_without}
use Rattle.match_top.proofs.laws.check_is_without_trees.Goals as goal

pub returns-clause-entries : goal.returns-clause-entries
returns-clause-entries c = entry_without

pub returns-clause-answers : goal.returns-clause-answers
returns-clause-answers c = answers_without
