use Rattle.std.proofs.Common.{sym, ◌∙◌}
use Rattle.pattern_matrix.specs.Views.{plain_leaves}
use Rattle.pattern_matrix.proofs.WantedHeads.{none_listed}
use Rattle.pattern_matrix.proofs.SomeListed.{some_listed}
use Rattle.pattern_matrix.proofs.found.are_wild.Goals as goal

pub returns-clause-none : goal.returns-clause-none
returns-clause-none g c = λ e. (none_listed (plain_leaves c.args.leaves.now)).1 (sym c.all_wild.ensures ∙ e)

pub returns-clause-some : goal.returns-clause-some
returns-clause-some g c = λ e. some_listed (plain_leaves c.args.leaves.now) (sym c.all_wild.ensures ∙ e)
