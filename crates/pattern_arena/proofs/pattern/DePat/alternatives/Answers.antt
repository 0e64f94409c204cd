use Rattle.std.proofs.Common.{sym}
use Rattle.pattern_arena.proofs.TreeFacts.{subs_of-tree}
use Rattle.pattern_arena.proofs.pattern.DePat.alternatives.Goals as goal

pub returns-clause-trees : goal.returns-clause-trees
returns-clause-trees g c = sym (subs_of-tree c.args.self.now)
