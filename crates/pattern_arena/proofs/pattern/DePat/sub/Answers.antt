use Rattle.std.proofs.lemmas.Option.{slice_get-get_or}
use Rattle.pattern_arena.specs.Trees.{placed_subs}
use Rattle.pattern_arena.proofs.TreeFacts.{sub-tree}
use Rattle.pattern_arena.proofs.pattern.DePat.sub.Goals as goal

pub returns-clause-tree : goal.returns-clause-tree
returns-clause-tree g c =
    sub-tree c.args.self.now _ c.args.i (slice_get-get_or (placed_subs c.args.self.now) c.args.i c.index-self-i.result c.requires)
