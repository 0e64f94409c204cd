use Rattle.pattern_arena.specs.Trees.{tree}
use Rattle.pattern_elaboration.proofs.Settling.{standing_shown}
use Rattle.pattern_elaboration.proofs.Walks.{if_ok}
use Rattle.pattern_elaboration.proofs.build.standing_as.Goals as goal

pub returns-clause-stands : goal.returns-clause-stands
returns-clause-stands c = λ type.
    if_ok c.standing.result _ _
    (λ p h. standing_shown type c.args.next.now c.args.written.now (tree c.args.pattern) (tree p) h)
    c.standing.ensures.tree
