use Rattle.std.proofs.Common.{◌<◌, ℕ, List, get_or, subst, arith}
use Rattle.std.specs.List.{All}
use Rattle.std.proofs.lemmas.List.{take_all}
use Rattle.std.proofs.lemmas.List.Elements.{All-more}
use Rattle.cycle_search.proofs.cycle.are_below.Goals as goal

pub loop-node-preserved : goal.loop-node-preserved
loop-node-preserved c =
    All-more (λ j. get_or c.args.numbers.now j 0 < c.args.limit) c.args.nodes.now c.loop-node.node-index 0 c.loop-node-test.true c.loop-node.invariant (omega arith)

pub returns : goal.returns
returns c _ =
    subst (λ (xs : List ℕ). All (λ j. get_or c.args.numbers.now j 0 < c.args.limit) xs)
    (take_all c.loop-node.node-index c.args.nodes.now c.loop-node-test.false) c.loop-node.invariant
