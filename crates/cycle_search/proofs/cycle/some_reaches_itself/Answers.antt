use Rattle.std.proofs.Common.{ℕ, List, subst, ◌∙◌}
use Rattle.std.specs.List.{All}
use Rattle.std.proofs.lemmas.List.{take_all}
use Rattle.cycle_search.specs.Graphs.{plain_graph, Reaches}
use Rattle.cycle_search.proofs.cycle.some_reaches_itself.Goals as goal

pub returns-clause-no : goal.returns-clause-no
returns-clause-no c _ =
    subst (λ (xs : List ℕ). All (λ n. Reaches (plain_graph c.args.edges.now) n n → ⊥) xs)
    (take_all c.loop-node.node-index c.deref-node-items.result.now c.loop-node-test.false ∙ c.deref-node-items.ensures.value) c.loop-node.invariant
