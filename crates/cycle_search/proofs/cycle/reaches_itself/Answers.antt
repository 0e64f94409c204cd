use Rattle.std.proofs.Common.{◌<◌, get_or, sym, subst, refl}
use Rattle.std.specs.Prelude.{IsTrue}
use Rattle.std.specs.List.{All}
use Rattle.cycle_search.specs.Graphs.{plain_graph}
use Rattle.cycle_search.proofs.Ways.{edge_in}
use Rattle.cycle_search.proofs.Falls.{not_back}
use Rattle.cycle_search.proofs.cycle.reaches_itself.Goals as goal

pub returns-then-are_below-clause-no : goal.returns-then-are_below-clause-no
returns-then-are_below-clause-no c _ =
    let edges = c.args.edges.now in
    let numbers = c.args.numbers.now in
    let targets = c.index-edges-node.result in
    let all : All (λ j. get_or numbers j 0 < get_or numbers c.args.node 0) c.deref.result.now = c.are_below.ensures (subst IsTrue (sym c.if-are_below.true) refl) in
    not_back (plain_graph edges) numbers c.requires.falling c.args.node
    (edge_in edges c.args.node targets c.deref.result.now c.requires.node c.index-edges-node.is c.deref.ensures.value (λ j. get_or numbers j 0 < get_or numbers c.args.node 0) all)
