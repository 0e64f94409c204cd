use Rattle.std.proofs.Common.{◌≡◌, ℕ, ◌<◌, ◌≤◌, length, get_or, sym, subst, arith, refl, ⊎_elim}
use Rattle.std.specs.Prelude.{IsTrue}
use Rattle.std.specs.Global.{Vec}
use Rattle.std.specs.List.{All}
use Rattle.std.proofs.lemmas.Bool.{cases_lt}
use Rattle.std.proofs.lemmas.List.{length-map}
use Rattle.cycle_search.specs.Graphs.{plain_graph}
use Rattle.cycle_search.proofs.Ways.{no_edge_past, edge_in}
use Rattle.cycle_search.proofs.cycle.never_rises.Goals as goal

pub loop-node-preserved : goal.loop-node-preserved
loop-node-preserved c from to l e =
    let numbers = c.args.numbers.now in
    let i = c.loop-node.node in
    let all : All (λ j. get_or numbers j 0 ≤ get_or numbers i 0) c.deref.result.now = c.are_at_most.ensures (subst IsTrue (sym c.if-not-are_at_most.false) refl) in
    ⊎_elim
    (λ low. c.loop-node.invariant from to low e)
    (λ high.
    let same : from ≡ i = omega arith in
    edge_in c.args.edges.now from c.index-edges-node.result c.deref.result.now (subst (λ x. x < length c.args.edges.now) (sym same) c.loop-node-test.true)
    (subst (λ x. c.index-edges-node.result ≡ get_or c.args.edges.now x c.index-edges-node.result) (sym same) c.index-edges-node.is) c.deref.ensures.value (λ j. get_or numbers j 0 ≤ get_or numbers from 0)
    (subst (λ x. All (λ j. get_or numbers j 0 ≤ get_or numbers x 0) c.deref.result.now) (sym same) all) to e)
    (cases_lt from i)

pub returns : goal.returns
returns c _ from to e =
    let n = length-map c.args.edges.now (λ (v : Vec ℕ). v.items) in
    ⊎_elim
    (λ low. c.loop-node.invariant from to (omega arith) e)
    (λ past. absurd (no_edge_past (plain_graph c.args.edges.now) from to (omega arith) e))
    (cases_lt from (length c.args.edges.now))
