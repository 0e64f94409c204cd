use Rattle.std.proofs.Common.{ℕ, length, arith, ⊎_elim}
use Rattle.std.specs.Global.{Vec}
use Rattle.std.proofs.lemmas.Bool.{cases_lt}
use Rattle.std.proofs.lemmas.List.{length-map}
use Rattle.cycle_search.specs.Graphs.{plain_graph}
use Rattle.cycle_search.proofs.Ways.{no_way_past}
use Rattle.cycle_search.proofs.cycle.first_on_cycle.Goals as goal

pub returns-clause-none : goal.returns-clause-none
returns-clause-none c _ node r =
    let n = length-map c.args.edges.now (λ (t : Vec ℕ). t.items) in
    ⊎_elim
    (λ low. c.loop-node.invariant node (omega arith) r)
    (λ past. no_way_past (plain_graph c.args.edges.now) node node (omega arith) r)
    (cases_lt node (length c.args.edges.now))
