use Rattle.std.proofs.Common.{◌≡◌, true, arith}
use Rattle.std.proofs.lemmas.Grind.{common_steps}
use Rattle.keyed_matrix.specs.Views.{plain_row}
use Rattle.decision_tree.specs.Asking.{asks_guard}
use Rattle.decision_tree.proofs.Asking.{asked-more}
use Rattle.decision_tree.proofs.leaves.count_asked.Goals as goal

pub loop-i-init : goal.loop-i-init
loop-i-init g c = λ k r l s. absurd (omega (arith, l))

pub loop-i-preserved : goal.loop-i-preserved
loop-i-preserved g c =
    let asks : asks_guard (plain_row c.index-rows-i.result) ≡ true = grind (arith, common_steps) in
    asked-more c.args.rows.now c.loop-i.i c.index-rows-i.result (omega arith) c.index-rows-i.is asks c.loop-i.invariant
