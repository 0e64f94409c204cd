use Rattle.std.proofs.Common.{map, get_or, refl}
use Rattle.keyed_matrix.specs.Deciding.{plain_decision, table_decides}
use Rattle.keyed_matrix.proofs.Putting.{key-more}
use Rattle.keyed_matrix.proofs.keys.key_of.Goals as goal

pub add_decision-requires : goal.add_decision-requires
add_decision-requires c = c.loop-uid.invariant.0

pub loop-uid-preserved : goal.loop-uid-preserved
loop-uid-preserved c =
    let chosen = c.args.chosen.now in
    let i = c.loop-uid.uid-index in
    key-more (table_decides c.args.decisions.now) chosen i (get_or chosen i 0) (plain_decision c.decided.result)
    (map plain_decision c.loop-uid.key.items) (map plain_decision c.add_decision.new.key.items) c.loop-uid-test.true refl
    c.decided.ensures c.in_ok-add_decision.ensures c.loop-uid.invariant.0 c.loop-uid.invariant.1
