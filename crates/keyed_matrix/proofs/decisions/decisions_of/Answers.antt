use Rattle.std.proofs.Common.{List, ap, ◌∙◌}
use Rattle.std.proofs.lemmas.List.{take_all}
use Rattle.pattern_arena.specs.declared.matches.CheckedArm.{CheckedArm}
use Rattle.keyed_matrix.specs.Deciding.{in_table, listed_of, or_none}
use Rattle.keyed_matrix.proofs.Numbered.{arms_decide, arms-more, decision-listed}
use Rattle.keyed_matrix.proofs.decisions.decisions_of.Goals as goal

pub loop-arm-preserved : goal.loop-arm-preserved
loop-arm-preserved g c =
    arms-more (in_table c.loop-arm.all) (in_table c.add_decisions.new.all) c.args.m.now.arms.now c.loop-arm.arm-index
    c.arm-item.result c.loop-arm-test.true c.arm-item.is c.loop-arm.invariant c.in_ok-add_decisions.ensures.added

pub returns : goal.returns
returns g c =
    let arms = c.args.m.now.arms.now in
    λ u. ap or_none (c.loop-arm.invariant u
    ∙ ap (λ (xs : List (CheckedArm g.row.T.Denot)). listed_of (arms_decide xs) u)
    (take_all c.loop-arm.arm-index arms c.loop-arm-test.false))
    ∙ decision-listed (arms_decide arms) u
