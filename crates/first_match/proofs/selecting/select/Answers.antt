use Rattle.std.proofs.Common.{◌∙◌, ◌+◌, map, drop, length, sym, ap, arith}
use Rattle.match_model.specs.ArenaWays.{arena_arm}
use Rattle.match_model.specs.Select.{select_from, tries_from}
use Rattle.pattern_arena.specs.Trees.{plain_arm}
use Rattle.tree_eval.specs.Views.{plain_value}
use Rattle.first_match.specs.Asking.{ended_or}
use Rattle.first_match.specs.Selections.{arm_view}
use Rattle.first_match.proofs.Asking.{From, one_more_arm, no_more_arms}
use Rattle.first_match.proofs.selecting.select.Goals as goal

pub returns-in-Some : goal.returns-in-Some
returns-in-Some g c =
    let arms = c.args.m.now.arms.now in
    let v = plain_value c.args.value.now in
    let i = c.loop-arm.arm-index in
    let new = map arm_view c.tried.new.asked.items in
    let left = drop (length c.tried.new.asked.items) c.args.answers.now in
    ap (λ o. ended_or o new (select_from (From arms v (i + 1)) left)) (sym c.in-Some.is)
    ∙ one_more_arm arms v i c.arm-item.result c.loop-arm.number (map arm_view c.loop-arm.asked.items) new
    (drop (length c.loop-arm.asked.items) c.args.answers.now) left c.in_ok-ended.ended
    (select_from (tries_from 0 (map arena_arm (map plain_arm arms)) v) c.args.answers.now)
    c.loop-arm-test.true c.arm-item.is c.loop-arm.invariant.0 c.loop-arm.invariant.2 c.in_ok-ended.ensures.tries

pub loop-arm-preserved : goal.loop-arm-preserved
loop-arm-preserved g c =
    let arms = c.args.m.now.arms.now in
    let v = plain_value c.args.value.now in
    let i = c.loop-arm.arm-index in
    let new = map arm_view c.tried.new.asked.items in
    let left = drop (length c.tried.new.asked.items) c.args.answers.now in (
      omega (arith, c.loop-arm.invariant.0),
      c.in_ok-ended.ensures.within,
      ap (λ o. ended_or o new (select_from (From arms v (i + 1)) left)) (sym c.in-None.is)
          ∙ one_more_arm arms v i c.arm-item.result c.loop-arm.number (map arm_view c.loop-arm.asked.items) new
          (drop (length c.loop-arm.asked.items) c.args.answers.now) left c.in_ok-ended.ended
          (select_from (tries_from 0 (map arena_arm (map plain_arm arms)) v) c.args.answers.now)
          c.loop-arm-test.true c.arm-item.is c.loop-arm.invariant.0 c.loop-arm.invariant.2 c.in_ok-ended.ensures.tries,
    )

pub returns : goal.returns
returns g c =
    no_more_arms c.args.m.now.arms.now (plain_value c.args.value.now) c.loop-arm.arm-index (map arm_view c.loop-arm.asked.items)
    (drop (length c.loop-arm.asked.items) c.args.answers.now) _ c.loop-arm-test.false c.loop-arm.invariant.2
