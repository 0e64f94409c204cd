use Rattle.std.proofs.Common.{map, sym, ap, ◌∙◌, Some}
use Rattle.pattern_arena.specs.Trees.{plain_arm}
use Rattle.pattern_lints.proofs.EndList.{mapped-at, mapped-below}
use Rattle.pattern_lints.proofs.HullLaws.{arms-none, arms-more, arms-all}
use Rattle.pattern_lints.proofs.hulls.find_hulls.Goals as goal

pub loop-arm-init : goal.loop-arm-init
loop-arm-init g c = arms-none c.no_hulls-hulls.result (map plain_arm c.args.arms.now)

pub loop-arm-preserved : goal.loop-arm-preserved
loop-arm-preserved g c =
    let arms = c.args.arms.now in
    let i = c.loop-arm.arm-index in
    let arm = c.arm-item.result in
    let there = mapped-at plain_arm arms i arm c.loop-arm-test.true ∙ ap (λ a. Some (plain_arm a)) (sym c.arm-item.is) in
    arms-more c.loop-arm.hulls c.note_in.new.hulls (map plain_arm arms) i (plain_arm arm) there c.in_ok-note_in.ensures.widens c.loop-arm.invariant c.in_ok-note_in.ensures.known

pub returns : goal.returns
returns g c =
    let arms = c.args.arms.now in
    arms-all c.loop-arm.hulls (map plain_arm arms) c.loop-arm.arm-index (mapped-below plain_arm arms c.loop-arm.arm-index c.loop-arm-test.false) c.loop-arm.invariant
