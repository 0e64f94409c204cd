use Rattle.std.proofs.Common.{◌<◌, ◌≤◌, length, sym, ◌∙◌, arith}
use Rattle.arm_maker.proofs.Comparing.{second_ended, first_ended}
use Rattle.arm_maker.proofs.compare.compare_keys.Goals as goal

pub returns-then-i-second : goal.returns-then-i-second
returns-then-i-second c =
    let here : c.loop-i.i < length c.args.first.now = omega arith in
    let over : length c.args.second.now ≤ c.loop-i.i = omega arith in
    sym (second_ended c.args.first.now c.args.second.now c.loop-i.i here over) ∙ c.loop-i.invariant.0

pub returns-then-first-second : goal.returns-then-first-second
returns-then-first-second c =
    let inv = c.loop-i.invariant.2 in
    let over : length c.args.first.now ≤ c.loop-i.i = omega arith in
    let here : c.loop-i.i < length c.args.second.now = omega arith in
    sym (first_ended c.args.first.now c.args.second.now c.loop-i.i over here) ∙ c.loop-i.invariant.0
