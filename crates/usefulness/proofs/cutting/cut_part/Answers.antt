use Rattle.std.proofs.Common.{◌≡◌, ◌+◌, sym, ◌∙◌, arith}
use Rattle.usefulness.specs.States.{is_noted}
use Rattle.usefulness.specs.Cutting.{parts_left}
use Rattle.usefulness.proofs.Cuts.{one_have, one_enough}
use Rattle.usefulness.proofs.Trims.{part_empty, halves_cut, halves_left, less_out, less_halved, none_left}
use Rattle.usefulness.proofs.cutting.cut_part.Goals as goal

pub returns-then-is_empty-clause-cut : goal.returns-then-is_empty-clause-cut
returns-then-is_empty-clause-cut g c =
    part_empty c.args.missing c.args.a.now c.args.spans.now (is_noted c.args.reached.now) c.args.part c.in_ok-leaves.leaves.items (parts_left c.args.todo.now.items) c.in_ok-leaves.ensures
    (none_left c.in_ok-leaves.leaves.items c.in_ok-leaves.leaves.len (sym c.in_ok-leaves.leaves.ok.0) (sym c.is_empty.ensures ∙ c.if-is_empty.true)) c.requires.part.some

pub returns-then-is_empty-clause-less : goal.returns-then-is_empty-clause-less
returns-then-is_empty-clause-less g c = less_out c.args.todo.now.items c.args.part c.requires.part.some

pub returns-then-first-end-clause-cut : goal.returns-then-first-end-clause-cut
returns-then-first-end-clause-cut g c =
    halves_left c.args.missing c.args.a.now c.args.spans.now (is_noted c.args.reached.now) c.args.part c.in_ok-leaves.leaves.items c.args.todo.now.items c.add_halves.new.todo.items c.in_ok-add_halves.ensures

pub returns-then-first-end-clause-others : goal.returns-then-first-end-clause-others
returns-then-first-end-clause-others g c =
    halves_cut c.args.missing c.args.a.now c.args.spans.now (is_noted c.args.reached.now) c.args.part c.in_ok-leaves.leaves.items c.args.todo.now.items c.add_halves.new.todo.items c.in_ok-leaves.ensures c.in_ok-add_halves.ensures

pub returns-then-first-end-clause-less : goal.returns-then-first-end-clause-less
returns-then-first-end-clause-less g c = less_halved c.args.todo.now.items c.add_halves.new.todo.items c.args.part c.in_ok-leaves.leaves.items c.in_ok-add_halves.ensures

pub returns-clause-enough : goal.returns-clause-enough
returns-clause-enough g c =
    let p = c.args.part in
    let some = c.requires.part.some in
    let one : p.first + 1 ≡ p.end = omega (arith, some, c.if-first-end.false) in
    let kept = c.in_ok-leaves.leaves.items in
    one_enough c.args.missing c.args.a.now c.args.spans.now (is_noted c.args.reached.now) p kept one (one_have c.args.missing c.args.a.now c.args.spans.now p.first p.end kept one c.in_ok-leaves.ensures.met)
    c.in_ok-leaves.ensures.enough

pub returns-clause-less : goal.returns-clause-less
returns-clause-less g c = less_out c.args.todo.now.items c.args.part c.requires.part.some
