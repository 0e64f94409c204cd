use Rattle.std.proofs.Common.{◌≡◌, ℤ, List, true, take, sym, subst}
use Rattle.std.proofs.lemmas.List.{take_all}
use Rattle.match_model.specs.Numbers.{in_range}
use Rattle.range_split.specs.Ranges.{plain_range}
use Rattle.pattern_lints.specs.declared.beside.Column.{Column}
use Rattle.pattern_lints.specs.Beside.{number_beside}
use Rattle.pattern_lints.specs.Mixing.{mixed_with}
use Rattle.pattern_lints.proofs.Mixed.{mixed-next}
use Rattle.pattern_lints.proofs.mixing.mixed_with.Goals as goal

pub loop-column-init : goal.loop-column-init
loop-column-init g c = λ k n h. h

pub loop-column-preserved : goal.loop-column-preserved
loop-column-preserved g c = λ k n h v position at s m.
    let i = c.loop-column.column-index in
    let column = c.column-item.result in
    let others = c.args.others.now in
    let r = plain_range c.mixed_numbers-numbers.result in
    let before = mixed_with (n position v) (take i others) position v in
    let more = subst (λ steps. in_range (plain_range c.numbers_beside-more.result) (number_beside column.depth steps position v) ≡ true) c.deref.ensures.value (c.numbers_beside-more.ensures k v position at s m) in
    subst (λ (x : ℤ). in_range r x ≡ true) (sym (mixed-next (n position v) others i column position v c.loop-column-test.true c.column-item.is))
    (c.mixed_numbers-numbers.ensures before (number_beside column.depth column.steps.items position v) (c.loop-column.invariant k n h v position at s m) more)

pub returns : goal.returns
returns g c = λ k n h v position at s m.
    subst (λ (cs : List Column). in_range (plain_range c.loop-column.numbers) (mixed_with (n position v) cs position v) ≡ true)
    (take_all c.loop-column.column-index c.args.others.now c.loop-column-test.false) (c.loop-column.invariant k n h v position at s m)
