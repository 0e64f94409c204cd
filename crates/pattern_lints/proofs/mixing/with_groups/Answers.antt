use Rattle.std.proofs.Common.{◌≡◌, ℤ, List, true, take, sym, subst}
use Rattle.std.specs.Prelude.{pos}
use Rattle.std.proofs.lemmas.List.{take_all}
use Rattle.match_model.specs.Numbers.{MRange, in_range}
use Rattle.range_split.specs.Ranges.{plain_range}
use Rattle.pattern_lints.specs.declared.beside.Column.{Column}
use Rattle.pattern_lints.specs.declared.mixing.Group.{Group}
use Rattle.pattern_lints.specs.Mixing.{mixed, with_digits_of}
use Rattle.pattern_lints.proofs.BesideLaws.{in-itself}
use Rattle.pattern_lints.proofs.Mixed.{digits-next}
use Rattle.pattern_lints.proofs.mixing.with_groups.Goals as goal

pub loop-group-init : goal.loop-group-init
loop-group-init g c = λ k n h. h

pub loop-group-preserved : goal.loop-group-preserved
loop-group-preserved g c = λ k n h v position at s m.
    let i = c.loop-group.group-index in
    let group = c.group-item.result in
    let groups = c.args.groups.now in
    let r = plain_range c.numbers_with-numbers.result in
    let before = with_digits_of (n position v) (take i groups) position v in
    let none = subst (λ (q : MRange). in_range q (pos 0) ≡ true) (sym c.one_number.ensures) (in-itself (pos 0)) in
    let more = subst (λ (cs : List Column). in_range (plain_range c.mixed_with-further.result) (mixed cs position v) ≡ true) c.deref.ensures.value
    (c.mixed_with-further.ensures k (λ place w. pos 0) (λ w place a t o. none) v position at s m) in
    subst (λ (x : ℤ). in_range r x ≡ true) (sym (digits-next (n position v) groups i group position v c.loop-group-test.true c.group-item.is))
    (c.numbers_with-numbers.ensures before (mixed group.columns.items position v) (c.loop-group.invariant k n h v position at s m) more)

pub returns : goal.returns
returns g c = λ k n h v position at s m.
    subst (λ (gs : List Group). in_range (plain_range c.loop-group.numbers) (with_digits_of (n position v) gs position v) ≡ true)
    (take_all c.loop-group.group-index c.args.groups.now c.loop-group-test.false) (c.loop-group.invariant k n h v position at s m)
