use Rattle.std.proofs.Common.{◌-◌, length, slice_index_or, arith}
use Rattle.keyed_matrix.specs.declared.keys.Decided.{Decided}
use Rattle.keyed_matrix.proofs.Putting.{above-none, above-all, is-less}
use Rattle.keyed_matrix.proofs.keys.is_above.Goals as goal

pub returns-then-count-eq0 : goal.returns-then-count-eq0
returns-then-count-eq0 c = λ h. above-none c.args.key.now c.args.number c.if-count-eq0.true

pub returns : goal.returns
returns c = λ h.
    let xs = c.args.key.now in
    let k = length xs - 1 in
    let blank : Decided = record { number = 0; alternative = 0 } in
    let some = c.if-count-eq0.false in
    above-all xs k c.args.number blank (omega (arith, some))
    (is-less (slice_index_or xs k blank).number c.args.number h) c.requires
