use Rattle.std.proofs.Common.{◌∙◌, ap, refl, arith, get_or}
use Rattle.explain_lines.specs.Steps.{next_spot}
use Rattle.explain_lines.proofs.LineSteps.{spot_fits, spot_more}
use Rattle.explain_lines.proofs.spots.advance.Goals as goal

pub step-spot-requires-clause-line : goal.step-spot-requires-clause-line
step-spot-requires-clause-line c =
    let fits = spot_fits c.args.text.now c.loop-i.spot c.loop-i.i c.loop-i.invariant (omega arith) in
    omega (arith, fits.at, fits.line)

pub step-spot-requires-clause-column : goal.step-spot-requires-clause-column
step-spot-requires-clause-column c =
    let fits = spot_fits c.args.text.now c.loop-i.spot c.loop-i.i c.loop-i.invariant (omega arith) in
    omega (arith, fits.at, fits.column)

pub step-spot-requires-clause-room : goal.step-spot-requires-clause-room
step-spot-requires-clause-room c =
    let fits = spot_fits c.args.text.now c.loop-i.spot c.loop-i.i c.loop-i.invariant (omega arith) in
    omega (arith, fits.at)

pub loop-i-preserved : goal.loop-i-preserved
loop-i-preserved c =
    c.step-spot.ensures ∙ ap (λ s. next_spot s (get_or c.args.text.now c.loop-i.i 0)) c.loop-i.invariant
    ∙ spot_more c.args.text.now c.loop-i.i (get_or c.args.text.now c.loop-i.i 0) (omega arith) refl
