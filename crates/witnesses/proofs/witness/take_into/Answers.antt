use Rattle.std.proofs.Common.{◌∙◌, ◌<◌, arith, length, length-set}
use Rattle.witnesses.specs.Views.{tops}
use Rattle.witnesses.proofs.Tops.{taken_more}
use Rattle.witnesses.proofs.witness.take_into.Goals as goal

pub loop-i-preserved : goal.loop-i-preserved
loop-i-preserved c =
    let inv = c.loop-i.invariant in
    let l : c.loop-i.i < length c.loop-i.places.items = omega (arith, c.len-i-end.ensures, c.loop-i-test.true, inv.size, c.args.places.ok.0) in
    let s = taken_more c.loop-i.places.items c.loop-i.i c.pop_top-w.result (tops c.args.open.now.items) (tops c.loop-i.open.items) (tops c.pop_top-w.new.open.items) l inv.taken inv.left c.pop_top-w.ensures in
    record { taken = s.0; left = s.1; size = length-set c.loop-i.places.items c.loop-i.i c.pop_top-w.result ∙ inv.size }
