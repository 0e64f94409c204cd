use Rattle.usefulness.proofs.Writing.{then_words}
use Rattle.usefulness.proofs.telling.add_flags.Goals as goal

pub returns : goal.returns
returns g c =
    let e = then_words _ _ _ _ _ c.in_ok-put.ensures c.in_ok-put-2.ensures in
    cc (e, c.bit.ensures, c.bit-2.ensures)
