use Rattle.usefulness.proofs.Writing.{then_words}
use Rattle.usefulness.proofs.telling.add_columns.Goals as goal

pub returns : goal.returns
returns g c =
    let e = then_words _ _ _ _ _ c.in_ok-put.ensures c.in_ok-add_sure.ensures in
    cc (e, c.width_of.ensures)
