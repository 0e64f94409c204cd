use Rattle.usefulness.proofs.Writing.{then_words, uid_is}
use Rattle.usefulness.proofs.telling.add_head.Goals as goal

pub returns : goal.returns
returns g c =
    let e = then_words _ _ _ _ _ c.in_ok-put.ensures c.in_ok-put-2.ensures in
    let u = uid_is c.args.head.now.pat.now in
    cc (e, u, c.place_at.ensures)
