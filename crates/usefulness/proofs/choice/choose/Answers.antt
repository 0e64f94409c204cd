use Rattle.std.proofs.Common.{◌≡◌, ◌<◌, get_or, length, subst}
use Rattle.usefulness.specs.States.{plain_askeds, IsChosen, ListsHeads}
use Rattle.usefulness.proofs.Choosing.{chosen_at}
use Rattle.usefulness.proofs.choice.choose.Goals as goal

pub returns : goal.returns
returns g c =
    let rows = c.args.frame.now.rows.items in
    let x = c.index.result.now in
    let h = c.index-heads-place.result in
    let k = c.in_ok-place.place in
    let there = subst (ListsHeads c.shortest-best.result) c.deref.ensures.value c.shortest-best.ensures in
    subst (λ z. IsChosen z.column (plain_askeds rows)) c.index-heads-place.is
    (chosen_at rows c.shortest-best.result x k h there.0 c.index.ensures (subst (λ hs. k < length hs) c.as_slice-heads.ensures c.in_ok-place.ensures)
    (subst (λ hs. h ≡ get_or hs k h) c.as_slice-heads.ensures c.index-heads-place.is))
