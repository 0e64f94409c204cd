use Rattle.std.proofs.Common.{ap, refl}
use Rattle.witness_search.specs.declared.opened.Opened.{Opened}
use Rattle.witness_search.proofs.search.put_frame.Goals as goal

pub returns : goal.returns
returns g c =
    let e = c.args.e in (
      record { rows = e.rows; place = c.in_ok-place.place; next = e.next; leaves = e.leaves; stage = c.args.stage },
      c.in_ok-push.ensures.items,
      ap (λ (p : Opened g.row.T.Denot). record { rows = e.rows; place = p; next = e.next; leaves = e.leaves }) c.in_ok-place.ensures.ok,
      refl,
    )
