use Rattle.usefulness.proofs.Writing.{row_written}
use Rattle.usefulness.proofs.telling.add_row.Goals as goal

pub returns : goal.returns
returns g c =
    let e = row_written _ _ _ _ _ _ _ _ _ c.in_ok-add_count_and_heads.ensures c.in_ok-add_flags.ensures c.in_ok-add_wanted.ensures in
    cc (e, c.as_slice.ensures)
