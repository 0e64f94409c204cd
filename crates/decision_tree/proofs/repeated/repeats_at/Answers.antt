use Rattle.keyed_matrix.specs.Views.{plain_row}
use Rattle.decision_tree.proofs.RowAmong.{row-among}
use Rattle.decision_tree.proofs.repeated.repeats_at.Goals as goal

pub returns-in-Some-get : goal.returns-in-Some-get
returns-in-Some-get g c = λ e.
    let first = c.in-Some-get.first.now in
    let lookup = c.in-Some-get.ensures.lookup in (
      plain_row first,
      row-among c.args.left.now c.in-Some.at.now first lookup.0 lookup.1,
      c.is_repeated.ensures e,
    )
