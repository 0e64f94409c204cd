use Rattle.pat_context.specs.Views.{plain_place, is_sure}
use Rattle.decision_tree.specs.KnownViews.{plain_known_columns}
use Rattle.decision_tree.proofs.KnownColumns.{one-column}
use Rattle.decision_tree.proofs.Longer.{one-more}
use Rattle.decision_tree.proofs.tells.push_column.Goals as goal

pub returns : goal.returns
returns g c =
    let column = c.args.column.now in
    one-more plain_known_columns _ _ _ _ c.in_ok-push.ensures.items
    (one-column (plain_place column.place.now) (is_sure column.validity))
