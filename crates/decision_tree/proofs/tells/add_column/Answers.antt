use Rattle.std.proofs.Common.{◌∙◌}
use Rattle.keyed_matrix.specs.Views.{plain_column}
use Rattle.decision_tree.specs.Known.{known_column}
use Rattle.decision_tree.specs.KnownViews.{plain_known_columns}
use Rattle.decision_tree.proofs.Longer.{last-longer}
use Rattle.decision_tree.proofs.tells.add_column.Goals as goal

pub returns-in_ok-push-in-Some-pop : goal.returns-in_ok-push-in-Some-pop
returns-in_ok-push-in-Some-pop g c =
    let all = c.args.all.now.items in
    let before = c.pop.new.self.items in
    let last = c.in-Some-pop._last in
    last-longer plain_known_columns all before c.push.new.self.items last c.in-Some.columns
    (known_column (plain_column c.args.column.now)) c.in-Some-pop.ensures.items
    (c.in-Some.ensures before last (c.deref.ensures.value ∙ c.in-Some-pop.ensures.items))
    c.in_ok-push-in-Some-pop.ensures.items
