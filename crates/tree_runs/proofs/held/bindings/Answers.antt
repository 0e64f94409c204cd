use Rattle.std.proofs.Common.{◌∙◌, ap, map}
use Rattle.match_model.specs.Trees.{bindings_in}
use Rattle.tree_eval.specs.Views.{plain_value}
use Rattle.tree_runs.specs.Held.{plain_held}
use Rattle.tree_runs.proofs.Ordered.{reversed_back}
use Rattle.tree_runs.proofs.held.bindings.Goals as goal

pub returns : goal.returns
returns c =
    ap (map plain_held) c.reverse.ensures.items ∙ reversed_back c.in_ok-all.all.items ∙ c.in_ok-all.ensures
    ∙ ap (bindings_in (plain_value c.args.value.now)) c.binds_at.ensures
