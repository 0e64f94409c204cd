use Rattle.std.proofs.Common.{◌∙◌, sym, map}
use Rattle.tree_eval.specs.Views.{plain_value}
use Rattle.tree_runs.proofs.Entered.{front_entered, back_entered, middle_entered}
use Rattle.tree_runs.proofs.part.step_into_row.Goals as goal

pub returns-in-Front : goal.returns-in-Front
returns-in-Front c = rw c.in-Front.is
    (c.item_at.ensures ∙ sym (front_entered c.in-Front.i (map plain_value c.args.items.now)))

pub returns-in-Back : goal.returns-in-Back
returns-in-Back c = rw c.in-Back.is
    (c.item_from_back.ensures ∙ sym (back_entered c.in-Back.i (map plain_value c.args.items.now)))

pub returns-in-Middle : goal.returns-in-Middle
returns-in-Middle c =
    rw c.in-Middle.is
    (c.items_between.ensures
    ∙ sym (middle_entered c.in-Middle.front c.in-Middle.back (map plain_value c.args.items.now)))
