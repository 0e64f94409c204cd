use Rattle.std.proofs.Common.{Some, None, ◌∙◌}
use Rattle.keyed_matrix.specs.Views.{plain_row}
use Rattle.keyed_matrix.proofs.RowSteps.{was-head}
use Rattle.keyed_matrix.proofs.InColumn.{wild-none, wild-some}
use Rattle.keyed_matrix.proofs.looking.is_wild_at.Goals as goal

pub returns-in-None : goal.returns-in-None
returns-in-None g c =
    wild-none c.args.row.now c.args.i (was-head (plain_row c.args.row.now).heads c.args.i c.head_at.result None c.head_at.ensures c.in-None.is)

pub returns-in-Some : goal.returns-in-Some
returns-in-Some g c =
    c.is_wild.ensures
    ∙ wild-some c.args.row.now c.args.i c.in-Some.p
    (was-head (plain_row c.args.row.now).heads c.args.i c.head_at.result (Some c.in-Some.p) c.head_at.ensures c.in-Some.is)
