use Rattle.std.proofs.Common.{Some, None, map, drop, ap}
use Rattle.std.specs.Option.{option_to_list}
use Rattle.match_model.specs.Rows.{first_ctor, ctor_unless_wild}
use Rattle.pat_context.specs.Views.{plain_ctor}
use Rattle.pattern_arena.specs.Trees.{placed_ctor}
use Rattle.keyed_matrix.specs.Views.{plain_row}
use Rattle.keyed_matrix.proofs.RowSteps.{was-head, on-rows}
use Rattle.keyed_matrix.proofs.InColumn.{ctor-none, ctor-some}
use Rattle.keyed_matrix.proofs.looking.add_ctor.Goals as goal

pub returns-in-None : goal.returns-in-None
returns-in-None g c =
    ctor-none c.args.row.now c.args.i (map plain_ctor c.args.ctors.now.items)
    (was-head (plain_row c.args.row.now).heads c.args.i c.head_at.result None c.head_at.ensures c.in-None.is)

pub returns-in-Some : goal.returns-in-Some
returns-in-Some g c =
    on-rows c.add_unless_wild.result (map plain_ctor c.add_unless_wild.new.ctors.items) (map plain_ctor c.args.ctors.now.items)
    (option_to_list (ctor_unless_wild (placed_ctor c.in-Some.p.now))) (option_to_list (first_ctor (drop c.args.i (plain_row c.args.row.now).heads)))
    (ap option_to_list (ctor-some c.args.row.now c.args.i c.in-Some.p
    (was-head (plain_row c.args.row.now).heads c.args.i c.head_at.result (Some c.in-Some.p) c.head_at.ensures c.in-Some.is)))
    c.add_unless_wild.ensures
