use Rattle.std.proofs.Common.{refl}
use Rattle.std.proofs.lemmas.Result.{on_ok_weaker}
use Rattle.usefulness.specs.States.{is_noted, scope_of}
use Rattle.usefulness.proofs.Stacking.{column_put, rows_put}
use Rattle.usefulness.proofs.Steps.{on_ok_held}
use Rattle.usefulness.proofs.pending.add_rest.Goals as goal

pub returns-in_ok-add_pending-clause-scope : goal.returns-in_ok-add_pending-clause-scope
returns-in_ok-add_pending-clause-scope g c = on_ok_held c.add_rows.result c.in_ok-child.ensures.scope

pub returns-in_ok-add_pending-clause-put : goal.returns-in_ok-add_pending-clause-put
returns-in_ok-add_pending-clause-put g c =
    let cx = c.args.cx.now in
    let entered = c.in_ok-child.ensures in
    on_ok_weaker c.add_rows.result
    (rows_put (g.C.PatCx.is_type cx) (g.C.PatCx.is_value cx) (g.C.PatCx.context cx) (scope_of c.args.reached.now) (is_noted c.args.reached.now) (is_noted c.next_child.new.reached)
    c.args.p c.next_child.new.p c.in_ok-child.child c.args.todo.now.items c.add_pending.new.todo.items c.add_rows.new.todo.items
    entered.next entered.pending entered.good c.in_ok-add_pending.ensures)
    c.add_rows.ensures

pub returns-else-is_small_rest-clause-scope : goal.returns-else-is_small_rest-clause-scope
returns-else-is_small_rest-clause-scope g c = on_ok_held c.add_pending-else-is_small_rest.result refl

pub returns-else-is_small_rest-clause-put : goal.returns-else-is_small_rest-clause-put
returns-else-is_small_rest-clause-put g c =
    let cx = c.args.cx.now in
    on_ok_weaker c.add_pending-else-is_small_rest.result
    (column_put (g.C.PatCx.is_type cx) (g.C.PatCx.is_value cx) (g.C.PatCx.context cx) (scope_of c.args.reached.now) (is_noted c.args.reached.now)
    c.args.p c.args.todo.now.items c.add_pending-else-is_small_rest.new.todo.items c.requires)
    c.add_pending-else-is_small_rest.ensures
