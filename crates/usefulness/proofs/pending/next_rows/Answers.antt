use Rattle.std.proofs.Common.{[], ◌∷◌, refl, sym, subst}
use Rattle.usefulness.specs.Stack.{IsPending, IsPut, IsTaken, pending_views}
use Rattle.usefulness.specs.States.{child_views, frame_view, is_noted, scope_of}
use Rattle.usefulness.proofs.Looking.{itself_listed}
use Rattle.usefulness.proofs.Stacking.{rows_taken, pieces_taken}
use Rattle.usefulness.proofs.pending.next_rows.Goals as goal

pub returns-in-Rows-clause-taken : goal.returns-in-Rows-clause-taken
returns-in-Rows-clause-taken g c =
    let cx = c.args.cx.now in
    let IsType = g.C.PatCx.is_type cx in
    let IsValue = g.C.PatCx.is_value cx in
    let context = g.C.PatCx.context cx in
    let scope = scope_of c.args.reached.now in
    let old = is_noted c.args.reached.now in
    let frame = c.in-Rows.frame in
    let todo = c.args.todo.now.items in
    subst (λ e. IsTaken IsType IsValue context scope old old e todo todo (frame_view frame ∷ [])) (sym c.in-Rows.is)
    (rows_taken IsType IsValue context scope old old frame todo todo (frame_view frame ∷ []) (itself_listed IsValue old (frame_view frame)) refl)

pub add_rest-requires : goal.add_rest-requires
add_rest-requires g c =
    let cx = c.args.cx.now in
    let now = is_noted c.next_child.new.reached in
    subst (λ n. IsPending (g.C.PatCx.is_type cx) (g.C.PatCx.is_value cx) (g.C.PatCx.context cx) n now c.next_child.new.p) (sym c.in_ok-child-in-Pieces.ensures.scope) c.in_ok-child-in-Pieces.ensures.pending

pub returns-in_ok-add_rest-in-Pieces-clause-taken : goal.returns-in_ok-add_rest-in-Pieces-clause-taken
returns-in_ok-add_rest-in-Pieces-clause-taken g c =
    let cx = c.args.cx.now in
    let IsType = g.C.PatCx.is_type cx in
    let IsValue = g.C.PatCx.is_value cx in
    let context = g.C.PatCx.context cx in
    let scope = scope_of c.args.reached.now in
    let old = is_noted c.args.reached.now in
    let between = is_noted c.next_child.new.reached in
    let now = is_noted c.add_rest.new.reached in
    let todo = c.args.todo.now.items in
    let after = c.add_rest.new.todo.items in
    let new = child_views c.in_ok-child-in-Pieces.child in
    let p = c.in-Pieces.p in
    let q = c.next_child.new.p in
    subst (λ e. IsTaken IsType IsValue context scope old now e todo after new) (sym c.in-Pieces.is)
    (pieces_taken IsType IsValue context scope old between now p q todo after new c.in_ok-child-in-Pieces.ensures.next
    (subst (λ n. IsPut IsType IsValue context n between now (pending_views context q) todo after) c.in_ok-child-in-Pieces.ensures.scope c.in_ok-add_rest-in-Pieces.ensures.put))
