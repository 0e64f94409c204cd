use Rattle.std.proofs.Common.{[], ◌∷◌, sym, subst}
use Rattle.std.proofs.lemmas.Result.{on_ok_weaker}
use Rattle.pattern_matrix.proofs.HandingOn.{here}
use Rattle.usefulness.specs.Memo.{memo_of}
use Rattle.usefulness.specs.Stack.{IsOpened, IsTaken, opened_views, todo_view, todo_views}
use Rattle.usefulness.specs.States.{child_views, frame_view, is_noted, scope_of}
use Rattle.usefulness.specs.Told.{IsPinned, IsStep}
use Rattle.usefulness.proofs.Going.{new_fit, goes_past, less_past, goes_on, less_on}
use Rattle.usefulness.proofs.search.step.Goals as goal

pub look_at-requires-clause-fit : goal.look_at-requires-clause-fit
look_at-requires-clause-fit g c =
    let cx = c.args.cx.now in
    let IsType = g.C.PatCx.is_type cx in
    let IsValue = g.C.PatCx.is_value cx in
    let context = g.C.PatCx.context cx in
    let scope = scope_of c.args.reached.now in
    let old = c.args.reached.now in
    let mid = c.next_rows.new.reached in
    let memo = memo_of c.args.told.now in
    let before = c.args.todo.now.items in
    let entry = c.args.entry in
    let after = c.next_rows.new.todo.items in
    let f = c.in-Some.frame in
    let taken = subst (λ o. IsTaken IsType IsValue context scope (is_noted old) (is_noted mid) entry before after (child_views o)) c.in-Some.is c.in_ok-next_rows.ensures.taken in
    new_fit IsType IsValue context (is_noted old) (is_noted mid) (todo_view context entry) (todo_views context taken.back) (frame_view f ∷ []) taken.next c.requires.fit (frame_view f) (here (frame_view f) [])

pub look_at-requires-clause-pinned : goal.look_at-requires-clause-pinned
look_at-requires-clause-pinned g c = subst IsPinned (sym c.in_ok-next_rows.ensures.scope) c.requires.pinned

pub returns-in-None-clause-going : goal.returns-in-None-clause-going
returns-in-None-clause-going g c = λ first going.
    let cx = c.args.cx.now in
    let IsType = g.C.PatCx.is_type cx in
    let IsValue = g.C.PatCx.is_value cx in
    let context = g.C.PatCx.context cx in
    let scope = scope_of c.args.reached.now in
    let old = c.args.reached.now in
    let mid = c.next_rows.new.reached in
    let memo = memo_of c.args.told.now in
    let before = c.args.todo.now.items in
    let entry = c.args.entry in
    let after = c.next_rows.new.todo.items in
    let taken = subst (λ o. IsTaken IsType IsValue context scope (is_noted old) (is_noted mid) entry before after (child_views o)) c.in-None.is c.in_ok-next_rows.ensures.taken in
    goes_past IsType IsValue context scope old memo before entry mid after first taken c.in_ok-next_rows.ensures.scope going

pub returns-in-None-clause-less : goal.returns-in-None-clause-less
returns-in-None-clause-less g c =
    let cx = c.args.cx.now in
    let IsType = g.C.PatCx.is_type cx in
    let IsValue = g.C.PatCx.is_value cx in
    let context = g.C.PatCx.context cx in
    let scope = scope_of c.args.reached.now in
    let old = c.args.reached.now in
    let mid = c.next_rows.new.reached in
    let memo = memo_of c.args.told.now in
    let before = c.args.todo.now.items in
    let entry = c.args.entry in
    let after = c.next_rows.new.todo.items in
    let taken = subst (λ o. IsTaken IsType IsValue context scope (is_noted old) (is_noted mid) entry before after (child_views o)) c.in-None.is c.in_ok-next_rows.ensures.taken in
    less_past IsType IsValue context scope old memo before entry mid after taken

pub returns-in_ok-opened-in-Some-clause-going : goal.returns-in_ok-opened-in-Some-clause-going
returns-in_ok-opened-in-Some-clause-going g c =
    let cx = c.args.cx.now in
    let IsType = g.C.PatCx.is_type cx in
    let IsValue = g.C.PatCx.is_value cx in
    let context = g.C.PatCx.context cx in
    let scope = scope_of c.args.reached.now in
    let old = c.args.reached.now in
    let mid = c.next_rows.new.reached in
    let memo = memo_of c.args.told.now in
    let before = c.args.todo.now.items in
    let entry = c.args.entry in
    let after = c.next_rows.new.todo.items in
    let f = c.in-Some.frame in
    let taken = subst (λ o. IsTaken IsType IsValue context scope (is_noted old) (is_noted mid) entry before after (child_views o)) c.in-Some.is c.in_ok-next_rows.ensures.taken in
    let now = c.look_at.new.reached in
    let o = c.in_ok-opened-in-Some.opened in
    let same = c.in_ok-next_rows.ensures.scope in
    let opened = subst (λ z. IsOpened IsType IsValue context z (is_noted now) o) same c.in_ok-opened-in-Some.ensures.good in
    let last = c.add_opened.new.todo.items in
    on_ok_weaker c.add_opened.result
    (λ e first going.
    goes_on IsType IsValue context scope old memo before entry mid after f taken now o opened last e first (memo_of c.keep_count.new.told) same c.in_ok-opened-in-Some.ensures.scope c.in_ok-opened-in-Some.ensures.grow
    (subst (λ ks. IsStep IsType IsValue context scope (is_noted mid) (is_noted now) (frame_view f) (opened_views context o) memo ks) (sym c.keep_count.ensures)
    (subst (λ z. IsStep IsType IsValue context z (is_noted mid) (is_noted now) (frame_view f) (opened_views context o) memo (memo_of c.look_at.new.told)) same c.in_ok-opened-in-Some.ensures.stepped)) going)
    c.add_opened.ensures

pub returns-in_ok-opened-in-Some-clause-less : goal.returns-in_ok-opened-in-Some-clause-less
returns-in_ok-opened-in-Some-clause-less g c =
    let cx = c.args.cx.now in
    let IsType = g.C.PatCx.is_type cx in
    let IsValue = g.C.PatCx.is_value cx in
    let context = g.C.PatCx.context cx in
    let scope = scope_of c.args.reached.now in
    let old = c.args.reached.now in
    let mid = c.next_rows.new.reached in
    let memo = memo_of c.args.told.now in
    let before = c.args.todo.now.items in
    let entry = c.args.entry in
    let after = c.next_rows.new.todo.items in
    let f = c.in-Some.frame in
    let taken = subst (λ o. IsTaken IsType IsValue context scope (is_noted old) (is_noted mid) entry before after (child_views o)) c.in-Some.is c.in_ok-next_rows.ensures.taken in
    let now = c.look_at.new.reached in
    let o = c.in_ok-opened-in-Some.opened in
    let same = c.in_ok-next_rows.ensures.scope in
    let opened = subst (λ z. IsOpened IsType IsValue context z (is_noted now) o) same c.in_ok-opened-in-Some.ensures.good in
    let last = c.add_opened.new.todo.items in
    on_ok_weaker c.add_opened.result
    (λ e. less_on IsType IsValue context scope old memo before entry mid after f taken now o opened last e c.in_ok-opened-in-Some.ensures.lighter)
    c.add_opened.ensures
