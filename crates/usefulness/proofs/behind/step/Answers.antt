use Rattle.std.proofs.Common.{[], ◌∷◌, refl, sym, subst, ◌∙◌}
use Rattle.std.proofs.lemmas.Result.{on_ok_weaker}
use Rattle.pattern_matrix.proofs.HandingOn.{here}
use Rattle.usefulness.specs.Covering.{covered_arms}
use Rattle.usefulness.specs.Stack.{todo_view, todo_views, IsTaken}
use Rattle.usefulness.specs.States.{child_views, frame_view, is_noted, scope_of}
use Rattle.usefulness.proofs.AskedLooks.{stepped_past, stepped_behind, less_past, stepped_on, less_on}
use Rattle.usefulness.proofs.Going.{new_fit}
use Rattle.usefulness.proofs.behind.step.Goals as goal

pub look-requires-clause-fit : goal.look-requires-clause-fit
look-requires-clause-fit g c =
    let cx = c.args.cx.now in
    let IsType = g.C.PatCx.is_type cx in
    let IsValue = g.C.PatCx.is_value cx in
    let context = g.C.PatCx.context cx in
    let arms = covered_arms c.args.covered.now in
    let old = c.args.search.now in
    let entry = c.args.entry in
    let mid = record old { reached = c.next_rows.new.reached; todo = c.next_rows.new.todo } in
    let known = c.in_ok-next_rows.ensures.scope ∙ c.requires.known in
    let f = c.in-Some.frame in
    let taken =
    subst (λ z. IsTaken IsType IsValue context z (is_noted old.reached) (is_noted mid.reached) entry old.todo.items mid.todo.items (frame_view f ∷ [])) c.requires.known
    (subst (λ o. IsTaken IsType IsValue context (scope_of old.reached) (is_noted old.reached) (is_noted mid.reached) entry old.todo.items mid.todo.items (child_views o)) c.in-Some.is c.in_ok-next_rows.ensures.taken) in
    new_fit IsType IsValue context (is_noted old.reached) (is_noted mid.reached) (todo_view context entry) (todo_views context taken.back) (frame_view f ∷ []) taken.next c.requires.fit (frame_view f) (here (frame_view f) [])

pub returns-in-None-clause-stepped : goal.returns-in-None-clause-stepped
returns-in-None-clause-stepped g c =
    let cx = c.args.cx.now in
    let IsType = g.C.PatCx.is_type cx in
    let IsValue = g.C.PatCx.is_value cx in
    let context = g.C.PatCx.context cx in
    let arms = covered_arms c.args.covered.now in
    let old = c.args.search.now in
    let entry = c.args.entry in
    let mid = record old { reached = c.next_rows.new.reached; todo = c.next_rows.new.todo } in
    let known = c.in_ok-next_rows.ensures.scope ∙ c.requires.known in
    let taken =
    subst (λ z. IsTaken IsType IsValue context z (is_noted old.reached) (is_noted mid.reached) entry old.todo.items mid.todo.items []) c.requires.known
    (subst (λ o. IsTaken IsType IsValue context (scope_of old.reached) (is_noted old.reached) (is_noted mid.reached) entry old.todo.items mid.todo.items (child_views o)) c.in-None.is c.in_ok-next_rows.ensures.taken) in
    stepped_past IsType IsValue context arms old mid entry known c.requires.unmarked refl c.requires.fit [] taken refl

pub returns-in-None-clause-less : goal.returns-in-None-clause-less
returns-in-None-clause-less g c =
    let cx = c.args.cx.now in
    let IsType = g.C.PatCx.is_type cx in
    let IsValue = g.C.PatCx.is_value cx in
    let context = g.C.PatCx.context cx in
    let arms = covered_arms c.args.covered.now in
    let old = c.args.search.now in
    let entry = c.args.entry in
    let mid = record old { reached = c.next_rows.new.reached; todo = c.next_rows.new.todo } in
    let known = c.in_ok-next_rows.ensures.scope ∙ c.requires.known in
    let taken =
    subst (λ z. IsTaken IsType IsValue context z (is_noted old.reached) (is_noted mid.reached) entry old.todo.items mid.todo.items []) c.requires.known
    (subst (λ o. IsTaken IsType IsValue context (scope_of old.reached) (is_noted old.reached) (is_noted mid.reached) entry old.todo.items mid.todo.items (child_views o)) c.in-None.is c.in_ok-next_rows.ensures.taken) in
    less_past IsType IsValue context arms old mid entry known c.requires.unmarked refl c.requires.fit [] taken

pub returns-then-is_behind-clause-stepped : goal.returns-then-is_behind-clause-stepped
returns-then-is_behind-clause-stepped g c =
    let cx = c.args.cx.now in
    let IsType = g.C.PatCx.is_type cx in
    let IsValue = g.C.PatCx.is_value cx in
    let context = g.C.PatCx.context cx in
    let arms = covered_arms c.args.covered.now in
    let old = c.args.search.now in
    let entry = c.args.entry in
    let mid = record old { reached = c.next_rows.new.reached; todo = c.next_rows.new.todo } in
    let known = c.in_ok-next_rows.ensures.scope ∙ c.requires.known in
    let f = c.in-Some.frame in
    let taken =
    subst (λ z. IsTaken IsType IsValue context z (is_noted old.reached) (is_noted mid.reached) entry old.todo.items mid.todo.items (frame_view f ∷ [])) c.requires.known
    (subst (λ o. IsTaken IsType IsValue context (scope_of old.reached) (is_noted old.reached) (is_noted mid.reached) entry old.todo.items mid.todo.items (child_views o)) c.in-Some.is c.in_ok-next_rows.ensures.taken) in
    stepped_behind IsType IsValue context arms old mid entry known c.requires.unmarked refl c.requires.fit (frame_view f ∷ []) taken (sym c.is_behind.ensures ∙ c.if-is_behind.true)

pub returns-then-is_behind-clause-less : goal.returns-then-is_behind-clause-less
returns-then-is_behind-clause-less g c =
    let cx = c.args.cx.now in
    let IsType = g.C.PatCx.is_type cx in
    let IsValue = g.C.PatCx.is_value cx in
    let context = g.C.PatCx.context cx in
    let arms = covered_arms c.args.covered.now in
    let old = c.args.search.now in
    let entry = c.args.entry in
    let mid = record old { reached = c.next_rows.new.reached; todo = c.next_rows.new.todo } in
    let known = c.in_ok-next_rows.ensures.scope ∙ c.requires.known in
    let f = c.in-Some.frame in
    let taken =
    subst (λ z. IsTaken IsType IsValue context z (is_noted old.reached) (is_noted mid.reached) entry old.todo.items mid.todo.items (frame_view f ∷ [])) c.requires.known
    (subst (λ o. IsTaken IsType IsValue context (scope_of old.reached) (is_noted old.reached) (is_noted mid.reached) entry old.todo.items mid.todo.items (child_views o)) c.in-Some.is c.in_ok-next_rows.ensures.taken) in
    less_past IsType IsValue context arms old mid entry known c.requires.unmarked refl c.requires.fit (frame_view f ∷ []) taken

pub returns-else-is_behind-clause-stepped : goal.returns-else-is_behind-clause-stepped
returns-else-is_behind-clause-stepped g c =
    let cx = c.args.cx.now in
    let IsType = g.C.PatCx.is_type cx in
    let IsValue = g.C.PatCx.is_value cx in
    let context = g.C.PatCx.context cx in
    let arms = covered_arms c.args.covered.now in
    let old = c.args.search.now in
    let entry = c.args.entry in
    let mid = record old { reached = c.next_rows.new.reached; todo = c.next_rows.new.todo } in
    let known = c.in_ok-next_rows.ensures.scope ∙ c.requires.known in
    let f = c.in-Some.frame in
    let taken =
    subst (λ z. IsTaken IsType IsValue context z (is_noted old.reached) (is_noted mid.reached) entry old.todo.items mid.todo.items (frame_view f ∷ [])) c.requires.known
    (subst (λ o. IsTaken IsType IsValue context (scope_of old.reached) (is_noted old.reached) (is_noted mid.reached) entry old.todo.items mid.todo.items (child_views o)) c.in-Some.is c.in_ok-next_rows.ensures.taken) in
    let goes = sym c.is_behind.ensures ∙ c.if-is_behind.false in
    on_ok_weaker c.look.result (λ l. stepped_on IsType IsValue context arms old mid c.look.new.search entry goes c.requires.unmarked refl c.requires.fit (frame_view f) taken l) c.look.ensures

pub returns-else-is_behind-clause-less : goal.returns-else-is_behind-clause-less
returns-else-is_behind-clause-less g c =
    let cx = c.args.cx.now in
    let IsType = g.C.PatCx.is_type cx in
    let IsValue = g.C.PatCx.is_value cx in
    let context = g.C.PatCx.context cx in
    let arms = covered_arms c.args.covered.now in
    let old = c.args.search.now in
    let entry = c.args.entry in
    let mid = record old { reached = c.next_rows.new.reached; todo = c.next_rows.new.todo } in
    let known = c.in_ok-next_rows.ensures.scope ∙ c.requires.known in
    let f = c.in-Some.frame in
    let taken =
    subst (λ z. IsTaken IsType IsValue context z (is_noted old.reached) (is_noted mid.reached) entry old.todo.items mid.todo.items (frame_view f ∷ [])) c.requires.known
    (subst (λ o. IsTaken IsType IsValue context (scope_of old.reached) (is_noted old.reached) (is_noted mid.reached) entry old.todo.items mid.todo.items (child_views o)) c.in-Some.is c.in_ok-next_rows.ensures.taken) in
    let goes = sym c.is_behind.ensures ∙ c.if-is_behind.false in
    on_ok_weaker c.look.result (λ l. less_on IsType IsValue context arms old mid c.look.new.search entry goes c.requires.unmarked refl c.requires.fit (frame_view f) taken l) c.look.ensures
