use Rattle.std.proofs.Common.{◌<◌, ◌^◌, [], ◌∷◌, ◌++◌, sym, subst, arith}
use Rattle.pattern_arena.specs.Trees.{plain_match}
use Rattle.pattern_matrix.specs.Searching.{work, IsSearch, first_submatrix}
use Rattle.usefulness.specs.Memo.{memo_of}
use Rattle.usefulness.specs.Children.{bare_sub}
use Rattle.usefulness.specs.Scope.{scope_for}
use Rattle.usefulness.specs.Stack.{IsGoing, IsTodo, todo_views}
use Rattle.usefulness.specs.States.{is_noted}
use Rattle.usefulness.specs.Told.{IsPinned}
use Rattle.usefulness.proofs.Beginning.{search_ends}
use Rattle.usefulness.proofs.FirstRows.{none_long}
use Rattle.usefulness.proofs.Pinned.{pinned_by}
use Rattle.usefulness.proofs.Going.{entry_fits, entry_good}
use Rattle.usefulness.proofs.search.search.Goals as goal

pub loop-entry-init : goal.loop-entry-init
loop-entry-init g c = c.in_ok-todo.ensures

pub step-requires-clause-good : goal.step-requires-clause-good
step-requires-clause-good g c =
    let cx = c.args.cx.now in
    let IsType = g.C.PatCx.is_type cx in
    let IsValue = g.C.PatCx.is_value cx in
    let context = g.C.PatCx.context cx in
    let first = bare_sub (first_submatrix (plain_match c.args.m.now)) in
    let scope = scope_for (plain_match c.args.m.now).arms in
    let loop = c.loop-entry in
    let entry = c.in-Some.entry in
    subst (λ z. IsTodo IsType IsValue context z (is_noted loop.reached) entry) (sym loop.invariant.known)
    (entry_good IsType IsValue context scope first loop.reached (memo_of loop.told) loop.todo.items c.pop.new.self.items entry c.in-Some.ensures.items loop.invariant)

pub step-requires-clause-fit : goal.step-requires-clause-fit
step-requires-clause-fit g c =
    let cx = c.args.cx.now in
    let IsType = g.C.PatCx.is_type cx in
    let IsValue = g.C.PatCx.is_value cx in
    let context = g.C.PatCx.context cx in
    let first = bare_sub (first_submatrix (plain_match c.args.m.now)) in
    let scope = scope_for (plain_match c.args.m.now).arms in
    let loop = c.loop-entry in
    let entry = c.in-Some.entry in
    entry_fits IsType IsValue context scope first loop.reached (memo_of loop.told) loop.todo.items c.pop.new.self.items entry c.in-Some.ensures.items loop.invariant

pub step-requires-clause-pinned : goal.step-requires-clause-pinned
step-requires-clause-pinned g c = subst IsPinned (sym c.loop-entry.invariant.known) (pinned_by (plain_match c.args.m.now).arms c.requires.typed.uids)

pub loop-entry-preserved : goal.loop-entry-preserved
loop-entry-preserved g c =
    let cx = c.args.cx.now in
    let IsType = g.C.PatCx.is_type cx in
    let IsValue = g.C.PatCx.is_value cx in
    let context = g.C.PatCx.context cx in
    let first = bare_sub (first_submatrix (plain_match c.args.m.now)) in
    let scope = scope_for (plain_match c.args.m.now).arms in
    let loop = c.loop-entry in
    let entry = c.in-Some.entry in
    let popped = c.pop.new.self.items in
    subst (λ z. IsGoing IsType IsValue context first z c.step.new.reached (memo_of c.step.new.told) c.step.new.todo.items) loop.invariant.known
    (c.in_ok-step.ensures.going first
    (subst (λ z. IsGoing IsType IsValue context first z loop.reached (memo_of loop.told) (popped ++ entry ∷ [])) (sym loop.invariant.known)
    (subst (IsGoing IsType IsValue context first scope loop.reached (memo_of loop.told)) c.in-Some.ensures.items loop.invariant)))

pub loop-entry-smaller : goal.loop-entry-smaller
loop-entry-smaller g c =
    let context = g.C.PatCx.context c.args.cx.now in
    subst (λ todo. work (2 ^ 65) (todo_views context c.step.new.todo.items) < work (2 ^ 65) (todo_views context todo)) (sym c.in-Some.ensures.items) c.in_ok-step.ensures.less

pub returns : goal.returns
returns g c =
    let cx = c.args.cx.now in
    let IsType = g.C.PatCx.is_type cx in
    let IsValue = g.C.PatCx.is_value cx in
    let context = g.C.PatCx.context cx in
    let m = plain_match c.args.m.now in
    let first = bare_sub (first_submatrix m) in
    let loop = c.loop-entry in
    let long = loop.todo.ok.0 in
    let none = none_long loop.todo.items loop.todo.len (omega (arith, long)) c.in_default.ensures.variant.1 in
    search_ends IsType IsValue context m (is_noted loop.reached) loop.invariant.seen
    (subst (λ es. IsSearch IsType IsValue context first (is_noted loop.reached) (todo_views context es) loop.invariant.seen) none loop.invariant.search)
