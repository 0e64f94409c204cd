use Rattle.std.proofs.Common.{◌≡◌, Bool, Option, [], ◌∷◌, ◌++◌, map, sym, subst}
use Rattle.std.specs.Option.{option_to_list, IfSome}
use Rattle.match_model.specs.Values.{MValue}
use Rattle.match_model.specs.Contexts.{Context}
use Rattle.pattern_arena.specs.Trees.{plain_match}
use Rattle.pattern_matrix.specs.Searching.{Submatrix, IsSearch, first_submatrix}
use Rattle.usefulness.specs.declared.frames.Frame.{Frame}
use Rattle.usefulness.specs.declared.frames.Reached.{Reached}
use Rattle.usefulness.specs.declared.frames.Todo.TheVariants.{Rows}
use Rattle.usefulness.specs.Children.{bare_sub}
use Rattle.usefulness.specs.Memo.{Memo, memo_of, no_memo}
use Rattle.usefulness.specs.Scope.{Scope, scope_for}
use Rattle.usefulness.specs.Stack.{IsGoing}
use Rattle.usefulness.specs.States.{child_views, is_noted, scope_of, IsGood}
use Rattle.usefulness.specs.Told.{IsPinned}
use Rattle.usefulness.proofs.Pinned.{pinned_by}
use Rattle.usefulness.proofs.Stacking.{rows_views, rows_good}
use Rattle.usefulness.proofs.Stepping.{none_told}
use Rattle.usefulness.proofs.search.first_step.Goals as goal

-- a search begins with these rows alone
begins : {T : Type 0} (IsType : T → Type 0) (IsValue : T → Bool → MValue → Type 0) (cx : Context T) (first : Submatrix T) (scope : Scope T) (m : Reached T) (memo : Memo) (w : Option (Frame T)) →
    scope_of m ≡ scope → IfSome w (λ f. IsGood scope f) → IsSearch IsType IsValue cx first (is_noted m) (child_views w) [] → memo ≡ no_memo → IsGoing IsType IsValue cx first scope m memo (map Rows (option_to_list w))
begins IsType IsValue cx first scope m memo w known good search none = record {
  known = known;
  good = rows_good IsType IsValue cx scope (is_noted m) w good;
  seen = [];
  search = subst (λ ss. IsSearch IsType IsValue cx first (is_noted m) ss []) (sym (rows_views IsType IsValue cx scope w)) search;
  told = none_told IsType IsValue cx scope memo none;
}

pub step-requires-clause-fit : goal.step-requires-clause-fit
step-requires-clause-fit g c =
    let cx = c.args.cx.now in
    let first = bare_sub (first_submatrix (plain_match c.args.m.now)) in
    (subst (λ o. IsSearch (g.C.PatCx.is_type cx) (g.C.PatCx.is_value cx) (g.C.PatCx.context cx) first (is_noted c.first_frame.new.reached) (child_views o) []) c.in-Some.is c.in_ok-first_frame.ensures.search).fit

pub step-requires-clause-pinned : goal.step-requires-clause-pinned
step-requires-clause-pinned g c = subst IsPinned (sym c.in_ok-first_frame.ensures.scope) (pinned_by (plain_match c.args.m.now).arms c.requires.typed.uids)

pub returns-in-None : goal.returns-in-None
returns-in-None g c =
    let cx = c.args.cx.now in
    let IsType = g.C.PatCx.is_type cx in
    let IsValue = g.C.PatCx.is_value cx in
    let context = g.C.PatCx.context cx in
    let m = plain_match c.args.m.now in
    let first = bare_sub (first_submatrix m) in
    let scope = scope_for m.arms in
    let now = c.first_frame.new.reached in
    let memo = memo_of c.args.told.now in
    let e = c.in_ok-first_frame.ensures in
    subst (IsGoing IsType IsValue context first scope now memo) (sym c.new-todo.ensures.items)
    (subst (λ o. IsGoing IsType IsValue context first scope now memo (map Rows (option_to_list o))) c.in-None.is
    (begins IsType IsValue context first scope now memo c.in_ok-first_frame.field-0 e.scope e.good e.search c.requires.untold))

pub returns-in_ok-step-in-Some : goal.returns-in_ok-step-in-Some
returns-in_ok-step-in-Some g c =
    let cx = c.args.cx.now in
    let IsType = g.C.PatCx.is_type cx in
    let IsValue = g.C.PatCx.is_value cx in
    let context = g.C.PatCx.context cx in
    let m = plain_match c.args.m.now in
    let first = bare_sub (first_submatrix m) in
    let scope = scope_for m.arms in
    let now = c.first_frame.new.reached in
    let memo = memo_of c.args.told.now in
    let e = c.in_ok-first_frame.ensures in
    let frame = c.in-Some.frame in
    subst (λ z. IsGoing IsType IsValue context first z c.step.new.reached (memo_of c.step.new.told) c.step.new.todo.items) e.scope
    (c.in_ok-step-in-Some.ensures.going first
    (subst (λ z. IsGoing IsType IsValue context first z now memo (c.new-todo.result.items ++ Rows frame ∷ [])) (sym e.scope)
    (subst (λ xs. IsGoing IsType IsValue context first scope now memo (xs ++ Rows frame ∷ [])) (sym c.new-todo.ensures.items)
    (subst (λ o. IsGoing IsType IsValue context first scope now memo (map Rows (option_to_list o))) c.in-Some.is
    (begins IsType IsValue context first scope now memo c.in_ok-first_frame.field-0 e.scope e.good e.search c.requires.untold)))))
