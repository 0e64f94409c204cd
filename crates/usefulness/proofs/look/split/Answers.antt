use Rattle.std.proofs.Common.{◌≡◌, slice_get, Some, sym, subst}
use Rattle.std.proofs.lemmas.Result.{IfOk-weaker}
use Rattle.pattern_matrix.specs.Searching.{IsFit, IsLookedAt}
use Rattle.pattern_matrix.proofs.Moving.{fit_moved}
use Rattle.usefulness.specs.Frames.{numbers}
use Rattle.usefulness.specs.Stack.{opened_views}
use Rattle.usefulness.specs.States.{plain_opens, frame_view, is_noted, scope_of}
use Rattle.usefulness.proofs.Taking.{apart_of, view_of, sharp_of}
use Rattle.usefulness.proofs.MovedFirst.{looked_moved}
use Rattle.usefulness.proofs.look.split.Goals as goal

pub children-requires-clause-apart : goal.children-requires-clause-apart
children-requires-clause-apart g c =
    let e = c.in_ok-a.ensures in
    apart_of (scope_of c.args.reached.now) c.place_of-place.result c.args.frame c.in_ok-a.a c.requires.good e.rows e.moved e.next e.leaves

pub children-requires-clause-fit : goal.children-requires-clause-fit
children-requires-clause-fit g c =
    let cx = c.args.cx.now in
    let e = c.in_ok-a.ensures in
    let view = view_of (scope_of c.args.reached.now) c.place_of-place.result c.args.frame c.in_ok-a.a c.requires.good e.rows e.moved e.next in
    subst (IsFit (g.C.PatCx.is_type cx) (g.C.PatCx.is_value cx) (g.C.PatCx.context cx)) view
    (fit_moved (g.C.PatCx.is_type cx) (g.C.PatCx.is_value cx) (g.C.PatCx.context cx) c.place_of-place.result (frame_view c.args.frame) c.requires.fit)

pub children-requires-clause-sharp : goal.children-requires-clause-sharp
children-requires-clause-sharp g c =
    let e = c.in_ok-a.ensures in
    sharp_of (scope_of c.args.reached.now) c.place_of-place.result c.args.frame c.in_ok-a.a c.requires.good e.rows e.moved e.next
    c.in_ok-number.number c.in_ok-number.ensures
    (subst (λ columns. slice_get (numbers (plain_opens columns)) c.place_of-place.result ≡ Some c.in_ok-number.number) c.deref.ensures.value c.place_of-place.ensures.number)

pub returns-clause-looked : goal.returns-clause-looked
returns-clause-looked g c =
    let cx = c.args.cx.now in
    let e = c.in_ok-a.ensures in
    let old = is_noted c.args.reached.now in
    let view = view_of (scope_of c.args.reached.now) c.place_of-place.result c.args.frame c.in_ok-a.a c.requires.good e.rows e.moved e.next in
    IfOk-weaker c.children.result _ _
    (λ v looked. looked_moved (g.C.PatCx.is_type cx) (g.C.PatCx.is_value cx) (g.C.PatCx.context cx) old (is_noted c.children.new.reached) c.place_of-place.result (frame_view c.args.frame) (opened_views (g.C.PatCx.context cx) v) c.requires.fit
    (subst (λ s. IsLookedAt (g.C.PatCx.is_type cx) (g.C.PatCx.is_value cx) (g.C.PatCx.context cx) old (is_noted c.children.new.reached) s (opened_views (g.C.PatCx.context cx) v)) (sym view) looked))
    c.children.ensures.looked
