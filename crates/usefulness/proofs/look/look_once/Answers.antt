use Rattle.std.proofs.Common.{◌≡◌, ap, sym, subst, ◌∙◌}
use Rattle.usefulness.specs.Chosen.{unmarked_from}
use Rattle.usefulness.specs.Marking.{is_marked}
use Rattle.usefulness.specs.Memo.{memo_of, AreAllNoted, IsNotedIn}
use Rattle.usefulness.specs.Stack.{opened_views}
use Rattle.usefulness.specs.States.{plain_askeds, frame_view, is_noted, scope_of}
use Rattle.usefulness.specs.Told.{AreLighter, IsStep}
use Rattle.usefulness.proofs.Openings.{none_views, none_good}
use Rattle.usefulness.proofs.Stepping.{none_lighter, good_below, compact_good, compact_fit, step_out, step_in, step_lighter}
use Rattle.usefulness.proofs.look.look_once.Goals as goal

pub compact-requires : goal.compact-requires
compact-requires g c = good_below (scope_of c.args.reached.now) c.args.frame c.requires.good

pub tell-requires-clause-open : goal.tell-requires-clause-open
tell-requires-clause-open g c = (compact_good (scope_of c.args.reached.now) c.args.frame c.in_ok-rest.rest c.in_ok-rest.ensures c.requires.good).columns

pub tell-requires-clause-below : goal.tell-requires-clause-below
tell-requires-clause-below g c =
    let scope = scope_of c.args.reached.now in
    good_below scope c.in_ok-rest.rest (compact_good scope c.args.frame c.in_ok-rest.rest c.in_ok-rest.ensures c.requires.good)

pub split-requires-clause-good : goal.split-requires-clause-good
split-requires-clause-good g c = compact_good (scope_of c.args.reached.now) c.args.frame c.in_ok-rest.rest c.in_ok-rest.ensures c.requires.good

pub split-requires-clause-fit : goal.split-requires-clause-fit
split-requires-clause-fit g c =
    let cx = c.args.cx.now in
    compact_fit (scope_of c.args.reached.now) (g.C.PatCx.is_type cx) (g.C.PatCx.is_value cx) (g.C.PatCx.context cx) c.args.frame c.in_ok-rest.rest c.in_ok-rest.ensures c.requires.fit

pub returns-then-are_told-clause-stepped : goal.returns-then-are_told-clause-stepped
returns-then-are_told-clause-stepped g c =
    let cx = c.args.cx.now in
    let (at, numbered, are) = c.in_ok-words.ensures in
    let same : c.in_ok-chosen.chosen.items ≡ unmarked_from (is_marked c.args.reached.now.marks) 0 (plain_askeds c.in_ok-rest.rest.rows.items) =
    c.in_ok-chosen.ensures ∙ ap (λ rs. unmarked_from (is_marked c.args.reached.now.marks) 0 (plain_askeds rs)) c.as_slice.ensures.value in
    let marked = is_noted c.args.reached.now in
    let memo = memo_of c.args.told.now in
    subst (λ ss. IsStep (g.C.PatCx.is_type cx) (g.C.PatCx.is_value cx) (g.C.PatCx.context cx) (scope_of c.args.reached.now) marked marked (frame_view c.args.frame) ss memo memo)
    (sym (none_views (g.C.PatCx.context cx) c.none_opened.result c.none_opened.ensures.pieces c.none_opened.ensures.wild))
    (step_out (g.C.PatCx.is_type cx) (g.C.PatCx.is_value cx) (g.C.PatCx.context cx) (scope_of c.args.reached.now) c.requires.pinned c.args.frame c.in_ok-rest.rest c.in_ok-rest.ensures
    c.requires.good c.requires.fit c.args.reached.now.marks at numbered c.in_ok-words.words.items are memo
    (subst (AreAllNoted memo c.in_ok-words.words.items) (c.as_slice-2.ensures.value ∙ same) (c.are_told.ensures c.if-are_told.true)))

pub returns-then-are_told-clause-lighter : goal.returns-then-are_told-clause-lighter
returns-then-are_told-clause-lighter g c =
    subst (λ ss. AreLighter ss (frame_view c.args.frame)) (sym (none_views (g.C.PatCx.context c.args.cx.now) c.none_opened.result c.none_opened.ensures.pieces c.none_opened.ensures.wild)) (none_lighter (frame_view c.args.frame))

pub returns-then-are_told-clause-good : goal.returns-then-are_told-clause-good
returns-then-are_told-clause-good g c =
    let cx = c.args.cx.now in
    none_good (g.C.PatCx.is_type cx) (g.C.PatCx.is_value cx) (g.C.PatCx.context cx) (scope_of c.args.reached.now) (is_noted c.args.reached.now) c.none_opened.result c.none_opened.ensures.pieces c.none_opened.ensures.wild

pub returns-clause-grow : goal.returns-clause-grow
returns-clause-grow g c = c.in_ok-new.ensures.looked.grow

pub returns-clause-stepped : goal.returns-clause-stepped
returns-clause-stepped g c =
    let cx = c.args.cx.now in
    let (at, numbered, are) = c.in_ok-words.ensures in
    let same : c.in_ok-chosen.chosen.items ≡ unmarked_from (is_marked c.args.reached.now.marks) 0 (plain_askeds c.in_ok-rest.rest.rows.items) =
    c.in_ok-chosen.ensures ∙ ap (λ rs. unmarked_from (is_marked c.args.reached.now.marks) 0 (plain_askeds rs)) c.as_slice.ensures.value in
    step_in (g.C.PatCx.is_type cx) (g.C.PatCx.is_value cx) (g.C.PatCx.context cx) (scope_of c.args.reached.now) c.requires.pinned c.args.frame c.in_ok-rest.rest c.in_ok-rest.ensures
    c.requires.good c.requires.fit c.args.reached.now.marks at numbered c.in_ok-words.words.items are (memo_of c.args.told.now)
    (is_noted c.split.new.reached) (opened_views (g.C.PatCx.context cx) c.in_ok-new.new) (memo_of c.note_all.new.told) c.in_ok-new.ensures.looked
    (subst (λ cs. IsNotedIn c.in_ok-words.words.items cs (memo_of c.args.told.now) (memo_of c.note_all.new.told)) (c.as_slice-3.ensures.value ∙ same) c.in_ok-note_all.ensures)

pub returns-clause-lighter : goal.returns-clause-lighter
returns-clause-lighter g c =
    let cx = c.args.cx.now in
    let (at, numbered, are) = c.in_ok-words.ensures in
    step_lighter (g.C.PatCx.is_type cx) (g.C.PatCx.is_value cx) (g.C.PatCx.context cx) (scope_of c.args.reached.now) c.requires.pinned c.args.frame c.in_ok-rest.rest c.in_ok-rest.ensures
    c.requires.good c.requires.fit c.args.reached.now.marks at numbered c.in_ok-words.words.items are (memo_of c.args.told.now) (opened_views (g.C.PatCx.context cx) c.in_ok-new.new) c.in_ok-new.ensures.looked.lighter
