use Rattle.std.proofs.Common.{inl, inr, ◌≡◌, ◌<◌, ◌^◌, length, refl, sym, subst, ◌∙◌, arith}
use Rattle.pattern_matrix.specs.Searching.{work}
use Rattle.usefulness.specs.Behind.{rows_asked}
use Rattle.usefulness.specs.Covering.{asking_columns, asking_rows, covered_arms}
use Rattle.usefulness.specs.Frames.{sub_view}
use Rattle.usefulness.specs.Stack.{todo_views}
use Rattle.usefulness.proofs.AskedFirst.{open_first}
use Rattle.usefulness.proofs.AskedRows.{all_taken, some_left}
use Rattle.usefulness.proofs.AskedSteps.{arms_same, taken_good, taken_fit, asked_on, ended_asked, ended_open, ended_full, ended_left, asked_none, asked_some, full_more, left_more}
use Rattle.usefulness.proofs.FirstRows.{none_long}
use Rattle.usefulness.proofs.Nested.{Ended}
use Rattle.usefulness.proofs.covered.is_covered.Goals as goal

pub returns-then-is_behind-clause-left : goal.returns-then-is_behind-clause-left
returns-then-is_behind-clause-left g c = λ e.
    let cx = c.args.cx.now in
    let IsType = g.C.PatCx.is_type cx in
    let IsValue = g.C.PatCx.is_value cx in
    let context = g.C.PatCx.context cx in
    let a = c.args.asking in
    let s = c.in_ok-search.search in
    some_left IsValue (asking_columns a) (asking_rows a)
    (asked_some IsType IsValue context (covered_arms c.args.covered.now) (sub_view (asking_columns a) (rows_asked (asking_rows a))) s c.in_ok-search.ensures.asked (sym c.is_behind.ensures ∙ c.if-is_behind.true))

pub loop-entry-init : goal.loop-entry-init
loop-entry-init g c =
    let s = c.in_ok-search.search in
    (c.requires.known, refl, c.in_ok-search.ensures.asked, open_first s (sym c.is_behind.ensures ∙ c.if-is_behind.false) c.in_ok-search.ensures.none)

pub step-requires-clause-covered : goal.step-requires-clause-covered
step-requires-clause-covered g c = c.loop-entry.invariant.0

pub step-requires-clause-known : goal.step-requires-clause-known
step-requires-clause-known g c = c.loop-entry.invariant.2.known

pub step-requires-clause-unmarked : goal.step-requires-clause-unmarked
step-requires-clause-unmarked g c = c.loop-entry.invariant.3.unmarked

pub step-requires-clause-good : goal.step-requires-clause-good
step-requires-clause-good g c =
    let cx = c.args.cx.now in
    let IsType = g.C.PatCx.is_type cx in
    let IsValue = g.C.PatCx.is_value cx in
    let context = g.C.PatCx.context cx in
    let a = c.args.asking in
    let loop = c.loop-entry in
    let inv = loop.invariant in
    let covered = loop.covered in
    let arms = covered_arms covered in
    let first = sub_view (asking_columns a) (rows_asked (asking_rows a)) in
    let search = loop.search in
    let popped = record search { todo = c.pop.new.self } in
    let entry = c.in-Some.entry in
    let items = c.in-Some.ensures.items in
    taken_good IsType IsValue context arms first search popped entry items refl refl inv.2

pub step-requires-clause-fit : goal.step-requires-clause-fit
step-requires-clause-fit g c =
    let cx = c.args.cx.now in
    let IsType = g.C.PatCx.is_type cx in
    let IsValue = g.C.PatCx.is_value cx in
    let context = g.C.PatCx.context cx in
    let a = c.args.asking in
    let loop = c.loop-entry in
    let inv = loop.invariant in
    let covered = loop.covered in
    let arms = covered_arms covered in
    let first = sub_view (asking_columns a) (rows_asked (asking_rows a)) in
    let search = loop.search in
    let popped = record search { todo = c.pop.new.self } in
    let entry = c.in-Some.entry in
    let items = c.in-Some.ensures.items in
    taken_fit IsType IsValue context arms first search popped entry items refl refl inv.2

pub returns-in_err-step-clause-known : goal.returns-in_err-step-clause-known
returns-in_err-step-clause-known g c = c.loop-entry.invariant.0

pub returns-in_err-step-clause-arms : goal.returns-in_err-step-clause-arms
returns-in_err-step-clause-arms g c = arms_same c.args.covered.now c.loop-entry.covered c.loop-entry.invariant.1

pub returns-in_err-note_ended-clause-known : goal.returns-in_err-note_ended-clause-known
returns-in_err-note_ended-clause-known g c =
    let cx = c.args.cx.now in
    let IsType = g.C.PatCx.is_type cx in
    let IsValue = g.C.PatCx.is_value cx in
    let context = g.C.PatCx.context cx in
    let a = c.args.asking in
    let loop = c.loop-entry in
    let inv = loop.invariant in
    let covered = loop.covered in
    let arms = covered_arms covered in
    let first = sub_view (asking_columns a) (rows_asked (asking_rows a)) in
    let search = loop.search in
    let popped = record search { todo = c.pop.new.self } in
    let entry = c.in-Some.entry in
    let items = c.in-Some.ensures.items in
    let now = c.step.new.search in
    let asked = asked_on IsType IsValue context arms first search popped entry items refl refl inv.2 inv.3 now c.in_ok-step.ensures.stepped in
    let marked = sym c.is_behind-in-Some.ensures ∙ c.if-is_behind-2.true in
    left_more IsType IsValue context covered (record covered { left = c.note_ended.new.known }) inv.0 refl refl (λ w i. elim (c.note_ended.ensures.keys w i) [
      | inl j ↦ inl j
      | inr d ↦ inr (ended_left IsType IsValue context arms first now asked w marked d)
    ])

pub returns-in_err-note_ended-clause-arms : goal.returns-in_err-note_ended-clause-arms
returns-in_err-note_ended-clause-arms g c = arms_same c.args.covered.now c.loop-entry.covered c.loop-entry.invariant.1

pub returns-then-is_behind-2-clause-known : goal.returns-then-is_behind-2-clause-known
returns-then-is_behind-2-clause-known g c =
    let cx = c.args.cx.now in
    let IsType = g.C.PatCx.is_type cx in
    let IsValue = g.C.PatCx.is_value cx in
    let context = g.C.PatCx.context cx in
    let a = c.args.asking in
    let loop = c.loop-entry in
    let inv = loop.invariant in
    let covered = loop.covered in
    let arms = covered_arms covered in
    let first = sub_view (asking_columns a) (rows_asked (asking_rows a)) in
    let search = loop.search in
    let popped = record search { todo = c.pop.new.self } in
    let entry = c.in-Some.entry in
    let items = c.in-Some.ensures.items in
    let now = c.step.new.search in
    let asked = asked_on IsType IsValue context arms first search popped entry items refl refl inv.2 inv.3 now c.in_ok-step.ensures.stepped in
    let marked = sym c.is_behind-in-Some.ensures ∙ c.if-is_behind-2.true in
    left_more IsType IsValue context covered (record covered { left = c.note_ended.new.known }) inv.0 refl refl (λ w i. elim (c.note_ended.ensures.keys w i) [
      | inl j ↦ inl j
      | inr d ↦ inr (ended_left IsType IsValue context arms first now asked w marked d)
    ])

pub returns-then-is_behind-2-clause-arms : goal.returns-then-is_behind-2-clause-arms
returns-then-is_behind-2-clause-arms g c = arms_same c.args.covered.now c.loop-entry.covered c.loop-entry.invariant.1

pub returns-then-is_behind-2-clause-left : goal.returns-then-is_behind-2-clause-left
returns-then-is_behind-2-clause-left g c = λ e.
    let cx = c.args.cx.now in
    let IsType = g.C.PatCx.is_type cx in
    let IsValue = g.C.PatCx.is_value cx in
    let context = g.C.PatCx.context cx in
    let a = c.args.asking in
    let loop = c.loop-entry in
    let inv = loop.invariant in
    let covered = loop.covered in
    let arms = covered_arms covered in
    let first = sub_view (asking_columns a) (rows_asked (asking_rows a)) in
    let search = loop.search in
    let popped = record search { todo = c.pop.new.self } in
    let entry = c.in-Some.entry in
    let items = c.in-Some.ensures.items in
    let now = c.step.new.search in
    let asked = asked_on IsType IsValue context arms first search popped entry items refl refl inv.2 inv.3 now c.in_ok-step.ensures.stepped in
    let marked = sym c.is_behind-in-Some.ensures ∙ c.if-is_behind-2.true in
    some_left IsValue (asking_columns a) (asking_rows a) (asked_some IsType IsValue context arms first now asked marked)

pub loop-entry-smaller : goal.loop-entry-smaller
loop-entry-smaller g c =
    let context = g.C.PatCx.context c.args.cx.now in
    subst (λ todo. work (2 ^ 65) (todo_views context c.step.new.search.todo.items) < work (2 ^ 65) (todo_views context todo)) (sym c.in-Some.ensures.items) c.in_ok-step.ensures.less

pub loop-entry-preserved : goal.loop-entry-preserved
loop-entry-preserved g c =
    let cx = c.args.cx.now in
    let IsType = g.C.PatCx.is_type cx in
    let IsValue = g.C.PatCx.is_value cx in
    let context = g.C.PatCx.context cx in
    let a = c.args.asking in
    let loop = c.loop-entry in
    let inv = loop.invariant in
    let covered = loop.covered in
    let arms = covered_arms covered in
    let first = sub_view (asking_columns a) (rows_asked (asking_rows a)) in
    let search = loop.search in
    let popped = record search { todo = c.pop.new.self } in
    let entry = c.in-Some.entry in
    let items = c.in-Some.ensures.items in
    let now = c.step.new.search in
    let asked = asked_on IsType IsValue context arms first search popped entry items refl refl inv.2 inv.3 now c.in_ok-step.ensures.stepped in
    let goes = sym c.is_behind-in-Some.ensures ∙ c.if-is_behind-2.false in
    let ok = now.todo.ok.0 in
    let len = c.len-left.ensures in
    let long : c.len-left.result ≡ length now.todo.items = omega (arith, ok, len) in
    let after = record now { begun = c.note_ended-in-Some.new.begun } in
    let ended = c.in_ok-note_ended-2.ensures.ended in (
      full_more IsType IsValue context covered (record covered { full = c.note_ended-in-Some.new.known }) inv.0 refl refl (λ w i. elim (c.note_ended-in-Some.ensures.keys w i) [
        | inl j ↦ inl j
        | inr d ↦ inr (ended_full IsType IsValue context arms first now asked w goes (subst (λ n. Ended n now.begun.items w) long d))
      ]),
      inv.1,
      ended_asked IsType IsValue context arms first now asked c.len-left.result after refl refl ended,
      ended_open IsType IsValue context arms first now asked c.len-left.result after refl refl ended goes long,
    )

pub returns-in_err-note_ended-2-clause-known : goal.returns-in_err-note_ended-2-clause-known
returns-in_err-note_ended-2-clause-known g c =
    let cx = c.args.cx.now in
    let IsType = g.C.PatCx.is_type cx in
    let IsValue = g.C.PatCx.is_value cx in
    let context = g.C.PatCx.context cx in
    let a = c.args.asking in
    let loop = c.loop-entry in
    let inv = loop.invariant in
    let covered = loop.covered in
    let arms = covered_arms covered in
    let first = sub_view (asking_columns a) (rows_asked (asking_rows a)) in
    let search = loop.search in
    let popped = record search { todo = c.pop.new.self } in
    let entry = c.in-Some.entry in
    let items = c.in-Some.ensures.items in
    let now = c.step.new.search in
    let asked = asked_on IsType IsValue context arms first search popped entry items refl refl inv.2 inv.3 now c.in_ok-step.ensures.stepped in
    let goes = sym c.is_behind-in-Some.ensures ∙ c.if-is_behind-2.false in
    let ok = now.todo.ok.0 in
    let len = c.len-left.ensures in
    let long : c.len-left.result ≡ length now.todo.items = omega (arith, ok, len) in
    full_more IsType IsValue context covered (record covered { full = c.note_ended-in-Some.new.known }) inv.0 refl refl (λ w i. elim (c.note_ended-in-Some.ensures.keys w i) [
      | inl j ↦ inl j
      | inr d ↦ inr (ended_full IsType IsValue context arms first now asked w goes (subst (λ n. Ended n now.begun.items w) long d))
    ])

pub returns-in_err-note_ended-2-clause-arms : goal.returns-in_err-note_ended-2-clause-arms
returns-in_err-note_ended-2-clause-arms g c = arms_same c.args.covered.now c.loop-entry.covered c.loop-entry.invariant.1

pub returns-clause-known : goal.returns-clause-known
returns-clause-known g c = c.loop-entry.invariant.0

pub returns-clause-arms : goal.returns-clause-arms
returns-clause-arms g c = arms_same c.args.covered.now c.loop-entry.covered c.loop-entry.invariant.1

pub returns-clause-covered : goal.returns-clause-covered
returns-clause-covered g c = λ e.
    let cx = c.args.cx.now in
    let IsType = g.C.PatCx.is_type cx in
    let IsValue = g.C.PatCx.is_value cx in
    let context = g.C.PatCx.context cx in
    let a = c.args.asking in
    let loop = c.loop-entry in
    let todo = loop.search.todo in
    let ok = todo.ok.0 in
    let none = none_long todo.items todo.len (omega (arith, ok)) c.in_default.ensures.variant.1 in
    all_taken IsValue (asking_columns a) (asking_rows a)
    (asked_none IsType IsValue context (covered_arms loop.covered) (sub_view (asking_columns a) (rows_asked (asking_rows a))) loop.search loop.invariant.2 loop.invariant.3.unmarked none)
