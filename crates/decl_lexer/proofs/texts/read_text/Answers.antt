use Rattle.std.proofs.Common.{◌≡◌, rules, length, chars, string_bytes, ◌≤◌, sym, ap, ◌∙◌, arith}
use Rattle.std.specs.Str.{IsUtf8}
use Rattle.decl_lexer.specs.Texts.{text_from, with_front}
use Rattle.decl_lexer.proofs.TextSteps.{whole_step, whole_same, whole_ends, whole_fails, at_end, at_quote, at_line_end, at_escape, at_bad_escape, at_cr, at_bare_cr, at_run, escape_not_longer}
use Rattle.decl_lexer.proofs.texts.read_text.Goals as goal

pub returns-then-first-eq34 : goal.returns-then-first-eq34
returns-then-first-eq34 c =
    whole_ends (string_bytes c.loop-first.value) (chars c.in-Some.behind.now) _ _
    (at_quote c.args.kind (chars c.args.all.now) (chars c.loop-first.rest.now) (chars c.in-Some.behind.now) c.in-Some.first c.in-Some.ensures.cases c.if-first-eq34.true) c.loop-first.invariant.whole

pub loop-first-preserved-then-starts_line_end : goal.loop-first-preserved-then-starts_line_end
loop-first-preserved-then-starts_line_end c =
    let step = at_line_end c.args.kind (chars c.args.all.now) (chars c.loop-first.rest.now) (chars c.in-Some.behind.now) c.in-Some.first c.in-Some.ensures.cases c.if-first-eq92.true (sym c.if-starts_line_end.ensures)
    ∙ ap (text_from c.args.kind (chars c.args.all.now) 0) (sym c.skip_blanks-rest.ensures.rest) in
    record { utf8 = c.skip_blanks-rest.utf8; whole = whole_same (string_bytes c.loop-first.value) _ _ _ step c.loop-first.invariant.whole }

pub returns-in_default-escape : goal.returns-in_default-escape
returns-in_default-escape c =
    whole_fails (string_bytes c.loop-first.value) _ _ _
    (at_bad_escape c.args.kind (chars c.args.all.now) (chars c.loop-first.rest.now) (chars c.in-Some.behind.now) c.in-Some.first c.in-Some.ensures.cases c.if-first-eq92.true (sym c.if-starts_line_end.ensures) (sym c.in_default-escape.ensures.value))
    c.loop-first.invariant.whole

pub loop-first-smaller-else-starts_line_end : goal.loop-first-smaller-else-starts_line_end
loop-first-smaller-else-starts_line_end c =
    let u : IsUtf8 c.in-Some.behind.now = search rules in
    let v : IsUtf8 c.in-Some-escape.after.now = search rules in
    let less : length c.in-Some-escape.after.now ≤ length c.in-Some.behind.now = escape_not_longer c.args.kind c.in-Some.behind.now c.in-Some-escape.after.now c.in-Some-escape.c u v (sym c.in-Some-escape.ensures.value) in
    omega (arith, less, c.in-Some.ensures.shorter)

pub loop-first-preserved-else-starts_line_end : goal.loop-first-preserved-else-starts_line_end
loop-first-preserved-else-starts_line_end c =
    let step = at_escape c.args.kind (chars c.args.all.now) (chars c.loop-first.rest.now) (chars c.in-Some.behind.now) (chars c.in-Some-escape.after.now) c.in-Some.first c.in-Some-escape.c c.in-Some.ensures.cases
    c.if-first-eq92.true (sym c.if-starts_line_end.ensures) (sym c.in-Some-escape.ensures.value) in
    record { utf8 = search rules; whole = rw c.in_ok-push.ensures.bytes (whole_step (string_bytes c.loop-first.value) _ _ _ _ step c.loop-first.invariant.whole) }

pub returns-then-not-first_is : goal.returns-then-not-first_is
returns-then-not-first_is c =
    whole_fails (string_bytes c.loop-first.value) _ _ _
    (at_bare_cr c.args.kind (chars c.args.all.now) (chars c.loop-first.rest.now) (chars c.in-Some.behind.now) c.in-Some.first c.in-Some.ensures.cases c.if-first-eq13.true (sym c.if-not-first_is.ensures))
    c.loop-first.invariant.whole

pub loop-first-preserved-then-first-eq13 : goal.loop-first-preserved-then-first-eq13
loop-first-preserved-then-first-eq13 c =
    let step = at_cr c.args.kind (chars c.args.all.now) (chars c.loop-first.rest.now) (chars c.in-Some.behind.now) c.in-Some.first c.in-Some.ensures.cases c.if-first-eq13.true (sym c.if-not-first_is.ensures) in
    record { utf8 = search rules; whole = whole_same (string_bytes c.loop-first.value) _ _ _ step c.loop-first.invariant.whole }

pub loop-first-preserved : goal.loop-first-preserved
loop-first-preserved c =
    let step : text_from c.args.kind (chars c.args.all.now) 0 (chars c.loop-first.rest.now) ≡ with_front c.split_run.result.0.now (text_from c.args.kind (chars c.args.all.now) 0 (chars c.split_run.result.1.now)) =
    rw (c.split_run.ensures.run, c.split_run.ensures.rest) (at_run c.args.kind (chars c.args.all.now) (chars c.loop-first.rest.now)) in
    record { utf8 = search rules; whole = rw c.in_ok-push_str.ensures.bytes (whole_step (string_bytes c.loop-first.value) _ _ _ _ step c.loop-first.invariant.whole) }

pub returns : goal.returns
returns c =
    whole_fails (string_bytes c.loop-first.value) _ _ _ (at_end c.args.kind (chars c.args.all.now) (chars c.loop-first.rest.now) c.in_default.ensures.cases) c.loop-first.invariant.whole
