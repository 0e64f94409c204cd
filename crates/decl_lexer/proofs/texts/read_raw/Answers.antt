use Rattle.std.proofs.Common.{◌≡◌, rules, [], chars, string_bytes, Ok, ℕ, List, sym, ap, ◌∙◌}
use Rattle.decl_lexer.specs.Texts.{raw_from, with_front, TextRead}
use Rattle.decl_lexer.proofs.TextSteps.{whole_step, whole_same, whole_ends, whole_fails, raw_end, raw_quote, raw_cr, raw_bare_cr, raw_inner_quote, raw_run}
use Rattle.decl_lexer.proofs.texts.read_raw.Goals as goal

abbrev ended : List ℕ → TextRead
ended rest = Ok ([], rest)

pub returns-in-Some-skip_hashes : goal.returns-in-Some-skip_hashes
returns-in-Some-skip_hashes c =
    let step = raw_quote c.args.hashes (chars c.args.all.now) (chars c.loop-first.rest.now) (chars c.in-Some.behind.now) c.in-Some.first c.in-Some.ensures.cases c.if-first-eq34.true c.in-Some-skip_hashes.ensures.0
    ∙ ap ended (sym c.in-Some-skip_hashes.ensures.1) in
    whole_ends (string_bytes c.loop-first.value) (chars c.in-Some-skip_hashes.after.now) _ _ step c.loop-first.invariant.whole

pub loop-first-preserved-then-first-eq34 : goal.loop-first-preserved-then-first-eq34
loop-first-preserved-then-first-eq34 c =
    let step = raw_inner_quote c.args.hashes (chars c.args.all.now) (chars c.loop-first.rest.now) (chars c.in-Some.behind.now) c.in-Some.first c.in-Some.ensures.cases c.if-first-eq34.true c.in_default-skip_hashes.ensures in
    record { utf8 = search rules; whole = rw c.in_ok-push.ensures.bytes (whole_step (string_bytes c.loop-first.value) _ _ _ _ step c.loop-first.invariant.whole) }

pub returns-then-not-first_is : goal.returns-then-not-first_is
returns-then-not-first_is c =
    whole_fails (string_bytes c.loop-first.value) _ _ _
    (raw_bare_cr c.args.hashes (chars c.args.all.now) (chars c.loop-first.rest.now) (chars c.in-Some.behind.now) c.in-Some.first c.in-Some.ensures.cases c.if-first-eq13.true (sym c.if-not-first_is.ensures))
    c.loop-first.invariant.whole

pub loop-first-preserved-then-first-eq13 : goal.loop-first-preserved-then-first-eq13
loop-first-preserved-then-first-eq13 c =
    let step = raw_cr c.args.hashes (chars c.args.all.now) (chars c.loop-first.rest.now) (chars c.in-Some.behind.now) c.in-Some.first c.in-Some.ensures.cases c.if-first-eq13.true (sym c.if-not-first_is.ensures) in
    record { utf8 = search rules; whole = whole_same (string_bytes c.loop-first.value) _ _ _ step c.loop-first.invariant.whole }

pub loop-first-preserved : goal.loop-first-preserved
loop-first-preserved c =
    let step : raw_from c.args.hashes (chars c.args.all.now) (chars c.loop-first.rest.now) ≡ with_front c.split_run.result.0.now (raw_from c.args.hashes (chars c.args.all.now) (chars c.split_run.result.1.now)) =
    rw (c.split_run.ensures.run, c.split_run.ensures.rest) (raw_run c.args.hashes (chars c.args.all.now) (chars c.loop-first.rest.now)) in
    record { utf8 = search rules; whole = rw c.in_ok-push_str.ensures.bytes (whole_step (string_bytes c.loop-first.value) _ _ _ _ step c.loop-first.invariant.whole) }

pub returns : goal.returns
returns c = whole_fails (string_bytes c.loop-first.value) _ _ _ (raw_end c.args.hashes (chars c.args.all.now) (chars c.loop-first.rest.now) c.in_default.ensures.cases) c.loop-first.invariant.whole
