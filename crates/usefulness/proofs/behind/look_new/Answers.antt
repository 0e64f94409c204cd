use Rattle.std.proofs.Common.{◌≡◌, length, subst, arith}
use Rattle.std.proofs.lemmas.Result.{on_ok_weaker}
use Rattle.usefulness.specs.Behind.{search_arms}
use Rattle.usefulness.specs.Stack.{IsOpened}
use Rattle.usefulness.specs.States.{is_noted}
use Rattle.usefulness.proofs.AskedLooks.{looked_new}
use Rattle.usefulness.proofs.behind.look_new.Goals as goal

pub returns : goal.returns
returns g c =
    let cx = c.args.cx.now in
    let IsType = g.C.PatCx.is_type cx in
    let IsValue = g.C.PatCx.is_value cx in
    let context = g.C.PatCx.context cx in
    let old = c.args.search.now in
    let o = c.in_ok-opened.opened in
    let ok = old.todo.ok.0 in
    let len = c.len-below.ensures in
    let below : c.len-below.result ≡ length old.todo.items = omega (arith, ok, len) in
    on_ok_weaker c.add_opened.result
    (λ todo. looked_new IsType IsValue context (search_arms old) old _ c.args.rest o _ c.requires.known c.requires.unmarked c.in_ok-opened.ensures.scope
    (subst (λ z. IsOpened IsType IsValue context z (is_noted c.split.new.reached) o) c.requires.known c.in_ok-opened.ensures.good) c.in_ok-opened.ensures.looked todo c.in_ok-push.ensures.items below c.requires.words)
    c.add_opened.ensures
