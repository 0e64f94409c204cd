use Rattle.std.proofs.Common.{◌<◌, ◌∙◌, length, map, refl, sym, subst, arith}
use Rattle.std.proofs.lemmas.List.{length-map}
use Rattle.pat_context.specs.Views.{plain_ctor}
use Rattle.constructor_sets.specs.Columns.{plain_ctors}
use Rattle.usefulness.specs.Listing.{AreAllListed}
use Rattle.usefulness.specs.States.{piece_view, is_noted}
use Rattle.usefulness.proofs.LoneRows.{next_gone, all_left}
use Rattle.usefulness.proofs.Looking.{none_listed, self_listed}
use Rattle.usefulness.proofs.lone.enter_all.Goals as goal

pub returns-then-spans-gt-FEW-clause-left : goal.returns-then-spans-gt-FEW-clause-left
returns-then-spans-gt-FEW-clause-left g c = λ e.
    self_listed (g.C.PatCx.is_value c.args.cx.now) (is_noted c.args.reached.now) (map (piece_view (g.C.PatCx.context c.args.cx.now) c.args.a.now c.args.missing) (plain_ctors c.args.pieces.now))

pub loop-i-init : goal.loop-i-init
loop-i-init g c = (refl, none_listed (g.C.PatCx.is_value c.args.cx.now) (is_noted c.args.reached.now))

pub returns-then-not-lone-clause-left : goal.returns-then-not-lone-clause-left
returns-then-not-lone-clause-left g c = λ e.
    let view = piece_view (g.C.PatCx.context c.args.cx.now) c.args.a.now c.args.missing in
    let ctors = plain_ctors c.args.pieces.now in
    let old = is_noted c.args.reached.now in
    subst (λ r. AreAllListed (g.C.PatCx.is_value c.args.cx.now) old (is_noted r) (map view ctors) (map view ctors)) (sym (c.in_ok-lone.ensures.none c.if-not-lone.true))
    (all_left (g.C.PatCx.is_value c.args.cx.now) old view ctors (is_noted c.loop-i.reached) c.loop-i.i c.loop-i.invariant.1)

pub loop-i-preserved : goal.loop-i-preserved
loop-i-preserved g c =
    let view = piece_view (g.C.PatCx.context c.args.cx.now) c.args.a.now c.args.missing in
    let ctors = plain_ctors c.args.pieces.now in
    let old = is_noted c.args.reached.now in
    let i = c.loop-i.i in
    let long = length-map c.args.pieces.now plain_ctor in
    let test = c.loop-i-test.true in
    let below : i < length ctors = omega (arith, long, test) in (
      c.enter_lone.ensures.scope ∙ c.loop-i.invariant.0,
      next_gone (g.C.PatCx.is_value c.args.cx.now) old view ctors (is_noted c.loop-i.reached) (is_noted c.enter_lone.new.reached) i below (c.in_ok-lone.ensures.listed c.if-not-lone.false) c.loop-i.invariant.1,
    )
