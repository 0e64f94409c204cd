use Rattle.std.proofs.Common.{◌∙◌, sym, ap, subst, Bool}
use Rattle.std.specs.List.{list_any}
use Rattle.match_model.specs.Constructors.{has_piece}
use Rattle.pat_context.specs.Views.{plain_ctor, plain_set, is_sure}
use Rattle.pat_context.specs.declared.ctor.Ctor.{Ctor}
use Rattle.constructor_sets.specs.Columns.{plain_ctors}
use Rattle.constructor_sets.specs.Serving.{IsServing, IsFoundState}
use Rattle.constructor_sets.proofs.Finding.{none_found, more_found}
use Rattle.constructor_sets.proofs.column.by_states.Goals as goal

pub piece_state-state-requires-clause-serving : goal.piece_state-state-requires-clause-serving
piece_state-state-requires-clause-serving g c =
    subst (λ (x : Ctor × Bool). IsServing (plain_set c.args.set.now) (plain_ctor x.0)) (sym c.loop-ctor-item.is)
    (c.requires.serving c.loop-ctor.ctor-index c.loop-ctor-item.result c.loop-ctor-test.true)

pub loop-ctor-init : goal.loop-ctor-init
loop-ctor-init g c = rw (c.in_ok-with_capacity.ensures.items, c.new.ensures.items) (none_found (g.C.PatCx.is_value c.args.cx.now) (record { type = c.args.ty; sure = is_sure c.args.validity }) (plain_ctors c.args.heads.now))

pub loop-ctor-preserved : goal.loop-ctor-preserved
loop-ctor-preserved g c =
    let heads = plain_ctors c.args.heads.now in
    let x = c.loop-ctor-item.result in
    let is = c.loop-ctor-item.is in
    let flag = c.requires.flagged c.loop-ctor.ctor-index x c.loop-ctor-test.true in
    more_found (g.C.PatCx.is_value c.args.cx.now) (record { type = c.args.ty; sure = is_sure c.args.validity }) heads c.args.pieces.now c.loop-ctor.ctor-index x c.piece_state-state.result _ _ _ _ _ _
    c.loop-ctor-test.true is
    (subst (λ b. IsFoundState (g.C.PatCx.is_value c.args.cx.now) (record { type = c.args.ty; sure = is_sure c.args.validity }) (plain_ctor x.0) b c.piece_state-state.result)
    (ap (λ (y : Ctor × Bool). y.1) is ∙ flag ∙ ap (λ (y : Ctor × Bool). list_any (λ h. has_piece h (plain_ctor y.0)) heads) (sym is)) c.piece_state-state.ensures)
    c.in_ok-add_piece.ensures.present c.in_ok-add_piece.ensures.missing c.in_ok-add_piece.ensures.gaps c.loop-ctor.invariant
