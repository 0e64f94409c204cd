use Rattle.std.proofs.lemmas.Result.{IfOk-weaker}
use Rattle.pat_context.specs.Views.{is_sure}
use Rattle.constructor_sets.specs.declared.column.Found.{Found}
use Rattle.constructor_sets.specs.Columns.{plain_ctors}
use Rattle.constructor_sets.specs.Present.{AreFound, AreFoundOf, AreKept}
use Rattle.constructor_sets.proofs.Finding.{all_serve, all_flagged, all_found}
use Rattle.constructor_sets.proofs.column.found_pieces.Goals as goal

pub by_states-requires-clause-serving : goal.by_states-requires-clause-serving
by_states-requires-clause-serving g c =
    let cx = c.args.cx.now in
    all_serve (g.C.PatCx.is_type cx) (g.C.PatCx.is_value cx) (g.C.PatCx.context cx) (g.met.C.PatCx.values cx) c.args.ty c.args.set.now c.args.heads.now c.args.pieces.now
    c.requires.ty c.requires.set c.requires.heads c.requires.pieces

pub by_states-requires-clause-flagged : goal.by_states-requires-clause-flagged
by_states-requires-clause-flagged g c =
    let cx = c.args.cx.now in
    all_flagged (g.C.PatCx.is_type cx) (g.C.PatCx.is_value cx) (g.C.PatCx.context cx) (g.met.C.PatCx.values cx) c.args.ty c.args.set.now c.args.heads.now c.args.pieces.now
    c.requires.ty c.requires.set c.requires.heads c.requires.pieces

pub returns-clause-found : goal.returns-clause-found
returns-clause-found g c =
    let cx = c.args.cx.now in
    let heads = plain_ctors c.args.heads.now in
    IfOk-weaker c.by_states.result
    (λ (f : Found). AreFoundOf (g.C.PatCx.is_value cx) (record { type = c.args.ty; sure = is_sure c.args.validity }) heads c.args.pieces.now (plain_ctors f.ctors.items) f.missing (plain_ctors f.gaps.items))
    (λ (f : Found). AreFound (g.C.PatCx.is_value cx) (g.C.PatCx.context cx) (record { type = c.args.ty; sure = is_sure c.args.validity }) heads (plain_ctors f.ctors.items) f.missing (plain_ctors f.gaps.items))
    (λ f h.
    all_found (g.C.PatCx.is_type cx) (g.C.PatCx.is_value cx) (g.C.PatCx.context cx) (g.met.C.PatCx.values cx) c.args.ty c.args.set.now c.args.heads.now c.args.pieces.now
    c.requires.ty c.requires.set c.requires.heads c.requires.pieces (is_sure c.args.validity) (plain_ctors f.ctors.items) f.missing (plain_ctors f.gaps.items) h)
    c.by_states.ensures

pub returns-clause-kept : goal.returns-clause-kept
returns-clause-kept g c =
    IfOk-weaker c.by_states.result
    (λ (f : Found). AreFoundOf (g.C.PatCx.is_value c.args.cx.now) (record { type = c.args.ty; sure = is_sure c.args.validity }) (plain_ctors c.args.heads.now) c.args.pieces.now (plain_ctors f.ctors.items) f.missing (plain_ctors f.gaps.items))
    (λ (f : Found). AreKept c.args.pieces.now (plain_ctors f.ctors.items))
    (λ f h. record { pieces = h.pieces; same = h.same; present = h.present })
    c.by_states.ensures
