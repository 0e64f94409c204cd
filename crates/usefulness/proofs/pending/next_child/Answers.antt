use Rattle.std.proofs.Common.{◌≡◌, ◌<◌, None, Some, [], ◌∙◌, true, length, slice_get, ap, sym, subst, arith}
use Rattle.std.specs.Bool.{⊤}
use Rattle.std.specs.List.{All}
use Rattle.std.proofs.lemmas.List.{length-map}
use Rattle.std.proofs.lemmas.Option.{MatchOption-at_some, MatchOption-at_none}
use Rattle.std.proofs.lemmas.Result.{IfOk-weaker}
use Rattle.pat_context.specs.Views.{plain_ctor}
use Rattle.constructor_sets.specs.Columns.{plain_ctors}
use Rattle.constructor_sets.specs.Spans.{plain_span}
use Rattle.pattern_matrix.specs.declared.halving.PieceLeaves.{PieceLeaves}
use Rattle.pattern_matrix.specs.Halving.{span_has, leaves_with}
use Rattle.pattern_matrix.specs.Parts.{plain_spans}
use Rattle.pattern_matrix.specs.Views.{plain_leaf}
use Rattle.pattern_matrix.specs.Sparse.{leaves_listed}
use Rattle.usefulness.specs.Cutting.{AreEnough, IsCutPart, parts_left, IsCutOff}
use Rattle.usefulness.specs.States.{IsEnterable, apart_leaves, is_noted, scope_of}
use Rattle.usefulness.proofs.Pieces.{read_at, spans_long, piece_numbers, piece_have, piece_leaves}
use Rattle.usefulness.proofs.Cuts.{cut_later}
use Rattle.usefulness.proofs.Reading.{got_at}
use Rattle.usefulness.proofs.RowFacts.{at_get}
use Rattle.usefulness.proofs.Stacking.{found_below, still_within, still_few, parts_some, some_entered, none_entered}
use Rattle.usefulness.proofs.Steps.{ok_held}
use Rattle.usefulness.proofs.pending.next_child.Goals as goal

pub next_cut-requires-clause-spans : goal.next_cut-requires-clause-spans
next_cut-requires-clause-spans g c =
    let p = c.args.p.now in
    ap length c.deref.ensures.value
    ∙ sym (length-map p.spans.items plain_span)
    ∙ spans_long (plain_ctors p.pieces.items) (apart_leaves p.apart) (plain_spans p.spans.items) c.requires.pending.spans
    ∙ length-map p.apart.leaves.items plain_leaf

pub index-requires : goal.index-requires
index-requires g c =
    let p = c.args.p.now in
    let a = p.apart in
    let m = is_noted c.args.reached.now in
    let pending = c.requires.pending in
    let before = parts_left p.parts.items in
    let after = parts_left c.next_cut.new.todo.items in
    let next = c.in-Some.next in
    let off = subst (λ ss. IsCutOff m p.missing a ss before after (Some next)) c.deref.ensures.value (subst (λ o. IsCutOff m p.missing a c.deref.result.now before after o) c.in-Some.is c.in_ok-next_cut.ensures.cut) in
    let within : next.piece < length p.pieces.items = found_below m p.missing a p.spans.items before after next (length p.pieces.items) off pending.within in
    omega (arith, within, p.pieces.ok.0)

pub piece_child-requires-clause-piece : goal.piece_child-requires-clause-piece
piece_child-requires-clause-piece g c =
    let p = c.args.p.now in
    let a = p.apart in
    let m = is_noted c.args.reached.now in
    let pending = c.requires.pending in
    let before = parts_left p.parts.items in
    let after = parts_left c.next_cut.new.todo.items in
    let next = c.in-Some.next in
    let off = subst (λ ss. IsCutOff m p.missing a ss before after (Some next)) c.deref.ensures.value (subst (λ o. IsCutOff m p.missing a c.deref.result.now before after o) c.in-Some.is c.in_ok-next_cut.ensures.cut) in
    let within : next.piece < length p.pieces.items = found_below m p.missing a p.spans.items before after next (length p.pieces.items) off pending.within in
    let ctor = c.index.result.now in
    let ctors = plain_ctors p.pieces.items in
    let leaves = apart_leaves a in
    let count = length-map p.pieces.items plain_ctor in
    let below : next.piece < length ctors = omega (arith, within, count) in
    at_get (IsEnterable (g.C.PatCx.is_value c.args.cx.now) (g.C.PatCx.context c.args.cx.now) a) ctors next.piece (plain_ctor ctor) pending.pieces (got_at plain_ctor p.pieces.items next.piece ctor within c.index.ensures)

pub piece_child-requires-clause-within : goal.piece_child-requires-clause-within
piece_child-requires-clause-within g c =
    let p = c.args.p.now in
    let a = p.apart in
    let m = is_noted c.args.reached.now in
    let pending = c.requires.pending in
    let before = parts_left p.parts.items in
    let after = parts_left c.next_cut.new.todo.items in
    let next = c.in-Some.next in
    let off = subst (λ ss. IsCutOff m p.missing a ss before after (Some next)) c.deref.ensures.value (subst (λ o. IsCutOff m p.missing a c.deref.result.now before after o) c.in-Some.is c.in_ok-next_cut.ensures.cut) in
    let within : next.piece < length p.pieces.items = found_below m p.missing a p.spans.items before after next (length p.pieces.items) off pending.within in
    let ctor = c.index.result.now in
    let ctors = plain_ctors p.pieces.items in
    let leaves = apart_leaves a in
    let count = length-map p.pieces.items plain_ctor in
    let below : next.piece < length ctors = omega (arith, within, count) in
    let has = subst (All (λ k. span_has next.piece (slice_get (plain_spans p.spans.items) k) ≡ true)) (sym c.deref-in-Some.ensures.value)
    (subst (λ ss. All (λ k. span_has next.piece (slice_get (plain_spans ss) k) ≡ true) next.leaves.items) c.deref.ensures.value
    (MatchOption-at_some ⊤ (λ (p : PieceLeaves). All (λ k. span_has p.piece (slice_get (plain_spans c.deref.result.now) k) ≡ true) p.leaves.items) next c.in-Some.is c.in_ok-next_cut.ensures.have)) in
    piece_numbers ctors next.piece (plain_ctor ctor) below leaves (plain_spans p.spans.items) pending.spans
    c.deref-in-Some.result.now has (length a.leaves.items) (length-map a.leaves.items plain_leaf)

pub piece_child-requires-clause-have : goal.piece_child-requires-clause-have
piece_child-requires-clause-have g c =
    let p = c.args.p.now in
    let a = p.apart in
    let m = is_noted c.args.reached.now in
    let pending = c.requires.pending in
    let before = parts_left p.parts.items in
    let after = parts_left c.next_cut.new.todo.items in
    let next = c.in-Some.next in
    let off = subst (λ ss. IsCutOff m p.missing a ss before after (Some next)) c.deref.ensures.value (subst (λ o. IsCutOff m p.missing a c.deref.result.now before after o) c.in-Some.is c.in_ok-next_cut.ensures.cut) in
    let within : next.piece < length p.pieces.items = found_below m p.missing a p.spans.items before after next (length p.pieces.items) off pending.within in
    let ctor = c.index.result.now in
    let ctors = plain_ctors p.pieces.items in
    let leaves = apart_leaves a in
    let count = length-map p.pieces.items plain_ctor in
    let below : next.piece < length ctors = omega (arith, within, count) in
    let has = subst (All (λ k. span_has next.piece (slice_get (plain_spans p.spans.items) k) ≡ true)) (sym c.deref-in-Some.ensures.value)
    (subst (λ ss. All (λ k. span_has next.piece (slice_get (plain_spans ss) k) ≡ true) next.leaves.items) c.deref.ensures.value
    (MatchOption-at_some ⊤ (λ (p : PieceLeaves). All (λ k. span_has p.piece (slice_get (plain_spans c.deref.result.now) k) ≡ true) p.leaves.items) next c.in-Some.is c.in_ok-next_cut.ensures.have)) in
    let enterable = at_get (IsEnterable (g.C.PatCx.is_value c.args.cx.now) (g.C.PatCx.context c.args.cx.now) a) ctors next.piece (plain_ctor ctor) pending.pieces (got_at plain_ctor p.pieces.items next.piece ctor within c.index.ensures) in
    piece_have ctors next.piece (plain_ctor ctor) below leaves (plain_spans p.spans.items) pending.spans
    c.deref-in-Some.result.now has (read_at plain_ctor p.pieces.items next.piece ctor within c.index.ensures) ((g.C.PatCx.context c.args.cx.now).arity (plain_ctor ctor) a.taken.column.ty) enterable.long

pub piece_child-requires-clause-enough : goal.piece_child-requires-clause-enough
piece_child-requires-clause-enough g c =
    let p = c.args.p.now in
    let a = p.apart in
    let m = is_noted c.args.reached.now in
    let pending = c.requires.pending in
    let before = parts_left p.parts.items in
    let after = parts_left c.next_cut.new.todo.items in
    let next = c.in-Some.next in
    let off = subst (λ ss. IsCutOff m p.missing a ss before after (Some next)) c.deref.ensures.value (subst (λ o. IsCutOff m p.missing a c.deref.result.now before after o) c.in-Some.is c.in_ok-next_cut.ensures.cut) in
    let within : next.piece < length p.pieces.items = found_below m p.missing a p.spans.items before after next (length p.pieces.items) off pending.within in
    let ctor = c.index.result.now in
    let ctors = plain_ctors p.pieces.items in
    let leaves = apart_leaves a in
    let count = length-map p.pieces.items plain_ctor in
    let below : next.piece < length ctors = omega (arith, within, count) in
    let enough = subst (λ ss. AreEnough m p.missing a (leaves_listed leaves (leaves_with (plain_spans ss) next.piece)) (leaves_listed leaves next.leaves.items)) c.deref.ensures.value
    (MatchOption-at_some ⊤ (λ (z : PieceLeaves). AreEnough m p.missing a (leaves_listed leaves (leaves_with (plain_spans c.deref.result.now) z.piece)) (leaves_listed leaves z.leaves.items))
    next c.in-Some.is c.in_ok-next_cut.ensures.enough) in
    subst (λ ls. AreEnough m p.missing a ls (leaves_listed leaves c.deref-in-Some.result.now))
    (piece_leaves ctors next.piece (plain_ctor ctor) below leaves (plain_spans p.spans.items) pending.spans (read_at plain_ctor p.pieces.items next.piece ctor within c.index.ensures))
    (subst (λ ks. AreEnough m p.missing a (leaves_listed leaves (leaves_with (plain_spans p.spans.items) next.piece)) (leaves_listed leaves ks)) (sym c.deref-in-Some.ensures.value) enough)

pub returns-in-None-clause-next : goal.returns-in-None-clause-next
returns-in-None-clause-next g c =
    let p = c.args.p.now in
    let a = p.apart in
    let m = is_noted c.args.reached.now in
    let pending = c.requires.pending in
    let before = parts_left p.parts.items in
    let after = parts_left c.next_cut.new.todo.items in
    let cx = c.args.cx.now in
    let IsType = g.C.PatCx.is_type cx in
    let IsValue = g.C.PatCx.is_value cx in
    let context = g.C.PatCx.context cx in
    let scope = scope_of c.args.reached.now in
    let off = subst (λ ss. IsCutOff m p.missing a ss before after None) c.deref.ensures.value (subst (λ o. IsCutOff m p.missing a c.deref.result.now before after o) c.in-None.is c.in_ok-next_cut.ensures.cut) in
    none_entered IsType IsValue context scope a p.pieces.items p.missing p.spans.items pending.apart pending.pieces pending.spans m before after off pending.within
    (parts_some m p.missing a p.spans.items p.parts.items pending.parts c.requires.some)
    (MatchOption-at_none (after ≡ []) (λ _. ⊤) c.in-None.is c.in_ok-next_cut.ensures.none)

pub returns-in-None-clause-pending : goal.returns-in-None-clause-pending
returns-in-None-clause-pending g c =
    let p = c.args.p.now in
    let a = p.apart in
    let m = is_noted c.args.reached.now in
    let pending = c.requires.pending in
    let before = parts_left p.parts.items in
    let after = parts_left c.next_cut.new.todo.items in
    let off = subst (λ ss. IsCutOff m p.missing a ss before after c.in_ok-next_cut.field-0) c.deref.ensures.value c.in_ok-next_cut.ensures.cut in
    let less = still_few m p.missing a p.spans.items before after c.in_ok-next_cut.field-0 off in
    let few = pending.few in
    record {
      apart = pending.apart;
      ty = pending.ty;
      pieces = pending.pieces;
      spans = pending.spans;
      parts = subst (λ ss. All (IsCutPart m p.missing a ss) c.next_cut.new.todo.items) c.deref.ensures.value c.in_ok-next_cut.ensures.parts;
      within = still_within m p.missing a p.spans.items before after c.in_ok-next_cut.field-0 (length p.pieces.items) off pending.within;
      few = omega (arith, less, few);
    }

pub returns-in-Some-clause-pending : goal.returns-in-Some-clause-pending
returns-in-Some-clause-pending g c =
    let p = c.args.p.now in
    let a = p.apart in
    let m = is_noted c.args.reached.now in
    let pending = c.requires.pending in
    let before = parts_left p.parts.items in
    let after = parts_left c.next_cut.new.todo.items in
    let now = is_noted c.piece_child.new.reached in
    let off = subst (λ ss. IsCutOff m p.missing a ss before after c.in_ok-next_cut.field-0) c.deref.ensures.value c.in_ok-next_cut.ensures.cut in
    let less = still_few m p.missing a p.spans.items before after c.in_ok-next_cut.field-0 off in
    let few = pending.few in
    let parts = subst (λ ss. All (IsCutPart m p.missing a ss) c.next_cut.new.todo.items) c.deref.ensures.value c.in_ok-next_cut.ensures.parts in
    ok_held c.piece_child.result c.piece_child.ensures.listed
    (λ o l. record {
      apart = pending.apart;
      ty = pending.ty;
      pieces = pending.pieces;
      spans = pending.spans;
      parts = cut_later p.missing a p.spans.items m now c.next_cut.new.todo.items l.grow parts;
      within = still_within m p.missing a p.spans.items before after c.in_ok-next_cut.field-0 (length p.pieces.items) off pending.within;
      few = omega (arith, less, few);
    })

pub returns-in-Some-clause-next : goal.returns-in-Some-clause-next
returns-in-Some-clause-next g c =
    let p = c.args.p.now in
    let a = p.apart in
    let m = is_noted c.args.reached.now in
    let pending = c.requires.pending in
    let before = parts_left p.parts.items in
    let after = parts_left c.next_cut.new.todo.items in
    let next = c.in-Some.next in
    let off = subst (λ ss. IsCutOff m p.missing a ss before after (Some next)) c.deref.ensures.value (subst (λ o. IsCutOff m p.missing a c.deref.result.now before after o) c.in-Some.is c.in_ok-next_cut.ensures.cut) in
    let within : next.piece < length p.pieces.items = found_below m p.missing a p.spans.items before after next (length p.pieces.items) off pending.within in
    let cx = c.args.cx.now in
    let IsType = g.C.PatCx.is_type cx in
    let IsValue = g.C.PatCx.is_value cx in
    let context = g.C.PatCx.context cx in
    let scope = scope_of c.args.reached.now in
    let now = is_noted c.piece_child.new.reached in
    IfOk-weaker c.piece_child.result _ _
    (λ o l. some_entered IsType IsValue context scope a p.pieces.items p.missing p.spans.items pending.apart pending.pieces pending.spans m now before after next c.index.result.now o off pending.within c.index.ensures l)
    c.piece_child.ensures.listed
