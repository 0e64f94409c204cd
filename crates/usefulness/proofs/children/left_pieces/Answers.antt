use Rattle.std.proofs.Common.{◌∙◌, map, sym, subst, append-nil}
use Rattle.std.proofs.lemmas.List.{length-map}
use Rattle.constructor_sets.specs.Columns.{plain_ctors}
use Rattle.constructor_sets.specs.Spans.{plain_span}
use Rattle.pattern_matrix.specs.Parts.{plain_spans}
use Rattle.pattern_matrix.specs.Views.{plain_leaf}
use Rattle.usefulness.specs.Listing.{AreAllListed}
use Rattle.usefulness.specs.States.{apart_leaves, piece_view, is_noted, scope_of}
use Rattle.usefulness.proofs.Openings.{fresh_views, fresh_good}
use Rattle.usefulness.proofs.Pieces.{spans_long}
use Rattle.usefulness.proofs.children.left_pieces.Goals as goal

pub open_pieces-requires : goal.open_pieces-requires
open_pieces-requires g c =
    let a = c.args.a in
    let spans = c.args.spans.items in
    sym (length-map spans plain_span) ∙ spans_long (plain_ctors c.args.found.ctors.items) (apart_leaves a) (plain_spans spans) c.requires.spans ∙ length-map a.leaves.items plain_leaf

pub returns-clause-good : goal.returns-clause-good
returns-clause-good g c =
    let cx = c.args.cx.now in
    fresh_good (g.C.PatCx.is_type cx) (g.C.PatCx.is_value cx) (g.C.PatCx.context cx) (scope_of c.args.reached.now) (is_noted c.enter_all.new.reached) c.args.a c.args.found c.args.spans.items
    c.in_ok-pieces.pieces c.in_ok-pieces.ensures c.requires.apart c.requires.ty c.requires.pieces c.requires.spans

pub returns-clause-listed : goal.returns-clause-listed
returns-clause-listed g c =
    let cx = c.args.cx.now in
    let IsValue = g.C.PatCx.is_value cx in
    let context = g.C.PatCx.context cx in
    let a = c.args.a in
    let found = c.args.found in
    let old = is_noted c.args.reached.now in
    let now = is_noted c.enter_all.new.reached in
    let view = piece_view context a found.missing in
    subst (AreAllListed IsValue old now (map view (plain_ctors found.ctors.items))) (sym (append-nil _ ∙ fresh_views context a found c.args.spans.items c.in_ok-pieces.pieces c.in_ok-pieces.ensures))
    (subst (λ cs. AreAllListed IsValue old now (map view (plain_ctors cs)) (map view (plain_ctors cs))) c.deref.ensures.value (c.in_ok-enter_all.ensures.left c.if-branch.false))
