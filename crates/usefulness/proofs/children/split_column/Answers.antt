use Rattle.std.proofs.Common.{[], ◌++◌, map, sym, subst, append-nil}
use Rattle.std.specs.List.{flat_map}
use Rattle.std.specs.Option.{option_to_list}
use Rattle.constructor_sets.specs.Columns.{plain_ctors}
use Rattle.usefulness.specs.Listing.{AreAllListed}
use Rattle.usefulness.specs.Stack.{pending_views}
use Rattle.usefulness.specs.States.{child_views, piece_view, wild_view, is_noted, scope_of}
use Rattle.usefulness.proofs.Looking.{first_listed}
use Rattle.usefulness.proofs.Splits.{enterable, wild_fits, looked_missing, looked_present}
use Rattle.usefulness.proofs.children.split_column.Goals as goal

pub left_pieces-requires-clause-pieces : goal.left_pieces-requires-clause-pieces
left_pieces-requires-clause-pieces g c =
    let cx = c.args.cx.now in
    let found = c.args.found in
    enterable (g.C.PatCx.is_type cx) (g.C.PatCx.is_value cx) (g.C.PatCx.context cx) (g.met.C.PatCx.values cx) (g.met.C.PatCx.parts cx) (scope_of c.args.reached.now) c.args.a c.requires.apart c.requires.fit
    (plain_ctors found.ctors.items) (plain_ctors found.gaps.items) found.missing c.requires.some c.requires.found

pub left_pieces-requires-else-found-clause-pieces : goal.left_pieces-requires-else-found-clause-pieces
left_pieces-requires-else-found-clause-pieces g c =
    let cx = c.args.cx.now in
    let found = c.args.found in
    enterable (g.C.PatCx.is_type cx) (g.C.PatCx.is_value cx) (g.C.PatCx.context cx) (g.met.C.PatCx.values cx) (g.met.C.PatCx.parts cx) (scope_of c.args.reached.now) c.args.a c.requires.apart c.requires.fit
    (plain_ctors found.ctors.items) (plain_ctors found.gaps.items) found.missing c.requires.some c.requires.found

pub returns-in_ok-pieces-clause-looked : goal.returns-in_ok-pieces-clause-looked
returns-in_ok-pieces-clause-looked g c =
    let cx = c.args.cx.now in
    let IsType = g.C.PatCx.is_type cx in
    let IsValue = g.C.PatCx.is_value cx in
    let context = g.C.PatCx.context cx in
    let values = g.met.C.PatCx.values cx in
    let law = g.met.C.PatCx.parts cx in
    let scope = scope_of c.args.reached.now in
    let a = c.args.a in
    let found = c.args.found in
    let ctors = plain_ctors found.ctors.items in
    let gaps = plain_ctors found.gaps.items in
    let old = is_noted c.args.reached.now in
    let mid = is_noted c.wild_child.new.reached in
    let now = is_noted c.left_pieces.new.reached in
    let left = flat_map (pending_views context) (option_to_list c.in_ok-pieces.pieces) in
    let fits = wild_fits IsType IsValue context values law scope a c.requires.apart c.requires.fit ctors gaps found.missing c.requires.some c.requires.found c.if-found.true in
    looked_missing IsType IsValue context values law scope a c.requires.apart c.requires.fit ctors gaps found.missing c.requires.some c.requires.found
    old now (left ++ child_views c.in_ok-wild.wild) c.if-found.true c.requires.sharp
    (first_listed IsValue old mid now (wild_view a) (map (piece_view context a found.missing) ctors) (child_views c.in_ok-wild.wild) left (c.in_ok-wild.ensures.listed fits.some) c.in_ok-pieces.ensures.listed)

pub returns-in_ok-pieces-2-clause-looked : goal.returns-in_ok-pieces-2-clause-looked
returns-in_ok-pieces-2-clause-looked g c =
    let cx = c.args.cx.now in
    let IsValue = g.C.PatCx.is_value cx in
    let context = g.C.PatCx.context cx in
    let found = c.args.found in
    let ctors = plain_ctors found.ctors.items in
    let old = is_noted c.args.reached.now in
    let now = is_noted c.left_pieces-else-found.new.reached in
    let left = flat_map (pending_views context) (option_to_list c.in_ok-pieces-2.pieces) in
    looked_present (g.C.PatCx.is_type cx) IsValue context (g.met.C.PatCx.values cx) (g.met.C.PatCx.parts cx) (scope_of c.args.reached.now) c.args.a c.requires.apart c.requires.fit ctors (plain_ctors found.gaps.items) found.missing c.requires.some c.requires.found
    old now (left ++ []) c.if-found.false c.requires.sharp
    (subst (AreAllListed IsValue old now (map (piece_view context c.args.a found.missing) ctors)) (sym (append-nil left)) c.in_ok-pieces-2.ensures.listed)
