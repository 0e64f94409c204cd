use Rattle.std.proofs.Common.{◌∙◌, take, ap, sym, subst}
use Rattle.std.specs.List.{All}
use Rattle.std.proofs.lemmas.Option.{IfSome_then}
use Rattle.pattern_arena.specs.Trees.{plain_match}
use Rattle.pattern_matrix.proofs.FirstTold.{first_tells}
use Rattle.usefulness.specs.Scope.{scope_for}
use Rattle.usefulness.specs.Frames.{IsRowIn, AreOpen, numbers, subs_of}
use Rattle.usefulness.specs.States.{child_views, plain_opens, plain_askeds, is_noted}
use Rattle.usefulness.proofs.FirstFrames.{one_pushed, first_open, first_search}
use Rattle.usefulness.proofs.search.first_frame.Goals as goal

pub returns-clause-good : goal.returns-clause-good
returns-clause-good g c =
    let scope = scope_for (plain_match c.args.m.now).arms in
    let shown = one_pushed c.in_ok-push.ensures.items c.in_ok-columns.ensures.items in
    IfSome_then c.finish.result c.finish.ensures.good
    (λ f good. good scope (subst (λ cs. AreOpen 1 (numbers (plain_opens cs))) (sym shown) first_open)
    (subst (λ cs. All (IsRowIn scope (numbers (plain_opens cs))) (plain_askeds c.in_ok-listing.listing.rows.items)) (sym shown) c.in_ok-listing.ensures.rows))

pub returns-clause-search : goal.returns-clause-search
returns-clause-search g c =
    let cx = c.args.cx.now in
    let IsType = g.C.PatCx.is_type cx in
    let IsValue = g.C.PatCx.is_value cx in
    let context = g.C.PatCx.context cx in
    let m = c.args.m.now in
    let scope = scope_for (plain_match m).arms in
    let listing = c.in_ok-listing.listing in
    let shown = one_pushed c.in_ok-push.ensures.items c.in_ok-columns.ensures.items in
    first_search IsType IsValue context scope (plain_match m) (is_noted c.args.reached.now) c.first_listing.new.reached listing (child_views c.finish.result) c.requires.none
    ((first_tells IsType IsValue context).fit (plain_match m) c.requires.typed c.matches_are_made.ensures c.requires.value) c.in_ok-listing.ensures
    (c.finish.ensures.views ∙ ap (λ cs. subs_of (plain_opens cs) (take listing.end (plain_askeds listing.rows.items))) shown)
