use Rattle.std.proofs.Common.{◌≡◌, ◌∙◌, [], refl, take, ap, sym, subst, arith}
use Rattle.std.specs.List.{All}
use Rattle.std.proofs.lemmas.Option.{IfSome_then}
use Rattle.usefulness.specs.Frames.{IsRowIn, AreOpen, numbers, subs_of}
use Rattle.usefulness.specs.States.{plain_opens, plain_askeds, child_views, is_noted, scope_of}
use Rattle.usefulness.proofs.Left.{wild_listed}
use Rattle.usefulness.proofs.wild.wild_child.Goals as goal

pub returns-clause-good : goal.returns-clause-good
returns-clause-good g c =
    let scope = scope_of c.args.reached.now in
    let a = c.args.a.now in
    let same = c.in_ok-columns.ensures.items ∙ c.deref.ensures.value in
    IfSome_then c.finish.result c.finish.ensures.good
    (λ f good. good scope
    (subst (λ cs. AreOpen a.next (numbers (plain_opens cs))) (sym same) c.requires.apart.columns)
    (subst (λ cs. All (IsRowIn scope (numbers (plain_opens cs))) (plain_askeds c.in_ok-listing.listing.rows.items)) (sym same) c.in_ok-listing.ensures.rows))

pub returns-clause-listed : goal.returns-clause-listed
returns-clause-listed g c = λ some.
    wild_listed (g.C.PatCx.is_value c.args.cx.now) (scope_of c.args.reached.now) c.args.a.now c.requires.apart (is_noted c.args.reached.now) c.wild_listing.new.reached c.in_ok-listing.listing
    c.in_ok-columns.columns.items (child_views c.finish.result) (c.in_ok-columns.ensures.items ∙ c.deref.ensures.value) c.finish.ensures.views c.in_ok-listing.ensures some

pub returns-then-listing-eq0-clause-listed : goal.returns-then-listing-eq0-clause-listed
returns-then-listing-eq0-clause-listed g c = λ some.
    let a = c.args.a.now in
    let listing = c.in_ok-listing.listing in
    let none = c.if-listing-eq0.true in
    let end : listing.end ≡ 0 = omega (arith, none) in
    wild_listed (g.C.PatCx.is_value c.args.cx.now) (scope_of c.args.reached.now) a c.requires.apart (is_noted c.args.reached.now) c.wild_listing.new.reached listing
    a.others.items [] refl (sym (ap (λ n. subs_of (plain_opens a.others.items) (take n (plain_askeds listing.rows.items))) end)) c.in_ok-listing.ensures some
