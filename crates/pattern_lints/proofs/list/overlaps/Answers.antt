use Rattle.std.proofs.Common.{List, map, [], subst}
use Rattle.pattern_arena.specs.Trees.{plain_match}
use Rattle.pattern_lints.specs.declared.found.FoundRange.{FoundRange}
use Rattle.pattern_lints.specs.Finding.{range_view}
use Rattle.pattern_lints.specs.Views.{plain_overlaps}
use Rattle.pattern_lints.specs.Pairing.{Adds, IsPairIn}
use Rattle.pattern_lints.proofs.Whole.{whole-list}
use Rattle.pattern_lints.proofs.list.overlaps.Goals as goal

pub returns : goal.returns
returns g c =
    let IsValue = g.C.PatCx.is_value c.args.cx.now in
    let m = plain_match c.args.m.now in
    let all = plain_overlaps c.in_ok-all.all.items in
    whole-list IsValue m (map range_view c.in_ok-found.found.items) all (plain_overlaps c.in_ok-list.list.items) c.in_ok-found.ensures
    (subst (λ (xs : List FoundRange). Adds (IsPairIn IsValue m (map range_view xs)) [] all) c.deref.ensures.value c.in_ok-all.ensures) c.in_ok-list.ensures
