use Rattle.std.proofs.Common.{◌∷◌, [], length, refl, sym, subst, arith}
use Rattle.std.proofs.lemmas.List.{length-map}
use Rattle.pattern_arena.specs.Trees.{plain_match, plain_arm}
use Rattle.pattern_matrix.specs.Starting.{starting_rows}
use Rattle.usefulness.specs.Scope.{scope_for}
use Rattle.usefulness.specs.Starting.{wanted_all}
use Rattle.usefulness.specs.States.{IsListed, is_noted}
use Rattle.usefulness.proofs.FirstRows.{with_behind, behind_in, plain_behind, behind_is}
use Rattle.usefulness.proofs.search.first_listing.Goals as goal

pub returns : goal.returns
returns g c =
    let arms = (plain_match c.args.m.now).arms in
    let many = length c.args.m.now.arms.now in
    let old = is_noted c.args.reached.now in
    let same = length-map c.args.m.now.arms.now plain_arm in
    let row = plain_behind [] many [] in
    let behind = behind_is [] many (length arms) [] refl (sym same) refl in
    subst (λ through. IsListed (scope_for arms) old c.list_row.new.reached (0 ∷ []) through c.list_row.new.listing) (with_behind arms row behind)
    (c.in_ok-list_row.ensures (scope_for arms) old (0 ∷ []) (wanted_all (starting_rows 0 arms)) c.in_ok-listing.ensures (behind_in (scope_for arms) (length arms) row (omega arith) behind))
