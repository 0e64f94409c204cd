use Rattle.std.proofs.Common.{◌<◌, Some, subst}
use Rattle.pattern_arena.specs.Trees.{tree}
use Rattle.pattern_lints.specs.Meeting.{plain_head, HeadFits}
use Rattle.pattern_lints.specs.Lengths.{IsSpotOf}
use Rattle.pattern_lints.proofs.Sizes.{placed_count, placed_fits}
use Rattle.pattern_lints.proofs.places.stands.Goals as goal

pub place_in-requires-clause-below : goal.place_in-requires-clause-below
place_in-requires-clause-below g c =
    subst (λ x. c.in-Some-Some.i < x) (placed_count c.args.p.now)
    (subst (λ s. IsSpotOf (Some (tree c.args.p.now)) (plain_head (Some c.in-Some-Some.q)) s) c.in-Some-Some.is-0
    (subst (λ h. IsSpotOf (Some (tree c.args.p.now)) (plain_head h) c.args.spot) c.in-Some-Some.is-1 c.requires.within)).0

pub place_in-requires-in-Some-Some-clause-fits : goal.place_in-requires-in-Some-Some-clause-fits
place_in-requires-in-Some-Some-clause-fits g c =
    placed_fits c.in-Some-Some.q.now c.args.n (subst (λ h. HeadFits (plain_head h) c.args.n) c.in-Some-Some.is-1 c.requires.second)

pub place_in-requires-in-Some-Some-clause-below : goal.place_in-requires-in-Some-Some-clause-below
place_in-requires-in-Some-Some-clause-below g c =
    subst (λ x. c.in-Some-Some.j < x) (placed_count c.in-Some-Some.q.now)
    (subst (λ s. IsSpotOf (Some (tree c.args.p.now)) (plain_head (Some c.in-Some-Some.q)) s) c.in-Some-Some.is-0
    (subst (λ h. IsSpotOf (Some (tree c.args.p.now)) (plain_head h) c.args.spot) c.in-Some-Some.is-1 c.requires.within)).1
