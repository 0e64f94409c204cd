use Rattle.std.proofs.Common.{subst}
use Rattle.pattern_lints.specs.Meeting.{plain_head, HeadFits}
use Rattle.pattern_lints.proofs.Sizes.{placed_fits}
use Rattle.pattern_lints.proofs.places.part_of.Goals as goal

pub sub_for-requires-clause-fits : goal.sub_for-requires-clause-fits
sub_for-requires-clause-fits g c = placed_fits c.in-Some.p.now c.args.n (subst (λ h. HeadFits (plain_head h) c.args.n) c.in-Some.is c.requires.fits)
