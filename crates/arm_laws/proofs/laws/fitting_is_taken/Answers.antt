use Rattle.arm_laws.proofs.Fitting.{fits_takes}
use Rattle.arm_laws.proofs.laws.fitting_is_taken.Goals as goal

pub returns : goal.returns
returns c = fits_takes
