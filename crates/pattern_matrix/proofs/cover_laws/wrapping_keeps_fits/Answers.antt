use Rattle.pattern_matrix.proofs.Wrapping.{wrapped_fits}
use Rattle.pattern_matrix.proofs.cover_laws.wrapping_keeps_fits.Goals as goal

pub returns : goal.returns
returns c = wrapped_fits
