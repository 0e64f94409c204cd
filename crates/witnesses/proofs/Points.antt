-- The references that a witness begins with.
use Rattle.std.proofs.Common.{◌≡◌, refl, ap}
use Rattle.match_model.specs.Witness.{MWitness, PointOf}
use Rattle.witnesses.specs.Points.{behind_points, put_behind}

-- one more reference, outside or inside
pub points_shift : (w last : MWitness) → put_behind (PointOf w) last ≡ put_behind w (PointOf last)
points_shift (PointOf w) last = ap PointOf (points_shift w last)
points_shift _ last = refl

-- what stands behind them, and they around it, are the whole
pub points_whole : (w : MWitness) → put_behind w (behind_points w) ≡ w
points_whole (PointOf w) = ap PointOf (points_whole w)
points_whole _ = refl
