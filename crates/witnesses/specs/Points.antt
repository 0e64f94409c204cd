-- The references that a witness begins with.
use Rattle.std.specs.Prelude.{Bool, true, false}
use Rattle.match_model.specs.Witness.{MWitness, PointOf}

-- whether there is one
abbrev pub begins_with_point : MWitness → Bool
begins_with_point (PointOf w) = true
begins_with_point w = false

-- what stands behind them
abbrev pub behind_points : MWitness → MWitness
behind_points (PointOf w) = behind_points w
behind_points w = w

-- the second witness with as many around it
abbrev pub put_behind : MWitness → MWitness → MWitness
put_behind (PointOf w) last = PointOf (put_behind w last)
put_behind w last = last
