-- Which numbers parts have.
use Rattle.std.specs.Prelude.{⊤, ℕ, ◌<◌, ◌^◌}
use Rattle.match_model.specs.Constructors.{MCtor, PointCtor, RowCtor, least_length}

-- a part of the constructor may have the number, so that a step can hold it
abbrev pub IsStep : MCtor → ℕ → Type 0
IsStep PointCtor k = ⊤
IsStep (RowCtor s) k = k < least_length s
IsStep _ k = k < 2 ^ 32
