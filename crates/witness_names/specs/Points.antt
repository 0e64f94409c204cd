-- The references that a witness begins with.
use Rattle.std.specs.Prelude.{Bool, List, [], ◌∷◌}
use Rattle.match_model.specs.Types.{MType, PointType}
use Rattle.match_model.specs.Declarations.{MProgram}
use Rattle.match_model.specs.Witness.{MWitness, PointOf}
use Rattle.witness_text.specs.Trees.{WitnessTree, OfPoint}
use Rattle.witness_names.specs.declared.paths.Paths.{Paths}
use Rattle.witness_names.specs.Named.{named_by}

-- whether each is mutable, as far as the type has references there
abbrev pub point_kinds : MWitness → MType → List Bool
point_kinds (PointOf w) (PointType mutable t) = mutable ∷ point_kinds w t
point_kinds w t = []

-- what stands behind them, with its names
abbrev pub named_behind : Paths → MProgram → MWitness → MType → WitnessTree
named_behind paths program (PointOf w) (PointType mutable t) = named_behind paths program w t
named_behind paths program w t = named_by paths program t w

-- a witness with references around it, the first one outside
abbrev pub put_behind : List Bool → WitnessTree → WitnessTree
put_behind [] last = last
put_behind (mutable ∷ kinds) last = OfPoint mutable (put_behind kinds last)
