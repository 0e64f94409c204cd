-- The names of a witness, by the references that it begins with.
use Rattle.std.proofs.Common.{◌≡◌, refl, sym, ap, ◌∙◌, Bool, false, List, [], ◌∷◌, ◌++◌, Some, None}
use Rattle.match_model.specs.Types.{MType, PointType}
use Rattle.match_model.specs.Declarations.{MProgram}
use Rattle.match_model.specs.Witness.{MWitness, PointOf}
use Rattle.witness_text.specs.Trees.{WitnessTree, OfPoint}
use Rattle.witness_names.specs.declared.paths.Paths.{Paths}
use Rattle.witness_names.specs.Named.{named_by}
use Rattle.witnesses.specs.Points.{begins_with_point}
use Rattle.witness_names.specs.Lookups.{pointed}
use Rattle.witness_names.specs.Points.{point_kinds, named_behind, put_behind}

-- they stand around what is behind them
pub named_points : (paths : Paths) (program : MProgram) (w : MWitness) (t : MType) → put_behind (point_kinds w t) (named_behind paths program w t) ≡ named_by paths program t w
named_points paths program (PointOf w) (PointType mutable t) = ap (OfPoint mutable) (named_points paths program w t)
named_points paths program _ _ = refl

-- one more inside
pub inside : (kinds : List Bool) (mutable : Bool) (last : WitnessTree) → put_behind (kinds ++ mutable ∷ []) last ≡ put_behind kinds (OfPoint mutable last)
inside [] mutable last = refl
inside (k ∷ kinds) mutable last = ap (OfPoint k) (inside kinds mutable last)

pub is_pointed : (t u : MType) (mutable : Bool) → pointed t ≡ Some (mutable, u) → t ≡ PointType mutable u
is_pointed (PointType m v) u mutable e =
    let same : (m, v) ≡ (mutable, u) = cc in
    ap (λ (p : Bool × MType). PointType p.0 p.1) same
is_pointed _ u mutable e = cc

-- a reference of the type is gone through
pub behind_step : (paths : Paths) (program : MProgram) (t u : MType) (mutable : Bool) (v w : MWitness) → pointed t ≡ Some (mutable, u) → w ≡ PointOf v →
    named_behind paths program v u ≡ named_behind paths program w t
behind_step paths program t u mutable v w e f = sym (ap (λ x. named_behind paths program x t) f ∙ ap (named_behind paths program (PointOf v)) (is_pointed t u mutable e))

pub kinds_step : (t u : MType) (mutable : Bool) (v w : MWitness) → pointed t ≡ Some (mutable, u) → w ≡ PointOf v → point_kinds w t ≡ mutable ∷ point_kinds v u
kinds_step t u mutable v w e f = ap (λ x. point_kinds x t) f ∙ ap (point_kinds (PointOf v)) (is_pointed t u mutable e)

-- what is no reference of the type is not
pub behind_end : (paths : Paths) (program : MProgram) (t : MType) (w : MWitness) → pointed t ≡ None → named_behind paths program w t ≡ named_by paths program t w
behind_end paths program (PointType m u) w e = cc
behind_end paths program _ (PointOf v) e = refl
behind_end paths program _ _ e = refl

-- nor is what begins with none
pub behind_last : (paths : Paths) (program : MProgram) (t : MType) (w : MWitness) → begins_with_point w ≡ false → named_behind paths program w t ≡ named_by paths program t w
behind_last paths program t (PointOf v) e = cc
behind_last paths program t _ e = refl

pub kinds_end : (t : MType) (w : MWitness) → pointed t ≡ None → point_kinds w t ≡ []
kinds_end (PointType m u) w e = cc
kinds_end _ (PointOf v) e = refl
kinds_end _ _ e = refl
