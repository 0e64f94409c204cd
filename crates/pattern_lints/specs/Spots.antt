-- Where ranges of more than one number stand in a pattern, and at which place of the values each does.
use Rattle.std.specs.Prelude.{ℕ, suc, List, [], ◌∷◌, ◌++◌, map, Option, None, Some, if◌then◌else◌}
use Rattle.match_model.specs.Numbers.{MRange, has_one_number}
use Rattle.match_model.specs.Constructors.{MCtor, VariantCtor, NumbersCtor, RowCtor, OrCtor}
use Rattle.match_model.specs.ArenaPatterns.{MDePat, de_pat, MDePats, no_de_pats, more_de_pats}

-- a step to a part of a value: of which variant, and the number of the part; all items of a row are one step
pub record PartStep : Type 0 where
  pub variant : ℕ
  pub part : ℕ

-- a range of more than one number in a pattern: the numbers of the patterns below that lead there, the steps to its place,
-- its offset, and the range
pub record Spot : Type 0 where
  pub path : List ℕ
  pub steps : List PartStep
  pub at : ℕ
  pub range : MRange

-- the step to the part with the number `i` of a constructor
abbrev pub step_in : MCtor → ℕ → PartStep
step_in (VariantCtor k) i = record { variant = k; part = i }
step_in (RowCtor s) i = record { variant = 0; part = 0 }
step_in _ i = record { variant = 0; part = i }

-- the steps seen from one level further out; alternatives stand where their or-pattern does
abbrev pub steps_below : MCtor → ℕ → List PartStep → List PartStep
steps_below OrCtor i steps = steps
steps_below c i steps = step_in c i ∷ steps

-- the spot seen from one level further out
abbrev pub spot_below : MCtor → ℕ → Spot → Spot
spot_below c i s = record s { path = i ∷ s.path; steps = steps_below c i s.steps }

-- the range of the constructor, where it has one of more than one number
abbrev pub several_of : MCtor → Option MRange
several_of (NumbersCtor r) = if has_one_number r then None else Some r
several_of _ = None

-- the spot of a pattern with the offset that is such a range
abbrev pub own_spot : (at : ℕ) → Option MRange → List Spot
own_spot at None = []
own_spot at (Some r) = record { path = []; steps = []; at = at; range = r } ∷ []

abbrev mutual
  -- the spots of a pattern, in reading order
  pub spots_in : {T : Type 0} → MDePat T → List Spot
  spots_in (de_pat c t uid at subs binds) = own_spot at (several_of c) ++ spots_below c 0 subs

  -- the spots of the patterns below, from number `i` on
  pub spots_below : {T : Type 0} → MCtor → ℕ → MDePats T → List Spot
  spots_below c i no_de_pats = []
  spots_below c i (more_de_pats p ps) = map (spot_below c i) (spots_in p) ++ spots_below c (suc i) ps
