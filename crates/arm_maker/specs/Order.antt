-- The order of the arms to add (our own choice). It is that of witnesses, with one exception. At a place a range below
-- every literal of `isize` comes behind all other numbers. So an arm that takes more than its witness shows stands
-- behind the exact ones of its place.
use Rattle.std.specs.Prelude.{◌≡◌, ◌⊎◌, Bool, true, false, List, ◌∷◌, length}
use Rattle.match_model.specs.Types.{MType, IntType}
use Rattle.match_model.specs.Declarations.{MProgram, node_types}
use Rattle.match_model.specs.Numbers.{MRange}
use Rattle.match_model.specs.RustTypes.{inner_type}
use Rattle.match_model.specs.Lists.{Ordered, SameMembers}
use Rattle.match_model.specs.Witness.{MWitness, SpanOf, NodeOf, PointOf, RowOf, MWitnesses, more_witnesses, witnesses_list}
use Rattle.match_model.specs.WitnessOrder.{Compared, Same, Before, NotBefore, and_then, compare_nat, compare_range, compare_shape, compare_witness}
use Rattle.witness_text.specs.Ranges.{ends_below_literals}
use Rattle.witness_names.specs.Named.{types_there}

-- the range is one of `isize` and ends below every literal
abbrev pub is_late : MType → MRange → Bool
is_late (IntType kind) r = ends_below_literals kind r.high
is_late t r = false

-- two ranges, by whether each is late, and where that is one, by their ends
abbrev pub compare_late : (late later : Bool) → Compared → Compared
compare_late false true ends = Before
compare_late true false ends = NotBefore
compare_late _ _ ends = ends

abbrev mutual
  -- what the first difference of two witnesses of the type says
  pub compare_arm : MProgram → MType → MWitness → MWitness → Compared
  compare_arm program t (SpanOf r) (SpanOf s) = compare_late (is_late t r) (is_late t s) (compare_range r s)
  compare_arm program t (NodeOf k ws) (NodeOf j us) =
      and_then (compare_nat k j) (compare_parts program (types_there (node_types program t k)) ws us)
  compare_arm program t (PointOf w) (PointOf u) = compare_arm program (inner_type t) w u
  compare_arm program t (RowOf f longer b) (RowOf g wider c) =
      and_then
      (compare_shape (length (witnesses_list f)) longer (length (witnesses_list b)) (length (witnesses_list g)) wider
      (length (witnesses_list c)))
      (and_then (compare_items program (inner_type t) f g) (compare_items program (inner_type t) b c))
  compare_arm program t w u = compare_witness w u

  -- what the first difference of two lists says, part by part, each part of its own type
  pub compare_parts : MProgram → List MType → MWitnesses → MWitnesses → Compared
  compare_parts program (t ∷ ts) (more_witnesses w ws) (more_witnesses u us) =
      and_then (compare_arm program t w u) (compare_parts program ts ws us)
  compare_parts program ts ws us = Same

  -- the same of items, all of one type
  pub compare_items : MProgram → MType → MWitnesses → MWitnesses → Compared
  compare_items program t (more_witnesses w ws) (more_witnesses u us) =
      and_then (compare_arm program t w u) (compare_items program t ws us)
  compare_items program t ws us = Same

-- the witness stands before the other among arms
abbrev pub ArmFirst : MProgram → MType → MWitness → MWitness → Type 0
ArmFirst program t w u = compare_arm program t w u ≡ Before

-- these witnesses, in the order of arms
pub record AreInArmOrder (program : MProgram) (t : MType) (witnesses sorted : List MWitness) : Type 0 where
  pub same : SameMembers witnesses sorted
  pub ordered : Ordered (ArmFirst program t) sorted

-- of any two one stands before the other
abbrev pub IsOneFirst : MWitness → MWitness → Type 0
IsOneFirst w u = (compare_witness w u ≡ Before) ⊎ (compare_witness u w ≡ Before)
