-- No meaning: numbers by which witnesses of a type are put in the order of arms. Of two witnesses of a list the one
-- with the lower numbers comes first; numbers are compared one by one.
use Rattle.std.specs.Prelude.{ℕ, suc, ◌+◌, ℤ, pos, Bool, true, false, List, [], ◌∷◌, ◌++◌, map, length, cond, chars}
use Rattle.match_model.specs.Types.{MType}
use Rattle.match_model.specs.Declarations.{MProgram, node_types}
use Rattle.match_model.specs.Numbers.{MEnd, Free, At, MRange}
use Rattle.match_model.specs.RustTypes.{inner_type}
use Rattle.match_model.specs.Witness.{MWitness, AnyOf, LaterOf, FlagOf, SpanOf, TextOf, ElseOf, NodeOf, PointOf, RowOf, MWitnesses, no_witnesses, more_witnesses, witnesses_list}
use Rattle.witness_names.specs.Named.{types_there}
use Rattle.witness_names.specs.Lookups.{front_of, back_of}
use Rattle.arm_maker.specs.Order.{is_late}

-- the numbers of a low end; a free one is below all
abbrev pub low_key : MEnd → List ℤ
low_key Free = pos 0 ∷ []
low_key (At n) = pos 1 ∷ (n ∷ [])

-- the numbers of a high end; a free one is above all
abbrev pub high_key : MEnd → List ℤ
high_key Free = pos 1 ∷ []
high_key (At n) = pos 0 ∷ (n ∷ [])

-- what stands before the numbers of the ends: a late range is behind each other low end
abbrev pub late_key : (late : Bool) → List ℤ
late_key true = pos 2 ∷ []
late_key false = []

-- the numbers of a range
abbrev pub range_key : MType → MRange → List ℤ
range_key t r = late_key (is_late t r) ++ (low_key r.low ++ high_key r.high)

-- the numbers of a text: its characters, and a last number below all characters
abbrev pub characters_key : List ℕ → List ℤ
characters_key cs = map (λ c. pos (suc c)) cs ++ (pos 0 ∷ [])

-- the same by its bytes
abbrev pub text_key : List ℕ → List ℤ
text_key bytes = pos 0 ∷ characters_key (chars bytes)

abbrev mutual
  -- the numbers of a witness; one that any value fits has none
  pub arm_key : MProgram → MType → MWitness → List ℤ
  arm_key program t AnyOf = []
  arm_key program t LaterOf = pos 1 ∷ []
  arm_key program t (FlagOf b) = pos (cond b 1 0) ∷ []
  arm_key program t (SpanOf r) = range_key t r
  arm_key program t (TextOf cs) = pos 0 ∷ characters_key cs
  arm_key program t (ElseOf ts) = pos 1 ∷ []
  arm_key program t (NodeOf k ws) = pos 0 ∷ (pos k ∷ parts_key program (types_there (node_types program t k)) ws)
  arm_key program t (PointOf w) = arm_key program (inner_type t) w
  arm_key program t (RowOf front longer back) =
      pos (length (witnesses_list front) + length (witnesses_list back))
      ∷ (items_key program (inner_type t) front ++ items_key program (inner_type t) back)

  -- the numbers of parts, each of its own type
  pub parts_key : MProgram → List MType → MWitnesses → List ℤ
  parts_key program ts no_witnesses = []
  parts_key program [] (more_witnesses w ws) = []
  parts_key program (t ∷ ts) (more_witnesses w ws) = arm_key program t w ++ parts_key program ts ws

  -- the numbers of items, all of one type
  pub items_key : MProgram → MType → MWitnesses → List ℤ
  items_key program t no_witnesses = []
  items_key program t (more_witnesses w ws) = arm_key program t w ++ items_key program t ws

-- the witness is a row
abbrev pub is_row : MWitness → Bool
is_row (RowOf front longer back) = true
is_row w = false

-- how many items a row has at its ends
abbrev pub ends_count : MWitness → ℕ
ends_count w = length (witnesses_list (front_of w)) + length (witnesses_list (back_of w))
