-- Witnesses whose ranges end at literals, or lie beyond them.
use Rattle.std.specs.Prelude.{Bool, true, false, ◌&&◌, List, ◌∷◌, cond}
use Rattle.match_model.specs.declared.Width.{Width}
use Rattle.match_model.specs.Constructors.{is_free}
use Rattle.match_model.specs.Declarations.{MProgram, node_types}
use Rattle.match_model.specs.Numbers.{MEnd, Free, At, MRange}
use Rattle.match_model.specs.RustTypes.{inner_type}
use Rattle.match_model.specs.Types.{MType, IntType}
use Rattle.match_model.specs.Witness.{MWitness, SpanOf, NodeOf, PointOf, RowOf, MWitnesses, no_witnesses}
use Rattle.match_model.specs.Witness.{more_witnesses}
use Rattle.number_kinds.specs.Literals.{is_literal_of}
use Rattle.witness_names.specs.Named.{types_there}
use Rattle.witness_text.specs.Ranges.{begins_above_literals}
use Rattle.arm_maker.specs.Order.{is_late}

-- the end is free, or at a number that a literal of the type can be
abbrev pub is_literal_end : Width → MType → MEnd → Bool
is_literal_end width t Free = true
is_literal_end width t (At z) = is_literal_of width t z

-- the range begins above every literal of the type
abbrev pub is_over : MType → MRange → Bool
is_over (IntType kind) r = begins_above_literals kind r.low
is_over t r = false

-- the ends of the range are literals; one that lies beyond them is open there
abbrev pub has_literal_ends : Width → MType → MRange → Bool
has_literal_ends width t r =
    cond (is_over t r) (is_free r.high) (is_literal_end width t r.low)
    && cond (is_late t r) (is_free r.low) (is_literal_end width t r.high)

abbrev mutual
  -- so are those of each range in the witness of the type
  pub literal_ends : MProgram → MType → MWitness → Bool
  literal_ends program t (SpanOf r) = has_literal_ends program.width t r
  literal_ends program t (NodeOf k ws) = parts_literal program (types_there (node_types program t k)) ws
  literal_ends program t (PointOf w) = literal_ends program (inner_type t) w
  literal_ends program t (RowOf front longer back) =
      items_literal program (inner_type t) front && items_literal program (inner_type t) back
  literal_ends program t _ = true

  pub parts_literal : MProgram → List MType → MWitnesses → Bool
  parts_literal program (t ∷ ts) (more_witnesses w ws) = literal_ends program t w && parts_literal program ts ws
  parts_literal program ts ws = true

  pub items_literal : MProgram → MType → MWitnesses → Bool
  items_literal program t no_witnesses = true
  items_literal program t (more_witnesses w ws) = literal_ends program t w && items_literal program t ws
