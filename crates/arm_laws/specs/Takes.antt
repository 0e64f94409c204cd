-- No meaning: which values the pattern of an arm for a witness matches. It matches each that fits the witness; of what
-- lies beyond every literal the nearest literal too, and everything where the witness has no pattern of its own.
use Rattle.std.specs.Prelude.{pos, negsuc, ◌-◌, ◌^◌, Bool, true, false, ◌&&◌, List, [], ◌∷◌, length, if◌then◌else◌}
use Rattle.match_model.specs.Types.{MType, IntType}
use Rattle.match_model.specs.Numbers.{MEnd, Free, At, MRange}
use Rattle.match_model.specs.Declarations.{MProgram, node_types}
use Rattle.match_model.specs.RustTypes.{inner_type}
use Rattle.match_model.specs.Values.{MValue}
use Rattle.match_model.specs.Witness.{MWitness, AnyOf, LaterOf, SpanOf, ElseOf, NodeOf, PointOf, RowOf, MWitnesses}
use Rattle.match_model.specs.Witness.{no_witnesses, more_witnesses, witnesses_list, fits, node_fits, point_fits}
use Rattle.match_model.specs.Witness.{slice_fits}
use Rattle.match_model.specs.declared.IntKind.{IntKind}
use Rattle.match_model.specs.declared.IntKind.TheVariants.{ISize}
use Rattle.witness_text.specs.Ranges.{begins_above_literals, ends_below_literals}
use Rattle.witness_names.specs.Named.{types_there}

-- the greatest literal of `usize` or `isize`
abbrev pub greatest_of : IntKind → MEnd
greatest_of ISize = At (pos (2 ^ 63 - 1))
greatest_of _ = At (pos (2 ^ 64 - 1))

-- the range that is written for one of an integer type
abbrev pub range_taken : IntKind → MRange → MRange
range_taken kind r =
    if begins_above_literals kind r.low then record { low = greatest_of kind; high = Free }
    else (if ends_below_literals kind r.high then record { low = Free; high = At (negsuc (2 ^ 63 - 1)) } else r)

-- the same of a type of numbers
abbrev pub taken_by : MType → MRange → MRange
taken_by (IntType kind) r = range_taken kind r
taken_by t r = r

abbrev mutual
  -- the value is taken by the arm for the witness of the type
  pub takes : MProgram → MType → MWitness → MValue → Bool
  takes program t AnyOf v = true
  takes program t LaterOf v = true
  takes program t (ElseOf ts) v = true
  takes program t (SpanOf r) v = fits (SpanOf (taken_by t r)) v
  takes program t (NodeOf k ws) v =
      node_fits k (λ vs. parts_take program (types_there (node_types program t k)) ws vs) v
  takes program t (PointOf w) v = point_fits (λ u. takes program (inner_type t) w u) v
  takes program t (RowOf front longer back) v =
      slice_fits (length (witnesses_list front)) longer (length (witnesses_list back))
      (λ vs. items_take program (inner_type t) front vs) (λ vs. items_take program (inner_type t) back vs) v
  takes program t w v = fits w v

  -- the parts are taken one by one
  pub parts_take : MProgram → List MType → MWitnesses → List MValue → Bool
  parts_take program ts no_witnesses [] = true
  parts_take program (t ∷ ts) (more_witnesses w ws) (v ∷ vs) = takes program t w v && parts_take program ts ws vs
  parts_take program ts ws vs = false

  -- the items are taken one by one
  pub items_take : MProgram → MType → MWitnesses → List MValue → Bool
  items_take program t no_witnesses [] = true
  items_take program t (more_witnesses w ws) (v ∷ vs) = takes program t w v && items_take program t ws vs
  items_take program t ws vs = false
