-- The pattern that the text of an arm for a witness means, in the words of the definitions of matching; a range has
-- the offset 0.
use Rattle.std.specs.Prelude.{ℕ, suc, Bool, true, false, not, ◌&&◌, ◌||◌, List, ◌∷◌, Option, Some, None, is_some, cond}
use Rattle.std.specs.Prelude.{ℤ}
use Rattle.match_model.specs.declared.Width.{Width}
use Rattle.match_model.specs.SourcePatterns.{written_range}
use Rattle.match_model.specs.Types.{MType, TupleType, PointType}
use Rattle.match_model.specs.Numbers.{MEnd, Free, At, MRange, has_one_number}
use Rattle.match_model.specs.Declarations.{MProgram, node_types}
use Rattle.match_model.specs.Patterns.{MRest, NoRest, SomeRest, MPat, WildPat, NumPat, FlagPat, TextPat, SpanPat}
use Rattle.match_model.specs.Patterns.{FormPat, ListPat, PointPat, MPats, no_pats, more_pats, MNumbered}
use Rattle.match_model.specs.Patterns.{no_numbered, more_numbered}
use Rattle.match_model.specs.RustTypes.{inner_type}
use Rattle.match_model.specs.Witness.{MWitness, FlagOf, SpanOf, TextOf, NodeOf, PointOf, RowOf, MWitnesses}
use Rattle.match_model.specs.Witness.{no_witnesses, more_witnesses}
use Rattle.witness_names.specs.Named.{types_there}
use Rattle.arm_laws.specs.Takes.{taken_by}

-- one number
abbrev pub number_meant : MEnd → MPat
number_meant Free = WildPat
number_meant (At n) = NumPat n

-- the number at which the end is
abbrev pub number_at : MEnd → Option ℤ
number_at Free = None
number_at (At n) = Some n

-- numbers of the type from one end to the other; an open end is closed by the type's own
abbrev pub span_meant : Width → MType → (low high : MEnd) → MPat
span_meant width t Free Free = WildPat
span_meant width t low high = SpanPat 0 (written_range width t (number_at low) true (number_at high))

-- numbers of the type, one or several
abbrev pub numbers_meant : Width → MType → MRange → MPat
numbers_meant width t r = cond (has_one_number r) (number_meant r.low) (span_meant width t r.low r.high)

-- the text that the witness is, if it is one
abbrev pub text_in : MWitness → Option (List ℕ)
text_in (TextOf t) = Some t
text_in w = None

-- the type is a reference by `&mut`
abbrev pub is_mutable : MType → Bool
is_mutable (PointType mutable t) = mutable
is_mutable t = false

-- a reference; a text behind `&` is its literal
abbrev pub point_meant : (mutable : Bool) → Option (List ℕ) → MPat → MPat
point_meant true literal p = PointPat true p
point_meant false None p = PointPat false p
point_meant false (Some t) p = TextPat t

-- the patterns with the numbers of their fields
abbrev pub numbered : ℕ → MPats → MNumbered
numbered i no_pats = no_numbered
numbered i (more_pats p ps) = more_numbered i p (numbered (suc i) ps)

-- a tuple, or a form
abbrev pub node_meant : MType → ℕ → MPats → MPat
node_meant (TupleType types) k ps = ListPat ps NoRest no_pats
node_meant t k ps = FormPat k (numbered 0 ps)

-- `..` where it stands
abbrev pub rest_meant : Bool → MRest
rest_meant true = SomeRest
rest_meant false = NoRest

abbrev mutual
  -- the pattern for a witness of the type
  pub meant : MProgram → MType → MWitness → MPat
  meant program t (FlagOf b) = FlagPat b
  meant program t (SpanOf r) = numbers_meant program.width t (taken_by t r)
  meant program t (NodeOf k ws) = node_meant t k (parts_meant program (types_there (node_types program t k)) ws)
  meant program t (PointOf w) = point_meant (is_mutable t) (text_in w) (meant program (inner_type t) w)
  meant program t (RowOf front longer back) =
      ListPat (items_meant program (inner_type t) front) (rest_meant longer) (items_meant program (inner_type t) back)
  meant program t w = WildPat

  -- those for parts, each of its own type
  pub parts_meant : MProgram → List MType → MWitnesses → MPats
  parts_meant program (t ∷ ts) (more_witnesses w ws) = more_pats (meant program t w) (parts_meant program ts ws)
  parts_meant program ts ws = no_pats

  -- those for items, all of one type
  pub items_meant : MProgram → MType → MWitnesses → MPats
  items_meant program t no_witnesses = no_pats
  items_meant program t (more_witnesses w ws) = more_pats (meant program t w) (items_meant program t ws)

abbrev mutual
  -- a text stands in the witness of the type only behind a shared reference
  pub is_referred : MProgram → MType → MWitness → Bool
  is_referred program t (TextOf u) = false
  is_referred program t (NodeOf k ws) = parts_referred program (types_there (node_types program t k)) ws
  is_referred program t (PointOf w) =
      (not (is_mutable t) && is_some (text_in w)) || is_referred program (inner_type t) w
  is_referred program t (RowOf front longer back) =
      items_referred program (inner_type t) front && items_referred program (inner_type t) back
  is_referred program t w = true

  -- the same of parts
  pub parts_referred : MProgram → List MType → MWitnesses → Bool
  parts_referred program (t ∷ ts) (more_witnesses w ws) = is_referred program t w && parts_referred program ts ws
  parts_referred program ts ws = true

  -- the same of items
  pub items_referred : MProgram → MType → MWitnesses → Bool
  items_referred program t no_witnesses = true
  items_referred program t (more_witnesses w ws) = is_referred program t w && items_referred program t ws
