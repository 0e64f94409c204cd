-- Witnesses: patterns that show what a match leaves out, and the values that fit one (Maranget 2007; the documentation of
-- `rustc_pattern_analysis`, witness patterns).
use Rattle.std.specs.Prelude.{ℕ, Bool, true, false, ◌&&◌, List, [], ◌∷◌, length, take, drop, ◌+◌, ◌-◌, nat_eq}
use Rattle.match_model.specs.Values.{MValue, Node, Point, Row, values_list, parts_of}
use Rattle.match_model.specs.Numbers.{MRange}
use Rattle.match_model.specs.Constructors.{MShape, FixedShape, LongerShape, MCtor, LaterCtor, OtherTextCtor, FlagCtor, NumbersCtor, TextCtor, covers, builds, parts_met}

mutual
  -- a witness: anything; a flag; a range; a text; every text but these; a tuple, struct or variant; a reference; a row by
  -- its first and last items, `longer` allowing more between them; a variant that is not declared yet
  pub data MWitness : Type 0 where
    AnyOf LaterOf : MWitness
    FlagOf : Bool → MWitness
    SpanOf : MRange → MWitness
    TextOf : List ℕ → MWitness
    ElseOf : List (List ℕ) → MWitness
    NodeOf : (variant : ℕ) → MWitnesses → MWitness
    PointOf : MWitness → MWitness
    RowOf : (front : MWitnesses) → (longer : Bool) → (back : MWitnesses) → MWitness

  -- a list of witnesses, since a witness cannot hold a list of itself
  pub data MWitnesses : Type 0 where
    no_witnesses : MWitnesses
    more_witnesses : MWitness → MWitnesses → MWitnesses

-- the witnesses as a list
abbrev pub witnesses_list : MWitnesses → List MWitness
witnesses_list no_witnesses = []
witnesses_list (more_witnesses w ws) = w ∷ witnesses_list ws

-- the witnesses of a list
abbrev pub witnesses_of : List MWitness → MWitnesses
witnesses_of [] = no_witnesses
witnesses_of (w ∷ ws) = more_witnesses w (witnesses_of ws)

-- the shape of a row witness with so many items in front and at the back
abbrev pub slice_shape : (front : ℕ) → (longer : Bool) → (back : ℕ) → MShape
slice_shape f true b = LongerShape f b
slice_shape f false b = FixedShape (f + b)

-- the parts of a value that the witnesses below a constructor meet
abbrev pub parts_under : MCtor → MValue → List MValue
parts_under c v = parts_met c (parts_of v)

-- items at the back stand only where more may stand between
abbrev pub back_is_allowed : (longer : Bool) → (back : ℕ) → Bool
back_is_allowed true b = true
back_is_allowed false b = nat_eq b 0

-- the value is a node of the variant whose parts fit
abbrev pub node_fits : ℕ → (List MValue → Bool) → MValue → Bool
node_fits k fit (Node j parts) = nat_eq k j && fit (values_list parts)
node_fits k fit _ = false

-- the value is a reference, and what it points to fits
abbrev pub point_fits : (MValue → Bool) → MValue → Bool
point_fits fit (Point mutable v) = fit v
point_fits fit _ = false

-- a row whose first items fit the front and whose last items fit the back
abbrev pub slice_fits : ℕ → (longer : Bool) → ℕ → (List MValue → Bool) → (List MValue → Bool) → MValue → Bool
slice_fits f longer b front back (Row items) =
    covers (slice_shape f longer b) (length (values_list items))
    && (front (take f (values_list items)) && back (drop (length (values_list items) - b) (values_list items)))
slice_fits f longer b front back _ = false

abbrev mutual
  -- the value fits the witness: the witness's constructor builds it, and its parts fit
  pub fits : MWitness → MValue → Bool
  fits AnyOf v = true
  fits LaterOf v = builds [] LaterCtor v
  fits (FlagOf b) v = builds [] (FlagCtor b) v
  fits (SpanOf r) v = builds [] (NumbersCtor r) v
  fits (TextOf t) v = builds [] (TextCtor t) v
  fits (ElseOf ts) v = builds ts OtherTextCtor v
  fits (NodeOf k parts) v = node_fits k (λ vs. all_fit parts vs) v
  fits (PointOf w) v = point_fits (λ u. fits w u) v
  fits (RowOf front longer back) v =
      slice_fits (length (witnesses_list front)) longer (length (witnesses_list back)) (λ vs. all_fit front vs) (λ vs. all_fit back vs) v

  -- the values fit the witnesses one by one
  pub all_fit : MWitnesses → List MValue → Bool
  all_fit no_witnesses [] = true
  all_fit no_witnesses (_ ∷ _) = false
  all_fit (more_witnesses w ws) [] = false
  all_fit (more_witnesses w ws) (v ∷ vs) = fits w v && all_fit ws vs
