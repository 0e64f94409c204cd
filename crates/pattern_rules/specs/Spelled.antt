-- What every pattern has that tokens spell, and that no rule tests.
use Rattle.std.specs.Prelude.{ℕ, Bool, true, false, not, ◌&&◌, ◌||◌, List, [], ◌∷◌, ◌++◌, chars, nat_le, Option, Some, None}
use Rattle.std.specs.List.{list_all}
use Rattle.match_model.specs.Texts.{is_scalar}
use Rattle.decl_syntax.specs.Patterns.{PatternTree, At, Shape, PatternTrees, FieldTrees, no_field, and_field, LitTree, Flag, Char, Byte, Int, Str, Other}
use Rattle.decl_syntax.specs.Patterns as patterns
use Rattle.decl_syntax.specs.Widths.{pattern_count, most_parts}
use Rattle.pattern_rules.specs.Nodes.{offset_of, shape_of, is_dots}

-- a character is a scalar value, a byte is at most 255, and a text is one of scalar values
abbrev pub literal_is_spelled : LitTree → Bool
literal_is_spelled (Char c) = is_scalar c
literal_is_spelled (Byte b) = nat_le b 255
literal_is_spelled (Str text) = list_all is_scalar (chars text)
literal_is_spelled (Flag b) = true
literal_is_spelled (Int negative size suffix) = true
literal_is_spelled Other = true

-- the same of the end of a range that may be there
abbrev pub end_is_spelled : Option LitTree → Bool
end_is_spelled None = true
end_is_spelled (Some l) = literal_is_spelled l

-- the form is `name @ ..`
abbrev pub is_bound_rest : Shape → Bool
is_bound_rest (patterns.BindAs name by_ref mutable p) = is_dots (shape_of p)
is_bound_rest _ = false

-- an item of the list is `name @ ..`
abbrev pub has_bound_rest : PatternTrees → Bool
has_bound_rest patterns.none = false
has_bound_rest (patterns.more p ps) = is_bound_rest (shape_of p) || has_bound_rest ps

-- there are two patterns or more
abbrev pub are_two : PatternTrees → Bool
are_two patterns.none = false
are_two (patterns.more p patterns.none) = false
are_two (patterns.more p (patterns.more q ps)) = true

abbrev mutual
  -- an or-pattern has two alternatives or more, only a slice pattern has `name @ ..`, and it has at most 256 items; and literals
  -- are as above
  pub is_spelled : PatternTree → Bool
  is_spelled (At from shape) = shape_is_spelled shape

  -- the same of a form
  pub shape_is_spelled : Shape → Bool
  shape_is_spelled (patterns.Literal l) = literal_is_spelled l
  shape_is_spelled (patterns.BindAs name by_ref mutable p) = is_spelled p
  shape_is_spelled (patterns.TupleForm path ps) = all_are_spelled ps
  shape_is_spelled (patterns.Brace path fs rest) = fields_are_spelled fs
  shape_is_spelled (patterns.Tuple ps) = not (has_bound_rest ps) && all_are_spelled ps
  shape_is_spelled (patterns.Group p) = is_spelled p
  shape_is_spelled (patterns.Slice ps) = nat_le (pattern_count ps) most_parts && all_are_spelled ps
  shape_is_spelled (patterns.Point mutable p) = is_spelled p
  shape_is_spelled (patterns.Range low high closed) = end_is_spelled low && end_is_spelled high
  shape_is_spelled (patterns.Or ps) = are_two ps && all_are_spelled ps
  shape_is_spelled _ = true

  -- the same of each pattern of a list
  pub all_are_spelled : PatternTrees → Bool
  all_are_spelled patterns.none = true
  all_are_spelled (patterns.more p ps) = is_spelled p && all_are_spelled ps

  -- the same of the patterns of fields
  pub fields_are_spelled : FieldTrees → Bool
  fields_are_spelled no_field = true
  fields_are_spelled (and_field name short attrs p fs) = is_spelled p && fields_are_spelled fs

abbrev mutual
  -- the offsets of the alternatives in a pattern, in reading order
  pub choice_offsets : PatternTree → List ℕ
  choice_offsets (At from shape) = offsets_within shape

  -- those in a form
  pub offsets_within : Shape → List ℕ
  offsets_within (patterns.BindAs name by_ref mutable p) = choice_offsets p
  offsets_within (patterns.TupleForm path ps) = offsets_in_all ps
  offsets_within (patterns.Brace path fs rest) = offsets_in_fields fs
  offsets_within (patterns.Tuple ps) = offsets_in_all ps
  offsets_within (patterns.Group p) = choice_offsets p
  offsets_within (patterns.Slice ps) = offsets_in_all ps
  offsets_within (patterns.Point mutable p) = choice_offsets p
  offsets_within (patterns.Or ps) = offsets_of_each ps
  offsets_within _ = []

  -- those in the patterns of a list
  pub offsets_in_all : PatternTrees → List ℕ
  offsets_in_all patterns.none = []
  offsets_in_all (patterns.more p ps) = choice_offsets p ++ offsets_in_all ps

  -- those in the patterns of fields
  pub offsets_in_fields : FieldTrees → List ℕ
  offsets_in_fields no_field = []
  offsets_in_fields (and_field name short attrs p fs) = choice_offsets p ++ offsets_in_fields fs

  -- those of alternatives, and those inside each
  pub offsets_of_each : PatternTrees → List ℕ
  offsets_of_each patterns.none = []
  offsets_of_each (patterns.more p ps) = offset_of p ∷ (choice_offsets p ++ offsets_of_each ps)
