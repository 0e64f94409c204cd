-- How many parts lists have: at most 256 are allowed (our own choice).
use Rattle.std.specs.Prelude.{ℕ, suc, Bool, false, ◌||◌, nat_lt}
use Rattle.decl_syntax.specs.Types.{TypeTree, Never, Tuple, Point, Slice, Array, Named, TypeTrees, none, more}
use Rattle.decl_syntax.specs.Patterns as p
use Rattle.decl_syntax.specs.Patterns.{PatternTree, Shape, PatternTrees, FieldTrees}

-- the greatest number of parts
abbrev pub most_parts : ℕ
most_parts = 256

-- more parts than are allowed
abbrev pub are_many : ℕ → Bool
are_many n = nat_lt most_parts n

-- how many types a list has
abbrev pub type_count : TypeTrees → ℕ
type_count none = 0
type_count (more t ts) = suc (type_count ts)

-- whether some tuple in a type has more than 256 parts
abbrev mutual
  pub type_is_wide : TypeTree → Bool
  type_is_wide Never = false
  type_is_wide (Tuple ts) = are_many (type_count ts) || some_type_is_wide ts
  type_is_wide (Point mutable t) = type_is_wide t
  type_is_wide (Slice t) = type_is_wide t
  type_is_wide (Array t len suffix) = type_is_wide t
  type_is_wide (Named name ts) = some_type_is_wide ts

  pub some_type_is_wide : TypeTrees → Bool
  some_type_is_wide none = false
  some_type_is_wide (more t ts) = type_is_wide t || some_type_is_wide ts

-- the same of the parts of a tuple
abbrev pub types_are_wide : TypeTrees → Bool
types_are_wide ts = are_many (type_count ts) || some_type_is_wide ts

-- how many patterns a list has
abbrev pub pattern_count : PatternTrees → ℕ
pattern_count p.none = 0
pattern_count (p.more q qs) = suc (pattern_count qs)

-- how many fields a brace pattern has
abbrev pub field_count : FieldTrees → ℕ
field_count p.no_field = 0
field_count (p.and_field name short attrs q fs) = suc (field_count fs)

-- whether some list in a pattern has more than 256 items or fields; alternatives have no limit
abbrev mutual
  pub pattern_is_wide : PatternTree → Bool
  pattern_is_wide (p.At from shape) = shape_is_wide shape

  pub shape_is_wide : Shape → Bool
  shape_is_wide (p.BindAs name by_ref mutable q) = pattern_is_wide q
  shape_is_wide (p.TupleForm path qs) = are_many (pattern_count qs) || some_pattern_is_wide qs
  shape_is_wide (p.Brace path fs rest) = are_many (field_count fs) || some_field_is_wide fs
  shape_is_wide (p.Tuple qs) = are_many (pattern_count qs) || some_pattern_is_wide qs
  shape_is_wide (p.Group q) = pattern_is_wide q
  shape_is_wide (p.Slice qs) = are_many (pattern_count qs) || some_pattern_is_wide qs
  shape_is_wide (p.Point mutable q) = pattern_is_wide q
  shape_is_wide (p.Or qs) = some_pattern_is_wide qs
  shape_is_wide _ = false

  pub some_pattern_is_wide : PatternTrees → Bool
  some_pattern_is_wide p.none = false
  some_pattern_is_wide (p.more q qs) = pattern_is_wide q || some_pattern_is_wide qs

  pub some_field_is_wide : FieldTrees → Bool
  some_field_is_wide p.no_field = false
  some_field_is_wide (p.and_field name short attrs q fs) = pattern_is_wide q || some_field_is_wide fs

-- the same of a list of items
abbrev pub list_is_wide : PatternTrees → Bool
list_is_wide qs = are_many (pattern_count qs) || some_pattern_is_wide qs

-- the same of the fields of a brace pattern
abbrev pub fields_are_wide : FieldTrees → Bool
fields_are_wide fs = are_many (field_count fs) || some_field_is_wide fs
