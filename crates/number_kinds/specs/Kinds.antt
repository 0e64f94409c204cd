-- The types whose values are numbers, as types of the model.
use Rattle.std.specs.Prelude.{pos, List, [], ◌∷◌}
use Rattle.match_model.specs.Types.{MType, CharType, IntType}
use Rattle.match_model.specs.Numbers.{MRange, closed}
use Rattle.number_kinds.specs.declared.kinds.NumberKind.{NumberKind}
use Rattle.number_kinds.specs.declared.kinds.NumberKind.TheVariants as kinds

-- the type
abbrev pub kind_type : NumberKind → MType
kind_type kinds.Char = CharType
kind_type (kinds.Int kind) = IntType kind

-- the scalar values, below the surrogates and above them (The Unicode Standard, Unicode scalar value)
abbrev pub scalar_ranges : List MRange
scalar_ranges = closed (pos 0) (pos 0xd7ff) ∷ (closed (pos 0xe000) (pos 0x10ffff) ∷ [])
