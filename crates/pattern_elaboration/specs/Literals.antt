-- The ends of ranges, as numbers of a type.
use Rattle.std.specs.Prelude.{ℤ, Bool, true, Option, Some, None}
use Rattle.match_model.specs.declared.Width.{Width}
use Rattle.match_model.specs.Types.{MType}
use Rattle.number_kinds.specs.Literals.{is_literal_of}

-- the end, where it is written, is a number that a literal of the type can be
abbrev pub end_fits : Width → MType → Option ℤ → Bool
end_fits width t None = true
end_fits width t (Some n) = is_literal_of width t n
