-- Which numbers literals and the ends of ranges can be, and which written ranges have none (Rust Reference, Literal patterns
-- and Range patterns).
use Rattle.std.specs.Prelude.{ℤ, Bool, true, false, not, Option, Some, None, int_lt}
use Rattle.match_model.specs.declared.Width.{Width}
use Rattle.match_model.specs.declared.Width.TheVariants.{Endless, Bits16, Bits32, Bits64}
use Rattle.match_model.specs.Types.{MType}
use Rattle.match_model.specs.Numbers.{is_at, numbers_of, has_number}
use Rattle.match_model.specs.SourcePatterns.{least_end}

-- the width that literals are held to: without a width those of `usize` and `isize` fit 64 bits (our own choice)
abbrev pub literal_width : Width → Width
literal_width Endless = Bits64
literal_width Bits16 = Bits16
literal_width Bits32 = Bits32
literal_width Bits64 = Bits64

-- a literal of the type can be the number
abbrev pub is_literal_of : Width → MType → ℤ → Bool
is_literal_of width t n = has_number (literal_width width) t n

-- `a..=b` with a above b, or `a..b` with a not below b
abbrev pub ends_cross : (inclusive : Bool) → ℤ → ℤ → Bool
ends_cross true a b = int_lt b a
ends_cross false a b = not (int_lt a b)

-- a range with these ends has no number of the type: its ends cross, or it is `..b` with the type's least number b
abbrev pub has_no_number : Width → MType → (low : Option ℤ) → (inclusive : Bool) → (high : Option ℤ) → Bool
has_no_number width t (Some a) inclusive (Some b) = ends_cross inclusive a b
has_no_number width t None false (Some b) = is_at b (least_end (numbers_of width t))
has_no_number width t None true (Some b) = false
has_no_number width t low inclusive None = false
