-- Ranges of numbers, and the numbers of a type (Rust Reference, Numeric types and Textual types).
use Rattle.std.specs.Prelude.{ℕ, ℤ, pos, negsuc, ◌-◌, ◌^◌, Bool, true, false, ◌&&◌, List, [], ◌∷◌, int_le}
use Rattle.std.specs.List.{list_any}
use Rattle.std.specs.Ordering.{int_eq}
use Rattle.match_model.specs.declared.Width.{Width}
use Rattle.match_model.specs.declared.Width.TheVariants.{Endless, Bits16, Bits32, Bits64}
use Rattle.match_model.specs.declared.IntKind.{IntKind}
use Rattle.match_model.specs.declared.IntKind.TheVariants.{U8, U16, U32, U64, U128, USize, I8, I16, I32, I64, I128, ISize}
use Rattle.match_model.specs.Types.{MType, CharType, IntType}

-- an end of a range: free, or at a number
pub data MEnd : Type 0 where
  Free : MEnd
  At : ℤ → MEnd

-- a range with both its ends in it; a free end has no bound
pub record MRange : Type 0 where
  pub low : MEnd
  pub high : MEnd

-- the low end is free, or at or below the number
abbrev pub is_from : MEnd → ℤ → Bool
is_from Free n = true
is_from (At a) n = int_le a n

-- the high end is free, or at or above the number
abbrev pub is_up_to : MEnd → ℤ → Bool
is_up_to Free n = true
is_up_to (At b) n = int_le n b

-- the end is this number
abbrev pub is_at : ℤ → MEnd → Bool
is_at n Free = false
is_at n (At m) = int_eq n m

-- the range has the number
abbrev pub in_range : MRange → ℤ → Bool
in_range r n = is_from r.low n && is_up_to r.high n

-- the ends of a range ascend, so it has a number
abbrev pub ends_ascend : (low high : MEnd) → Bool
ends_ascend (At a) (At b) = int_le a b
ends_ascend _ _ = true

-- both ends are the same number, so the range has exactly one number
abbrev pub has_one_number : MRange → Bool
has_one_number r = same_number r.low r.high
  where
    same_number : MEnd → MEnd → Bool
    same_number (At a) (At b) = int_eq a b
    same_number _ _ = false

-- the range from one number to another
abbrev pub closed : ℤ → ℤ → MRange
closed a b = record { low = At a; high = At b }

-- the numbers of so many bits without a sign
abbrev pub unsigned_range : (bits : ℕ) → MRange
unsigned_range bits = closed (pos 0) (pos (2 ^ bits - 1))

-- the numbers of so many bits with a sign
abbrev pub signed_range : (bits : ℕ) → MRange
signed_range bits = closed (negsuc (2 ^ (bits - 1) - 1)) (pos (2 ^ (bits - 1) - 1))

-- the numbers of an integer type (Rust Reference, Numeric types); without a width `usize` and `isize` have no end
abbrev pub kind_range : Width → IntKind → MRange
kind_range width U8 = unsigned_range 8
kind_range width U16 = unsigned_range 16
kind_range width U32 = unsigned_range 32
kind_range width U64 = unsigned_range 64
kind_range width U128 = unsigned_range 128
kind_range width I8 = signed_range 8
kind_range width I16 = signed_range 16
kind_range width I32 = signed_range 32
kind_range width I64 = signed_range 64
kind_range width I128 = signed_range 128
kind_range Bits16 USize = unsigned_range 16
kind_range Bits32 USize = unsigned_range 32
kind_range Bits64 USize = unsigned_range 64
kind_range Endless USize = record { low = At (pos 0); high = Free }
kind_range Bits16 ISize = signed_range 16
kind_range Bits32 ISize = signed_range 32
kind_range Bits64 ISize = signed_range 64
kind_range Endless ISize = record { low = Free; high = Free }

-- the ranges of numbers that a type has, ascending: two for `char`, one for an integer type, else none
abbrev pub numbers_of : Width → MType → List MRange
numbers_of width CharType = closed (pos 0) (pos 0xd7ff) ∷ (closed (pos 0xe000) (pos 0x10ffff) ∷ [])
numbers_of width (IntType kind) = kind_range width kind ∷ []
numbers_of width _ = []

-- the number is one of the type's
abbrev pub has_number : Width → MType → ℤ → Bool
has_number width t n = list_any (λ r. in_range r n) (numbers_of width t)
