-- Ranges of numbers and of characters, as Rust writes them (the Rust Reference, "Range patterns").
use Rattle.std.specs.Prelude.{ℕ, ℤ, pos, negsuc, ◌-◌, ◌^◌, Bool, false, List, ◌++◌, Option, Some, None, int_lt, nat_eq, if◌then◌else◌, codes}
use Rattle.std.specs.Ordering.{int_eq}
use Rattle.std.specs.Fmt.{signed_decimal}
use Rattle.match_model.specs.declared.IntKind.{IntKind}
use Rattle.match_model.specs.declared.IntKind.TheVariants.{USize, ISize}
use Rattle.match_model.specs.Numbers.{MEnd, Free, At, MRange}
use Rattle.witness_text.specs.Literals.{char_literal}

-- the numbers from one end to the other: a number alone where they are one
abbrev pub numbers_text : (low high : MEnd) → List ℕ
numbers_text Free Free = codes "_"
numbers_text Free (At b) = codes "..=" ++ signed_decimal b
numbers_text (At a) Free = signed_decimal a ++ codes ".."
numbers_text (At a) (At b) =
    if int_eq a b then signed_decimal a else signed_decimal a ++ (codes "..=" ++ signed_decimal b)

-- the same of characters
abbrev pub chars_text : (low high : Option ℕ) → List ℕ
chars_text None None = codes "_"
chars_text None (Some b) = codes "..=" ++ char_literal b
chars_text (Some a) None = char_literal a ++ codes ".."
chars_text (Some a) (Some b) = if nat_eq a b then char_literal a else char_literal a ++ (codes "..=" ++ char_literal b)

-- the end is above the number
abbrev pub is_above : ℤ → MEnd → Bool
is_above n Free = false
is_above n (At a) = int_lt n a

-- the end is below the number
abbrev pub is_below : ℤ → MEnd → Bool
is_below n Free = false
is_below n (At b) = int_lt b n

-- the range begins above every literal of the type; those of `usize` and `isize` fit 64 bits (our own choice)
abbrev pub begins_above_literals : IntKind → (low : MEnd) → Bool
begins_above_literals USize low = is_above (pos (2 ^ 64 - 1)) low
begins_above_literals ISize low = is_above (pos (2 ^ 63 - 1)) low
begins_above_literals _ low = false

-- the range ends below every literal of the type
abbrev pub ends_below_literals : IntKind → (high : MEnd) → Bool
ends_below_literals ISize high = is_below (negsuc (2 ^ 63 - 1)) high
ends_below_literals _ high = false

-- the numbers from the greatest one on that a literal can be; only `usize` and `isize` have more
abbrev pub above_text : IntKind → List ℕ
above_text ISize = codes "isize::MAX.."
above_text _ = codes "usize::MAX.."

-- a range of an integer type
abbrev pub ints_text : IntKind → MRange → List ℕ
ints_text kind r =
    if begins_above_literals kind r.low then above_text kind
    else (if ends_below_literals kind r.high then codes "..isize::MIN" else numbers_text r.low r.high)
