-- Ranges as the patterns of arms have them (the Rust Reference, "Range patterns"). Several numbers stand in parentheses. What
-- lies beyond every literal of `usize` or `isize` is taken by a range from or to the nearest literal (our own choice).
use Rattle.std.specs.Prelude.{ℕ, Bool, false, List, ◌++◌, Option, Some, None, nat_eq, if◌then◌else◌, codes}
use Rattle.match_model.specs.declared.IntKind.{IntKind}
use Rattle.match_model.specs.declared.IntKind.TheVariants.{ISize}
use Rattle.match_model.specs.Numbers.{MRange, has_one_number}
use Rattle.witness_text.specs.declared.named.Style.{Style}
use Rattle.witness_text.specs.declared.named.Style.TheVariants.{Shown, Arm}
use Rattle.witness_text.specs.Ranges.{numbers_text, chars_text, begins_above_literals, ends_below_literals, ints_text}

-- a text in parentheses
abbrev pub grouped : List ℕ → List ℕ
grouped text = codes "(" ++ (text ++ codes ")")

-- from the greatest literal on; those of `usize` and `isize` fit 64 bits
abbrev pub from_greatest : IntKind → List ℕ
from_greatest ISize = codes "9223372036854775807.."
from_greatest _ = codes "18446744073709551615.."

-- up to the least literal of `isize`
abbrev pub up_to_least : List ℕ
up_to_least = codes "..=-9223372036854775808"

-- several numbers, without parentheses
abbrev pub several_text : IntKind → MRange → List ℕ
several_text kind r =
    if begins_above_literals kind r.low then from_greatest kind
    else (if ends_below_literals kind r.high then up_to_least else numbers_text r.low r.high)

-- numbers of an integer type
abbrev pub arm_ints : IntKind → MRange → List ℕ
arm_ints kind r = if has_one_number r then numbers_text r.low r.high else grouped (several_text kind r)

-- the ends are one character
abbrev pub is_one_char : (low high : Option ℕ) → Bool
is_one_char (Some a) (Some b) = nat_eq a b
is_one_char _ _ = false

-- characters
abbrev pub arm_chars : (low high : Option ℕ) → List ℕ
arm_chars low high = if is_one_char low high then chars_text low high else grouped (chars_text low high)

-- numbers of an integer type in the style
abbrev pub ints_by : Style → IntKind → MRange → List ℕ
ints_by Shown kind r = ints_text kind r
ints_by Arm kind r = arm_ints kind r

-- characters in the style
abbrev pub chars_by : Style → (low high : Option ℕ) → List ℕ
chars_by Shown low high = chars_text low high
chars_by Arm low high = arm_chars low high
