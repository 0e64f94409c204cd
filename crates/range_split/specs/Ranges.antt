-- Ranges as the definitions have them.
use Rattle.std.specs.Prelude.{ℤ, IsTrue, int_lt}
use Rattle.match_model.specs.Numbers.{MEnd, MRange, in_range}
use Rattle.range_split.specs.declared.range.Range.{Range}
use Rattle.range_split.specs.Ends.{kept_end}

-- the range, as the definitions have it
abbrev pub plain_range : Range → MRange
plain_range r = record { low = kept_end r.low_kind r.low_size; high = kept_end r.high_kind r.high_size }

-- the range from one end to the other
abbrev pub range_of : (low high : MEnd) → MRange
range_of l h = record { low = l; high = h }

-- the ranges share a number
abbrev pub Meet : MRange → MRange → Type 0
Meet r s = (n : ℤ) × IsTrue (in_range r n) × IsTrue (in_range s n)

-- each number of the first range is below each of the second
abbrev pub IsBelow : MRange → MRange → Type 0
IsBelow r s = (m n : ℤ) → IsTrue (in_range r m) → IsTrue (in_range s n) → IsTrue (int_lt m n)
