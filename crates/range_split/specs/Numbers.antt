-- What number a `Num` is.
use Rattle.std.specs.Prelude.{ℕ, ℤ, pos, neg_ℤ, ◌+◌, ◌*◌, ◌^◌, Bool, true, false}
use Rattle.range_split.specs.declared.num.Num.{Num}
use Rattle.range_split.specs.declared.size.Size.{Size}

-- the number of that sign and that distance from zero
abbrev pub signed : (negative : Bool) → (size : ℕ) → ℤ
signed true size = neg_ℤ (pos size)
signed false size = pos size

-- the number
abbrev pub num_value : Num → ℤ
num_value n = signed n.negative n.size

-- the number whose halves these are
abbrev pub whole_size : Size → ℕ
whole_size s = s.upper * 2 ^ 64 + s.lower
