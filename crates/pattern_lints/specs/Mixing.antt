-- The number in several columns beside a range (our own choice).
use Rattle.std.specs.Prelude.{ℕ, ◌+◌, ◌*◌, ◌%◌, ℤ, pos, ◌+ℤ◌, ◌*ℤ◌, nat_abs, List, [], ◌∷◌, Option, None, Some, IsTrue}
use Rattle.match_model.specs.Values.{MValue}
use Rattle.match_model.specs.Numbers.{MRange, in_range}
use Rattle.match_model.specs.ArenaPatterns.{MDePat}
use Rattle.pattern_lints.specs.declared.beside.Column.{Column}
use Rattle.pattern_lints.specs.declared.mixing.Columns.{Columns}
use Rattle.pattern_lints.specs.declared.mixing.Group.{Group}
use Rattle.pattern_lints.specs.Along.{MeetsAlong}
use Rattle.pattern_lints.specs.Beside.{number_beside}

-- a number of both, below the greatest prime of 64 bits: other pairs seldom have the same
abbrev pub mix : ℤ → ℤ → ℕ
mix x y = (nat_abs x * 1099511628211 + nat_abs y) % 18446744073709551557

-- the number mixed with those in the columns, one after the other
abbrev pub mixed_with : ℤ → List Column → (position : List ℕ) → MValue → ℤ
mixed_with x [] position v = x
mixed_with x (c ∷ cs) position v = mixed_with (pos (mix x (number_beside c.depth c.steps.items position v))) cs position v

-- the number that is mixed of those in the columns
abbrev pub mixed : List Column → (position : List ℕ) → MValue → ℤ
mixed cs position v = mixed_with (pos 0) cs position v

-- the last digit of the number, in base 2^16
abbrev pub last_digit : ℤ → ℕ
last_digit x = nat_abs x % 65536

-- the number with the digit behind it, in base 2^16
abbrev pub with_digit : ℤ → (digit : ℕ) → ℤ
with_digit x d = (x *ℤ pos 65536) +ℤ pos d

-- the number with one more digit for each group: the last one of what is mixed of its columns
abbrev pub with_digits_of : ℤ → List Group → (position : List ℕ) → MValue → ℤ
with_digits_of x [] position v = x
with_digits_of x (g ∷ gs) position v = with_digits_of (with_digit x (last_digit (mixed g.columns.items position v))) gs position v

-- the number in the first column; 0 where there is none
abbrev pub first_number : Option Column → (position : List ℕ) → MValue → ℤ
first_number None position v = pos 0
first_number (Some c) position v = number_beside c.depth c.steps.items position v

-- the number in the columns
abbrev pub number_of : Columns → (position : List ℕ) → MValue → ℤ
number_of c position v = with_digits_of (first_number c.first position v) c.groups.items position v

-- in each value that the pattern matches along the path, the number is in the range
abbrev pub LiesAt : {T : Type 0} → MDePat T → (path : List ℕ) → (List ℕ → MValue → ℤ) → MRange → Type 0
LiesAt p path number r =
    (v : MValue) (position : List ℕ) (at : ℕ) (s : MRange) → MeetsAlong p path v position at s → IsTrue (in_range r (number position v))
