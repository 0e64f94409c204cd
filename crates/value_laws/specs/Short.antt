-- How large the numbers of a value are (our own choice: what a text of a value can hold).
use Rattle.std.specs.Prelude.{suc, ◌^◌, ℤ, pos, negsuc, Bool, true, ◌&&◌, nat_lt}
use Rattle.match_model.specs.Values.{MValue, Num, Node, Point, Row, MValues, no_values, more_values}

-- the number has at most 128 bits beside its sign
abbrev pub is_short : ℤ → Bool
is_short (pos n) = nat_lt n (2 ^ 128)
is_short (negsuc n) = nat_lt (suc n) (2 ^ 128)

abbrev mutual
  -- so has each number within the value
  pub has_short_numbers : MValue → Bool
  has_short_numbers (Num n) = is_short n
  has_short_numbers (Node k vs) = have_short_numbers vs
  has_short_numbers (Point mutable v) = has_short_numbers v
  has_short_numbers (Row vs) = have_short_numbers vs
  has_short_numbers _ = true

  -- the same of the values of a list
  pub have_short_numbers : MValues → Bool
  have_short_numbers no_values = true
  have_short_numbers (more_values v vs) = has_short_numbers v && have_short_numbers vs
