-- What stands beside a range: the number of another part of the value (our own choice).
use Rattle.std.specs.Prelude.{⊤, ◌≡◌, ℕ, zero, suc, ◌+◌, ◌*◌, ◌%◌, ℤ, pos, Bool, true, false, List, [], ◌∷◌, length, slice_get, None, Some, IsTrue, nat_lt, int_le, if◌then◌else◌}
use Rattle.match_model.specs.Values.{MValue, Flag, Num, Text, Node, Row, values_list, parts_of}
use Rattle.match_model.specs.Numbers.{MEnd, Free, At, MRange, in_range, closed}
use Rattle.match_model.specs.Constructors.{MCtor, SingleCtor, PointCtor, VariantCtor, FlagCtor, NumbersCtor, TextCtor, RowCtor, FixedShape, LongerShape, least_held, greatest_held}
use Rattle.match_model.specs.ArenaPatterns.{MDePat}
use Rattle.match_model.specs.Rows.{Head}
use Rattle.pattern_lints.specs.Along.{matches, MeetsAlong}

-- the number with the scalar values as further digits, in a base that spreads them
abbrev pub with_digits : (number : ℕ) → List ℕ → ℕ
with_digits n [] = n
with_digits n (c ∷ cs) = with_digits (n * 1099511628211 + c) cs

-- a number of the text's scalar values, of 64 bits: other texts seldom have the same
abbrev pub text_number : List ℕ → ℕ
text_number t = with_digits 0 t % 18446744073709551616

-- the number of a value: of a flag 0 or 1, of a variant its number, of a row its length, of a text that of its scalar
-- values, of any other 0
abbrev pub own_number : MValue → ℤ
own_number (Flag true) = pos 1
own_number (Num x) = x
own_number (Node k parts) = pos k
own_number (Row items) = pos (length (values_list items))
own_number (Text t) = pos (text_number t)
own_number _ = pos 0

-- the numbers of the values that the constructor builds
abbrev pub own_range : MCtor → MRange
own_range (NumbersCtor r) = r
own_range (VariantCtor k) = closed (pos k) (pos k)
own_range (FlagCtor b) = if b then closed (pos 1) (pos 1) else closed (pos 0) (pos 0)
own_range (RowCtor (FixedShape n)) = closed (pos n) (pos n)
own_range (TextCtor t) = closed (pos (text_number t)) (pos (text_number t))
own_range _ = record { low = Free; high = Free }

-- the number of the part to which the steps lead, each the number of a part; 0 where there is none
abbrev pub number_below : (steps : List ℕ) → MValue → ℤ
number_below [] v = own_number v
number_below (i ∷ steps) v = elim (slice_get (parts_of v) i) [ None ↦ pos 0 | Some u ↦ number_below steps u ]

-- the number of the part to which the steps lead from the part so many steps along a position; 0 where there is none
abbrev pub number_beside : (depth : ℕ) → (steps : List ℕ) → (position : List ℕ) → MValue → ℤ
number_beside zero steps position v = number_below steps v
number_beside (suc d) steps [] v = pos 0
number_beside (suc d) steps (i ∷ position) v = elim (slice_get (parts_of v) i) [ None ↦ pos 0 | Some u ↦ number_beside d steps position u ]

-- the pattern with the number below the constructor stands at the part with that number, in every value
abbrev pub stands_first : MCtor → ℕ → Bool
stands_first SingleCtor i = true
stands_first PointCtor i = true
stands_first (VariantCtor k) i = true
stands_first (RowCtor (FixedShape n)) i = true
stands_first (RowCtor (LongerShape f b)) i = nat_lt i f
stands_first _ i = false

-- each value that the pattern matches has the part with the number, and there the second pattern, where it is one, matches
abbrev pub MatchesPart : {T : Type 0} → MDePat T → ℕ → Head T → Type 0
MatchesPart p i None = ⊤
MatchesPart p i (Some q) =
    (v : MValue) → IsTrue (matches p v) → (u : MValue) × (slice_get (parts_of v) i ≡ Some u) × IsTrue (matches q u)

-- in each value that the pattern matches, the number of the part to which the steps lead is in the range
abbrev pub LiesBelow : {T : Type 0} → MDePat T → (steps : List ℕ) → MRange → Type 0
LiesBelow p steps r = (v : MValue) → IsTrue (matches p v) → IsTrue (in_range r (number_below steps v))

-- in each value that the pattern matches along the path, the number beside the range at its end is in the range `r`
abbrev pub LiesBeside : {T : Type 0} → MDePat T → (path : List ℕ) → (depth : ℕ) → (steps : List ℕ) → MRange → Type 0
LiesBeside p path depth steps r =
    (v : MValue) (position : List ℕ) (at : ℕ) (s : MRange) → MeetsAlong p path v position at s →
    IsTrue (in_range r (number_beside depth steps position v))

-- the number, or where the program cannot hold it the nearest one that it can
abbrev pub held_of : ℤ → ℤ
held_of x = if int_le x least_held then least_held else (if int_le greatest_held x then greatest_held else x)

-- the number of a low end, or of a high one; of a free one the last that the program can hold
abbrev pub low_held : MEnd → ℤ
low_held Free = least_held
low_held (At a) = a

abbrev pub high_held : MEnd → ℤ
high_held Free = greatest_held
high_held (At b) = b
