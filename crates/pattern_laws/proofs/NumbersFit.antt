-- The numbers of literals and ranges that break no rule are those of their type.
use Rattle.std.proofs.Common.{◌≡◌, ◌⊎◌, inl, inr, ℤ, pos, negsuc, ◌-ℤ◌, Bool, true, false, not, ◌&&◌, ◌||◌, Option, Some, None, refl, sym, arith, ◌^◌, ◌-◌}
use Rattle.std.specs.Prelude.{int_le, int_lt}
use Rattle.std.specs.Ordering.{int_eq}
use Rattle.std.proofs.lemmas.Int.{ints}
use Rattle.std.proofs.lemmas.Bool.Decides.{Decides-int_eq}
use Rattle.match_model.specs.declared.Width.{Width}
use Rattle.match_model.specs.declared.Width.TheVariants.{Endless, Bits16, Bits32, Bits64}
use Rattle.match_model.specs.declared.IntKind.{IntKind}
use Rattle.match_model.specs.declared.IntKind.TheVariants.{U8, U16, U32, U64, U128, USize, I8, I16, I32, I64, I128, ISize}
use Rattle.match_model.specs.Types.{MType, CharType, IntType}
use Rattle.match_model.specs.Numbers.{MEnd, Free, At, MRange, is_from, is_up_to, is_at, in_range, closed, kind_range, numbers_of}
use Rattle.match_model.specs.SourcePatterns.{before_by, low_written, high_written, written_range}
use Rattle.match_model.specs.Constructors.{NumbersCtor, is_free, end_belongs, in_either, greatest_held, least_held, belongs}
use Rattle.match_model.specs.RustTypes.{number_set}
use Rattle.number_kinds.specs.Literals.{is_literal_of, has_no_number}

both_left : (a b : Bool) → (a && b) ≡ true → a ≡ true
both_left true b h = refl
both_left false b h = h

both_right : (a b : Bool) → (a && b) ≡ true → b ≡ true
both_right true b h = h
both_right false b h = cc

both_true : (a b : Bool) → a ≡ true → b ≡ true → (a && b) ≡ true
both_true true b h k = k
both_true false b h k = h

or_false : (b : Bool) → (b || false) ≡ true → b ≡ true
or_false true h = refl
or_false false h = h

into_or : (b : Bool) → b ≡ true → (b || false) ≡ true
into_or true h = refl
into_or false h = h

or_cases : (a b : Bool) → (a || b) ≡ true → (a ≡ true) ⊎ (b ≡ true)
or_cases true b h = inl refl
or_cases false true h = inr refl
or_cases false false h = absurd cc

-- the number is below both limits of what can be held
abbrev Held : ℤ → Type 0
Held n = (int_eq n least_held ≡ false) × (int_eq n greatest_held ≡ false)

-- an end at a number of the type belongs to the set, where it is not a limit
at_end : (free : Bool) (limit n : ℤ) (has : Bool) → has ≡ true → (free ≡ true → int_eq n limit ≡ false) →
    (has && not (free && int_eq n limit)) ≡ true
at_end false limit n has h k = both_true has true h refl
at_end true limit n has h k = rw (h, k refl) refl

-- what a literal can be is a number of the type
within_endless : (kind : IntKind) (n : ℤ) → in_range (kind_range Bits64 kind) n ≡ true →
    in_range (kind_range Endless kind) n ≡ true
within_endless U8 n h = h
within_endless U16 n h = h
within_endless U32 n h = h
within_endless U64 n h = h
within_endless U128 n h = h
within_endless I8 n h = h
within_endless I16 n h = h
within_endless I32 n h = h
within_endless I64 n h = h
within_endless I128 n h = h
within_endless USize n h = both_true (int_le (pos 0) n) true
    (both_left (int_le (pos 0) n) (int_le n (pos (2 ^ 64 - 1))) h) refl
within_endless ISize n h = refl

literal_within : (width : Width) (kind : IntKind) (n : ℤ) → is_literal_of width (IntType kind) n ≡ true →
    in_range (kind_range width kind) n ≡ true
literal_within Endless k n h = within_endless k n (or_false (in_range (kind_range Bits64 k) n) h)
literal_within Bits16 k n h = or_false (in_range (kind_range Bits16 k) n) h
literal_within Bits32 k n h = or_false (in_range (kind_range Bits32 k) n) h
literal_within Bits64 k n h = or_false (in_range (kind_range Bits64 k) n) h

-- a number of 64 bits is no limit, nor is the one before it
not_greatest : (n : ℤ) → int_le n (pos (2 ^ 64 - 1)) ≡ true → (int_eq n greatest_held ≡ false)
    × (int_eq (n -ℤ pos 1) greatest_held ≡ false)
not_greatest n h = (grind (arith, ints), grind (arith, ints))

not_least : (n : ℤ) → int_le (negsuc (2 ^ 63 - 1)) n ≡ true → int_eq n least_held ≡ false
not_least n h = grind (arith, ints)

within_64 : (n : ℤ) → int_le n (pos (2 ^ 63 - 1)) ≡ true → int_le n (pos (2 ^ 64 - 1)) ≡ true
within_64 n h = grind (arith, ints)

-- on a free side a literal is no limit
low_limit : (width : Width) (kind : IntKind) (n : ℤ) → is_literal_of width (IntType kind) n ≡ true →
    is_free (kind_range width kind).low ≡ true → int_eq n least_held ≡ false
low_limit Endless ISize n h f =
    not_least n (both_left (int_le (negsuc (2 ^ 63 - 1)) n) (int_le n (pos (2 ^ 63 - 1)))
    (or_false (in_range (kind_range Bits64 ISize) n) h))
low_limit w U8 n h f = cc
low_limit w U16 n h f = cc
low_limit w U32 n h f = cc
low_limit w U64 n h f = cc
low_limit w U128 n h f = cc
low_limit w I8 n h f = cc
low_limit w I16 n h f = cc
low_limit w I32 n h f = cc
low_limit w I64 n h f = cc
low_limit w I128 n h f = cc
low_limit Endless USize n h f = cc
low_limit Bits16 USize n h f = cc
low_limit Bits16 ISize n h f = cc
low_limit Bits32 USize n h f = cc
low_limit Bits32 ISize n h f = cc
low_limit Bits64 USize n h f = cc
low_limit Bits64 ISize n h f = cc

unfree : false ≡ true → ⊥
unfree e = cc

high_limit : (width : Width) (kind : IntKind) (n : ℤ) → is_literal_of width (IntType kind) n ≡ true →
    is_free (kind_range width kind).high ≡ true →
    (int_eq n greatest_held ≡ false) × (int_eq (n -ℤ pos 1) greatest_held ≡ false)
high_limit Endless USize n h f =
    not_greatest n (both_right (int_le (pos 0) n) (int_le n (pos (2 ^ 64 - 1)))
    (or_false (in_range (kind_range Bits64 USize) n) h))
high_limit Endless ISize n h f =
    not_greatest n (within_64 n (both_right (int_le (negsuc (2 ^ 63 - 1)) n) (int_le n (pos (2 ^ 63 - 1)))
    (or_false (in_range (kind_range Bits64 ISize) n) h)))
high_limit w U8 n h f = absurd (unfree f)
high_limit w U16 n h f = absurd (unfree f)
high_limit w U32 n h f = absurd (unfree f)
high_limit w U64 n h f = absurd (unfree f)
high_limit w U128 n h f = absurd (unfree f)
high_limit w I8 n h f = absurd (unfree f)
high_limit w I16 n h f = absurd (unfree f)
high_limit w I32 n h f = absurd (unfree f)
high_limit w I64 n h f = absurd (unfree f)
high_limit w I128 n h f = absurd (unfree f)
high_limit Bits16 USize n h f = absurd (unfree f)
high_limit Bits16 ISize n h f = absurd (unfree f)
high_limit Bits32 USize n h f = absurd (unfree f)
high_limit Bits32 ISize n h f = absurd (unfree f)
high_limit Bits64 USize n h f = absurd (unfree f)
high_limit Bits64 ISize n h f = absurd (unfree f)

-- the low end of the type
least_belongs : (width : Width) (kind : IntKind) → end_belongs (is_free (kind_range width kind).low) least_held
    (in_either (kind_range width kind) None) (kind_range width kind).low ≡ true
least_belongs w U8 = refl
least_belongs w U16 = refl
least_belongs w U32 = refl
least_belongs w U64 = refl
least_belongs w U128 = refl
least_belongs w I8 = refl
least_belongs w I16 = refl
least_belongs w I32 = refl
least_belongs w I64 = refl
least_belongs w I128 = refl
least_belongs Endless USize = refl
least_belongs Bits16 USize = refl
least_belongs Bits32 USize = refl
least_belongs Bits64 USize = refl
least_belongs Endless ISize = refl
least_belongs Bits16 ISize = refl
least_belongs Bits32 ISize = refl
least_belongs Bits64 ISize = refl

greatest_belongs : (width : Width) (kind : IntKind) → end_belongs (is_free (kind_range width kind).high) greatest_held
    (in_either (kind_range width kind) None) (kind_range width kind).high ≡ true
greatest_belongs w U8 = refl
greatest_belongs w U16 = refl
greatest_belongs w U32 = refl
greatest_belongs w U64 = refl
greatest_belongs w U128 = refl
greatest_belongs w I8 = refl
greatest_belongs w I16 = refl
greatest_belongs w I32 = refl
greatest_belongs w I64 = refl
greatest_belongs w I128 = refl
greatest_belongs Endless USize = refl
greatest_belongs Bits16 USize = refl
greatest_belongs Bits32 USize = refl
greatest_belongs Bits64 USize = refl
greatest_belongs Endless ISize = refl
greatest_belongs Bits16 ISize = refl
greatest_belongs Bits32 ISize = refl
greatest_belongs Bits64 ISize = refl

-- the end is a number that a literal can be, if it is written
abbrev pub IsLiteral : Width → MType → Option ℤ → Type 0
IsLiteral width t None = Unit {0}
IsLiteral width t (Some n) = is_literal_of width t n ≡ true

int_low : (width : Width) (kind : IntKind) (low : Option ℤ) → IsLiteral width (IntType kind) low →
    end_belongs (is_free (kind_range width kind).low) least_held (in_either (kind_range width kind) None)
    (low_written (numbers_of width (IntType kind)) low) ≡ true
int_low w k None h = least_belongs w k
int_low w k (Some n) h =
    at_end (is_free (kind_range w k).low) least_held n (in_either (kind_range w k) None n)
    (into_or (in_range (kind_range w k) n) (literal_within w k n h)) (λ f. low_limit w k n h f)

-- the number before one of a range that is not its least
before_within : (r : MRange) (n : ℤ) → in_range r n ≡ true → is_from r.low (n -ℤ pos 1) ≡ true →
    in_range r (n -ℤ pos 1) ≡ true
before_within r n h k = both_true (is_from r.low (n -ℤ pos 1)) (is_up_to r.high (n -ℤ pos 1)) k
    (lower r.high (both_right (is_from r.low n) (is_up_to r.high n) h))
  where
    lower : (e : MEnd) → is_up_to e n ≡ true → is_up_to e (n -ℤ pos 1) ≡ true
    lower Free q = refl
    lower (At b) q = grind (arith, ints)

from_before : (e : MEnd) (n : ℤ) → is_from e n ≡ true → is_at n e ≡ false → is_from e (n -ℤ pos 1) ≡ true
from_before Free n h k = refl
from_before (At a) n h k = one_below a n h (λ e. let t = (Decides-int_eq n a).1 (sym e) in cc)
  where
    one_below : (a n : ℤ) → int_le a n ≡ true → (a ≡ n → ⊥) → int_le a (n -ℤ pos 1) ≡ true
    one_below a n h k = grind (arith, ints)

from_above : (e : MEnd) (a n : ℤ) → is_from e a ≡ true → int_lt a n ≡ true → is_from e (n -ℤ pos 1) ≡ true
from_above Free a n h k = refl
from_above (At b) a n h k = grind (arith, ints)

untwice : (b : Bool) → not b ≡ false → b ≡ true
untwice true h = refl
untwice false h = cc

-- below an exclusive end there is a number from the low one on
int_before : (width : Width) (kind : IntKind) (low : Option ℤ) (n : ℤ) → IsLiteral width (IntType kind) low →
    is_literal_of width (IntType kind) n ≡ true →
    has_no_number width (IntType kind) low false (Some n) ≡ false → in_range (kind_range width kind) (n -ℤ pos 1)
    ≡ true
int_before w k None n l h e =
    before_within (kind_range w k) n (literal_within w k n h)
    (from_before (kind_range w k).low n (both_left (is_from (kind_range w k).low n) (is_up_to (kind_range w k).high n)
    (literal_within w k n h)) e)
int_before w k (Some a) n l h e =
    before_within (kind_range w k) n (literal_within w k n h)
    (from_above (kind_range w k).low a n
    (both_left (is_from (kind_range w k).low a) (is_up_to (kind_range w k).high a) (literal_within w k a l))
    (untwice (int_lt a n) e))

int_high : (width : Width) (kind : IntKind) (low : Option ℤ) (inclusive : Bool) (high : Option ℤ) →
    IsLiteral width (IntType kind) low → IsLiteral width (IntType kind) high →
    has_no_number width (IntType kind) low inclusive high ≡ false →
    end_belongs (is_free (kind_range width kind).high) greatest_held (in_either (kind_range width kind) None)
    (high_written (numbers_of width (IntType kind)) inclusive high) ≡ true
int_high w k low i None l h e = greatest_belongs w k
int_high w k low true (Some n) l h e =
    at_end (is_free (kind_range w k).high) greatest_held n (in_either (kind_range w k) None n)
    (into_or (in_range (kind_range w k) n) (literal_within w k n h)) (λ f. (high_limit w k n h f).0)
int_high w k low false (Some n) l h e =
    at_end (is_free (kind_range w k).high) greatest_held (n -ℤ pos 1) (in_either (kind_range w k) None (n -ℤ pos 1))
    (into_or (in_range (kind_range w k) (n -ℤ pos 1)) (int_before w k low n l h e)) (λ f. (high_limit w k n h f).1)

-- the scalar values
abbrev lower_scalars : MRange
lower_scalars = closed (pos 0) (pos 0xd7ff)

abbrev upper_scalars : MRange
upper_scalars = closed (pos 0xe000) (pos 0x10ffff)

abbrev is_one : ℤ → Bool
is_one n = in_range lower_scalars n || in_range upper_scalars n

one_scalar : (width : Width) (n : ℤ) → is_literal_of width CharType n ≡ true → is_one n ≡ true
one_scalar w n h = drop (in_range lower_scalars n) (in_range upper_scalars n) h
  where
    drop : (a b : Bool) → (a || (b || false)) ≡ true → (a || b) ≡ true
    drop true b h = refl
    drop false true h = refl
    drop false false h = h

char_end : (limit n : ℤ) → is_one n ≡ true → end_belongs false limit (in_either lower_scalars (Some upper_scalars))
    (At n) ≡ true
char_end limit n h = both_true (is_one n) true h refl

char_low : (width : Width) (low : Option ℤ) → IsLiteral width CharType low →
    end_belongs false least_held (in_either lower_scalars (Some upper_scalars))
    (low_written (numbers_of width CharType) low) ≡ true
char_low w None h = refl
char_low w (Some n) h = char_end least_held n (one_scalar w n h)

-- the scalar value before one that is not the least
scalar_before : (n : ℤ) → is_one n ≡ true → int_le (pos 1) n ≡ true → int_eq n (pos 0xe000) ≡ false →
    is_one (n -ℤ pos 1) ≡ true
scalar_before n h k e = by (or_cases (in_range lower_scalars n) (in_range upper_scalars n) h)
  where
    or_left : (a b : Bool) → a ≡ true → (a || b) ≡ true
    or_left true b h = refl
    or_left false b h = cc

    or_right : (a b : Bool) → b ≡ true → (a || b) ≡ true
    or_right true b h = refl
    or_right false b h = h

    lowered : (b : ℤ) → int_le n b ≡ true → int_le (n -ℤ pos 1) b ≡ true
    lowered b q = grind (arith, ints)

    still : int_le (pos 0) (n -ℤ pos 1) ≡ true
    still = grind (arith, ints)

    above : int_le (pos 0xe000) n ≡ true → (n ≡ pos 0xe000 → ⊥) → int_le (pos 0xe000) (n -ℤ pos 1) ≡ true
    above q d = grind (arith, ints)

    by : (in_range lower_scalars n ≡ true) ⊎ (in_range upper_scalars n ≡ true) → is_one (n -ℤ pos 1) ≡ true
    by (inl q) =
        or_left (in_range lower_scalars (n -ℤ pos 1)) (in_range upper_scalars (n -ℤ pos 1))
        (both_true (int_le (pos 0) (n -ℤ pos 1)) (int_le (n -ℤ pos 1) (pos 0xd7ff)) still
        (lowered (pos 0xd7ff) (both_right (int_le (pos 0) n) (int_le n (pos 0xd7ff)) q)))
    by (inr q) =
        or_right (in_range lower_scalars (n -ℤ pos 1)) (in_range upper_scalars (n -ℤ pos 1))
        (both_true (int_le (pos 0xe000) (n -ℤ pos 1)) (int_le (n -ℤ pos 1) (pos 0x10ffff))
        (above (both_left (int_le (pos 0xe000) n) (int_le n (pos 0x10ffff)) q)
        (λ z. let t = (Decides-int_eq n (pos 0xe000)).1 z in cc))
        (lowered (pos 0x10ffff) (both_right (int_le (pos 0xe000) n) (int_le n (pos 0x10ffff)) q)))

one_from_zero : (n : ℤ) → is_one n ≡ true → int_le (pos 0) n ≡ true
one_from_zero n h = by (or_cases (in_range lower_scalars n) (in_range upper_scalars n) h)
  where
    wider : int_le (pos 0xe000) n ≡ true → int_le (pos 0) n ≡ true
    wider q = grind (arith, ints)

    by : (in_range lower_scalars n ≡ true) ⊎ (in_range upper_scalars n ≡ true) → int_le (pos 0) n ≡ true
    by (inl q) = both_left (int_le (pos 0) n) (int_le n (pos 0xd7ff)) q
    by (inr q) = wider (both_left (int_le (pos 0xe000) n) (int_le n (pos 0x10ffff)) q)

char_before : (width : Width) (low : Option ℤ) (n : ℤ) → IsLiteral width CharType low → is_one n ≡ true →
    has_no_number width CharType low false (Some n) ≡ false → int_le (pos 1) n ≡ true
char_before w None n l h e = positive (one_from_zero n h) (λ z. let t = (Decides-int_eq n (pos 0)).1 z in cc)
  where
    positive : int_le (pos 0) n ≡ true → (n ≡ pos 0 → ⊥) → int_le (pos 1) n ≡ true
    positive q d = grind (arith, ints)
char_before w (Some a) n l h e = later (one_from_zero a (one_scalar w a l)) (untwice (int_lt a n) e)
  where
    later : int_le (pos 0) a ≡ true → int_lt a n ≡ true → int_le (pos 1) n ≡ true
    later q d = grind (arith, ints)

char_high : (width : Width) (low : Option ℤ) (inclusive : Bool) (high : Option ℤ) → IsLiteral width CharType low →
    IsLiteral width CharType high →
    has_no_number width CharType low inclusive high ≡ false →
    end_belongs false greatest_held (in_either lower_scalars (Some upper_scalars))
    (high_written (numbers_of width CharType) inclusive high) ≡ true
char_high w low i None l h e = refl
char_high w low true (Some n) l h e = char_end greatest_held n (one_scalar w n h)
char_high w low false (Some n) l h e = by (int_eq n (pos 0xe000)) refl
  where
    by : (b : Bool) → int_eq n (pos 0xe000) ≡ b → end_belongs false greatest_held
        (in_either lower_scalars (Some upper_scalars)) (At (before_by (At (pos 0xd7ff)) b n)) ≡ true
    by true q = refl
    by false q = char_end greatest_held (n -ℤ pos 1)
        (scalar_before n (one_scalar w n h) (char_before w low n l (one_scalar w n h) e) q)

-- the type is `char` or an integer type
abbrev pub IsNumeric : MType → Type 0
IsNumeric CharType = Unit {0}
IsNumeric (IntType kind) = Unit {0}
IsNumeric _ = ⊥

-- a written range that has a number belongs to the numbers of its type
pub range_belongs : (width : Width) (t : MType) (low : Option ℤ) (inclusive : Bool) (high : Option ℤ) → IsNumeric t →
    IsLiteral width t low → IsLiteral width t high →
    has_no_number width t low inclusive high ≡ false → belongs (number_set (numbers_of width t))
    (NumbersCtor (written_range width t low inclusive high)) ≡ true
range_belongs w CharType low i high n l h e =
    both_true (end_belongs false least_held (in_either lower_scalars (Some upper_scalars))
    (low_written (numbers_of w CharType) low))
    (end_belongs false greatest_held (in_either lower_scalars (Some upper_scalars))
    (high_written (numbers_of w CharType) i high)) (char_low w low l) (char_high w low i high l h e)
range_belongs w (IntType k) low i high n l h e =
    both_true (end_belongs (is_free (kind_range w k).low) least_held (in_either (kind_range w k) None)
    (low_written (numbers_of w (IntType k)) low))
    (end_belongs (is_free (kind_range w k).high) greatest_held (in_either (kind_range w k) None)
    (high_written (numbers_of w (IntType k)) i high)) (int_low w k low l) (int_high w k low i high l h e)
range_belongs w t low i high n l h e = absurd n

not_less : (n : ℤ) → int_lt n n ≡ false
not_less n = grind (arith, ints)

-- so does a single number
pub number_belongs : (width : Width) (t : MType) (n : ℤ) → IsNumeric t → is_literal_of width t n ≡ true →
    belongs (number_set (numbers_of width t)) (NumbersCtor (closed n n)) ≡ true
number_belongs w t n m h = range_belongs w t (Some n) true (Some n) m h h (not_less n)
