-- The numbers of a type have at most 128 bits, where `usize` and `isize` have a width.
use Rattle.std.proofs.Common.{◌≡◌, ℕ, suc, ◌-◌, ◌<◌, ◌^◌, ℤ, pos, negsuc, Bool, true, false, ◌||◌, refl, arith}
use Rattle.std.proofs.lemmas.Bool.Decides.{nat_tests}
use Rattle.std.specs.Prelude.{nat_lt, nat_le, int_le}
use Rattle.match_model.specs.declared.IntKind.{IntKind}
use Rattle.match_model.specs.declared.IntKind.TheVariants.{U8, U16, U32, U64, U128, USize, I8, I16, I32, I64, I128}
use Rattle.match_model.specs.declared.IntKind.TheVariants.{ISize}
use Rattle.match_model.specs.declared.Width.{Width}
use Rattle.match_model.specs.declared.Width.TheVariants.{Endless, Bits16, Bits32, Bits64}
use Rattle.match_model.specs.Numbers.{closed, in_range, has_number}
use Rattle.match_model.specs.Texts.{is_scalar}
use Rattle.match_model.specs.Types.{MType, CharType, IntType}
use Rattle.value_laws.specs.Short.{is_short}
use Rattle.value_laws.proofs.Leaves.{both, scalar_number, no_negative}

short_below : (n top : ℕ) → n < top → nat_lt n top ≡ true
short_below n top h = grind (arith, nat_tests, h)

at_most : (n top limit : ℕ) → nat_le n top ≡ true → top < limit → n < limit
at_most n top limit h lt = grind (arith, nat_tests, h, lt)

above : (n bottom limit : ℕ) → nat_le n bottom ≡ true → suc bottom < limit → suc n < limit
above n bottom limit h lt = grind (arith, nat_tests, h, lt)

or_none : (b : Bool) → (b || false) ≡ true → b ≡ true
or_none true e = refl
or_none false e = absurd cc

unsigned_short : (top : ℕ) (z : ℤ) → top < 2 ^ 128 → in_range (closed (pos 0) (pos top)) z ≡ true → is_short z ≡ true
unsigned_short top (pos n) lt e =
    let le : nat_le n top ≡ true = (both (int_le (pos 0) (pos n)) (int_le (pos n) (pos top)) e).1 in
    short_below n (2 ^ 128) (at_most n top (2 ^ 128) le lt)
unsigned_short top (negsuc n) lt e = absurd cc

signed_short : (bottom top : ℕ) (z : ℤ) → suc bottom < 2 ^ 128 → top < 2 ^ 128
    → in_range (closed (negsuc bottom) (pos top)) z ≡ true → is_short z ≡ true
signed_short bottom top (pos n) lt gt e =
    let le : nat_le n top ≡ true = (both (int_le (negsuc bottom) (pos n)) (int_le (pos n) (pos top)) e).1 in
    short_below n (2 ^ 128) (at_most n top (2 ^ 128) le gt)
signed_short bottom top (negsuc n) lt gt e =
    let le : nat_le n bottom ≡ true = (both (int_le (negsuc bottom) (negsuc n)) (int_le (negsuc n) (pos top)) e).0 in
    short_below (suc n) (2 ^ 128) (above n bottom (2 ^ 128) le lt)

-- the number is short, or has a width that tells so
abbrev pub IsShortAt : Width → ℤ → Type 0
IsShortAt width z = width ≡ Endless → is_short z ≡ true

kind_short : (width : Width) (kind : IntKind) (z : ℤ) → IsShortAt width z → has_number width (IntType kind) z ≡ true
    → is_short z ≡ true
kind_short width U8 z s e = unsigned_short (2 ^ 8 - 1) z (omega arith) (or_none _ e)
kind_short width U16 z s e = unsigned_short (2 ^ 16 - 1) z (omega arith) (or_none _ e)
kind_short width U32 z s e = unsigned_short (2 ^ 32 - 1) z (omega arith) (or_none _ e)
kind_short width U64 z s e = unsigned_short (2 ^ 64 - 1) z (omega arith) (or_none _ e)
kind_short width U128 z s e = unsigned_short (2 ^ 128 - 1) z (omega arith) (or_none _ e)
kind_short Endless USize z s e = s refl
kind_short Bits16 USize z s e = unsigned_short (2 ^ 16 - 1) z (omega arith) (or_none _ e)
kind_short Bits32 USize z s e = unsigned_short (2 ^ 32 - 1) z (omega arith) (or_none _ e)
kind_short Bits64 USize z s e = unsigned_short (2 ^ 64 - 1) z (omega arith) (or_none _ e)
kind_short width I8 z s e = signed_short (2 ^ 7 - 1) (2 ^ 7 - 1) z (omega arith) (omega arith) (or_none _ e)
kind_short width I16 z s e = signed_short (2 ^ 15 - 1) (2 ^ 15 - 1) z (omega arith) (omega arith) (or_none _ e)
kind_short width I32 z s e = signed_short (2 ^ 31 - 1) (2 ^ 31 - 1) z (omega arith) (omega arith) (or_none _ e)
kind_short width I64 z s e = signed_short (2 ^ 63 - 1) (2 ^ 63 - 1) z (omega arith) (omega arith) (or_none _ e)
kind_short width I128 z s e = signed_short (2 ^ 127 - 1) (2 ^ 127 - 1) z (omega arith) (omega arith) (or_none _ e)
kind_short Endless ISize z s e = s refl
kind_short Bits16 ISize z s e = signed_short (2 ^ 15 - 1) (2 ^ 15 - 1) z (omega arith) (omega arith) (or_none _ e)
kind_short Bits32 ISize z s e = signed_short (2 ^ 31 - 1) (2 ^ 31 - 1) z (omega arith) (omega arith) (or_none _ e)
kind_short Bits64 ISize z s e = signed_short (2 ^ 63 - 1) (2 ^ 63 - 1) z (omega arith) (omega arith) (or_none _ e)

scalar_low : (n : ℕ) → is_scalar n ≡ true → n < 0x110000
scalar_low n h = grind (arith, nat_tests, h)

char_short : (width : Width) (z : ℤ) → has_number width CharType z ≡ true → is_short z ≡ true
char_short width (pos n) h =
    let low = scalar_low n (scalar_number width n h) in
    short_below n (2 ^ 128) (omega (arith, low))
char_short width (negsuc n) h = absurd (cc (no_negative width n h))

-- a number of the type
pub number_short : (width : Width) (t : MType) (z : ℤ) → IsShortAt width z → has_number width t z ≡ true
    → is_short z ≡ true
number_short width CharType z s h = char_short width z h
number_short width (IntType kind) z s h = kind_short width kind z s h
number_short width _ z s h = absurd cc
