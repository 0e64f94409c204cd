-- The ranges that nodes write that break no rule can be held.
use Rattle.std.proofs.Common.{◌≡◌, ◌⊎◌, inl, inr, ℕ, ℤ, pos, negsuc, ◌-ℤ◌, ◌-◌, ◌^◌, Bool, true, false, not, ◌&&◌, ◌||◌, Option, Some, None, refl, sym, ap, subst, ◌∙◌, arith}
use Rattle.std.specs.Prelude.{int_le, int_lt}
use Rattle.std.specs.Ordering.{int_eq}
use Rattle.std.proofs.lemmas.Int.{ints}
use Rattle.std.proofs.lemmas.Bool.Decides.{Decides-int_eq}
use Rattle.match_model.specs.declared.Width.{Width}
use Rattle.match_model.specs.declared.Width.TheVariants.{Endless, Bits16, Bits32, Bits64}
use Rattle.match_model.specs.declared.IntKind.{IntKind}
use Rattle.match_model.specs.declared.IntKind.TheVariants.{U8, U16, U32, U64, U128, USize, I8, I16, I32, I64, I128, ISize}
use Rattle.match_model.specs.Types.{MType, CharType, IntType}
use Rattle.match_model.specs.Numbers.{MEnd, Free, At, MRange, is_from, is_up_to, is_at, in_range, closed, ends_ascend, kind_range, numbers_of}
use Rattle.match_model.specs.SourcePatterns.{before_by, low_written, high_written, written_range}
use Rattle.match_model.specs.Constructors.{NumbersCtor, is_free, end_belongs, in_either, greatest_held, least_held, belongs}
use Rattle.match_model.specs.Made.{IsHeldEnd, IsMadeRange}
use Rattle.match_model.specs.RustTypes.{number_set}
use Rattle.number_kinds.specs.Literals.{is_literal_of, has_no_number}
use Rattle.decl_syntax.specs.Patterns.{LitTree, Flag, Char, Byte, Int, Str, Other, Shape}
use Rattle.decl_syntax.specs.Patterns as patterns
use Rattle.pattern_rules.specs.Settings.{Setting, program}
use Rattle.pattern_rules.specs.Literals.{is_number_of, is_outside, end_outside, has_type, end_has_type, number_of, end_number, is_refused, some_end_refused, is_empty_at, same_kind, range_meant}
use Rattle.pattern_rules.specs.Nodes.{Node}
use Rattle.pattern_rules.specs.NodeRules.{type_met, is_numeric, literal_fits}
use Rattle.pattern_rules.specs.Promises.{literal_range, range_written}
use Rattle.pattern_laws.proofs.Fitting.{RangeFits}
use Rattle.pattern_laws.proofs.FineNodes.{NodeFine, either_left, either_right}
use Rattle.pattern_laws.proofs.LiteralsFit.{let_in, suffix_numeric}
use Rattle.pattern_laws.proofs.BottomTypes.{numeric_type}
use Rattle.pattern_laws.proofs.NumbersFit.{IsNumeric}
use Rattle.pattern_laws.proofs.FieldNumbers.{untwice}
use Rattle.pattern_rules.proofs.SameTypes.{both_left, both_right}

or_false : (b : Bool) → (b || false) ≡ true → b ≡ true
or_false true h = refl
or_false false h = h

le_through : (a b c : ℤ) → int_le a b ≡ true → int_le b c ≡ true → int_le a c ≡ true
le_through a b c h k = grind (arith, ints)

-- numbers between numbers that can be held can be held
within : (lo hi n : ℤ) → int_le least_held lo ≡ true → int_le hi greatest_held ≡ true → (int_le lo n && int_le n hi)
    ≡ true → IsHeldEnd (At n)
within lo hi n h k e = (
  le_through least_held lo n h (both_left (int_le lo n) (int_le n hi) e),
  le_through n hi greatest_held
      (both_right (int_le lo n) (int_le n hi) e) k,
)

-- ---- integer types

bounded_kind : (w : Width) (k : IntKind) (n : ℤ) → is_free (kind_range w k).high ≡ false → in_range (kind_range w k) n
    ≡ true → IsHeldEnd (At n)
bounded_kind w U8 n f h = within (pos 0) (pos (2 ^ 8 - 1)) n refl refl h
bounded_kind w U16 n f h = within (pos 0) (pos (2 ^ 16 - 1)) n refl refl h
bounded_kind w U32 n f h = within (pos 0) (pos (2 ^ 32 - 1)) n refl refl h
bounded_kind w U64 n f h = within (pos 0) (pos (2 ^ 64 - 1)) n refl refl h
bounded_kind w U128 n f h = within (pos 0) (pos (2 ^ 128 - 1)) n refl refl h
bounded_kind w I8 n f h = within (negsuc (2 ^ 7 - 1)) (pos (2 ^ 7 - 1)) n refl refl h
bounded_kind w I16 n f h = within (negsuc (2 ^ 15 - 1)) (pos (2 ^ 15 - 1)) n refl refl h
bounded_kind w I32 n f h = within (negsuc (2 ^ 31 - 1)) (pos (2 ^ 31 - 1)) n refl refl h
bounded_kind w I64 n f h = within (negsuc (2 ^ 63 - 1)) (pos (2 ^ 63 - 1)) n refl refl h
bounded_kind w I128 n f h = within (negsuc (2 ^ 127 - 1)) (pos (2 ^ 127 - 1)) n refl refl h
bounded_kind Bits16 USize n f h = within (pos 0) (pos (2 ^ 16 - 1)) n refl refl h
bounded_kind Bits32 USize n f h = within (pos 0) (pos (2 ^ 32 - 1)) n refl refl h
bounded_kind Bits64 USize n f h = within (pos 0) (pos (2 ^ 64 - 1)) n refl refl h
bounded_kind Endless USize n f h = cc
bounded_kind Bits16 ISize n f h = within (negsuc (2 ^ 15 - 1)) (pos (2 ^ 15 - 1)) n refl refl h
bounded_kind Bits32 ISize n f h = within (negsuc (2 ^ 31 - 1)) (pos (2 ^ 31 - 1)) n refl refl h
bounded_kind Bits64 ISize n f h = within (negsuc (2 ^ 63 - 1)) (pos (2 ^ 63 - 1)) n refl refl h
bounded_kind Endless ISize n f h = cc

-- the ends of the types
type_ends : (w : Width) (k : IntKind) →
    IsHeldEnd (kind_range w k).low × IsHeldEnd (kind_range w k).high
    × (ends_ascend (kind_range w k).low (kind_range w k).high ≡ true)
type_ends w U8 = ((refl, refl), (refl, refl), refl)
type_ends w U16 = ((refl, refl), (refl, refl), refl)
type_ends w U32 = ((refl, refl), (refl, refl), refl)
type_ends w U64 = ((refl, refl), (refl, refl), refl)
type_ends w U128 = ((refl, refl), (refl, refl), refl)
type_ends w I8 = ((refl, refl), (refl, refl), refl)
type_ends w I16 = ((refl, refl), (refl, refl), refl)
type_ends w I32 = ((refl, refl), (refl, refl), refl)
type_ends w I64 = ((refl, refl), (refl, refl), refl)
type_ends w I128 = ((refl, refl), (refl, refl), refl)
type_ends Endless USize = ((refl, refl), tt, refl)
type_ends Bits16 USize = ((refl, refl), (refl, refl), refl)
type_ends Bits32 USize = ((refl, refl), (refl, refl), refl)
type_ends Bits64 USize = ((refl, refl), (refl, refl), refl)
type_ends Endless ISize = (tt, tt, refl)
type_ends Bits16 ISize = ((refl, refl), (refl, refl), refl)
type_ends Bits32 ISize = ((refl, refl), (refl, refl), refl)
type_ends Bits64 ISize = ((refl, refl), (refl, refl), refl)

-- a literal of 64 bits and the number before it can be held
AreHeld : ℤ → Type 0
AreHeld n = IsHeldEnd (At n) × IsHeldEnd (At (n -ℤ pos 1))

before_low : (lo n : ℤ) → int_le lo n ≡ true → int_le (lo -ℤ pos 1) (n -ℤ pos 1) ≡ true
before_low lo n h = grind (arith, ints)

before_high : (n hi : ℤ) → int_le n hi ≡ true → int_le (n -ℤ pos 1) hi ≡ true
before_high n hi h = grind (arith, ints)

both_within : (lo hi n : ℤ) → int_le least_held (lo -ℤ pos 1) ≡ true → int_le least_held lo ≡ true →
    int_le hi greatest_held ≡ true →
    (int_le lo n && int_le n hi) ≡ true → AreHeld n
unfolding AreHeld
both_within lo hi n g h k e = (
  within lo hi n h k e,
  (
    le_through least_held (lo -ℤ pos 1) (n -ℤ pos 1) g (before_low lo n (both_left (int_le lo n) (int_le n hi) e)),
    le_through (n -ℤ pos 1) hi greatest_held (before_high n hi (both_right (int_le lo n) (int_le n hi) e)) k,
  ),
)

free_literal : (w : Width) (k : IntKind) (n : ℤ) → is_free (kind_range w k).high ≡ true → is_literal_of w (IntType k) n
    ≡ true → AreHeld n
free_literal Endless USize n f h = both_within (pos 0) (pos (2 ^ 64 - 1)) n refl refl refl
    (or_false (int_le (pos 0) n && int_le n (pos (2 ^ 64 - 1))) h)
free_literal Endless ISize n f h =
    both_within (negsuc (2 ^ 63 - 1)) (pos (2 ^ 63 - 1)) n refl refl refl
    (or_false (int_le (negsuc (2 ^ 63 - 1)) n && int_le n (pos (2 ^ 63 - 1))) h)
free_literal w U8 n f h = cc
free_literal w U16 n f h = cc
free_literal w U32 n f h = cc
free_literal w U64 n f h = cc
free_literal w U128 n f h = cc
free_literal w I8 n f h = cc
free_literal w I16 n f h = cc
free_literal w I32 n f h = cc
free_literal w I64 n f h = cc
free_literal w I128 n f h = cc
free_literal Bits16 USize n f h = cc
free_literal Bits32 USize n f h = cc
free_literal Bits64 USize n f h = cc
free_literal Bits16 ISize n f h = cc
free_literal Bits32 ISize n f h = cc
free_literal Bits64 ISize n f h = cc

-- on a side without an end a written number is a literal's
abbrev IsSized : Width → IntKind → Option ℤ → Type 0
IsSized w k None = Unit {0}
IsSized w k (Some n) = is_free (kind_range w k).high ≡ true → is_literal_of w (IntType k) n ≡ true

end_held : (w : Width) (k : IntKind) (n : ℤ) → IsSized w k (Some n) → in_range (kind_range w k) n ≡ true →
    IsHeldEnd (At n)
unfolding AreHeld
end_held w k n s h = go (is_free (kind_range w k).high) refl
  where
    go : (b : Bool) → is_free (kind_range w k).high ≡ b → IsHeldEnd (At n)
    go false e = bounded_kind w k n e h
    go true e = (free_literal w k n e (s e)).0

before_held : (w : Width) (k : IntKind) (n : ℤ) → IsSized w k (Some n) → in_range (kind_range w k) (n -ℤ pos 1) ≡ true →
    IsHeldEnd (At (n -ℤ pos 1))
unfolding AreHeld
before_held w k n s h = go (is_free (kind_range w k).high) refl
  where
    go : (b : Bool) → is_free (kind_range w k).high ≡ b → IsHeldEnd (At (n -ℤ pos 1))
    go false e = bounded_kind w k (n -ℤ pos 1) e h
    go true e = (free_literal w k n e (s e)).1

from_ascends : (e : MEnd) (n : ℤ) → is_from e n ≡ true → ends_ascend e (At n) ≡ true
from_ascends Free n h = refl
from_ascends (At a) n h = h

to_ascends : (e : MEnd) (n : ℤ) → is_up_to e n ≡ true → ends_ascend (At n) e ≡ true
to_ascends Free n h = refl
to_ascends (At b) n h = h

uncross : (a b : ℤ) → int_lt b a ≡ false → int_le a b ≡ true
uncross a b h = grind (arith, ints)

below_before : (a b : ℤ) → int_lt a b ≡ true → int_le a (b -ℤ pos 1) ≡ true
below_before a b h = grind (arith, ints)

-- an end at a number is one of the set
at_number : (free : Bool) (limit n : ℤ) (r : MRange) → end_belongs free limit (in_either r None) (At n) ≡ true →
    in_range r n ≡ true
at_number free limit n r h = or_false (in_range r n) (both_left (in_either r None n) (not (free && int_eq n limit)) h)

module _ (w : Width) (k : IntKind) where
  abbrev whole : MRange
  whole = kind_range w k

  abbrev LowIn : Option ℤ → Type 0
  LowIn low = end_belongs (is_free whole.low) least_held (in_either whole None)
      (low_written (numbers_of w (IntType k)) low) ≡ true

  abbrev HighIn : Bool → Option ℤ → Type 0
  HighIn inclusive high = end_belongs (is_free whole.high) greatest_held (in_either whole None)
      (high_written (numbers_of w (IntType k)) inclusive high) ≡ true

  low_held : (low : Option ℤ) → IsSized w k low → LowIn low → IsHeldEnd (low_written (numbers_of w (IntType k)) low)
  low_held None s h = (type_ends w k).0
  low_held (Some n) s h = end_held w k n s (at_number (is_free whole.low) least_held n whole h)

  high_held : (inclusive : Bool) (high : Option ℤ) → IsSized w k high → HighIn inclusive high →
      IsHeldEnd (high_written (numbers_of w (IntType k)) inclusive high)
  high_held i None s h = (type_ends w k).1
  high_held true (Some n) s h = end_held w k n s (at_number (is_free whole.high) greatest_held n whole h)
  high_held false (Some n) s h = before_held w k n s (at_number (is_free whole.high) greatest_held (n -ℤ pos 1) whole h)

  up : (low : Option ℤ) (inclusive : Bool) (high : Option ℤ) → has_no_number w (IntType k) low inclusive high ≡ false →
      LowIn low → HighIn inclusive high →
      ends_ascend (low_written (numbers_of w (IntType k)) low) (high_written (numbers_of w (IntType k)) inclusive high)
      ≡ true
  up None i None e h g = (type_ends w k).2
  up None true (Some b) e h g =
      from_ascends whole.low b (both_left (is_from whole.low b) (is_up_to whole.high b)
      (at_number (is_free whole.high) greatest_held b whole g))
  up None false (Some b) e h g =
      from_ascends whole.low (b -ℤ pos 1)
      (both_left (is_from whole.low (b -ℤ pos 1)) (is_up_to whole.high (b -ℤ pos 1))
      (at_number (is_free whole.high) greatest_held (b -ℤ pos 1) whole g))
  up (Some a) i None e h g =
      to_ascends whole.high a (both_right (is_from whole.low a) (is_up_to whole.high a)
      (at_number (is_free whole.low) least_held a whole h))
  up (Some a) true (Some b) e h g = uncross a b e
  up (Some a) false (Some b) e h g = below_before a b (untwice (int_lt a b) e)

  int_made : (low : Option ℤ) (inclusive : Bool) (high : Option ℤ) → has_no_number w (IntType k) low inclusive high
      ≡ false → IsSized w k low → IsSized w k high →
      belongs (number_set (numbers_of w (IntType k))) (NumbersCtor (written_range w (IntType k) low inclusive high))
      ≡ true →
      IsMadeRange (written_range w (IntType k) low inclusive high)
  int_made low i high e s t b =
      let l = both_left (end_belongs (is_free whole.low) least_held (in_either whole None)
      (low_written (numbers_of w (IntType k)) low))
      (end_belongs (is_free whole.high) greatest_held (in_either whole None)
      (high_written (numbers_of w (IntType k)) i high)) b in
      let h = both_right (end_belongs (is_free whole.low) least_held (in_either whole None)
      (low_written (numbers_of w (IntType k)) low))
      (end_belongs (is_free whole.high) greatest_held (in_either whole None)
      (high_written (numbers_of w (IntType k)) i high)) b in
      record { up = up low i high e l h; low = low_held low s l; high = high_held i high t h }

-- ---- characters

abbrev lower : MRange
lower = closed (pos 0) (pos 0xd7ff)

abbrev upper : MRange
upper = closed (pos 0xe000) (pos 0x10ffff)

either_of : (a b : Bool) → (a || b) ≡ true → (a ≡ true) ⊎ (b ≡ true)
either_of true b h = inl refl
either_of false b h = inr h

scalar_in : (free_limit n : ℤ) → end_belongs false free_limit (in_either lower (Some upper)) (At n) ≡ true →
    (int_le (pos 0) n && int_le n (pos 0x10ffff)) ≡ true
scalar_in l n h = by (either_of (in_range lower n) (in_range upper n)
    (both_left (in_either lower (Some upper) n) true h))
  where
    both_hold : (a b : Bool) → a ≡ true → b ≡ true → (a && b) ≡ true
    both_hold true b e f = f
    both_hold false b e f = cc

    by : (in_range lower n ≡ true) ⊎ (in_range upper n ≡ true) → (int_le (pos 0) n && int_le n (pos 0x10ffff)) ≡ true
    by (inl e) =
        both_hold (int_le (pos 0) n) (int_le n (pos 0x10ffff)) (both_left (int_le (pos 0) n) (int_le n (pos 0xd7ff)) e)
        (le_through n (pos 0xd7ff) (pos 0x10ffff) (both_right (int_le (pos 0) n) (int_le n (pos 0xd7ff)) e) refl)
    by (inr e) =
        both_hold (int_le (pos 0) n) (int_le n (pos 0x10ffff))
        (le_through (pos 0) (pos 0xe000) n refl (both_left (int_le (pos 0xe000) n) (int_le n (pos 0x10ffff)) e))
        (both_right (int_le (pos 0xe000) n) (int_le n (pos 0x10ffff)) e)

scalar_held : (limit n : ℤ) → end_belongs false limit (in_either lower (Some upper)) (At n) ≡ true → IsHeldEnd (At n)
scalar_held l n h = within (pos 0) (pos 0x10ffff) n refl refl (scalar_in l n h)

-- a scalar value below the first of the upper ones is a lower one
still_lower : (limit a : ℤ) → end_belongs false limit (in_either lower (Some upper)) (At a) ≡ true →
    int_lt a (pos 0xe000) ≡ true → int_le a (pos 0xd7ff) ≡ true
still_lower l a h e = by (either_of (in_range lower a) (in_range upper a)
    (both_left (in_either lower (Some upper) a) true h))
  where
    clash : int_le (pos 0xe000) a ≡ true → int_le a (pos 0xd7ff) ≡ true
    clash k = grind (arith, ints)

    by : (in_range lower a ≡ true) ⊎ (in_range upper a ≡ true) → int_le a (pos 0xd7ff) ≡ true
    by (inl k) = both_right (int_le (pos 0) a) (int_le a (pos 0xd7ff)) k
    by (inr k) = clash (both_left (int_le (pos 0xe000) a) (int_le a (pos 0x10ffff)) k)

module _ (w : Width) where
  abbrev CharLow : Option ℤ → Type 0
  CharLow low = end_belongs false least_held (in_either lower (Some upper)) (low_written (numbers_of w CharType) low)
      ≡ true

  abbrev CharHigh : Bool → Option ℤ → Type 0
  CharHigh inclusive high = end_belongs false greatest_held (in_either lower (Some upper))
      (high_written (numbers_of w CharType) inclusive high) ≡ true

  char_low_held : (low : Option ℤ) → CharLow low → IsHeldEnd (low_written (numbers_of w CharType) low)
  char_low_held None h = (refl, refl)
  char_low_held (Some n) h = scalar_held least_held n h

  char_high_held : (inclusive : Bool) (high : Option ℤ) → CharHigh inclusive high →
      IsHeldEnd (high_written (numbers_of w CharType) inclusive high)
  char_high_held i None h = (refl, refl)
  char_high_held true (Some n) h = scalar_held greatest_held n h
  char_high_held false (Some n) h = by (is_at n (At (pos 0xe000))) h
    where
      by : (b : Bool) → end_belongs false greatest_held (in_either lower (Some upper))
          (At (before_by (At (pos 0xd7ff)) b n)) ≡ true → IsHeldEnd (At (before_by (At (pos 0xd7ff)) b n))
      by true h = (refl, refl)
      by false h = scalar_held greatest_held (n -ℤ pos 1) h

  char_up : (low : Option ℤ) (inclusive : Bool) (high : Option ℤ) → has_no_number w CharType low inclusive high
      ≡ false → CharLow low → CharHigh inclusive high →
      ends_ascend (low_written (numbers_of w CharType) low) (high_written (numbers_of w CharType) inclusive high) ≡ true
  char_up None i None e h g = refl
  char_up None true (Some b) e h g = both_left (int_le (pos 0) b) (int_le b (pos 0x10ffff))
      (scalar_in greatest_held b g)
  char_up None false (Some b) e h g = by (is_at b (At (pos 0xe000))) g
    where
      by : (t : Bool) → end_belongs false greatest_held (in_either lower (Some upper))
          (At (before_by (At (pos 0xd7ff)) t b)) ≡ true →
          ends_ascend (At (pos 0)) (At (before_by (At (pos 0xd7ff)) t b)) ≡ true
      by true g = refl
      by false g = both_left (int_le (pos 0) (b -ℤ pos 1)) (int_le (b -ℤ pos 1) (pos 0x10ffff))
          (scalar_in greatest_held (b -ℤ pos 1) g)
  char_up (Some a) i None e h g = both_right (int_le (pos 0) a) (int_le a (pos 0x10ffff)) (scalar_in least_held a h)
  char_up (Some a) true (Some b) e h g = uncross a b e
  char_up (Some a) false (Some b) e h g = by (int_eq b (pos 0xe000)) refl
    where
      less : int_lt a b ≡ true
      less = untwice (int_lt a b) e

      by : (t : Bool) → int_eq b (pos 0xe000) ≡ t → ends_ascend (At a) (At (before_by (At (pos 0xd7ff)) t b)) ≡ true
      by true q = still_lower least_held a h (ap (int_lt a) (sym ((Decides-int_eq b (pos 0xe000)).0 q)) ∙ less)
      by false q = below_before a b less

  char_made : (low : Option ℤ) (inclusive : Bool) (high : Option ℤ) → has_no_number w CharType low inclusive high
      ≡ false →
      belongs (number_set (numbers_of w CharType)) (NumbersCtor (written_range w CharType low inclusive high)) ≡ true →
      IsMadeRange (written_range w CharType low inclusive high)
  char_made low i high e b =
      let l = both_left (end_belongs false least_held (in_either lower (Some upper))
      (low_written (numbers_of w CharType) low))
      (end_belongs false greatest_held (in_either lower (Some upper)) (high_written (numbers_of w CharType) i high))
      b in
      let h = both_right (end_belongs false least_held (in_either lower (Some upper))
      (low_written (numbers_of w CharType) low))
      (end_belongs false greatest_held (in_either lower (Some upper)) (high_written (numbers_of w CharType) i high))
      b in
      record { up = char_up low i high e l h; low = char_low_held low l; high = char_high_held i high h }

-- ---- nodes

same_range : (r q : MRange) → Some r ≡ Some q → r ≡ q
same_range r q e = cc

not_less : (n : ℤ) → int_lt n n ≡ false
not_less n = grind (arith, ints)

-- a range of a numeric type
numeric_made : (s : Setting) (u : MType) (low : Option ℤ) (inclusive : Bool) (high : Option ℤ) → IsNumeric u →
    has_no_number s.width u low inclusive high ≡ false → ((k : IntKind) → u ≡ IntType k → IsSized s.width k low
    × IsSized s.width k high) →
    RangeFits (program s) (written_range s.width u low inclusive high) u →
    IsMadeRange (written_range s.width u low inclusive high)
numeric_made s CharType low i high n e f b = char_made s.width low i high e b
numeric_made s (IntType k) low i high n e f b = int_made s.width k low i high e (f k refl).0 (f k refl).1 b
numeric_made s u low i high n e f b = absurd n

byte_sized : (w : Width) (k : IntKind) (b : ℕ) → same_kind U8 k ≡ true → IsSized w k (Some (pos b))
byte_sized w U8 b h f = cc
byte_sized w k b h f = cc

-- an integer literal of the type is one of its numbers
literal_sized : (w : Width) (k : IntKind) (l : LitTree) → has_type l (IntType k) ≡ true → is_outside w (IntType k) l
    ≡ false → IsSized w k (number_of l)
literal_sized w k (Flag b) h o = tt
literal_sized w k (Str text) h o = tt
literal_sized w k Other h o = tt
literal_sized w k (Char c) h o = absurd cc
literal_sized w k (Byte b) h o = byte_sized w k b h
literal_sized w k (Int negative None suffix) h o = tt
literal_sized w k (Int negative (Some m) suffix) h o = λ f. untwice
    (is_number_of w (IntType k) (number_of (Int negative (Some m) suffix))) o

end_sized : (w : Width) (k : IntKind) (l : Option LitTree) → end_has_type l (IntType k) ≡ true →
    end_outside w (IntType k) l ≡ false → IsSized w k (end_number l)
end_sized w k None h o = tt
end_sized w k (Some l) h o = literal_sized w k l h o

-- a literal of a numeric type
literal_numeric : (t u : MType) (l : LitTree) (n : ℤ) → number_of l ≡ Some n → literal_fits l t u ≡ true → IsNumeric u
    × (has_type l u ≡ true)
literal_numeric t CharType (Char c) n e h = (tt, h)
literal_numeric t u (Char c) n e h = absurd cc
literal_numeric t (IntType k) (Byte b) n e h = (tt, h)
literal_numeric t u (Byte b) n e h = absurd cc
literal_numeric t u (Int negative size suffix) n e h = (suffix_numeric suffix u h, h)
literal_numeric t u (Flag b) n e h = absurd cc
literal_numeric t u (Str text) n e h = absurd cc
literal_numeric t u Other n e h = absurd cc

module _ (s : Setting) where
  literal_made : (t u : MType) (l : LitTree) (r : MRange) → is_refused l ≡ false →
      (not (is_refused l) && not (literal_fits l t u)) ≡ false →
      (not (is_refused l) && is_outside s.width u l) ≡ false → literal_range l ≡ Some r → RangeFits (program s) r u →
      IsMadeRange r
  literal_made t u l r k h o e b = go (number_of l) refl
    where
      go : (x : Option ℤ) → number_of l ≡ x → IsMadeRange r
      go None g = let none : literal_range l ≡ None = rw g refl in absurd cc
      go (Some n) g =
          let one : literal_range l ≡ Some (closed n n) = rw g refl in
          let same : closed n n ≡ r = same_range (closed n n) r (sym one ∙ e) in
          let fits = literal_numeric t u l n g
          (untwice (literal_fits l t u) (let_in (is_refused l) (not (literal_fits l t u)) h k)) in
          let inside = let_in (is_refused l) (is_outside s.width u l) o k in
          subst IsMadeRange same
          (numeric_made s u (Some n) true (Some n) fits.0 (nothing_crosses u n) (λ j z.
          let sized = sized_at j z n g fits.1 inside in (sized, sized))
          (subst (λ q. RangeFits (program s) q u) (sym same) b))
        where
          nothing_crosses : (u : MType) (n : ℤ) → has_no_number s.width u (Some n) true (Some n) ≡ false
          nothing_crosses u n = not_less n

          sized_at : (j : IntKind) → u ≡ IntType j → (n : ℤ) → number_of l ≡ Some n → has_type l u ≡ true →
              is_outside s.width u l ≡ false → IsSized s.width j (Some n)
          sized_at j z n g t o =
              subst (IsSized s.width j) g
              (literal_sized s.width j l (subst (λ v. has_type l v ≡ true) z t)
              (subst (λ v. is_outside s.width v l ≡ false) z o))

  span_made : (u : MType) (low high : Option LitTree) (closed_ : Bool) → some_end_refused low high ≡ false →
      (not (some_end_refused low high) && not (is_numeric u && (end_has_type low u && end_has_type high u))) ≡ false →
      (not (some_end_refused low high) && (end_outside s.width u low || end_outside s.width u high)) ≡ false →
      (not (some_end_refused low high) && is_empty_at s.width u low high closed_) ≡ false →
      RangeFits (program s) (range_meant s.width u low high closed_) u →
      IsMadeRange (range_meant s.width u low high closed_)
  span_made u low high c k h o e b =
      let types : (is_numeric u && (end_has_type low u && end_has_type high u)) ≡ true =
      untwice (is_numeric u && (end_has_type low u && end_has_type high u))
      (let_in (some_end_refused low high) (not (is_numeric u && (end_has_type low u && end_has_type high u))) h k)
      in
      let both = both_right (is_numeric u) (end_has_type low u && end_has_type high u) types in
      let inside = let_in (some_end_refused low high) (end_outside s.width u low || end_outside s.width u high) o k in
      numeric_made s u (end_number low) c (end_number high)
      (numeric_type u (both_left (is_numeric u) (end_has_type low u && end_has_type high u) types))
      (let_in (some_end_refused low high) (is_empty_at s.width u low high c) e k)
      (λ j z. (
        end_sized s.width j low (subst (λ v. end_has_type low v ≡ true) z
            (both_left (end_has_type low u) (end_has_type high u) both))
            (subst (λ v. end_outside s.width v low ≡ false) z
            (either_left (end_outside s.width u low) (end_outside s.width u high) inside)),
        end_sized s.width j high (subst (λ v. end_has_type high v ≡ true) z
            (both_right (end_has_type low u) (end_has_type high u) both))
            (subst (λ v. end_outside s.width v high ≡ false) z
            (either_right (end_outside s.width u low) (end_outside s.width u high) inside)),
      )) b

  shape_made : (n : Node) (shape : Shape) (r : MRange) → NodeFine s (record n { shape = shape }) →
      range_written s (record n { shape = shape }) ≡ Some r →
      RangeFits (program s) r (type_met n) → IsMadeRange r
  shape_made n (patterns.Literal l) r f e b = literal_made n.place.type (type_met n) l r f.kind f.type f.range e b
  shape_made n (patterns.Range low high c) r f e b =
      let same : range_meant s.width (type_met n) low high c
      ≡ r = same_range (range_meant s.width (type_met n) low high c) r e in
      subst IsMadeRange same
      (span_made (type_met n) low high c f.kind f.type f.range f.ends (subst (λ q. RangeFits (program s) q (type_met n))
      (sym same) b))
  shape_made n patterns.Wild r f e b = absurd cc
  shape_made n patterns.Rest r f e b = absurd cc
  shape_made n (patterns.Name name) r f e b = absurd cc
  shape_made n (patterns.Bind name by_ref mutable) r f e b = absurd cc
  shape_made n (patterns.BindAs name by_ref mutable p) r f e b = absurd cc
  shape_made n (patterns.Path path) r f e b = absurd cc
  shape_made n (patterns.TupleForm path ps) r f e b = absurd cc
  shape_made n (patterns.Brace path fs rest) r f e b = absurd cc
  shape_made n (patterns.Tuple ps) r f e b = absurd cc
  shape_made n (patterns.Group p) r f e b = absurd cc
  shape_made n (patterns.Slice ps) r f e b = absurd cc
  shape_made n (patterns.Point mutable p) r f e b = absurd cc
  shape_made n (patterns.Or ps) r f e b = absurd cc

  -- the range that a node writes that breaks no rule can be held
  pub node_made : (n : Node) (r : MRange) → NodeFine s n → range_written s n ≡ Some r →
      RangeFits (program s) r (type_met n) → IsMadeRange r
  node_made n r f e b = shape_made n n.shape r f e b
