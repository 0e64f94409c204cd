-- The ends of a written range ascend, where both are numbers of the type and the range is not empty.
use Rattle.std.proofs.Common.{◌≡◌, ◌⊎◌, inl, inr, ℤ, pos, ◌-ℤ◌, Bool, true, false, not, ◌&&◌, ◌||◌, [], ◌∷◌, Option, Some, None, refl, sym, ◌∙◌, ap, arith}
use Rattle.std.specs.Prelude.{IsTrue, IfSome, int_le, int_lt, option_map}
use Rattle.std.specs.List.{list_any}
use Rattle.std.specs.Ordering.{int_eq}
use Rattle.std.proofs.lemmas.Int.{ints}
use Rattle.std.proofs.lemmas.Bool.Decides.{Decides-int_eq}
use Rattle.match_model.specs.declared.Width.{Width}
use Rattle.match_model.specs.declared.Width.TheVariants.{Endless, Bits16, Bits32, Bits64}
use Rattle.match_model.specs.declared.IntKind.{IntKind}
use Rattle.match_model.specs.declared.IntKind.TheVariants.{U8, U16, U32, U64, U128, USize, I8, I16, I32, I64, I128, ISize}
use Rattle.match_model.specs.Types.{CharType, IntType}
use Rattle.match_model.specs.Numbers.{MEnd, Free, At, is_from, is_up_to, is_at, in_range, ends_ascend, closed, kind_range, numbers_of}
use Rattle.match_model.specs.SourcePatterns.{before_by, number_before, low_written, high_written}
use Rattle.range_split.specs.declared.num.Num.{Num}
use Rattle.range_split.specs.declared.range.Range.{Range}
use Rattle.range_split.specs.Numbers.{num_value}
use Rattle.range_split.specs.Ranges.{plain_range}
use Rattle.number_kinds.specs.declared.kinds.NumberKind.{NumberKind}
use Rattle.number_kinds.specs.declared.kinds.NumberKind.TheVariants as kinds
use Rattle.number_kinds.specs.Kinds.{kind_type, scalar_ranges}
use Rattle.number_kinds.specs.Literals.{is_literal_of, has_no_number}

-- what both are
both_true : (a b : Bool) → IsTrue (a && b) → IsTrue a × IsTrue b
both_true true true h = (refl, refl)
both_true true false h = absurd (cc)
both_true false b h = absurd (cc)

and_true : (a b : Bool) → IsTrue a → IsTrue b → IsTrue (a && b)
and_true true true p q = refl
and_true true false p q = q
and_true false b p q = p

or_cases : (a b : Bool) → IsTrue (a || (b || false)) → IsTrue a ⊎ IsTrue b
or_cases true b h = inl refl
or_cases false true h = inr refl
or_cases false false h = absurd (cc)

or_false : (b : Bool) → IsTrue (b || false) → IsTrue b
or_false true h = refl
or_false false h = h

not_equal : (a b : ℤ) → int_eq a b ≡ false → a ≡ b → ⊥
not_equal a b h e = let t = (Decides-int_eq a b).1 e in let f : true ≡ false = sym t ∙ h in absurd (cc)

equal : (a b : ℤ) → int_eq a b ≡ true → a ≡ b
equal a b h = (Decides-int_eq a b).0 h

negated : (b : Bool) → not b ≡ false → IsTrue b
negated true h = refl
negated false h = absurd (cc)

-- the first of two ranges has the number, or what the second says counts
pub first_true : (r s : Range) (n : ℤ) {b : Bool} → plain_range r ∷ (plain_range s ∷ []) ≡ scalar_ranges → b ≡ in_range (plain_range r) n → b ≡ true →
    b ≡ list_any (λ t. in_range t n) scalar_ranges
first_true r s n {b} e h t = h ∙ or_first _ _ (sym h ∙ t) ∙ ap (list_any (λ t. in_range t n)) e
  where
    or_first : (a c : Bool) → a ≡ true → a ≡ (a || (c || false))
    or_first true c h = refl
    or_first false c h = absurd (cc)

pub first_false : (r s : Range) (n : ℤ) {a b : Bool} → plain_range r ∷ (plain_range s ∷ []) ≡ scalar_ranges → a ≡ in_range (plain_range r) n → a ≡ false →
    b ≡ in_range (plain_range s) n → b ≡ list_any (λ t. in_range t n) scalar_ranges
first_false r s n {a} {b} e h t k = k ∙ or_second _ _ (sym h ∙ t) ∙ ap (list_any (λ t. in_range t n)) e
  where
    or_second : (a c : Bool) → a ≡ false → c ≡ (a || (c || false))
    or_second true c h = absurd (cc)
    or_second false true h = refl
    or_second false false h = refl

-- numbers
one_below : (a b : ℤ) → IsTrue (int_lt a b) → IsTrue (int_le a (b -ℤ pos 1))
one_below a b h = grind (arith, ints)

at_or_above : (a b : ℤ) → int_lt b a ≡ false → IsTrue (int_le a b)
at_or_above a b h = grind (arith, ints)

strictly : (a b : ℤ) → IsTrue (int_le a b) → (b ≡ a → ⊥) → IsTrue (int_lt a b)
strictly a b h k = grind (arith, ints)

-- the ends of a number's range around it
up_to : (e : MEnd) (a : ℤ) → IsTrue (is_up_to e a) → IsTrue (ends_ascend (At a) e)
up_to Free a h = refl
up_to (At b) a h = h

from : (e : MEnd) (b : ℤ) → IsTrue (is_from e b) → IsTrue (ends_ascend e (At b))
from Free b h = refl
from (At a) b h = h

from_below : (e : MEnd) (b : ℤ) → IsTrue (is_from e b) → is_at b e ≡ false → IsTrue (ends_ascend e (At (b -ℤ pos 1)))
from_below Free b h k = refl
from_below (At a) b h k = one_below a b (strictly a b h (not_equal b a k))

-- a written range in the one range of an integer type
one_range : (width : Width) (kind : IntKind) (low high : Option Num) (inclusive : Bool) →
    IsTrue (ends_ascend (kind_range width kind).low (kind_range width kind).high) →
    IfSome low (λ n. IsTrue (in_range (kind_range width kind) (num_value n))) → IfSome high (λ n. IsTrue (in_range (kind_range width kind) (num_value n))) →
    has_no_number width (IntType kind) (option_map num_value low) inclusive (option_map num_value high) ≡ false →
    IsTrue (ends_ascend (low_written (numbers_of width (IntType kind)) (option_map num_value low)) (high_written (numbers_of width (IntType kind)) inclusive (option_map num_value high)))
one_range w k None None i r p q h = r
one_range w k (Some a) None i r p q h = up_to (kind_range w k).high (num_value a) (both_true _ _ p).1
one_range w k None (Some b) true r p q h = from (kind_range w k).low (num_value b) (both_true _ _ q).0
one_range w k None (Some b) false r p q h = from_below (kind_range w k).low (num_value b) (both_true _ _ q).0 h
one_range w k (Some a) (Some b) true r p q h = at_or_above (num_value a) (num_value b) h
one_range w k (Some a) (Some b) false r p q h = one_below (num_value a) (num_value b) (negated _ h)

-- the scalar value before one
before_scalar : (a b : ℤ) → IsTrue (list_any (λ r. in_range r a) scalar_ranges) → IsTrue (int_lt a b) → IsTrue (int_le a (number_before scalar_ranges b))
before_scalar a b p h = by (int_eq b (pos 0xe000)) refl
  where
    below_hole : IsTrue (int_le (pos 0) a) × IsTrue (int_le a (pos 0xd7ff)) ⊎ IsTrue (int_le (pos 0xe000) a) × IsTrue (int_le a (pos 0x10ffff)) →
        b ≡ pos 0xe000 → IsTrue (int_le a (pos 0xd7ff))
    below_hole (inl q) e = q.1
    below_hole (inr q) e = let f : IsTrue (int_lt a (pos 0xe000)) = rw (← e) h in absurd (apart a (pos 0xe000) q.0 f)
      where
        apart : (a c : ℤ) → IsTrue (int_le c a) → IsTrue (int_lt a c) → ⊥
        apart a c p q = grind (arith, ints)

    both : IsTrue (in_range (closed (pos 0) (pos 0xd7ff)) a) ⊎ IsTrue (in_range (closed (pos 0xe000) (pos 0x10ffff)) a) →
        IsTrue (int_le (pos 0) a) × IsTrue (int_le a (pos 0xd7ff)) ⊎ IsTrue (int_le (pos 0xe000) a) × IsTrue (int_le a (pos 0x10ffff))
    both (inl q) = inl (both_true _ _ q)
    both (inr q) = inr (both_true _ _ q)

    by : (t : Bool) → int_eq b (pos 0xe000) ≡ t → IsTrue (int_le a (before_by (At (pos 0xd7ff)) t b))
    by true e = below_hole (both (or_cases _ _ p)) (equal b (pos 0xe000) e)
    by false e = one_below a b h

-- a scalar value is none below zero, and none above the greatest
scalar_ends : (n : ℤ) → IsTrue (list_any (λ r. in_range r n) scalar_ranges) → IsTrue (int_le (pos 0) n) × IsTrue (int_le n (pos 0x10ffff))
scalar_ends n p = by (or_cases _ _ p)
  where
    wider : (a b c d : ℤ) → IsTrue (int_le a b) → IsTrue (int_le c d) → IsTrue (int_le b n) × IsTrue (int_le n c) → IsTrue (int_le a n) × IsTrue (int_le n d)
    wider a b c d p q h = let l = h.0 in let r = h.1 in (up a b l p, down c d r q)
      where
        up : (a b : ℤ) → IsTrue (int_le b n) → IsTrue (int_le a b) → IsTrue (int_le a n)
        up a b p q = grind (arith, ints)

        down : (c d : ℤ) → IsTrue (int_le n c) → IsTrue (int_le c d) → IsTrue (int_le n d)
        down c d p q = grind (arith, ints)

    by : IsTrue (in_range (closed (pos 0) (pos 0xd7ff)) n) ⊎ IsTrue (in_range (closed (pos 0xe000) (pos 0x10ffff)) n) → IsTrue (int_le (pos 0) n) × IsTrue (int_le n (pos 0x10ffff))
    by (inl q) = wider (pos 0) (pos 0) (pos 0xd7ff) (pos 0x10ffff) refl refl (both_true _ _ q)
    by (inr q) = wider (pos 0) (pos 0xe000) (pos 0x10ffff) (pos 0x10ffff) refl refl (both_true _ _ q)

-- a written range of scalar values
scalar_range : (width : Width) (low high : Option Num) (inclusive : Bool) →
    IfSome low (λ n. IsTrue (list_any (λ r. in_range r (num_value n)) scalar_ranges)) → IfSome high (λ n. IsTrue (list_any (λ r. in_range r (num_value n)) scalar_ranges)) →
    has_no_number width CharType (option_map num_value low) inclusive (option_map num_value high) ≡ false →
    IsTrue (ends_ascend (low_written scalar_ranges (option_map num_value low)) (high_written scalar_ranges inclusive (option_map num_value high)))
scalar_range w None None i p q h = refl
scalar_range w (Some a) None i p q h = (scalar_ends (num_value a) p).1
scalar_range w None (Some b) true p q h = (scalar_ends (num_value b) q).0
scalar_range w None (Some b) false p q h =
    before_scalar (pos 0) (num_value b) refl (strictly (pos 0) (num_value b) (scalar_ends (num_value b) q).0 (not_equal (num_value b) (pos 0) h))
scalar_range w (Some a) (Some b) true p q h = at_or_above (num_value a) (num_value b) h
scalar_range w (Some a) (Some b) false p q h = before_scalar (num_value a) (num_value b) p (negated _ h)

-- the numbers of an integer type ascend
ascends : (width : Width) (kind : IntKind) → IsTrue (ends_ascend (kind_range width kind).low (kind_range width kind).high)
ascends w U8 = refl
ascends w U16 = refl
ascends w U32 = refl
ascends w U64 = refl
ascends w U128 = refl
ascends w I8 = refl
ascends w I16 = refl
ascends w I32 = refl
ascends w I64 = refl
ascends w I128 = refl
ascends Endless USize = refl
ascends Bits16 USize = refl
ascends Bits32 USize = refl
ascends Bits64 USize = refl
ascends Endless ISize = refl
ascends Bits16 ISize = refl
ascends Bits32 ISize = refl
ascends Bits64 ISize = refl

-- what a literal can be is a number of the type
endless : (kind : IntKind) (n : ℤ) → IsTrue (in_range (kind_range Bits64 kind) n) → IsTrue (in_range (kind_range Endless kind) n)
endless U8 n h = h
endless U16 n h = h
endless U32 n h = h
endless U64 n h = h
endless U128 n h = h
endless I8 n h = h
endless I16 n h = h
endless I32 n h = h
endless I64 n h = h
endless I128 n h = h
endless USize n h = and_true _ _ (both_true _ _ h).0 refl
endless ISize n h = refl

literal_is_number : (width : Width) (kind : IntKind) (n : ℤ) → IsTrue (is_literal_of width (IntType kind) n) → IsTrue (in_range (kind_range width kind) n)
literal_is_number Endless k n h = endless k n (or_false _ h)
literal_is_number Bits16 k n h = or_false _ h
literal_is_number Bits32 k n h = or_false _ h
literal_is_number Bits64 k n h = or_false _ h

literals_are_numbers : (width : Width) (kind : IntKind) (n : Option Num) → IfSome n (λ n. IsTrue (is_literal_of width (IntType kind) (num_value n))) →
    IfSome n (λ n. IsTrue (in_range (kind_range width kind) (num_value n)))
literals_are_numbers w k None h = h
literals_are_numbers w k (Some n) h = literal_is_number w k (num_value n) h

pub written_ascends : (width : Width) (kind : NumberKind) (low high : Option Num) (inclusive : Bool) →
    IfSome low (λ n. IsTrue (is_literal_of width (kind_type kind) (num_value n))) → IfSome high (λ n. IsTrue (is_literal_of width (kind_type kind) (num_value n))) →
    has_no_number width (kind_type kind) (option_map num_value low) inclusive (option_map num_value high) ≡ false →
    IsTrue (ends_ascend (low_written (numbers_of width (kind_type kind)) (option_map num_value low)) (high_written (numbers_of width (kind_type kind)) inclusive (option_map num_value high)))
written_ascends w kinds.Char low high i p q h = scalar_range w low high i p q h
written_ascends w (kinds.Int k) low high i p q h =
    one_range w k low high i (ascends w k) (literals_are_numbers w k low p) (literals_are_numbers w k high q) h
