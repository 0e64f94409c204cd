-- Witness lists of matches on numbers, characters and texts: free ends, the hole of `char`, all other texts.
use Rattle.std.proofs.Common.{◌≡◌, ℤ, pos, negsuc, ◌-ℤ◌, Bool, true, false, ◌||◌, [], ◌∷◌, Some, int_le, int_eq, refl, arith}
use Rattle.std.specs.List.Sorted.{IsStrictlySortedBy}
use Rattle.match_model.specs.declared.IntKind.TheVariants.{USize, ISize}
use Rattle.match_model.specs.Types.{MType, CharType, StrType, IntType, PointType}
use Rattle.match_model.specs.Values.{Num, Text, Point, Unseen}
use Rattle.match_model.specs.Numbers.{MRange, Free, At, in_range}
use Rattle.match_model.specs.Witness.{SpanOf, ElseOf, PointOf}
use Rattle.match_model.specs.Constructors.{PointCtor, OtherTextCtor, NumbersCtor, TextCtor}
use Rattle.match_model.specs.ArenaPatterns.{MDePat, de_pat, no_de_pats, de_pats_of}
use Rattle.match_model.specs.Pieces.{last_one, one_more, IsCut, AreNamed}
use Rattle.match_model.specs.WitnessList.{IsWitnessList, by_rows, no_row, taken, by_pieces, with_value, no_piece}
use Rattle.match_model.specs.RustTypes.{rust_context, RustValue}
use Rattle.match_examples.proofs.ExamplesValues.{program}
use Rattle.match_examples.proofs.SmallMatches.{one, num, span, iff_of}
use Rattle.match_model.proofs.Basics.{both}

-- `0 => ..` on an endless `isize`: `..=-1` and `1..`, both with a free end
abbrev pub zero_only : MRange
zero_only = record { low = At (pos 0); high = At (pos 0) }

abbrev pub below : MRange
below = record { low = Free; high = At (negsuc 0) }

abbrev pub above : MRange
above = record { low = At (pos 1); high = Free }

isize_tests : (n : ℤ) → (false || (int_eq n (pos 0) || (int_eq n (pos 1) || false))) ≡ ((int_eq n (pos 0) || int_eq (n -ℤ pos 1) (pos 0)) || false)
isize_tests n = go (int_eq n (pos 0)) (int_eq n (pos 1)) (int_eq (n -ℤ pos 1) (pos 0)) refl refl refl
  where
    clash_up : int_eq n (pos 1) ≡ true → int_eq (n -ℤ pos 1) (pos 0) ≡ false → ⊥
    clash_up h k = grind arith

    clash_down : int_eq n (pos 1) ≡ false → int_eq (n -ℤ pos 1) (pos 0) ≡ true → ⊥
    clash_down h k = grind arith

    go : (p q r : Bool) → int_eq n (pos 0) ≡ p → int_eq n (pos 1) ≡ q → int_eq (n -ℤ pos 1) (pos 0) ≡ r → (false || (p || (q || false))) ≡ ((p || r) || false)
    go true q r e f g = refl
    go false true true e f g = refl
    go false false false e f g = refl
    go false true false e f g = absurd (clash_up f g)
    go false false true e f g = absurd (clash_down f g)

pub isize_cut : IsCut (record { low = Free; high = Free }) (zero_only ∷ []) (below ∷ zero_only ∷ above ∷ [])
isize_cut = record {
  together = one_more Free Free (negsuc 0) (zero_only ∷ above ∷ []) refl (one_more (At (pos 0)) Free (pos 0) (above ∷ []) refl (last_one (At (pos 1)) Free (pos 1) refl));
  cut = λ n a b. iff_of _ _ (isize_tests n);
}

pub isize_list : IsWitnessList (rust_context program) (RustValue program) (one (IntType ISize) (num zero_only (IntType ISize))) (SpanOf below ∷ SpanOf above ∷ [])
isize_list =
    by_rows (Num (pos 0)) (SpanOf below ∷ SpanOf above ∷ []) refl seen
    (by_pieces (record { type = IntType ISize; sure = true }) [] (Some (num zero_only (IntType ISize)) ∷ []) [] (NumbersCtor below ∷ NumbersCtor zero_only ∷ NumbersCtor above ∷ []) ((SpanOf below ∷ []) ∷ (SpanOf above ∷ []) ∷ []) refl
    (below ∷ zero_only ∷ above ∷ [], [], isize_cut, refl, refl)
    (with_value _ _ _ _ (NumbersCtor below) (NumbersCtor zero_only ∷ NumbersCtor above ∷ []) ([] ∷ []) ((SpanOf above ∷ []) ∷ []) (Num (negsuc 6), refl, refl) (no_row [])
    (with_value _ _ _ _ (NumbersCtor zero_only) (NumbersCtor above ∷ []) [] ((SpanOf above ∷ []) ∷ []) (Num (pos 0), refl, refl) (taken [] [])
    (with_value _ _ _ _ (NumbersCtor above) [] ([] ∷ []) [] (Num (pos 7), refl, refl) (no_row []) (no_piece _ _ _ _)))))
  where
    seen : Num (pos 0) ≡ Unseen → ⊥
    seen e = cc

-- `0..=18446744073709551615` on an endless `usize`: the numbers from 2^64 on are left, free above
abbrev pub all_of_64 : MRange
all_of_64 = span 0 18446744073709551615

abbrev pub from_2_64 : MRange
from_2_64 = record { low = At (pos 18446744073709551616); high = Free }

usize_tests : (n : ℤ) → in_range (record { low = At (pos 0); high = Free }) (n -ℤ pos 1) ≡ true →
    (int_eq n (pos 0) || (int_eq n (pos 18446744073709551616) || false))
    ≡ ((int_eq n (pos 0) || int_eq (n -ℤ pos 1) (pos 18446744073709551615)) || false)
usize_tests n a = go (int_eq n (pos 0)) (int_eq n (pos 18446744073709551616)) (int_eq (n -ℤ pos 1) (pos 18446744073709551615)) refl refl refl
  where
    clash_up : int_eq n (pos 18446744073709551616) ≡ true → int_eq (n -ℤ pos 1) (pos 18446744073709551615) ≡ false → ⊥
    clash_up h k = grind arith

    clash_down : int_eq n (pos 18446744073709551616) ≡ false → int_eq (n -ℤ pos 1) (pos 18446744073709551615) ≡ true → ⊥
    clash_down h k = grind arith

    go : (p q r : Bool) → int_eq n (pos 0) ≡ p → int_eq n (pos 18446744073709551616) ≡ q → int_eq (n -ℤ pos 1) (pos 18446744073709551615) ≡ r →
        (p || (q || false)) ≡ ((p || r) || false)
    go true q r e f g = refl
    go false true true e f g = refl
    go false false false e f g = refl
    go false true false e f g = absurd (clash_up f g)
    go false false true e f g = absurd (clash_down f g)

pub usize_cut : IsCut (record { low = At (pos 0); high = Free }) (all_of_64 ∷ []) (all_of_64 ∷ from_2_64 ∷ [])
usize_cut = record {
  together = one_more (At (pos 0)) Free (pos 18446744073709551615) (from_2_64 ∷ []) refl (last_one (At (pos 18446744073709551616)) Free (pos 18446744073709551616) refl);
  cut = λ n a b. iff_of _ _ (usize_tests n a);
}

pub usize_list : IsWitnessList (rust_context program) (RustValue program) (one (IntType USize) (num all_of_64 (IntType USize))) (SpanOf from_2_64 ∷ [])
usize_list =
    by_rows (Num (pos 0)) (SpanOf from_2_64 ∷ []) refl seen
    (by_pieces (record { type = IntType USize; sure = true }) [] (Some (num all_of_64 (IntType USize)) ∷ []) [] (NumbersCtor all_of_64 ∷ NumbersCtor from_2_64 ∷ []) _ refl
    (all_of_64 ∷ from_2_64 ∷ [], [], usize_cut, refl, refl)
    (with_value _ _ _ _ (NumbersCtor all_of_64) _ [] _ (Num (pos 0), refl, refl) (taken [] [])
    (with_value _ _ _ _ (NumbersCtor from_2_64) [] ([] ∷ []) [] (Num (pos 18446744073709551616), refl, refl) (no_row []) (no_piece _ _ _ _))))
  where
    seen : Num (pos 0) ≡ Unseen → ⊥
    seen e = cc

-- `'\u{D7FF}'..='\u{E000}' => ..` on `char`: a head over the hole has a piece in each range
abbrev pub over : MRange
over = record { low = At (pos 0xd7ff); high = At (pos 0xe000) }

low_tests : (n : ℤ) → in_range (span 0 0xd7ff) (n -ℤ pos 1) ≡ true → in_range (span 0 0xd7ff) n ≡ true →
    (int_eq n (pos 0) || (int_eq n (pos 0xd7ff) || false)) ≡ ((int_eq n (pos 0xd7ff) || int_eq (n -ℤ pos 1) (pos 0xe000)) || false)
low_tests n a b = go (int_eq n (pos 0)) (int_eq n (pos 0xd7ff)) (int_eq (n -ℤ pos 1) (pos 0xe000)) refl refl refl
  where
    at_least : int_le (pos 0) (n -ℤ pos 1) ≡ true
    at_least = (both (int_le (pos 0) (n -ℤ pos 1)) (int_le (n -ℤ pos 1) (pos 0xd7ff)) a).0

    at_most : int_le n (pos 0xd7ff) ≡ true
    at_most = (both (int_le (pos 0) n) (int_le n (pos 0xd7ff)) b).1

    no_first : int_le (pos 0) (n -ℤ pos 1) ≡ true → int_eq n (pos 0) ≡ true → ⊥
    no_first h k = grind arith

    no_behind : int_le n (pos 0xd7ff) ≡ true → int_eq (n -ℤ pos 1) (pos 0xe000) ≡ true → ⊥
    no_behind h k = grind arith

    go : (p q r : Bool) → int_eq n (pos 0) ≡ p → int_eq n (pos 0xd7ff) ≡ q → int_eq (n -ℤ pos 1) (pos 0xe000) ≡ r → (p || (q || false)) ≡ ((q || r) || false)
    go true q r e f g = absurd (no_first at_least e)
    go false true r e f g = refl
    go false false true e f g = absurd (no_behind at_most g)
    go false false false e f g = refl

high_tests : (n : ℤ) → in_range (span 0xe000 0x10ffff) (n -ℤ pos 1) ≡ true → in_range (span 0xe000 0x10ffff) n ≡ true →
    (int_eq n (pos 0xe000) || (int_eq n (pos 0xe001) || false)) ≡ ((int_eq n (pos 0xd7ff) || int_eq (n -ℤ pos 1) (pos 0xe000)) || false)
high_tests n a b = go (int_eq n (pos 0xe000)) (int_eq n (pos 0xe001)) (int_eq n (pos 0xd7ff)) (int_eq (n -ℤ pos 1) (pos 0xe000)) refl refl refl refl
  where
    at_least : int_le (pos 0xe000) (n -ℤ pos 1) ≡ true
    at_least = (both (int_le (pos 0xe000) (n -ℤ pos 1)) (int_le (n -ℤ pos 1) (pos 0x10ffff)) a).0

    no_first : int_le (pos 0xe000) (n -ℤ pos 1) ≡ true → int_eq n (pos 0xe000) ≡ true → ⊥
    no_first h k = grind arith

    no_low : int_le (pos 0xe000) (n -ℤ pos 1) ≡ true → int_eq n (pos 0xd7ff) ≡ true → ⊥
    no_low h k = grind arith

    clash_up : int_eq n (pos 0xe001) ≡ true → int_eq (n -ℤ pos 1) (pos 0xe000) ≡ false → ⊥
    clash_up h k = grind arith

    clash_down : int_eq n (pos 0xe001) ≡ false → int_eq (n -ℤ pos 1) (pos 0xe000) ≡ true → ⊥
    clash_down h k = grind arith

    go : (p q s r : Bool) → int_eq n (pos 0xe000) ≡ p → int_eq n (pos 0xe001) ≡ q → int_eq n (pos 0xd7ff) ≡ s → int_eq (n -ℤ pos 1) (pos 0xe000) ≡ r → (p || (q || false)) ≡ ((s || r) || false)
    go true q s r d e f g = absurd (no_first at_least d)
    go false q true r d e f g = absurd (no_low at_least f)
    go false true false true d e f g = refl
    go false false false false d e f g = refl
    go false true false false d e f g = absurd (clash_up e g)
    go false false false true d e f g = absurd (clash_down e g)

pub low_cut : IsCut (span 0 0xd7ff) (over ∷ []) (span 0 0xd7fe ∷ span 0xd7ff 0xd7ff ∷ [])
low_cut = record {
  together = one_more (At (pos 0)) (At (pos 0xd7ff)) (pos 0xd7fe) (span 0xd7ff 0xd7ff ∷ []) refl (last_one (At (pos 0xd7ff)) (At (pos 0xd7ff)) (pos 0xd7ff) refl);
  cut = λ n a b. iff_of _ _ (low_tests n a b);
}

pub high_cut : IsCut (span 0xe000 0x10ffff) (over ∷ []) (span 0xe000 0xe000 ∷ span 0xe001 0x10ffff ∷ [])
high_cut = record {
  together = one_more (At (pos 0xe000)) (At (pos 0x10ffff)) (pos 0xe000) (span 0xe001 0x10ffff ∷ []) refl (last_one (At (pos 0xe001)) (At (pos 0x10ffff)) (pos 0xe001) refl);
  cut = λ n a b. iff_of _ _ (high_tests n a b);
}

pub char_list : IsWitnessList (rust_context program) (RustValue program) (one CharType (num over CharType)) (SpanOf (span 0 0xd7fe) ∷ SpanOf (span 0xe001 0x10ffff) ∷ [])
char_list =
    by_rows (Num (pos 0)) (SpanOf (span 0 0xd7fe) ∷ SpanOf (span 0xe001 0x10ffff) ∷ []) refl seen
    (by_pieces (record { type = CharType; sure = true }) [] (Some (num over CharType) ∷ []) []
    (NumbersCtor (span 0 0xd7fe) ∷ NumbersCtor (span 0xd7ff 0xd7ff) ∷ NumbersCtor (span 0xe000 0xe000) ∷ NumbersCtor (span 0xe001 0x10ffff) ∷ []) _ refl
    (span 0 0xd7fe ∷ span 0xd7ff 0xd7ff ∷ [], span 0xe000 0xe000 ∷ span 0xe001 0x10ffff ∷ [], low_cut, high_cut, refl)
    (with_value _ _ _ _ (NumbersCtor (span 0 0xd7fe)) _ ([] ∷ []) _ (Num (pos 0), refl, refl) (no_row [])
    (with_value _ _ _ _ (NumbersCtor (span 0xd7ff 0xd7ff)) _ [] _ (Num (pos 0xd7ff), refl, refl) (taken [] [])
    (with_value _ _ _ _ (NumbersCtor (span 0xe000 0xe000)) _ [] _ (Num (pos 0xe000), refl, refl) (taken [] [])
    (with_value _ _ _ _ (NumbersCtor (span 0xe001 0x10ffff)) [] ([] ∷ []) [] (Num (pos 0xe001), refl, refl) (no_row []) (no_piece _ _ _ _))))))
  where
    seen : Num (pos 0) ≡ Unseen → ⊥
    seen e = cc

-- `"a" => ..` on `&str`: behind the reference all texts but "a"
abbrev text_pat : MDePat MType
text_pat = de_pat PointCtor (PointType false StrType) 1 1 (de_pats_of (de_pat (TextCtor (97 ∷ [])) StrType 2 1 no_de_pats [] ∷ [])) []

a_named : AreNamed ((97 ∷ []) ∷ []) ((97 ∷ []) ∷ [])
unfolding IsStrictlySortedBy
a_named = record { each = λ t. refl; ascending = (tt, tt) }

pub text_list : IsWitnessList (rust_context program) (RustValue program) (one (PointType false StrType) text_pat) (PointOf (ElseOf ((97 ∷ []) ∷ [])) ∷ [])
text_list =
    by_rows (Point false (Text [])) (PointOf (ElseOf ((97 ∷ []) ∷ [])) ∷ []) refl seen
    (by_pieces (record { type = PointType false StrType; sure = true }) [] (Some text_pat ∷ []) [] (PointCtor ∷ []) _ refl refl
    (with_value _ _ _ _ PointCtor [] ((ElseOf ((97 ∷ []) ∷ []) ∷ []) ∷ []) [] (Point false (Text []), refl, refl)
    (by_pieces (record { type = StrType; sure = false }) [] (Some (de_pat (TextCtor (97 ∷ [])) StrType 2 1 no_de_pats []) ∷ []) [] (TextCtor (97 ∷ []) ∷ OtherTextCtor ∷ []) _ refl
    ((97 ∷ []) ∷ [], a_named, refl)
    (with_value _ _ _ _ (TextCtor (97 ∷ [])) _ [] _ (Text (97 ∷ []), refl, refl) (taken [] [])
    (with_value _ _ _ _ OtherTextCtor [] ([] ∷ []) [] (Text [], refl, refl) (no_row []) (no_piece _ _ _ _))))
    (no_piece _ _ _ _)))
  where
    seen : Point false (Text []) ≡ Unseen → ⊥
    seen e = cc
