-- Lists that are too long, by their lengths.
use Rattle.std.proofs.Common.{suc, ◌≡◌, ◌<◌, ◌≤◌, ℕ, Bool, true, false, ◌||◌, nat_lt, List, [], ◌∷◌, length, refl, ap, arith}
use Rattle.std.proofs.lemmas.Bool.Decides.{nat_tests}
use Rattle.decl_syntax.specs.Types.{TypeTree, types_from}
use Rattle.decl_syntax.specs.Patterns.{PatternTree, patterns_from, FieldTree, fields_from}
use Rattle.decl_syntax.specs.Widths.{type_count, types_are_wide, some_type_is_wide, pattern_count, field_count, list_is_wide, fields_are_wide, some_pattern_is_wide, some_field_is_wide}

-- more than 256 are many
pub above : (n : ℕ) (b : Bool) → 256 < n → true ≡ (nat_lt 256 n || b)
above n b l = let e : nat_lt 256 n ≡ true = grind (arith, nat_tests) in rw e refl

-- at most 256 are not
pub within : (n : ℕ) (a b : Bool) → n ≤ 256 → a ≡ b → a ≡ (nat_lt 256 n || b)
within n a b l e = let f : nat_lt 256 n ≡ false = grind (arith, nat_tests) in rw f e

count_types : (xs : List TypeTree) → type_count (types_from xs) ≡ length xs
count_types [] = refl
count_types (x ∷ xs) = ap suc (count_types xs)

count_patterns : (xs : List PatternTree) → pattern_count (patterns_from xs) ≡ length xs
count_patterns [] = refl
count_patterns (x ∷ xs) = ap suc (count_patterns xs)

count_fields : (xs : List FieldTree) → field_count (fields_from xs) ≡ length xs
count_fields [] = refl
count_fields (x ∷ xs) = ap suc (count_fields xs)

pub many_types : (xs : List TypeTree) → 256 < length xs → true ≡ types_are_wide (types_from xs)
many_types xs l = rw (count_types xs) (above (length xs) (some_type_is_wide (types_from xs)) l)

pub few_types : (xs : List TypeTree) (a : Bool) → length xs ≤ 256 → a ≡ some_type_is_wide (types_from xs) → a ≡ types_are_wide (types_from xs)
few_types xs a l e = rw (count_types xs) (within (length xs) a (some_type_is_wide (types_from xs)) l e)

pub many_patterns : (xs : List PatternTree) → 256 < length xs → true ≡ list_is_wide (patterns_from xs)
many_patterns xs l = rw (count_patterns xs) (above (length xs) (some_pattern_is_wide (patterns_from xs)) l)

pub few_patterns : (xs : List PatternTree) (a : Bool) → length xs ≤ 256 → a ≡ some_pattern_is_wide (patterns_from xs) → a ≡ list_is_wide (patterns_from xs)
few_patterns xs a l e = rw (count_patterns xs) (within (length xs) a (some_pattern_is_wide (patterns_from xs)) l e)

pub many_fields : (xs : List FieldTree) → 256 < length xs → true ≡ fields_are_wide (fields_from xs)
many_fields xs l = rw (count_fields xs) (above (length xs) (some_field_is_wide (fields_from xs)) l)

pub few_fields : (xs : List FieldTree) (a : Bool) → length xs ≤ 256 → a ≡ some_field_is_wide (fields_from xs) → a ≡ fields_are_wide (fields_from xs)
few_fields xs a l e = rw (count_fields xs) (within (length xs) a (some_field_is_wide (fields_from xs)) l e)
