-- Literals and ranges that break no rule fit their types.
use Rattle.std.proofs.Common.{◌≡◌, ℕ, ℤ, pos, Bool, true, false, not, ◌&&◌, ◌||◌, List, length, Option, Some, None, nat_eq, nat_le, refl, sym, ap, ◌∙◌, arith}
use Rattle.std.proofs.lemmas.Bool.Decides.{nat_tests}
use Rattle.std.proofs.lemmas.Int.{ints}
use Rattle.match_model.specs.declared.Width.{Width}
use Rattle.match_model.specs.declared.IntKind.TheVariants.{U8}
use Rattle.match_model.specs.declared.IntKind.{IntKind}
use Rattle.match_model.specs.Types.{MType, CharType, IntType}
use Rattle.match_model.specs.Texts.{is_scalar}
use Rattle.match_model.specs.Numbers.{MRange, closed, numbers_of}
use Rattle.match_model.specs.Declarations.{MProgram}
use Rattle.match_model.specs.Constructors.{NumbersCtor, belongs}
use Rattle.match_model.specs.RustTypes.{number_set}
use Rattle.range_split.specs.Numbers.{signed}
use Rattle.number_kinds.specs.Literals.{is_literal_of}
use Rattle.decl_syntax.specs.Patterns.{LitTree, Flag, Char, Byte, Int, Str, Other}
use Rattle.type_names.specs.Meanings.{int_kind}
use Rattle.pattern_rules.specs.Settings.{Setting, program, bottom_type}
use Rattle.pattern_rules.specs.Literals.{is_refused, has_type, number_of, is_outside, is_number_of, end_has_type, end_outside, end_number, range_meant, some_end_refused, end_refused, has_suffix_type, is_empty_at, same_kind}
use Rattle.pattern_rules.specs.NodeRules.{literal_fits, is_numeric}
use Rattle.pattern_rules.specs.Promises.{literal_range}
use Rattle.pattern_rules.specs.Resolved.{literal_pattern, number_pattern}
use Rattle.pattern_rules.proofs.SameTypes.{both_left, both_right}
use Rattle.pattern_rules.specs.Spelled.{literal_is_spelled, end_is_spelled}
use Rattle.pattern_laws.proofs.Fitting.{RangeFits, IsBool, Fits}
use Rattle.pattern_laws.proofs.FineNodes.{either_left, either_right}
use Rattle.pattern_laws.proofs.FieldNumbers.{untwice}
use Rattle.pattern_laws.proofs.NumbersFit.{IsLiteral, IsNumeric, range_belongs, number_belongs}
use Rattle.pattern_laws.proofs.BottomTypes.{at_bottom, bool_type, text_type, numeric_type}

-- what a test says of what is not left out
pub let_in : (a b : Bool) → (not a && b) ≡ false → a ≡ false → b ≡ false
let_in true b h k = cc
let_in false b h k = h

-- a suffix has only integer types
pub suffix_numeric : (suffix : List ℕ) (u : MType) → has_suffix_type suffix u ≡ true → IsNumeric u
suffix_numeric suffix (IntType k) h = tt
suffix_numeric suffix CharType h = tt
suffix_numeric suffix u h = absurd (clash (go (nat_eq (length suffix) 0) (int_kind suffix) refl refl))
  where
    go : (b : Bool) (o : Option IntKind) → nat_eq (length suffix) 0 ≡ b → int_kind suffix ≡ o →
        has_suffix_type suffix u ≡ false
    go true o e f = rw e refl
    go false None e f = rw (e, f) refl
    go false (Some k) e f = rw (e, f) refl

    clash : has_suffix_type suffix u ≡ false → ⊥
    clash k = cc

no_char_suffix : (suffix : List ℕ) → has_suffix_type suffix CharType ≡ true → ⊥
no_char_suffix suffix h = clash (go (nat_eq (length suffix) 0) (int_kind suffix) refl refl)
  where
    go : (b : Bool) (o : Option IntKind) → nat_eq (length suffix) 0 ≡ b → int_kind suffix ≡ o →
        has_suffix_type suffix CharType ≡ false
    go true o e f = rw e refl
    go false None e f = rw (e, f) refl
    go false (Some k) e f = rw (e, f) refl

    clash : has_suffix_type suffix CharType ≡ false → ⊥
    clash k = cc

-- a character is a scalar value
scalar_literal : (width : Width) (c : ℕ) → is_scalar c ≡ true → is_literal_of width CharType (pos c) ≡ true
scalar_literal w c h = grind (arith, nat_tests, ints, h)

byte_literal : (width : Width) (b : ℕ) → nat_le b 255 ≡ true → is_literal_of width (IntType U8) (pos b) ≡ true
byte_literal w b h = grind (arith, nat_tests, ints, h)

byte_kind : (k : IntKind) → same_kind U8 k ≡ true → U8 ≡ k
byte_kind U8 h = refl
byte_kind k h = cc

-- the number that a literal is
Number : Width → MType → LitTree → Type 0
Number width u l = (n : ℤ) × (number_of l ≡ Some n) × (is_literal_of width u n ≡ true)

sized : (width : Width) (k : IntKind) (negative : Bool) (size : Option ℕ) (suffix : List ℕ) →
    is_number_of width (IntType k) (number_of (Int negative size suffix)) ≡ true → Number width (IntType k)
    (Int negative size suffix)
unfolding Number
sized w k negative None suffix h = cc
sized w k negative (Some m) suffix h = (signed negative m, refl, h)

-- a literal of a numeric type is a number of it
literal_number : (width : Width) (u : MType) (l : LitTree) → IsNumeric u → literal_is_spelled l ≡ true →
    is_refused l ≡ false → has_type l u ≡ true → is_outside width u l ≡ false →
    Number width u l
unfolding Number
literal_number w CharType (Char c) i p r t o = (pos c, refl, scalar_literal w c p)
literal_number w CharType (Byte b) i p r t o = cc
literal_number w CharType (Flag b) i p r t o = cc
literal_number w CharType (Str text) i p r t o = cc
literal_number w CharType Other i p r t o = cc
literal_number w CharType (Int negative size suffix) i p r t o = absurd (no_char_suffix suffix t)
literal_number w (IntType k) (Char c) i p r t o = cc
literal_number w (IntType k) (Byte b) i p r t o =
    (pos b, refl, ap (λ j. is_literal_of w (IntType j) (pos b)) (sym (byte_kind k t)) ∙ byte_literal w b p)
literal_number w (IntType k) (Flag b) i p r t o = cc
literal_number w (IntType k) (Str text) i p r t o = cc
literal_number w (IntType k) Other i p r t o = cc
literal_number w (IntType k) (Int negative size suffix) i p r t o = sized w k negative size suffix
    (untwice (is_number_of w (IntType k) (number_of (Int negative size suffix))) o)
literal_number w u l i p r t o = absurd i

-- a range of numbers of a numeric type
range_at : (p : MProgram) (r : MRange) (u : MType) → IsNumeric u → belongs (number_set (numbers_of p.width u))
    (NumbersCtor r) ≡ true → RangeFits p r u
range_at p r CharType i h = h
range_at p r (IntType k) i h = h
range_at p r u i h = absurd i

number_fits : (s : Setting) (Holds : MRange → MType → Type 0) (most : ℕ) (l : LitTree) (t : MType) →
    ((r : MRange) → literal_range l ≡ Some r → RangeFits (program s) r (bottom_type t) → Holds r (bottom_type t)) →
    IsNumeric (bottom_type t) → literal_is_spelled l ≡ true → is_refused l ≡ false →
    has_type l (bottom_type t) ≡ true →
    is_outside s.width (bottom_type t) l ≡ false → Fits (program s) Holds most (number_pattern (number_of l)) t
unfolding Number
number_fits s Holds most l t holds i p r h o = go (literal_number s.width (bottom_type t) l i p r h o)
  where
    go : (n : ℤ) × (number_of l ≡ Some n) × (is_literal_of s.width (bottom_type t) n ≡ true) →
        Fits (program s) Holds most (number_pattern (number_of l)) t
    go (n, e, k) =
        let range : literal_range l ≡ Some (closed n n) = rw e refl in
        rw e (at_bottom (λ u. Holds (closed n n) u) t
        (holds (closed n n) range
        (range_at (program s) (closed n n) (bottom_type t) i (number_belongs s.width (bottom_type t) n i k))))

char_numeric : (u : MType) → has_type (Char 0) u ≡ true → IsNumeric u
char_numeric CharType h = tt
char_numeric u h = cc

byte_numeric : (u : MType) → has_type (Byte 0) u ≡ true → IsNumeric u
byte_numeric (IntType k) h = tt
byte_numeric u h = cc

-- a literal that breaks no rule fits
pub literal_pattern_fits : (s : Setting) (Holds : MRange → MType → Type 0) (most : ℕ) (l : LitTree) (t : MType) →
    ((r : MRange) → literal_range l ≡ Some r → RangeFits (program s) r (bottom_type t) → Holds r (bottom_type t)) →
    literal_is_spelled l ≡ true → is_refused l ≡ false →
    (not (is_refused l) && not (literal_fits l t (bottom_type t))) ≡ false →
    (not (is_refused l) && is_outside s.width (bottom_type t) l) ≡ false → Fits (program s) Holds most
    (literal_pattern l) t
literal_pattern_fits s Holds most (Flag b) t holds p r h o = at_bottom (λ u. IsBool u) t
    (bool_type (bottom_type t) (untwice (has_type (Flag b) (bottom_type t)) h))
literal_pattern_fits s Holds most (Str text) t holds p r h o =
    (text_type t (untwice (literal_fits (Str text) t (bottom_type t)) h), p)
literal_pattern_fits s Holds most (Char c) t holds p r h o =
    let fits : has_type (Char c) (bottom_type t) ≡ true = untwice (has_type (Char c) (bottom_type t)) h in
    number_fits s Holds most (Char c) t holds (char_numeric (bottom_type t) fits) p r fits o
literal_pattern_fits s Holds most (Byte b) t holds p r h o =
    let fits : has_type (Byte b) (bottom_type t) ≡ true = untwice (has_type (Byte b) (bottom_type t)) h in
    number_fits s Holds most (Byte b) t holds (byte_numeric (bottom_type t) fits) p r fits o
literal_pattern_fits s Holds most (Int negative size suffix) t holds p r h o =
    let fits : has_type (Int negative size suffix) (bottom_type t) ≡ true =
    untwice (has_type (Int negative size suffix) (bottom_type t))
    (let_in (is_refused (Int negative size suffix))
    (not (has_type (Int negative size suffix) (bottom_type t))) h r) in
    number_fits s Holds most (Int negative size suffix) t holds (suffix_numeric suffix (bottom_type t) fits) p r fits
    (let_in (is_refused (Int negative size suffix))
    (is_outside s.width (bottom_type t) (Int negative size suffix)) o r)
literal_pattern_fits s Holds most Other t holds p r h o = cc

-- an end of a range
end_literal : (width : Width) (u : MType) (l : Option LitTree) → IsNumeric u → end_is_spelled l ≡ true →
    end_refused l ≡ false → end_has_type l u ≡ true → end_outside width u l ≡ false →
    IsLiteral width u (end_number l)
unfolding Number
end_literal w u None i p r t o = tt
end_literal w u (Some l) i p r t o = go (literal_number w u l i p r t o)
  where
    go : (n : ℤ) × (number_of l ≡ Some n) × (is_literal_of w u n ≡ true) → IsLiteral w u (number_of l)
    go (n, e, k) = rw e k

-- a range that breaks no rule fits
pub range_pattern_fits : (s : Setting) (low high : Option LitTree) (closed : Bool) (u : MType) →
    (end_is_spelled low && end_is_spelled high) ≡ true → some_end_refused low high ≡ false →
    (not (some_end_refused low high) && not (is_numeric u && (end_has_type low u && end_has_type high u))) ≡ false →
    (not (some_end_refused low high) && (end_outside s.width u low || end_outside s.width u high)) ≡ false →
    (not (some_end_refused low high) && is_empty_at s.width u low high closed) ≡ false → RangeFits (program s)
    (range_meant s.width u low high closed) u
range_pattern_fits s low high closed u p r t o e =
    let types : (is_numeric u && (end_has_type low u && end_has_type high u)) ≡ true = untwice
    (is_numeric u && (end_has_type low u && end_has_type high u))
    (let_in (some_end_refused low high)
    (not (is_numeric u && (end_has_type low u && end_has_type high u))) t r) in
    let ends : (end_has_type low u && end_has_type high u) ≡ true = both_right (is_numeric u)
    (end_has_type low u && end_has_type high u) types in
    let outside : (end_outside s.width u low || end_outside s.width u high) ≡ false = let_in
    (some_end_refused low high) (end_outside s.width u low || end_outside s.width u high) o r in
    let i : IsNumeric u = numeric_type u
    (both_left (is_numeric u) (end_has_type low u && end_has_type high u) types) in
    range_at (program s) (range_meant s.width u low high closed) u i
    (range_belongs s.width u (end_number low) closed (end_number high) i
    (end_literal s.width u low i (both_left (end_is_spelled low) (end_is_spelled high) p)
    (either_left (end_refused low) (end_refused high) r) (both_left (end_has_type low u) (end_has_type high u) ends)
    (either_left (end_outside s.width u low) (end_outside s.width u high) outside))
    (end_literal s.width u high i (both_right (end_is_spelled low) (end_is_spelled high) p)
    (either_right (end_refused low) (end_refused high) r) (both_right (end_has_type low u) (end_has_type high u) ends)
    (either_right (end_outside s.width u low) (end_outside s.width u high) outside))
    (let_in (some_end_refused low high) (is_empty_at s.width u low high closed) e r))
