-- The ends of ranges that break no rule are numbers of their types.
use Rattle.std.proofs.Common.{◌≡◌, ℕ, ℤ, pos, Bool, true, false, not, ◌&&◌, ◌||◌, List, length, Option, Some, None, nat_eq, nat_le, refl, sym, ap, ◌∙◌, arith}
use Rattle.std.specs.Prelude.{IfSome, IsTrue}
use Rattle.std.proofs.lemmas.Bool.Decides.{nat_tests}
use Rattle.std.proofs.lemmas.Int.{ints}
use Rattle.match_model.specs.declared.Width.{Width}
use Rattle.match_model.specs.declared.IntKind.TheVariants.{U8}
use Rattle.match_model.specs.declared.IntKind.{IntKind}
use Rattle.match_model.specs.Types.{MType, CharType, IntType}
use Rattle.match_model.specs.Texts.{is_scalar}
use Rattle.range_split.specs.Numbers.{signed}
use Rattle.number_kinds.specs.Literals.{is_literal_of}
use Rattle.decl_syntax.specs.Patterns.{LitTree, Flag, Char, Byte, Int, Str, Other}
use Rattle.type_names.specs.Meanings.{int_kind}
use Rattle.pattern_rules.specs.Literals.{is_refused, has_type, number_of, is_outside, is_number_of, end_has_type, end_outside, end_number, some_end_refused, end_refused, has_suffix_type, is_empty_at, same_kind}
use Rattle.pattern_rules.specs.NodeRules.{is_numeric}
use Rattle.pattern_rules.proofs.SameTypes.{both_left, both_right}
use Rattle.pattern_rules.specs.Spelled.{literal_is_spelled, end_is_spelled}
use Rattle.pattern_elaboration.specs.Fitting.{RangeFits}
use Rattle.pattern_elaboration.proofs.FineNodes.{either_left, either_right, untwice}

-- the numbers of the type are those of a literal
abbrev IsNumeric : MType → Type 0
IsNumeric CharType = Unit {0}
IsNumeric (IntType k) = Unit {0}
IsNumeric t = ⊥

numeric_type : (u : MType) → is_numeric u ≡ true → IsNumeric u
numeric_type CharType h = tt
numeric_type (IntType k) h = tt
numeric_type u h = absurd cc

abbrev IsLiteral : Width → MType → Option ℤ → Type 0
IsLiteral w t n = IfSome n (λ k. IsTrue (is_literal_of w t k))

-- what a test says of what is not left out
pub let_in : (a b : Bool) → (not a && b) ≡ false → a ≡ false → b ≡ false
let_in true b h k = cc
let_in false b h k = h

no_char_suffix : (suffix : List ℕ) → has_suffix_type suffix CharType ≡ true → ⊥
no_char_suffix suffix h = clash (go (nat_eq (length suffix) 0) (int_kind suffix) refl refl)
  where
    go : (b : Bool) (o : Option IntKind) → nat_eq (length suffix) 0 ≡ b → int_kind suffix ≡ o →
        has_suffix_type suffix CharType ≡ false
    go true o e f = rw e refl
    go false None e f = rw (e, f) refl
    go false (Some k) e f = rw (e, f) refl

    clash : has_suffix_type suffix CharType ≡ false → ⊥
    clash k = cc

-- a character is a scalar value
scalar_literal : (width : Width) (c : ℕ) → is_scalar c ≡ true → is_literal_of width CharType (pos c) ≡ true
scalar_literal w c h = grind (arith, nat_tests, ints, h)

byte_literal : (width : Width) (b : ℕ) → nat_le b 255 ≡ true → is_literal_of width (IntType U8) (pos b) ≡ true
byte_literal w b h = grind (arith, nat_tests, ints, h)

byte_kind : (k : IntKind) → same_kind U8 k ≡ true → U8 ≡ k
byte_kind U8 h = refl
byte_kind k h = cc

-- the number that a literal is
Number : Width → MType → LitTree → Type 0
Number width u l = (n : ℤ) × (number_of l ≡ Some n) × (is_literal_of width u n ≡ true)

sized : (width : Width) (k : IntKind) (negative : Bool) (size : Option ℕ) (suffix : List ℕ) →
    is_number_of width (IntType k) (number_of (Int negative size suffix)) ≡ true → Number width (IntType k)
    (Int negative size suffix)
unfolding Number
sized w k negative None suffix h = cc
sized w k negative (Some m) suffix h = (signed negative m, refl, h)

-- a literal of a numeric type is a number of it
literal_number : (width : Width) (u : MType) (l : LitTree) → IsNumeric u → literal_is_spelled l ≡ true →
    is_refused l ≡ false → has_type l u ≡ true → is_outside width u l ≡ false →
    Number width u l
unfolding Number
literal_number w CharType (Char c) i p r t o = (pos c, refl, scalar_literal w c p)
literal_number w CharType (Byte b) i p r t o = cc
literal_number w CharType (Flag b) i p r t o = cc
literal_number w CharType (Str text) i p r t o = cc
literal_number w CharType Other i p r t o = cc
literal_number w CharType (Int negative size suffix) i p r t o = absurd (no_char_suffix suffix t)
literal_number w (IntType k) (Char c) i p r t o = cc
literal_number w (IntType k) (Byte b) i p r t o =
    (pos b, refl, ap (λ j. is_literal_of w (IntType j) (pos b)) (sym (byte_kind k t)) ∙ byte_literal w b p)
literal_number w (IntType k) (Flag b) i p r t o = cc
literal_number w (IntType k) (Str text) i p r t o = cc
literal_number w (IntType k) Other i p r t o = cc
literal_number w (IntType k) (Int negative size suffix) i p r t o = sized w k negative size suffix
    (untwice (is_number_of w (IntType k) (number_of (Int negative size suffix))) o)
literal_number w u l i p r t o = absurd i

-- an end of a range
end_literal : (width : Width) (u : MType) (l : Option LitTree) → IsNumeric u → end_is_spelled l ≡ true →
    end_refused l ≡ false → end_has_type l u ≡ true → end_outside width u l ≡ false →
    IsLiteral width u (end_number l)
unfolding Number
end_literal w u None i p r t o = tt
end_literal w u (Some l) i p r t o = go (literal_number w u l i p r t o)
  where
    go : (n : ℤ) × (number_of l ≡ Some n) × (is_literal_of w u n ≡ true) → IsLiteral w u (number_of l)
    go (n, e, k) = rw e k

-- a range that breaks no rule fits
pub range_fits : (width : Width) (low high : Option LitTree) (closed : Bool) (u : MType) →
    (end_is_spelled low && end_is_spelled high) ≡ true →
    some_end_refused low high ≡ false →
    (not (some_end_refused low high) && not (is_numeric u && (end_has_type low u && end_has_type high u))) ≡ false →
    (not (some_end_refused low high) && (end_outside width u low || end_outside width u high)) ≡ false →
    (not (some_end_refused low high) && is_empty_at width u low high closed) ≡ false → RangeFits width u low high closed
range_fits w low high closed u p r t o e =
    let types : (is_numeric u && (end_has_type low u && end_has_type high u)) ≡ true = untwice
    (is_numeric u && (end_has_type low u && end_has_type high u))
    (let_in (some_end_refused low high) (not (is_numeric u && (end_has_type low u && end_has_type high u))) t r) in
    let ends : (end_has_type low u && end_has_type high u) ≡ true = both_right (is_numeric u)
    (end_has_type low u && end_has_type high u) types in
    let outside : (end_outside w u low || end_outside w u high) ≡ false = let_in (some_end_refused low high)
    (end_outside w u low || end_outside w u high) o r in
    let number : is_numeric u ≡ true = both_left (is_numeric u) (end_has_type low u && end_has_type high u) types in
    record {
      numeric = number;
      low_fits = end_literal w u low (numeric_type u number) (both_left (end_is_spelled low) (end_is_spelled high) p)
          (either_left (end_refused low) (end_refused high) r)
          (both_left (end_has_type low u) (end_has_type high u) ends) (either_left (end_outside w u low)
          (end_outside w u high) outside);
      high_fits = end_literal w u high (numeric_type u number) (both_right (end_is_spelled low) (end_is_spelled high)
          p) (either_right (end_refused low) (end_refused high) r)
          (both_right (end_has_type low u) (end_has_type high u) ends) (either_right (end_outside w u low)
          (end_outside w u high) outside);
      some = let_in (some_end_refused low high) (is_empty_at w u low high closed) e r;
    }
