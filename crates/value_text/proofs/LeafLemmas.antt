-- Values without parts.
use Rattle.std.proofs.Common.{◌≡◌, inl, inr, ℕ, ◌<◌, ◌≤◌, Bool, true, false, ◌&&◌, ◌||◌, nat_lt, nat_le, List, [], ◌∷◌, Option, Some, None, chars, refl, sym, ap, subst, ◌∙◌, arith}
use Rattle.std.specs.Prelude.{◌⊎◌, option_map, pos}
use Rattle.std.specs.List.{list_all}
use Rattle.std.proofs.Math.Utf8.{scalar, scalars, scalar_cases}
use Rattle.std.proofs.lemmas.Str.{scalars-chars}
use Rattle.std.proofs.lemmas.Bool.Decides.{nat_tests}
use Rattle.match_model.specs.Texts.{is_scalar}
use Rattle.match_model.specs.Types.{MType, CharType, IntType}
use Rattle.match_model.specs.Declarations.{MProgram}
use Rattle.match_model.specs.Typing.{is_str, is_value, type_behind}
use Rattle.match_model.specs.Values.{MValue, Text, Point}
use Rattle.match_model.specs.Places.{some_if}
use Rattle.number_kinds.specs.declared.kinds.NumberKind.{NumberKind}
use Rattle.number_kinds.specs.declared.kinds.NumberKind.TheVariants as numbers
use Rattle.number_kinds.specs.Kinds.{kind_type}
use Rattle.match_model.specs.declared.IntKind.{IntKind}
use Rattle.match_model.specs.declared.IntKind.TheVariants.{U8}
use Rattle.pattern_rules.specs.Literals.{is_char, is_kind, same_kind, has_suffix_type}
use Rattle.pattern_rules.proofs.SameTypes.{both_left, both_right}
use Rattle.value_text.specs.Lookups.{number_kind}
use Rattle.value_text.specs.Meanings.{if_value, literal_of}

pub number_type : (t : MType) (k : NumberKind) → Some k ≡ number_kind t → t ≡ kind_type k
number_type CharType k h = cc
number_type (IntType i) k h = cc
number_type t k h = absurd cc

-- a literal of the right kind
pub literal_there : (b : Bool) (program : MProgram) (sure : Bool) (t : MType) (u : MValue) (o : Option MValue) → true ≡ b → o ≡ if_value program sure t u →
    o ≡ literal_of b program sure t u
literal_there true program sure t u o e h = h
literal_there false program sure t u o e h = absurd cc

-- a reference to a value
pub referred : (program : MProgram) (sure : Bool) (t inner : MType) (m : Bool) (u : MValue) → Some inner ≡ type_behind t m →
    option_map (Point m) (if_value program false inner u) ≡ if_value program sure t (Point m u)
referred program sure t inner m u e = rw (is_value, ← e) (by (is_value program false inner u))
  where
    by : (b : Bool) → option_map (Point m) (some_if b u) ≡ some_if b (Point m u)
    by true = refl
    by false = refl

scalar_is : (c : ℕ) → scalar c ≡ true → is_scalar c ≡ true
scalar_is c h = by (scalar_cases c h)
  where
    by : (c < 55296) ⊎ ((57344 ≤ c) × (c < 1114112)) → is_scalar c ≡ true
    by (inl low) = let less : nat_lt c 0xd800 ≡ true = grind (arith, nat_tests, low) in ap
        (λ b. b || (nat_le 0xe000 c && nat_le c 0x10ffff)) less
    by (inr high) =
        let least : nat_le 0xe000 c ≡ true = grind (arith, nat_tests, high.0) in
        let most : nat_le c 0x10ffff ≡ true = grind (arith, nat_tests, high.1) in
        either (nat_lt c 0xd800) (nat_le 0xe000 c) (nat_le c 0x10ffff) least most
      where
        either : (x y z : Bool) → y ≡ true → z ≡ true → (x || (y && z)) ≡ true
        either true y z e f = refl
        either false true z e f = f
        either false false z e f = cc

scalars_are : (cs : List ℕ) → scalars cs ≡ true → list_all is_scalar cs ≡ true
scalars_are [] h = refl
scalars_are (c ∷ cs) h =
    ap (λ b. b && list_all is_scalar cs) (scalar_is c (both_left (scalar c) (scalars cs) h))
    ∙ scalars_are cs (both_right (scalar c) (scalars cs) h)

-- a text of scalar values
pub text_there : (program : MProgram) (sure : Bool) (t : MType) (cs : List ℕ) → true ≡ is_str t → scalars cs ≡ true →
    Some (Text cs) ≡ if_value program sure t (Text cs)
text_there program sure t cs h k = rw (is_value, ← h, scalars_are cs k) refl

-- the kinds of numbers that literals can be of
pub char_kind : (t : MType) → Some numbers.Char ≡ number_kind t → true ≡ is_char t
char_kind t h = rw (number_type t numbers.Char h) refl

pub byte_kind : (t : MType) (k : IntKind) → Some (numbers.Int k) ≡ number_kind t → true ≡ same_kind U8 k → true ≡ is_kind U8 t
byte_kind t k h e = rw (number_type t (numbers.Int k) h) e

pub int_kind : (t : MType) (k : IntKind) (suffix : List ℕ) → Some (numbers.Int k) ≡ number_kind t → true ≡ has_suffix_type suffix (kind_type (numbers.Int k)) →
    true ≡ has_suffix_type suffix t
int_kind t k suffix h e = rw (number_type t (numbers.Int k) h) e

-- a number that another step gave
pub same_value : (b : Bool) (program : MProgram) (sure : Bool) (t : MType) (f : ℕ → MValue) (n m : ℕ) (o : Option MValue) → true ≡ b → n ≡ m →
    o ≡ if_value program sure t (f n) → o ≡ literal_of b program sure t (f m)
same_value b program sure t f n m o e same h = subst (λ k. o ≡ literal_of b program sure t (f k)) same (literal_there b program sure t (f n) o e h)
