-- Numbers and texts that are written mean themselves.
use Rattle.std.proofs.Common.{◌≡◌, ℕ, ℤ, pos, negsuc, Bool, true, false, ◌&&◌, List, [], ◌∷◌, Some, None, refl, ap, ◌∙◌, chars, encode_utf8_all, arith, if◌then◌else◌}
use Rattle.std.proofs.lemmas.Bool.Decides.{nat_tests}
use Rattle.std.proofs.lemmas.Int.{ints}
use Rattle.std.proofs.lemmas.Str.{chars-encodes}
use lib.Utf8.{scalar, scalars}
use Rattle.std.specs.List.{list_all}
use Rattle.match_model.specs.declared.Width.{Width}
use Rattle.match_model.specs.Declarations.{MProgram}
use Rattle.match_model.specs.Numbers.{has_number}
use Rattle.match_model.specs.Places.{some_if}
use Rattle.match_model.specs.Texts.{is_scalar}
use Rattle.match_model.specs.Types.{MType, BoolType, CharType, StrType, NeverType, IntType, OpaqueType, TupleType, PointType, SliceType, ArrayType, NamedType}
use Rattle.match_model.specs.Typing.{is_str}
use Rattle.match_model.specs.Values.{Num, Text}
use Rattle.value_text.specs.Meanings.{meant}
use Rattle.value_syntax.specs.Trees.{WrittenText}
use Rattle.witness_names.specs.NamedValues.{character_or, written_number}

pub both : (b c : Bool) → (b && c) ≡ true → (b ≡ true) × (c ≡ true)
both true c h = (refl, h)
both false c h = absurd cc

-- what is one of the type is there
pub there_if : {A : Type 0} (b : Bool) (a : A) → b ≡ true → some_if b a ≡ Some a
there_if b a h = ap (λ c. some_if c a) h

-- numbers

pub scalar_number : (width : Width) (c : ℕ) → has_number width CharType (pos c) ≡ true → is_scalar c ≡ true
scalar_number width c h = grind (arith, nat_tests, ints, h)

pub no_negative : (width : Width) (n : ℕ) → has_number width CharType (negsuc n) ≡ true → false ≡ true
no_negative width n h = grind (arith, nat_tests, ints, h)

char_again : (program : MProgram) (sure : Bool) (c : ℕ) (b : Bool) → has_number program.width CharType (pos c) ≡ true → b ≡ true →
    meant program sure CharType (character_or (pos c) (if b then Some c else None)) ≡ Some (Num (pos c))
char_again program sure c true h e = there_if (has_number program.width CharType (pos c)) (Num (pos c)) h
char_again program sure c false h e = absurd cc

pub number_again : (program : MProgram) (sure : Bool) (t : MType) (n : ℤ) → has_number program.width t n ≡ true →
    meant program sure t (written_number t n) ≡ Some (Num n)
number_again program sure CharType (pos c) h = char_again program sure c (is_scalar c) h (scalar_number program.width c h)
number_again program sure CharType (negsuc n) h = absurd (cc (no_negative program.width n h))
number_again program sure (IntType kind) (pos n) h = there_if (has_number program.width (IntType kind) (pos n)) (Num (pos n)) h
number_again program sure (IntType kind) (negsuc n) h = there_if (has_number program.width (IntType kind) (negsuc n)) (Num (negsuc n)) h
number_again program sure BoolType n h = absurd cc
number_again program sure StrType n h = absurd cc
number_again program sure NeverType n h = absurd cc
number_again program sure (OpaqueType o ts) n h = absurd cc
number_again program sure (TupleType ts) n h = absurd cc
number_again program sure (PointType mutable t) n h = absurd cc
number_again program sure (SliceType t) n h = absurd cc
number_again program sure (ArrayType t len) n h = absurd cc
number_again program sure (NamedType o ts) n h = absurd cc

-- texts

pub scalar_is : (c : ℕ) → is_scalar c ≡ true → scalar c ≡ true
scalar_is c h = grind (arith, nat_tests, h)

pub scalars_are : (cs : List ℕ) → list_all is_scalar cs ≡ true → scalars cs ≡ true
scalars_are [] h = refl
scalars_are (c ∷ cs) h =
    let here = both (is_scalar c) (list_all is_scalar cs) h in
    ap (λ b. b && scalars cs) (scalar_is c here.0) ∙ scalars_are cs here.1

-- the characters of a text's bytes are the text's
pub text_back : (cs : List ℕ) → list_all is_scalar cs ≡ true → chars (encode_utf8_all cs) ≡ cs
text_back cs h = chars-encodes cs (scalars_are cs h)

pub text_again : (program : MProgram) (sure : Bool) (t : MType) (cs : List ℕ) → (is_str t && list_all is_scalar cs) ≡ true →
    meant program sure t (WrittenText (encode_utf8_all cs)) ≡ Some (Text cs)
text_again program sure t cs h =
    let back = text_back cs (both (is_str t) (list_all is_scalar cs) h).1 in
    ap (λ us. some_if (is_str t && list_all is_scalar us) (Text us)) back ∙ there_if (is_str t && list_all is_scalar cs) (Text cs) h
