-- Numbers lex as themselves.
use Rattle.std.proofs.Common.{◌≡◌, ℕ, zero, suc, ◌+◌, ◌*◌, ◌^◌, ◌/◌, ◌%◌, ◌<◌, ◌≤◌, Bool, true, false, ◌&&◌, cond}
use Rattle.std.proofs.Common.{List, [], ◌∷◌, ◌++◌, Some, Ok, refl, sym, ap, subst, ◌∙◌}
use Rattle.std.proofs.Common.{arith}
use Rattle.std.specs.Prelude.{nat_eq, nat_lt, ◌==◌, decimal}
use Rattle.std.specs.Char.{digit_value, is_digit}
use Rattle.std.specs.Fmt.{digit_glyph, digits_onto, digits}
use Rattle.std.specs.List.{list_all}
use Rattle.std.proofs.lemmas.Bool.{eqb-true, lt-ltb}
use Rattle.std.proofs.lemmas.Bool.Decides.{nat_tests}
use Rattle.unicode_ident.proofs.Computing.{unicode_ident}
use Rattle.decl_lexer.specs.Begins.{Integer, Token, Begins}
use Rattle.decl_lexer.specs.Gaps.{is_space}
use Rattle.decl_lexer.specs.Text.{first_passes, begins_with}
use Rattle.decl_lexer.specs.Names.{is_name_start}
use Rattle.decl_lexer.specs.Numbers.{behind_digits, number_from, is_exponent_letter, is_point, decimal_at}
use Rattle.decl_lexer.specs.Numbers.{number_at}
use Rattle.decl_lexer.specs.Pieces.{piece_at}
use Rattle.decl_lexer.proofs.NumberLemmas.{IsDigitStep, digit_step}
use Rattle.value_syntax.proofs.LexedNames.{Stops, at_end, at_comma, at_round, at_square, at_space, at_colon, at_opening}
use Rattle.value_syntax.proofs.LexedNames.{and_left, and_right, and_false, false_and, unlike}

-- ---- digits

pub glyph_value : (d : ℕ) → d < 16 → digit_value (digit_glyph false d) ≡ d
glyph_value d lt = grind (arith, nat_tests)

pub glyph_plain : (d : ℕ) → d < 16 → digit_glyph false d ≡ 95 → ⊥
glyph_plain d lt e = grind (arith, nat_tests)

-- so many digits of a base write the numbers below this
abbrev pub bound : (base : ℕ) → ℕ → ℕ
bound base zero = 1
bound base (suc k) = base * bound base k

-- what is used of a base
pub record IsBase (r : ℕ) : Type 0 where
  pub small : (n : ℕ) → n % r < r
  pub whole : (n : ℕ) → r * (n / r) + n % r ≡ n
  pub smaller : (n m : ℕ) → n < r * m → n / r < m
  pub most : r ≤ 16

pub ten : IsBase 10
ten = record { small = λ n. omega arith; whole = λ n. omega arith; smaller = λ n m lt. omega arith; most = omega arith }

pub sixteen : IsBase 16
sixteen = record {
  small = λ n. omega arith;
  whole = λ n. omega arith;
  smaller = λ n m lt. omega arith;
  most = omega arith;
}

-- the last digit of a number
abbrev pub last_digit : (r n : ℕ) → ℕ
last_digit r n = digit_glyph false (n % r)

module _ (r : ℕ) (base : IsBase r) where
  pub glyph_step : (d : ℕ) (cs : List ℕ) → d < r → IsDigitStep r r (digit_glyph false d) (digit_glyph false d ∷ cs) cs
  glyph_step d cs lt =
      let less : d < 16 = omega (arith, base.most) in
      let value : digit_value (digit_glyph false d) < r = subst (λ v. v < r) (sym (glyph_value d less)) lt in
      digit_step r r (digit_glyph false d) (digit_glyph false d ∷ cs) cs refl (glyph_plain d less) value

  -- one digit more
  pub one_more : (n m : ℕ) (cs : List ℕ) → number_from r r m (last_digit r n ∷ cs) ≡ number_from r r (r * m + n % r) cs
  one_more n m cs =
      let lt = base.small n in
      (glyph_step (n % r) cs lt).number m ∙ ap (λ v. number_from r r (r * m + v) cs)
      (glyph_value (n % r) (omega (arith, base.most)))

  -- the number that digits write
  pub written_number : (k n : ℕ) (acc tail : List ℕ) → n < bound r k
      → number_from r r 0 (digits_onto k r false n acc ++ tail) ≡ number_from r r n (acc ++ tail)
  written_number zero n acc tail lt = let z : 0 ≡ n = omega arith in ap (λ m. number_from r r m (acc ++ tail)) z
  written_number (suc k) n acc tail lt = by_case (n / r == 0) refl
      (written_number k (n / r) (last_digit r n ∷ acc) tail (base.smaller n (bound r k) lt))
    where
      by_case : (b : Bool) → (n / r == 0) ≡ b → number_from r r 0
          (digits_onto k r false (n / r) (last_digit r n ∷ acc) ++ tail) ≡ number_from r r (n / r)
          (last_digit r n ∷ (acc ++ tail))
          → number_from r r 0 (cond b (last_digit r n ∷ acc)
          (digits_onto k r false (n / r) (last_digit r n ∷ acc)) ++ tail) ≡ number_from r r n (acc ++ tail)
      by_case true e others =
          let z : n / r ≡ 0 = eqb-true (n / r) 0 e in
          let same : r * 0 + n % r ≡ n = ap (λ q. r * q + n % r) (sym z) ∙ base.whole n in
          one_more n 0 (acc ++ tail) ∙ ap (λ m. number_from r r m (acc ++ tail)) same
      by_case false e others =
          others ∙ one_more n (n / r) (acc ++ tail)
          ∙ ap (λ m. number_from r r m (acc ++ tail)) (base.whole n)

  -- what stands behind digits
  pub behind_written : (k n : ℕ) (acc tail : List ℕ)
      → behind_digits r (digits_onto k r false n acc ++ tail) ≡ behind_digits r (acc ++ tail)
  behind_written zero n acc tail = refl
  behind_written (suc k) n acc tail = by_case (n / r == 0) (behind_written k (n / r) (last_digit r n ∷ acc) tail)
    where
      step : behind_digits r (last_digit r n ∷ (acc ++ tail)) ≡ behind_digits r (acc ++ tail)
      step = (glyph_step (n % r) (acc ++ tail) (base.small n)).rest

      by_case : (b : Bool) → behind_digits r (digits_onto k r false (n / r) (last_digit r n ∷ acc) ++ tail)
          ≡ behind_digits r (last_digit r n ∷ (acc ++ tail))
          → behind_digits r (cond b (last_digit r n ∷ acc)
          (digits_onto k r false (n / r) (last_digit r n ∷ acc)) ++ tail) ≡ behind_digits r (acc ++ tail)
      by_case true others = step
      by_case false others = others ∙ step

  -- they are digits
  pub all_digits : (k n : ℕ) (acc : List ℕ) → list_all (λ c. is_digit c r) acc ≡ true
      → list_all (λ c. is_digit c r) (digits_onto k r false n acc) ≡ true
  all_digits zero n acc h = h
  all_digits (suc k) n acc h = by_case (n / r == 0) (λ more. all_digits k (n / r) (last_digit r n ∷ acc) more)
    where
      more : list_all (λ c. is_digit c r) (last_digit r n ∷ acc) ≡ true
      more =
          let lt = base.small n in
          let value : digit_value (last_digit r n) ≡ n % r = glyph_value (n % r) (omega (arith, base.most)) in
          let digit : is_digit (last_digit r n) r ≡ true =
          lt-ltb (digit_value (last_digit r n)) r (subst (λ v. v < r) (sym value) lt) in
          rw digit h

      by_case : (b : Bool) → (list_all (λ c. is_digit c r) (last_digit r n ∷ acc) ≡ true
          → list_all (λ c. is_digit c r) (digits_onto k r false (n / r) (last_digit r n ∷ acc)) ≡ true)
          → list_all (λ c. is_digit c r) (cond b (last_digit r n ∷ acc)
          (digits_onto k r false (n / r) (last_digit r n ∷ acc))) ≡ true
      by_case true others = more
      by_case false others = others more

-- there is a first one
pub record IsFilled (cs : List ℕ) : Type 0 where
  pub first : ℕ
  pub front : List ℕ
  pub whole : cs ≡ first ∷ front

filled_onto : (k r n c : ℕ) (acc : List ℕ) → IsFilled (digits_onto k r false n (c ∷ acc))
filled_onto zero r n c acc = record { first = c; front = acc; whole = refl }
filled_onto (suc k) r n c acc = by_case (n / r == 0) (filled_onto k r (n / r) (last_digit r n) (c ∷ acc))
  where
    by_case : (b : Bool) → IsFilled (digits_onto k r false (n / r) (last_digit r n ∷ c ∷ acc))
        → IsFilled (cond b (last_digit r n ∷ c ∷ acc) (digits_onto k r false (n / r) (last_digit r n ∷ c ∷ acc)))
    by_case true others = record { first = last_digit r n; front = c ∷ acc; whole = refl }
    by_case false others = others

pub filled : (r n : ℕ) → IsFilled (digits r false n)
unfolding digits
filled r n = by_case (n / r == 0)
  where
    by_case : (b : Bool) → IsFilled (cond b (last_digit r n ∷ [])
        (digits_onto 63 r false (n / r) (last_digit r n ∷ [])))
    by_case true = record { first = last_digit r n; front = []; whole = refl }
    by_case false = filled_onto 63 r (n / r) (last_digit r n) []

-- ---- a number and what follows it

-- what follows a number is no part of it
record StopFacts (behind : List ℕ) : Type 0 where
  digits : behind_digits 10 behind ≡ behind
  point : is_point behind ≡ false
  exponent : first_passes is_exponent_letter behind ≡ false
  suffix : first_passes is_name_start behind ≡ false
  hex : begins_with (120 ∷ []) behind ≡ false
  octal : begins_with (111 ∷ []) behind ≡ false
  binary : begins_with (98 ∷ []) behind ≡ false

stop_facts : (behind : List ℕ) → Stops behind → StopFacts behind
unfolding unicode_ident
stop_facts _ at_end = record {
  digits = refl;
  point = refl;
  exponent = refl;
  suffix = refl;
  hex = refl;
  octal = refl;
  binary = refl;
}
stop_facts _ (at_comma cs) = record {
  digits = refl;
  point = refl;
  exponent = refl;
  suffix = refl;
  hex = refl;
  octal = refl;
  binary = refl;
}
stop_facts _ (at_round cs) = record {
  digits = refl;
  point = refl;
  exponent = refl;
  suffix = refl;
  hex = refl;
  octal = refl;
  binary = refl;
}
stop_facts _ (at_square cs) = record {
  digits = refl;
  point = refl;
  exponent = refl;
  suffix = refl;
  hex = refl;
  octal = refl;
  binary = refl;
}
stop_facts _ (at_space cs) = record {
  digits = refl;
  point = refl;
  exponent = refl;
  suffix = refl;
  hex = refl;
  octal = refl;
  binary = refl;
}
stop_facts _ (at_colon cs) = record {
  digits = refl;
  point = refl;
  exponent = refl;
  suffix = refl;
  hex = refl;
  octal = refl;
  binary = refl;
}
stop_facts _ (at_opening cs) = record {
  digits = refl;
  point = refl;
  exponent = refl;
  suffix = refl;
  hex = refl;
  octal = refl;
  binary = refl;
}

-- no letter follows a digit
not_letter : (d : ℕ) (front behind : List ℕ) → is_digit d 10 ≡ false → list_all (λ c. is_digit c 10) front ≡ true
    → begins_with (d ∷ []) behind ≡ false → begins_with (d ∷ []) (front ++ behind) ≡ false
not_letter d [] behind e h k = k
not_letter d (c ∷ front) behind e h k = unlike (λ x. is_digit x 10) c d
    (and_left (is_digit c 10) (list_all (λ x. is_digit x 10) front) h) e

-- what a digit is not
pub record DigitFacts (c : ℕ) : Type 0 where
  pub space : is_space c ≡ false
  pub slash : (c == 47) ≡ false
  pub no_and : nat_eq 38 c ≡ false
  pub no_equal : nat_eq 61 c ≡ false
  pub no_greater : nat_eq 62 c ≡ false
  pub no_mark : (c == 0xFEFF) ≡ false

pub digit_facts : (c : ℕ) → is_digit c 10 ≡ true → DigitFacts c
digit_facts c e = record {
  space = grind (arith, nat_tests);
  slash = grind (arith, nat_tests);
  no_and = grind (arith, nat_tests);
  no_equal = grind (arith, nat_tests);
  no_greater = grind (arith, nat_tests);
  no_mark = grind (arith, nat_tests);
}

-- a number lexes as itself
pub record NumberPiece (n : ℕ) (behind : List ℕ) : Type 0 where
  pub first : ℕ
  pub front : List ℕ
  pub whole : decimal n ≡ first ∷ front
  pub digit : is_digit first 10 ≡ true
  pub read : piece_at first (front ++ behind) ≡ Ok (Token (Integer (Some n) [] true), behind)

digits_facts : (n : ℕ) (tail : List ℕ) → n < 2 ^ 128
    → (number_from 10 10 0 (decimal n ++ tail) ≡ number_from 10 10 n tail) ×
    (behind_digits 10 (decimal n ++ tail) ≡ behind_digits 10 tail)
unfolding digits
digits_facts n tail lt =
    let top : bound 10 64 ≡ 10 ^ 64 = refl in
    (written_number 10 ten 64 n [] tail (omega (arith, top)), behind_written 10 ten 64 n [] tail)

pub decimal_digits : (n : ℕ) → list_all (λ c. is_digit c 10) (decimal n) ≡ true
unfolding digits
decimal_digits n = all_digits 10 ten 64 n [] refl

at_stop : (n : ℕ) (behind : List ℕ) → Stops behind → number_from 10 10 n behind ≡ n
at_stop n _ at_end = refl
at_stop n _ (at_comma cs) = refl
at_stop n _ (at_round cs) = refl
at_stop n _ (at_square cs) = refl
at_stop n _ (at_space cs) = refl
at_stop n _ (at_colon cs) = refl
at_stop n _ (at_opening cs) = refl

chosen : (b : Bool) (x y r : Begins) → b ≡ true → x ≡ r → cond b x y ≡ r
chosen true x y r e f = f
chosen false x y r e f = absurd cc

passed_by : (b : Bool) (x y r : Begins) → b ≡ false → y ≡ r → cond b x y ≡ r
passed_by true x y r e f = absurd cc
passed_by false x y r e f = f

-- a digit begins a number
digit_case : (c : ℕ) (cs : List ℕ) (result : Begins) → is_space c ≡ false → (c == 47) ≡ false → is_digit c 10 ≡ true
    → number_at c cs ≡ result → piece_at c cs ≡ result
unfolding piece_at
digit_case c cs result e f g h =
    passed_by (is_space c) _ _ _ e
    (passed_by (c == 47 && begins_with (47 ∷ []) cs) _ _ _ (false_and (c == 47) _ f)
    (passed_by (c == 47 && begins_with (42 ∷ []) cs) _ _ _ (false_and (c == 47) _ f)
    (chosen (is_digit c 10) (number_at c cs) _ result g h)))

pub number_piece : (n : ℕ) (behind : List ℕ) → n < 2 ^ 128 → Stops behind → NumberPiece n behind
number_piece n behind lt k =
    let f = filled 10 n in
    let h : list_all (λ c. is_digit c 10) (f.first ∷ f.front) ≡ true =
    ap (list_all (λ c. is_digit c 10)) (sym f.whole) ∙ decimal_digits n in
    let digit = and_left (is_digit f.first 10) (list_all (λ c. is_digit c 10) f.front) h in
    let others = and_right (is_digit f.first 10) (list_all (λ c. is_digit c 10) f.front) h in
    let d = digit_facts f.first digit in
    let s = stop_facts behind k in
    let t = digits_facts n behind lt in
    let same : decimal n ++ behind ≡ f.first ∷ (f.front ++ behind) = ap (λ cs. cs ++ behind) f.whole in
    let number : number_from 10 10 0 (f.first ∷ (f.front ++ behind)) ≡ n = ap (number_from 10 10 0) (sym same) ∙ t.0
    ∙ at_stop n behind k in
    let left : behind_digits 10 (f.first ∷ (f.front ++ behind)) ≡ behind = ap (behind_digits 10) (sym same) ∙ t.1
    ∙ s.digits in
    let hex : (f.first == 48 && begins_with (120 ∷ []) (f.front ++ behind)) ≡ false =
    and_false (f.first == 48) _ (not_letter 120 f.front behind refl others s.hex) in
    let octal : (f.first == 48 && begins_with (111 ∷ []) (f.front ++ behind)) ≡ false =
    and_false (f.first == 48) _ (not_letter 111 f.front behind refl others s.octal) in
    let binary : (f.first == 48 && begins_with (98 ∷ []) (f.front ++ behind)) ≡ false =
    and_false (f.first == 48) _ (not_letter 98 f.front behind refl others s.binary) in
    let fits : nat_lt n (2 ^ 128) ≡ true = lt-ltb n (2 ^ 128) lt in
    let read : decimal_at (f.first ∷ (f.front ++ behind)) ≡ Ok (Token (Integer (Some n) [] true), behind) =
    rw (left, number, s.point, s.exponent, s.suffix, fits) refl in
    record {
      first = f.first;
      front = f.front;
      whole = f.whole;
      digit = digit;
      read = digit_case f.first (f.front ++ behind) _ d.space d.slash digit (rw (hex, octal, binary) read);
    }
