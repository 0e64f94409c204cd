-- Literals of characters and of texts lex as themselves.
use Rattle.std.proofs.Common.{◌≡◌, ℕ, zero, suc, ◌+◌, ◌-◌, ◌^◌, ◌/◌, ◌<◌, ◌≤◌, Bool, true, false, cond}
use Rattle.std.proofs.Common.{List, [], ◌∷◌, ◌++◌, length, Some, Ok, encode_utf8, encode_utf8_all, refl}
use Rattle.std.proofs.Common.{sym, ap, subst, ◌∙◌, arith, append_assoc, length-append, ◌⊎◌, inl, inr}
use Rattle.std.specs.Prelude.{nat_eq, nat_le, ◌==◌, flat_map}
use lib.Utf8.{scalar, scalars}
use Rattle.std.proofs.Math.Utf8.{scalar_cases}
use Rattle.std.specs.Char.{digit_value, is_digit}
use Rattle.std.specs.Fmt.{digits_onto, digits}
use Rattle.std.specs.List.{list_all}
use Rattle.std.proofs.lemmas.Bool.{eqb-true, lt-ltb}
use Rattle.std.proofs.lemmas.Bool.Decides.{nat_tests}
use Rattle.unicode_ident.proofs.Computing.{unicode_ident}
use Rattle.decl_lexer.specs.declared.escapes.Quoted.TheVariants as quoted
use Rattle.decl_lexer.specs.Begins.{Character, Text, Token}
use Rattle.decl_lexer.specs.Text.{first_passes, begins_with}
use Rattle.decl_lexer.specs.Numbers.{behind_digits, number_from}
use Rattle.decl_lexer.specs.Escapes.{escape, digit_count}
use Rattle.decl_lexer.specs.Texts.{text_from, with_front}
use Rattle.decl_lexer.specs.Pieces.{piece_at}
use Rattle.decl_lexer.proofs.BoolLemmas.{not_equal}
use Rattle.witness_text.specs.Literals.{escaped, code_escape}
use Rattle.value_syntax.proofs.LexedNames.{and_left, and_right}
use Rattle.value_syntax.proofs.LexedNumbers.{bound, sixteen, last_digit, glyph_value, glyph_plain, written_number}
use Rattle.value_syntax.proofs.LexedNumbers.{behind_written, all_digits, filled}

-- ---- how a character stands in a literal

pub data Standing (quote c : ℕ) : Type 0 where
  marked : (c ≡ quote) ⊎ (c ≡ 92) → escaped quote c ≡ 92 ∷ c ∷ [] → Standing quote c
  plain : (c == quote) ≡ false → (c == 92) ≡ false → 32 ≤ c → c ≤ 126 → escaped quote c ≡ c ∷ [] → Standing quote c
  coded : escaped quote c ≡ code_escape c → Standing quote c

pub standing : (quote c : ℕ) → Standing quote c
unfolding escaped
standing quote c = by_quote (nat_eq c quote) (nat_eq c 92) (nat_le 32 c) (nat_le c 126) refl refl refl refl
  where
    by_quote : (a b d e : Bool) → nat_eq c quote ≡ a → nat_eq c 92 ≡ b → nat_le 32 c ≡ d → nat_le c 126 ≡ e
        → Standing quote c
    by_quote true b d e p q r s = marked (inl (eqb-true c quote p)) (rw p refl)
    by_quote false true d e p q r s = marked (inr (eqb-true c 92 q)) (rw (p, q) refl)
    by_quote false false true true p q r s = plain p q (grind (arith, nat_tests)) (grind (arith, nat_tests))
        (rw (p, q, r, s) refl)
    by_quote false false true false p q r s = coded (rw (p, q, r, s) refl)
    by_quote false false false e p q r s = coded (rw (p, q, r) refl)

-- ---- an escape by a scalar value

one_counted : (n : ℕ) (cs : List ℕ) → digit_count 16 (last_digit 16 n ∷ cs) ≡ digit_count 16 cs + 1
one_counted n cs =
    let lt = sixteen.small n in
    let digit : is_digit (last_digit 16 n) 16 ≡ true =
    lt-ltb (digit_value (last_digit 16 n)) 16 (subst (λ v. v < 16) (sym (glyph_value _ lt)) lt) in
    let letter : (last_digit 16 n == 95) ≡ false =
    not_equal (last_digit 16 n == 95) (λ same. glyph_plain _ lt (eqb-true (last_digit 16 n) 95 same)) in
    rw (letter, digit) refl

-- so many digits are enough
few_digits : (k j n : ℕ) (acc tail : List ℕ) → n < bound 16 (suc j)
    → digit_count 16 (digits_onto k 16 false n acc ++ tail) ≤ suc j + digit_count 16 (acc ++ tail)
few_digits zero j n acc tail lt = omega arith
few_digits (suc k) zero n acc tail lt =
    let none : n / 16 ≡ 0 = omega arith in
    let e : (n / 16 == 0) ≡ true = ap (λ q. q == 0) none in
    rw e (let c = one_counted n (acc ++ tail) in omega (arith, c))
few_digits (suc k) (suc j) n acc tail lt =
    by_case (n / 16 == 0) (few_digits k j (n / 16) (last_digit 16 n ∷ acc) tail
    (sixteen.smaller n (bound 16 (suc j)) lt))
  where
    by_case : (b : Bool) → digit_count 16 (digits_onto k 16 false (n / 16) (last_digit 16 n ∷ acc) ++ tail)
        ≤ suc j + digit_count 16 (last_digit 16 n ∷ (acc ++ tail))
        → digit_count 16 (cond b (last_digit 16 n ∷ acc)
        (digits_onto k 16 false (n / 16) (last_digit 16 n ∷ acc)) ++ tail) ≤ suc (suc j) + digit_count 16
        (acc ++ tail)
    by_case true others = let c = one_counted n (acc ++ tail) in omega (arith, c)
    by_case false others = let c = one_counted n (acc ++ tail) in omega (arith, c, others)

below_top : (c : ℕ) → scalar c ≡ true → c < 1114112
below_top c e = elim (scalar_cases c e) [ inl lt ↦ omega (arith, lt) | inr p ↦ p.1 ]

-- the digits of a scalar value and `}`
record HexFacts (c : ℕ) (rest : List ℕ) : Type 0 where
  number : number_from 16 16 0 (digits 16 false c ++ 125 ∷ rest) ≡ c
  left : behind_digits 16 (digits 16 false c ++ 125 ∷ rest) ≡ 125 ∷ rest
  few : digit_count 16 (digits 16 false c ++ 125 ∷ rest) ≤ 6
  first : first_passes (λ d. is_digit d 16) (digits 16 false c ++ 125 ∷ rest) ≡ true

pub hex_digits : (c : ℕ) → list_all (λ d. is_digit d 16) (digits 16 false c) ≡ true
unfolding digits
hex_digits c = all_digits 16 sixteen 64 c [] refl

hex_first : (c : ℕ) (rest : List ℕ) → first_passes (λ d. is_digit d 16) (digits 16 false c ++ 125 ∷ rest) ≡ true
hex_first c rest =
    let f = filled 16 c in
    let h : list_all (λ d. is_digit d 16) (f.first ∷ f.front) ≡ true =
    ap (list_all (λ d. is_digit d 16)) (sym f.whole) ∙ hex_digits c in
    ap (λ cs. first_passes (λ d. is_digit d 16) (cs ++ 125 ∷ rest)) f.whole
    ∙ and_left (is_digit f.first 16) (list_all (λ d. is_digit d 16) f.front) h

hex_facts : (c : ℕ) (rest : List ℕ) → scalar c ≡ true → HexFacts c rest
unfolding digits
hex_facts c rest e =
    let lt = below_top c e in
    let top : bound 16 6 ≡ 16777216 = refl in
    let wide : bound 16 64 ≡ 16 ^ 64 = refl in
    let few = few_digits 64 5 c [] (125 ∷ rest) (omega (arith, lt, top)) in
    record {
      number = written_number 16 sixteen 64 c [] (125 ∷ rest) (omega (arith, lt, wide));
      left = behind_written 16 sixteen 64 c [] (125 ∷ rest);
      few = few;
      first = hex_first c rest;
    }

pub code_read : (c : ℕ) (rest : List ℕ) → scalar c ≡ true
    → escape quoted.Text (117 ∷ 123 ∷ (digits 16 false c ++ 125 ∷ rest)) ≡ Some (c, rest)
code_read c rest e =
    let h = hex_facts c rest e in
    let few : nat_le (digit_count 16 (digits 16 false c ++ 125 ∷ rest)) 6 ≡ true = let k = h.few in
    grind (arith, nat_tests, k) in
    rw (h.first, few, h.left, h.number, e) refl

-- the code of a character, and what follows it
pub code_is : (c : ℕ) (rest : List ℕ) → code_escape c ++ rest ≡ 92 ∷ 117 ∷ 123 ∷ (digits 16 false c ++ 125 ∷ rest)
code_is c rest = ap (λ cs. 92 ∷ 117 ∷ 123 ∷ cs) (append_assoc (digits 16 false c) (125 ∷ []) rest)

-- ---- characters

quote_read : (behind : List ℕ) → piece_at 39 (92 ∷ 39 ∷ 39 ∷ behind) ≡ Ok (Token (Character 39), behind)
unfolding piece_at unicode_ident
quote_read behind = refl

backslash_read : (behind : List ℕ) → piece_at 39 (92 ∷ 92 ∷ 39 ∷ behind) ≡ Ok (Token (Character 92), behind)
unfolding piece_at unicode_ident
backslash_read behind = refl

marked_char : (c : ℕ) (behind : List ℕ) → (c ≡ 39) ⊎ (c ≡ 92)
    → piece_at 39 (92 ∷ c ∷ 39 ∷ behind) ≡ Ok (Token (Character c), behind)
marked_char c behind h =
    elim h [
      | inl e ↦ rw e (quote_read behind)
      | inr e ↦ rw e (backslash_read behind)
    ]

plain_char : (c : ℕ) (behind : List ℕ) → (c == 39) ≡ false → (c == 92) ≡ false → 32 ≤ c
    → piece_at 39 (c ∷ 39 ∷ behind) ≡ Ok (Token (Character c), behind)
unfolding piece_at unicode_ident
plain_char c behind quote backslash low =
    let feed : (c == 10) ≡ false = grind (arith, nat_tests) in
    let return : (c == 13) ≡ false = grind (arith, nat_tests) in
    let tab : (c == 9) ≡ false = grind (arith, nat_tests) in
    rw (backslash, quote, feed, return, tab) refl

coded_char : (c : ℕ) (behind : List ℕ) → scalar c ≡ true
    → piece_at 39 (92 ∷ 117 ∷ 123 ∷ (digits 16 false c ++ 125 ∷ 39 ∷ behind)) ≡ Ok (Token (Character c), behind)
unfolding piece_at unicode_ident
coded_char c behind e = let r = code_read c (39 ∷ behind) e in rw r refl

pub char_piece : (c : ℕ) (behind : List ℕ) → scalar c ≡ true
    → piece_at 39 (escaped 39 c ++ 39 ∷ behind) ≡ Ok (Token (Character c), behind)
char_piece c behind e = by_case (standing 39 c)
  where
    by_case : Standing 39 c → piece_at 39 (escaped 39 c ++ 39 ∷ behind) ≡ Ok (Token (Character c), behind)
    by_case (marked h s) = rw s (marked_char c behind h)
    by_case (plain p q low high s) = rw s (plain_char c behind p q low)
    by_case (coded s) = rw (s, code_is c (39 ∷ behind)) (coded_char c behind e)

-- ---- texts

skip_read : (start xs rest : List ℕ) → text_from quoted.Text start (length xs)
    (xs ++ rest) ≡ text_from quoted.Text start zero rest
unfolding text_from
skip_read start [] rest = refl
skip_read start (x ∷ xs) rest = skip_read start xs rest

-- an escape that is read, and the text behind it
escape_step : (start xs rest : List ℕ) (c x : ℕ) (cs : List ℕ) → xs ≡ x ∷ cs → (x == 10) ≡ false → (x == 13) ≡ false
    → escape quoted.Text (xs ++ rest) ≡ Some (c, rest)
    → text_from quoted.Text start zero (92 ∷ (xs ++ rest)) ≡ with_front (encode_utf8 c)
    (text_from quoted.Text start zero rest)
unfolding text_from
escape_step start xs rest c x cs whole feed return read =
    let long : length (xs ++ rest) - length rest ≡ length xs = let l = length-append xs rest in omega (arith, l) in
    let line : (begins_with (10 ∷ []) (xs ++ rest)) ≡ false = rw whole feed in
    let lines : (begins_with (13 ∷ 10 ∷ []) (xs ++ rest)) ≡ false = rw (whole, return) refl in
    rw (line, lines, read, long) (ap (with_front (encode_utf8 c)) (skip_read start xs rest))

quote_step : (start rest : List ℕ) → text_from quoted.Text start zero (92 ∷ 34 ∷ rest) ≡ with_front (encode_utf8 34)
    (text_from quoted.Text start zero rest)
quote_step start rest = escape_step start (34 ∷ []) rest 34 34 [] refl refl refl refl

backslash_step : (start rest : List ℕ) → text_from quoted.Text start zero (92 ∷ 92 ∷ rest) ≡ with_front
    (encode_utf8 92) (text_from quoted.Text start zero rest)
backslash_step start rest = escape_step start (92 ∷ []) rest 92 92 [] refl refl refl refl

marked_step : (start rest : List ℕ) (c : ℕ) → (c ≡ 34) ⊎ (c ≡ 92)
    → text_from quoted.Text start zero (92 ∷ c ∷ rest) ≡ with_front (encode_utf8 c)
    (text_from quoted.Text start zero rest)
marked_step start rest c h =
    elim h [
      | inl e ↦ rw e (quote_step start rest)
      | inr e ↦ rw e (backslash_step start rest)
    ]

plain_step : (start rest : List ℕ) (c : ℕ) → (c == 34) ≡ false → (c == 92) ≡ false → 32 ≤ c
    → text_from quoted.Text start zero (c ∷ rest) ≡ with_front (encode_utf8 c) (text_from quoted.Text start zero rest)
unfolding text_from
plain_step start rest c quote backslash low =
    let return : (c == 13) ≡ false = grind (arith, nat_tests) in
    rw (quote, backslash, return) refl

coded_step : (start rest : List ℕ) (c : ℕ) → scalar c ≡ true
    → text_from quoted.Text start zero (92 ∷ 117 ∷ 123 ∷ (digits 16 false c ++ 125 ∷ rest)) ≡ with_front
    (encode_utf8 c) (text_from quoted.Text start zero rest)
coded_step start rest c e =
    let xs = 117 ∷ 123 ∷ (digits 16 false c ++ 125 ∷ []) in
    let same : xs ++ rest ≡ 117 ∷ 123 ∷ (digits 16 false c ++ 125 ∷ rest) =
    ap (λ cs. 117 ∷ 123 ∷ cs) (append_assoc (digits 16 false c) (125 ∷ []) rest) in
    let read : escape quoted.Text (xs ++ rest) ≡ Some (c, rest) = ap (escape quoted.Text) same ∙ code_read c rest e in
    ap (λ cs. text_from quoted.Text start zero (92 ∷ cs)) (sym same)
    ∙ escape_step start xs rest c 117 (123 ∷ (digits 16 false c ++ 125 ∷ [])) refl refl refl read

-- a character of a text
character_step : (start rest : List ℕ) (c : ℕ) → scalar c ≡ true
    → text_from quoted.Text start zero (escaped 34 c ++ rest) ≡ with_front (encode_utf8 c)
    (text_from quoted.Text start zero rest)
character_step start rest c e = by_case (standing 34 c)
  where
    by_case : Standing 34 c → text_from quoted.Text start zero (escaped 34 c ++ rest) ≡ with_front (encode_utf8 c)
        (text_from quoted.Text start zero rest)
    by_case (marked h s) = rw s (marked_step start rest c h)
    by_case (plain p q low high s) = rw s (plain_step start rest c p q low)
    by_case (coded s) = rw (s, code_is c rest) (coded_step start rest c e)

text_closed : (start behind : List ℕ) → text_from quoted.Text start zero (34 ∷ behind) ≡ Ok ([], behind)
unfolding text_from
text_closed start behind = refl

-- the characters of a text, and its closing quote
text_read : (start cs behind : List ℕ) → scalars cs ≡ true
    → text_from quoted.Text start zero (flat_map (escaped 34) cs ++ 34 ∷ behind) ≡ Ok (encode_utf8_all cs, behind)
text_read start [] behind e = text_closed start behind
text_read start (c ∷ cs) behind e =
    ap (text_from quoted.Text start zero) (append_assoc (escaped 34 c) (flat_map (escaped 34) cs) (34 ∷ behind))
    ∙ character_step start (flat_map (escaped 34) cs ++ 34 ∷ behind) c (and_left (scalar c) (scalars cs) e)
    ∙ ap (with_front (encode_utf8 c)) (text_read start cs behind (and_right (scalar c) (scalars cs) e))

pub text_piece : (cs behind : List ℕ) → scalars cs ≡ true
    → piece_at 34 (flat_map (escaped 34) cs ++ 34 ∷ behind) ≡ Ok (Token (Text (encode_utf8_all cs)), behind)
unfolding piece_at unicode_ident
text_piece cs behind e = let r = text_read (34 ∷ (flat_map (escaped 34) cs ++ 34 ∷ behind)) cs behind e in rw r refl
