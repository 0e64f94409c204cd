-- The literals of tokens: characters are scalar values, bytes are at most 255, and texts are of scalar values.
use Rattle.std.proofs.Common.{◌≡◌, ◌⊎◌, inl, inr, ℕ, zero, suc, ◌+◌, ◌*◌, ◌-◌, ◌<◌, ◌≤◌, Bool, true, false, cond, not, ◌&&◌, ◌||◌, List, [], ◌∷◌, ◌++◌, length, drop, Option, Some, None, Ok, Err, nat_lt, nat_le, chars, encode_utf8, encode_utf8_all, refl, sym, ap, subst, ◌∙◌, arith}
use Rattle.std.specs.Prelude.{option_map, codes}
use Rattle.std.specs.Option.{option_map_or}
use Rattle.std.specs.List.{list_all, take_while}
use Rattle.std.specs.Str.{bytes_eq}
use Rattle.std.specs.Char.{is_ascii, digit_value, is_digit}
use Rattle.std.proofs.Math.Utf8.{scalar, scalars, scalar_cases, low_scalar}
use Rattle.std.proofs.lemmas.Str.{scalars-chars, chars-encodes}
use Rattle.std.proofs.lemmas.Bool.Decides.{nat_tests}
use Rattle.match_model.specs.Texts.{is_scalar}
use Rattle.decl_lexer.specs.declared.marks.Mark.{Mark}
use Rattle.decl_lexer.specs.declared.marks.Mark.TheVariants.{Underscore}
use Rattle.decl_lexer.specs.declared.words.Word.{Word}
use Rattle.decl_lexer.specs.declared.escapes.Quoted.{Quoted}
use Rattle.decl_lexer.specs.declared.escapes.Quoted.TheVariants as quoted
use Rattle.decl_lexer.specs.Begins.{Lexeme, Named, Keyword, Marked, Lifetime, Integer, Character, Byte, Piece, Gap, Token, Begins, gap, token, breaks, first_case}
use Rattle.decl_lexer.specs.Text.{skip_while, first_passes, begins_with, is_one_of}
use Rattle.decl_lexer.specs.Tables.{with_text}
use Rattle.decl_lexer.specs.Gaps.{comment_end}
use Rattle.decl_lexer.specs.Words.{word_of, can_be_raw}
use Rattle.decl_lexer.specs.Names.{name_of, behind_name, name_at, raw_name_at}
use Rattle.decl_lexer.specs.Numbers.{is_exponent_letter, behind_digits, behind_suffix, suffix_of, in_128_bits, number_from, integer_at, based_cases, based_at, float_at, fraction_cases, fraction_at, decimal_cases, decimal_at, number_cases, number_at}
use Rattle.decl_lexer.specs.Marks.{or_else, longest_mark, mark_at}
use Rattle.decl_lexer.specs.Escapes.{digit_count, greatest_hex, has_unicode, simple_escapes, simple_escape, hex_escape, unicode_escape, escape}
use Rattle.decl_lexer.specs.Characters.{is_plain, is_plain_byte, escaped_at, plain_at, raw_lifetime_at, lifetime_at, quote_cases, quote_at, byte_cases, byte_at}
use Rattle.decl_lexer.specs.Texts.{TextRead, with_front, text_breaks, begins_line_end, behind_blanks, text_from, text_token, is_hash, has_hashes, raw_from, raw_text_at}
use Rattle.decl_lexer.specs.Pieces.{letter_cases, letter_at, piece_cases, piece_at}
use Rattle.decl_lexer.specs.Lexing.{Placed, width, First, End, Found, Broken, Finds, nothing, takes, fails, skips, Lexes, ends, goes_on, without_mark, mark_width}
use Rattle.pattern_rules.proofs.SameTypes.{both_left, both_right}
use Rattle.pattern_laws.specs.ParsedLaws.{lexeme_is_spelled, TokensAreSpelled}

-- ---- scalar values

scalar_is : (c : ℕ) → scalar c ≡ true → is_scalar c ≡ true
scalar_is c h = by (scalar_cases c h)
  where
    by : (c < 55296) ⊎ ((57344 ≤ c) × (c < 1114112)) → is_scalar c ≡ true
    by (inl low) = let less : nat_lt c 0xd800 ≡ true = grind (arith, nat_tests, low) in ap
        (λ b. b || (nat_le 0xe000 c && nat_le c 0x10ffff)) less
    by (inr high) =
        let least : nat_le 0xe000 c ≡ true = grind (arith, nat_tests, high.0) in
        let most : nat_le c 0x10ffff ≡ true = grind (arith, nat_tests, high.1) in
        either (nat_lt c 0xd800) (nat_le 0xe000 c) (nat_le c 0x10ffff) least most
      where
        either : (x y z : Bool) → y ≡ true → z ≡ true → (x || (y && z)) ≡ true
        either true y z e f = refl
        either false true z e f = f
        either false false z e f = cc

scalars_are : (cs : List ℕ) → scalars cs ≡ true → list_all is_scalar cs ≡ true
scalars_are [] h = refl
scalars_are (c ∷ cs) h =
    ap (λ b. b && list_all is_scalar cs) (scalar_is c (both_left (scalar c) (scalars cs) h))
    ∙ scalars_are cs (both_right (scalar c) (scalars cs) h)

scalars_behind : (xs ys : List ℕ) → scalars (xs ++ ys) ≡ true → scalars ys ≡ true
scalars_behind [] ys h = h
scalars_behind (x ∷ xs) ys h = scalars_behind xs ys (both_right (scalar x) (scalars (xs ++ ys)) h)

scalars_drop : (n : ℕ) (cs : List ℕ) → scalars cs ≡ true → scalars (drop n cs) ≡ true
scalars_drop zero cs h = h
scalars_drop (suc n) [] h = refl
scalars_drop (suc n) (c ∷ cs) h = scalars_drop n cs (both_right (scalar c) (scalars cs) h)

scalars_skip : (p : ℕ → Bool) (cs : List ℕ) → scalars cs ≡ true → scalars (skip_while p cs) ≡ true
scalars_skip p [] h = refl
scalars_skip p (c ∷ cs) h = by (p c) (scalars_skip p cs (both_right (scalar c) (scalars cs) h))
  where
    by : (b : Bool) → scalars (skip_while p cs) ≡ true → scalars (cond b (skip_while p cs) (c ∷ cs)) ≡ true
    by true k = k
    by false k = h

-- ---- pieces

-- a token's literal is spelled
abbrev IsFinePiece : Piece → Type 0
IsFinePiece Gap = Unit {0}
IsFinePiece (Token l) = lexeme_is_spelled l ≡ true

-- so is that of what a text begins with
abbrev IsFine : Begins → Type 0
IsFine (Ok x) = IsFinePiece x.0
IsFine (Err f) = Unit {0}

fine_if : (b : Bool) (x y : Begins) → (b ≡ true → IsFine x) → IsFine y → IsFine (cond b x y)
fine_if true x y h k = h refl
fine_if false x y h k = k

abbrev AreFine : List (Bool × Begins) → Type 0
AreFine [] = Unit {0}
AreFine (x ∷ xs) = (x.0 ≡ true → IsFine x.1) × AreFine xs

fine_first : (xs : List (Bool × Begins)) (other : Begins) → AreFine xs → IsFine other → IsFine (first_case xs other)
fine_first [] other h k = k
fine_first (x ∷ xs) other h k = fine_if x.0 x.1 (first_case xs other) h.0 (fine_first xs other h.1 k)

fine_or : {A : Type 0} (f : A → Begins) (o : Option A) (other : Begins) → ((x : A) → IsFine (f x)) → IsFine other →
    IsFine (option_map_or f o other)
fine_or f None other h k = k
fine_or f (Some x) other h k = h x

-- ---- numbers, names and marks

integer_fine : (text : List ℕ) (value : Option ℕ) (decimal : Bool) (behind : List ℕ) →
    IsFine (integer_at text value decimal behind)
integer_fine text value decimal behind =
    fine_if (first_passes is_exponent_letter behind) (breaks 2 text)
    (token (Integer value (encode_utf8_all (suffix_of behind)) decimal) (behind_suffix behind)) (λ e. tt) refl

based_fine : (radix base : ℕ) (text inside : List ℕ) → IsFine (based_at radix base text inside)
based_fine radix base text inside =
    fine_first (based_cases radix base text inside) (integer_at text (in_128_bits (number_from radix base 0 inside))
    false (behind_digits radix inside))
    ((λ e. tt), ((λ e. tt), tt)) (integer_fine text (in_128_bits (number_from radix base 0 inside)) false
    (behind_digits radix inside))

fraction_fine : (text inside : List ℕ) → IsFine (fraction_at text inside)
fraction_fine text inside =
    fine_first (fraction_cases text (behind_digits 10 inside)) (float_at (behind_digits 10 inside))
    ((λ e. refl), ((λ e. tt), tt)) refl

decimal_fine : (text : List ℕ) → IsFine (decimal_at text)
decimal_fine text =
    fine_first (decimal_cases text (behind_digits 10 text)) (integer_at text (in_128_bits (number_from 10 10 0 text))
    true (behind_digits 10 text))
    ((λ e. fraction_fine text (drop 1 (behind_digits 10 text))), ((λ e. refl), tt))
    (integer_fine text (in_128_bits (number_from 10 10 0 text)) true (behind_digits 10 text))

number_fine : (c : ℕ) (cs : List ℕ) → IsFine (number_at c cs)
number_fine c cs =
    fine_first (number_cases c cs) (decimal_at (c ∷ cs)) (
      (λ e. based_fine 16 16 (c ∷ cs) (drop 1 cs)),
      ((λ e. based_fine 10 8 (c ∷ cs) (drop 1 cs)), ((λ e. based_fine 10 2 (c ∷ cs) (drop 1 cs)), tt)),
    )
    (decimal_fine (c ∷ cs))

name_spelled : (b : Bool) (mark : Mark) (o : Option Word) (name : List ℕ) →
    lexeme_is_spelled (cond b (Marked mark) (option_map_or Keyword o (Named name false))) ≡ true
name_spelled true mark o name = refl
name_spelled false mark None name = refl
name_spelled false mark (Some w) name = refl

raw_name_fine : (text behind : List ℕ) → IsFine (raw_name_at text behind)
raw_name_fine text behind =
    fine_if (can_be_raw (encode_utf8_all (name_of behind))) _ (breaks 2 text) (λ e. refl) tt

-- ---- escapes

-- what a character may be in such a literal
abbrev Fits : Quoted → ℕ → Type 0
Fits quoted.Text n = scalar n ≡ true
Fits quoted.Bytes n = nat_le n 255 ≡ true
Fits quoted.CText n = Unit {0}

abbrev MayBe : (ℕ → Type 0) → Option (ℕ × List ℕ) → Type 0
MayBe P None = Unit {0}
MayBe P (Some x) = P x.0

abbrev AllFit : (ℕ → Type 0) → List (List ℕ × ℕ) → Type 0
AllFit P [] = Unit {0}
AllFit P (x ∷ xs) = P x.1 × AllFit P xs

abbrev MayFit : (ℕ → Type 0) → Option ℕ → Type 0
MayFit P None = Unit {0}
MayFit P (Some n) = P n

found_fits : (P : ℕ → Type 0) (entries : List (List ℕ × ℕ)) (text : List ℕ) → AllFit P entries →
    MayFit P (with_text entries text)
found_fits P [] text h = tt
found_fits P (x ∷ xs) text h = by (bytes_eq x.0 text) (found_fits P xs text h.1)
  where
    by : (b : Bool) → MayFit P (with_text xs text) → MayFit P (cond b (Some x.1) (with_text xs text))
    by true k = h.0
    by false k = k

simple_fits : (kind : Quoted) → AllFit (Fits kind) simple_escapes
simple_fits quoted.Text = (refl, (refl, (refl, (refl, (refl, (refl, (refl, tt)))))))
simple_fits quoted.Bytes = (refl, (refl, (refl, (refl, (refl, (refl, (refl, tt)))))))
simple_fits quoted.CText = (tt, (tt, (tt, (tt, (tt, (tt, (tt, tt)))))))

third : (a b c : Bool) → (a && (b && c)) ≡ true → c ≡ true
third a b c h = both_right b c (both_right a (b && c) h)

fits_hex : (kind : Quoted) (n : ℕ) → nat_le n (greatest_hex kind) ≡ true → Fits kind n
fits_hex quoted.Text n h = let low : n < 55296 = grind (arith, nat_tests, h) in low_scalar n low
fits_hex quoted.Bytes n h = h
fits_hex quoted.CText n h = tt

hex_fits : (kind : Quoted) (cs : List ℕ) → MayBe (Fits kind) (hex_escape kind cs)
hex_fits kind [] = tt
hex_fits kind (high ∷ []) = tt
hex_fits kind (high ∷ low ∷ cs) =
    by (is_digit high 16) (is_digit low 16) (nat_le (16 * digit_value high + digit_value low) (greatest_hex kind)) refl
  where
    by : (a b c : Bool) → nat_le (16 * digit_value high + digit_value low) (greatest_hex kind) ≡ c →
        MayBe (Fits kind) (cond (a && b && c) (Some (16 * digit_value high + digit_value low, cs)) None)
    by true true true e = fits_hex kind (16 * digit_value high + digit_value low) e
    by true true false e = tt
    by true false c e = tt
    by false b c e = tt

unicode_fits : (cs : List ℕ) → MayBe (λ n. scalar n ≡ true) (unicode_escape cs)
unicode_fits cs =
    by
    (begins_with (codes "{") cs) (first_passes (λ c. is_digit c 16) (drop 1 cs)) (nat_le (digit_count 16 (drop 1 cs)) 6)
    (begins_with (codes "}") (behind_digits 16 (drop 1 cs))) (scalar (number_from 16 16 0 (drop 1 cs))) refl
  where
    by : (a b c d e : Bool) → scalar (number_from 16 16 0 (drop 1 cs)) ≡ e →
        MayBe (λ n. scalar n ≡ true) (cond (a && (b && c && d && e))
        (Some (number_from 16 16 0 (drop 1 cs), drop 1 (behind_digits 16 (drop 1 cs)))) None)
    by true true true true true h = h
    by true true true true false h = tt
    by true true true false e h = tt
    by true true false d e h = tt
    by true false c d e h = tt
    by false b c d e h = tt

unicode_if : (kind : Quoted) (cs : List ℕ) (a : Bool) →
    MayBe (Fits kind) (cond (a && has_unicode kind) (unicode_escape cs) None)
unicode_if kind cs false = tt
unicode_if quoted.Text cs true = unicode_fits cs
unicode_if quoted.Bytes cs true = tt
unicode_if quoted.CText cs true = any (unicode_escape cs)
  where
    any : (o : Option (ℕ × List ℕ)) → MayBe (Fits quoted.CText) o
    any None = tt
    any (Some x) = tt

escape_fits : (kind : Quoted) (cs : List ℕ) → MayBe (Fits kind) (escape kind cs)
escape_fits kind [] = tt
escape_fits kind (c ∷ cs) =
    by (simple_escape c) (is_one_of (codes "x") c) (found_fits (Fits kind) simple_escapes (c ∷ []) (simple_fits kind))
  where
    by : (o : Option ℕ) (b : Bool) → MayFit (Fits kind) o →
        MayBe (Fits kind)
        (or_else (option_map (λ value. (value, cs)) o)
        (cond b (hex_escape kind cs) (cond (is_one_of (codes "u") c && has_unicode kind) (unicode_escape cs) None)))
    by (Some n) b h = h
    by None true h = hex_fits kind cs
    by None false h = unicode_if kind cs (is_one_of (codes "u") c)

-- ---- characters and bytes

escaped_fine : (kind : Quoted) (literal : ℕ → Lexeme) → ((n : ℕ) → Fits kind n → lexeme_is_spelled (literal n) ≡ true) →
    (text escaped : List ℕ) →
    IsFine (escaped_at kind literal text escaped)
escaped_fine kind literal f text escaped = by (escape kind (drop 1 escaped)) (escape_fits kind (drop 1 escaped))
  where
    by : (o : Option (ℕ × List ℕ)) → MayBe (Fits kind) o →
        IsFine (option_map_or (λ found. cond (begins_with (codes "'") found.1)
        (token (literal found.0) (drop 1 found.1)) (breaks 2 text)) o (breaks 5 escaped))
    by None h = tt
    by (Some x) h = fine_if (begins_with (codes "'") x.1) (token (literal x.0) (drop 1 x.1)) (breaks 2 text)
        (λ e. f x.0 h) tt

raw_lifetime_fine : (text named : List ℕ) → IsFine (raw_lifetime_at text named)
raw_lifetime_fine text named =
    fine_if (can_be_raw (encode_utf8_all (name_of named)) && not (begins_with (codes "'") (behind_name named)))
    (token Lifetime (behind_name named)) (breaks 2 text) (λ e. refl) tt

lifetime_fine : (text named : List ℕ) → IsFine (lifetime_at text named)
lifetime_fine text named = fine_if (begins_with (codes "'") (behind_name named)) (breaks 2 text)
    (token Lifetime (behind_name named)) (λ e. tt) refl

character_fine : (text inside : List ℕ) → scalars inside ≡ true → IsFine (plain_at Character text inside)
character_fine text [] h = tt
character_fine text (c ∷ cs) h = scalar_is c (both_left (scalar c) (scalars cs) h)

quote_fine : (text inside : List ℕ) → scalars inside ≡ true → IsFine (quote_at text inside)
quote_fine text inside h =
    fine_first (quote_cases text inside) (breaks 2 text) (
      (λ e. escaped_fine quoted.Text Character scalar_is text inside),
      (
        (λ e. character_fine text inside h),
        ((λ e. raw_lifetime_fine text (drop 2 inside)), ((λ e. lifetime_fine text inside), tt)),
      ),
    ) tt

byte_plain : (text inside : List ℕ) → first_passes is_plain_byte inside ≡ true → IsFine (plain_at Byte text inside)
byte_plain text [] h = tt
byte_plain text (c ∷ cs) h = let ascii : is_ascii c ≡ true = both_left (is_ascii c) (is_plain c) h in grind
    (arith, nat_tests, ascii)

byte_fine : (text inside : List ℕ) → IsFine (byte_at text inside)
byte_fine text inside =
    fine_first (byte_cases text inside) (breaks 2 text) (
      (λ e. escaped_fine quoted.Bytes Byte (λ n h. h) text inside),
      (
        (λ e. byte_plain text inside (both_left (first_passes is_plain_byte inside)
            (begins_with (codes "'") (drop 1 inside)) e)),
        tt,
      ),
    ) tt

-- ---- texts

-- the bytes are those of scalar values
abbrev IsOfScalars : List ℕ → Type 0
IsOfScalars bs = (cs : List ℕ) × (scalars cs ≡ true) × (encode_utf8_all cs ≡ bs)

abbrev IsFineText : TextRead → Type 0
IsFineText (Ok x) = IsOfScalars x.0
IsFineText (Err f) = Unit {0}

front_fine : (c : ℕ) (r : TextRead) → scalar c ≡ true → IsFineText r → IsFineText (with_front (encode_utf8 c) r)
front_fine c (Ok x) h k = (c ∷ k.0, ap (λ b. b && scalars k.0) h ∙ k.1, ap (λ bs. encode_utf8 c ++ bs) k.2)
front_fine c (Err f) h k = tt

text_if : (b : Bool) (x y : TextRead) → IsFineText x → IsFineText y → IsFineText (cond b x y)
text_if true x y h k = h
text_if false x y h k = k

escape_text : (start : List ℕ) (o : Option (ℕ × List ℕ)) (more : ℕ × List ℕ → TextRead) (other : TextRead) →
    MayBe (Fits quoted.Text) o →
    ((e : ℕ × List ℕ) → IsFineText (more e)) → IsFineText other →
    IsFineText (option_map_or (λ e. with_front (encode_utf8 e.0) (more e)) o other)
escape_text start None more other h k m = m
escape_text start (Some e) more other h k m = front_fine e.0 (more e) h (k e)

text_fine : (start : List ℕ) (read : ℕ) (cs : List ℕ) → scalars cs ≡ true →
    IsFineText (text_from quoted.Text start read cs)
unfolding text_from
text_fine start read [] h = tt
text_fine start (suc read) (c ∷ cs) h = text_fine start read cs (both_right (scalar c) (scalars cs) h)
text_fine start zero (c ∷ cs) h =
    text_if (is_one_of (codes "\"") c) _ _ ([], refl, refl)
    (text_if (is_one_of (codes "\\") c && begins_line_end cs) _ _
    (text_fine start (length cs - length (behind_blanks cs)) cs others)
    (text_if (is_one_of (codes "\\") c) _ _
    (escape_text start (escape quoted.Text cs) (λ e. text_from quoted.Text start (length cs - length e.1) cs)
    (text_breaks 5 (c ∷ cs))
    (escape_fits quoted.Text cs) (λ e. text_fine start (length cs - length e.1) cs others) tt)
    (text_if (is_one_of (codes "\r") c) _ _
    (text_if (begins_with (codes "\n") cs) _ _ (text_fine start zero cs others) tt)
    (front_fine c (text_from quoted.Text start zero cs) (both_left (scalar c) (scalars cs) h)
    (text_fine start zero cs others)))))
  where
    others : scalars cs ≡ true
    others = both_right (scalar c) (scalars cs) h

raw_fine : (hashes : ℕ) (start cs : List ℕ) → scalars cs ≡ true → IsFineText (raw_from hashes start cs)
unfolding raw_from
raw_fine hashes start [] h = tt
raw_fine hashes start (c ∷ cs) h =
    text_if (is_one_of (codes "\"") c && has_hashes hashes cs) _ _ ([], refl, refl)
    (text_if (is_one_of (codes "\r") c) _ _
    (text_if (begins_with (codes "\n") cs) _ _ (raw_fine hashes start cs others) tt)
    (front_fine c (raw_from hashes start cs) (both_left (scalar c) (scalars cs) h) (raw_fine hashes start cs others)))
  where
    others : scalars cs ≡ true
    others = both_right (scalar c) (scalars cs) h

of_scalars : (bs : List ℕ) → IsOfScalars bs → list_all is_scalar (chars bs) ≡ true
of_scalars bs h = ap (list_all is_scalar) (ap chars (sym h.2) ∙ chars-encodes h.0 h.1) ∙ scalars_are h.0 h.1

token_fine : (r : TextRead) → IsFineText r → IsFine (text_token quoted.Text r)
token_fine (Ok x) h = of_scalars x.0 h
token_fine (Err f) h = tt

-- a byte text or C text says nothing
bytes_token : (r : TextRead) → IsFine (text_token quoted.Bytes r)
bytes_token (Ok x) = refl
bytes_token (Err f) = tt

c_token : (r : TextRead) → IsFine (text_token quoted.CText r)
c_token (Ok x) = refl
c_token (Err f) = tt

raw_text_fine : (kind : Quoted) (text behind : List ℕ) → ((r : TextRead) → IsFineText r → IsFine (text_token kind r)) →
    scalars behind ≡ true →
    IsFine (raw_text_at kind text behind)
raw_text_fine kind text behind f h =
    fine_if (nat_le (length (take_while is_hash behind)) 255) _ (breaks 2 text)
    (λ e. f (raw_from (length (take_while is_hash behind)) text (drop 1 (skip_while is_hash behind)))
    (raw_fine (length (take_while is_hash behind)) text (drop 1 (skip_while is_hash behind))
    (scalars_drop 1 (skip_while is_hash behind) (scalars_skip is_hash behind h)))) tt

-- ---- pieces

letter_fine : (c : ℕ) (cs : List ℕ) → scalars cs ≡ true → IsFine (letter_at c cs)
letter_fine c cs h =
    fine_first (letter_cases c cs) (name_at (c ∷ cs)) (
      (λ e. byte_fine (c ∷ cs) (drop 1 cs)),
      (
        (λ e. bytes_token (text_from quoted.Bytes (c ∷ cs) zero (drop 1 cs))),
        (
          (λ e. c_token (text_from quoted.CText (c ∷ cs) zero (drop 1 cs))),
          (
            (λ e. raw_text_fine quoted.Text (c ∷ cs) cs token_fine h),
            (
              (λ e. raw_text_fine quoted.Bytes (c ∷ cs) (drop 1 cs) (λ r k. bytes_token r) (scalars_drop 1 cs h)),
              (
                (λ e. raw_text_fine quoted.CText (c ∷ cs) (drop 1 cs) (λ r k. c_token r) (scalars_drop 1 cs h)),
                ((λ e. raw_name_fine (c ∷ cs) (drop 1 cs)), tt),
              ),
            ),
          ),
        ),
      ),
    ) (name_spelled (bytes_eq (encode_utf8_all (name_of (c ∷ cs))) (codes "_")) Underscore
    (word_of (encode_utf8_all (name_of (c ∷ cs)))) _)

piece_fine : (c : ℕ) (cs : List ℕ) → scalars cs ≡ true → IsFine (piece_at c cs)
unfolding piece_at
piece_fine c cs h =
    fine_first (piece_cases c cs) (mark_at (c ∷ cs)) (
      (λ e. tt),
      (
        (λ e. tt),
        (
          (λ e. fine_or gap (comment_end 0 (drop 1 cs)) (breaks 3 (c ∷ cs)) (λ rest. tt) tt),
          (
            (λ e. number_fine c cs),
            (
              (λ e. quote_fine (c ∷ cs) cs h),
              (
                (λ e. token_fine (text_from quoted.Text (c ∷ cs) zero cs) (text_fine (c ∷ cs) zero cs h)),
                ((λ e. letter_fine c cs h), tt),
              ),
            ),
          ),
        ),
      ),
    ) (fine_or (λ found. token (Marked found.0) found.1) (longest_mark (c ∷ cs)) (breaks 2 (c ∷ cs)) (λ found. refl) tt)

-- ---- tokens

-- what comes first has a spelled literal, and scalar values stand behind it
abbrev IsFineFirst : First → Type 0
IsFineFirst End = Unit {0}
IsFineFirst (Found t rest) = (lexeme_is_spelled t.lexeme ≡ true) × (scalars rest ≡ true)
IsFineFirst (Broken rule place) = Unit {0}

first_fine : (at : ℕ) (cs : List ℕ) (x : First) → Finds at cs x → scalars cs ≡ true → IsFineFirst x
first_fine at cs x (nothing a) h = tt
first_fine at cs x (takes a c ds front rest lexeme e split) h =
    let others : scalars ds ≡ true = both_right (scalar c) (scalars ds) h in
    (subst IsFine e (piece_fine c ds others), scalars_behind front rest (ap scalars (sym split) ∙ others))
first_fine at cs x (fails a c ds front fault e split) h = tt
first_fine at cs x (skips a c ds front rest first e split more) h =
    first_fine (a + width (c ∷ front)) rest first more
    (scalars_behind front rest (ap scalars (sym split) ∙ both_right (scalar c) (scalars ds) h))

tokens_fine : (at : ℕ) (cs : List ℕ) (ts : List Placed) → Lexes at cs ts → scalars cs ≡ true →
    list_all (λ t. lexeme_is_spelled t.lexeme) ts ≡ true
tokens_fine at cs ts (ends a ds f) h = refl
tokens_fine at cs ts (goes_on a ds rest t us f more) h =
    let one = first_fine a ds (Found t rest) f h in
    ap (λ b. b && list_all (λ u. lexeme_is_spelled u.lexeme) us) one.0 ∙ tokens_fine t.to rest us more one.1

pub tokens_spelled : TokensAreSpelled
tokens_spelled bytes tokens h = tokens_fine (mark_width (chars bytes)) (without_mark (chars bytes)) tokens h.1
    (unmarked (begins_with (codes "\u{feff}") (chars bytes)))
  where
    unmarked : (b : Bool) → scalars (cond b (drop 1 (chars bytes)) (chars bytes)) ≡ true
    unmarked true = scalars_drop 1 (chars bytes) (scalars-chars bytes h.0)
    unmarked false = scalars-chars bytes h.0
