-- A name token at the start of a text has a name.
use Rattle.std.proofs.Common.{◌≡◌, ℕ, Bool, true, false, cond, ◌&&◌, nat_le, List, [], ◌∷◌, length, drop, Option}
use Rattle.std.proofs.Common.{Some, None, Ok, Err, codes, encode_utf8_all, refl}
use Rattle.std.proofs.lemmas.Bool.{and_parts}
use Rattle.std.specs.Prelude.{not}
use Rattle.std.specs.Option.{option_map_or}
use Rattle.std.specs.List.{take_while}
use Rattle.decl_lexer.specs.declared.escapes.Quoted.{Quoted}
use Rattle.decl_lexer.specs.declared.escapes.Quoted.TheVariants as quoted
use Rattle.decl_lexer.specs.declared.marks.Mark.{Mark}
use Rattle.decl_lexer.specs.Begins.{Lexeme, Named, Marked, Lifetime, Integer, Character, Byte, Piece, Gap, Token}
use Rattle.decl_lexer.specs.Begins.{Begins, gap, token, breaks, first_case}
use Rattle.decl_lexer.specs.Characters.{escaped_at, plain_at, raw_lifetime_at, lifetime_at, quote_cases, quote_at}
use Rattle.decl_lexer.specs.Characters.{byte_cases, byte_at}
use Rattle.decl_lexer.specs.Escapes.{escape}
use Rattle.decl_lexer.specs.Gaps.{comment_end}
use Rattle.decl_lexer.specs.Marks.{longest_mark, mark_at}
use Rattle.decl_lexer.specs.Names.{is_name_start, name_of, behind_name, name_at, raw_name_at}
use Rattle.decl_lexer.specs.Numbers.{behind_digits, number_from, in_128_bits, suffix_of, behind_suffix}
use Rattle.decl_lexer.specs.Numbers.{is_exponent_letter, integer_at, based_cases, based_at, float_at}
use Rattle.decl_lexer.specs.Numbers.{fraction_cases, fraction_at, decimal_cases, decimal_at, number_cases}
use Rattle.decl_lexer.specs.Numbers.{number_at}
use Rattle.decl_lexer.specs.Pieces.{letter_cases, letter_at, piece_cases, piece_at}
use Rattle.decl_lexer.specs.Text.{skip_while, first_passes, begins_with}
use Rattle.decl_lexer.specs.Texts.{TextRead, text_from, text_lexeme, text_token, text_at, is_hash, raw_from}
use Rattle.decl_lexer.specs.Texts.{raw_text_at}
use Rattle.decl_lexer.specs.Words.{can_be_raw}
use Rattle.file_names.specs.Items.{IsNamed}
use Rattle.file_names.proofs.Lexed.{named, identifier_of, lexeme_named, raw_name}

-- if a text begins with a name token, then that has a name
abbrev pub IsPieceNamed : Piece → Type 0
IsPieceNamed Gap = Unit {0}
IsPieceNamed (Token lexeme) = IsNamed lexeme

abbrev pub BeginsNamed : Begins → Type 0
BeginsNamed (Ok x) = IsPieceNamed x.0
BeginsNamed (Err fault) = Unit {0}

either_named : (b : Bool) (x y : Begins) → BeginsNamed x → BeginsNamed y → BeginsNamed (cond b x y)
either_named true x y h k = h
either_named false x y h k = k

abbrev CasesNamed : List (Bool × Begins) → Type 0
CasesNamed [] = Unit {0}
CasesNamed (case ∷ cases) = (case.0 ≡ true → BeginsNamed case.1) × CasesNamed cases

cases_named : (cases : List (Bool × Begins)) (other : Begins) → CasesNamed cases → BeginsNamed other
    → BeginsNamed (first_case cases other)
cases_named [] other h k = k
cases_named (case ∷ cases) other h k = by_case (case.0) refl (cases_named cases other h.1 k)
  where
    by_case : (b : Bool) → case.0 ≡ b → BeginsNamed (first_case cases other)
        → BeginsNamed (cond b case.1 (first_case cases other))
    by_case true e others = h.0 e
    by_case false e others = others

-- ---- comments, marks and numbers

comment_named : (text : List ℕ) (o : Option (List ℕ)) → BeginsNamed (option_map_or gap o (breaks 3 text))
comment_named text None = tt
comment_named text (Some rest) = tt

mark_named : (text : List ℕ) (o : Option (Mark × List ℕ))
    → BeginsNamed (option_map_or (λ found. token (Marked found.0) found.1) o (breaks 2 text))
mark_named text None = tt
mark_named text (Some found) = tt

integer_named : (text : List ℕ) (value : Option ℕ) (decimal : Bool) (behind : List ℕ)
    → BeginsNamed (integer_at text value decimal behind)
integer_named text value decimal behind =
    either_named (first_passes is_exponent_letter behind) (breaks 2 text)
    (token (Integer value (encode_utf8_all (suffix_of behind)) decimal) (behind_suffix behind)) tt tt

based_named : (radix base : ℕ) (text inside : List ℕ) → BeginsNamed (based_at radix base text inside)
based_named radix base text inside =
    let value = in_128_bits (number_from radix base 0 inside) in
    cases_named (based_cases radix base text inside) (integer_at text value false (behind_digits radix inside))
    ((λ _. tt), ((λ _. tt), tt)) (integer_named text value false (behind_digits radix inside))

fraction_named : (text inside : List ℕ) → BeginsNamed (fraction_at text inside)
fraction_named text inside =
    cases_named (fraction_cases text (behind_digits 10 inside)) (float_at (behind_digits 10 inside))
    ((λ _. tt), ((λ _. tt), tt)) tt

decimal_named : (text : List ℕ) → BeginsNamed (decimal_at text)
decimal_named text =
    let value = in_128_bits (number_from 10 10 0 text) in
    cases_named (decimal_cases text (behind_digits 10 text)) (integer_at text value true (behind_digits 10 text))
    ((λ _. fraction_named text (drop 1 (behind_digits 10 text))), ((λ _. tt), tt))
    (integer_named text value true (behind_digits 10 text))

number_named : (c : ℕ) (cs : List ℕ) → BeginsNamed (number_at c cs)
number_named c cs =
    cases_named (number_cases c cs) (decimal_at (c ∷ cs)) (
      (λ _. based_named 16 16 (c ∷ cs) (drop 1 cs)),
      ((λ _. based_named 10 8 (c ∷ cs) (drop 1 cs)), ((λ _. based_named 10 2 (c ∷ cs) (drop 1 cs)), tt)),
    ) (decimal_named (c ∷ cs))

-- ---- characters, bytes and lifetimes

escaped_named : (kind : Quoted) (literal : ℕ → Lexeme) (text escaped : List ℕ) → ((c : ℕ) → IsNamed (literal c))
    → BeginsNamed (escaped_at kind literal text escaped)
escaped_named kind literal text escaped h = by_found (escape kind (drop 1 escaped))
  where
    by_found : (o : Option (ℕ × List ℕ)) → BeginsNamed (option_map_or (λ found. cond (begins_with (codes "'") found.1)
        (token (literal found.0) (drop 1 found.1)) (breaks 2 text)) o (breaks 5 escaped))
    by_found None = tt
    by_found (Some x) =
        either_named (begins_with (codes "'") x.1) (token (literal x.0) (drop 1 x.1)) (breaks 2 text) (h x.0) tt

plain_named : (literal : ℕ → Lexeme) (text inside : List ℕ) → ((c : ℕ) → IsNamed (literal c))
    → BeginsNamed (plain_at literal text inside)
plain_named literal text [] h = tt
plain_named literal text (c ∷ cs) h = h c

raw_lifetime_named : (text behind : List ℕ) → BeginsNamed (raw_lifetime_at text behind)
raw_lifetime_named text behind =
    either_named (can_be_raw (encode_utf8_all (name_of behind)) && not (begins_with (codes "'") (behind_name behind)))
    (token Lifetime (behind_name behind)) (breaks 2 text) tt tt

lifetime_named : (text behind : List ℕ) → BeginsNamed (lifetime_at text behind)
lifetime_named text behind =
    either_named (begins_with (codes "'") (behind_name behind)) (breaks 2 text)
    (token Lifetime (behind_name behind)) tt tt

quote_named : (text inside : List ℕ) → BeginsNamed (quote_at text inside)
quote_named text inside =
    cases_named (quote_cases text inside) (breaks 2 text) (
      (λ _. escaped_named quoted.Text Character text inside (λ c. tt)),
      (
        (λ _. plain_named Character text inside (λ c. tt)),
        ((λ _. raw_lifetime_named text (drop 2 inside)), ((λ _. lifetime_named text inside), tt)),
      ),
    ) tt

byte_named : (text inside : List ℕ) → BeginsNamed (byte_at text inside)
byte_named text inside =
    cases_named (byte_cases text inside) (breaks 2 text) (
      (λ _. escaped_named quoted.Bytes Byte text inside (λ c. tt)),
      ((λ _. plain_named Byte text inside (λ c. tt)), tt),
    ) tt

-- ---- texts

lexeme_of_text : (kind : Quoted) (value : List ℕ) → IsNamed (text_lexeme kind value)
lexeme_of_text quoted.Text value = tt
lexeme_of_text quoted.Bytes value = tt
lexeme_of_text quoted.CText value = tt

read_named : (kind : Quoted) (read : TextRead) → BeginsNamed (text_token kind read)
read_named kind (Ok x) = lexeme_of_text kind x.0
read_named kind (Err fault) = tt

text_named : (kind : Quoted) (text inside : List ℕ) → BeginsNamed (text_at kind text inside)
text_named kind text inside = read_named kind (text_from kind text 0 inside)

raw_text_named : (kind : Quoted) (text behind : List ℕ) → BeginsNamed (raw_text_at kind text behind)
raw_text_named kind text behind =
    let hashes = length (take_while is_hash behind) in
    let read = raw_from hashes text (drop 1 (skip_while is_hash behind)) in
    either_named (nat_le hashes 255) (text_token kind read) (breaks 2 text) (read_named kind read) tt

-- ---- names

raw_named : (text behind : List ℕ) → first_passes is_name_start behind ≡ true → BeginsNamed (raw_name_at text behind)
raw_named text [] h = absurd cc
raw_named text (c ∷ cs) h = by_raw (can_be_raw (encode_utf8_all (name_of (c ∷ cs)))) refl
  where
    by_raw : (b : Bool) → can_be_raw (encode_utf8_all (name_of (c ∷ cs))) ≡ b
        → BeginsNamed (cond b (token (Named (named (name_of (c ∷ cs))) true) (behind_name (c ∷ cs))) (breaks 2 text))
    by_raw true e = raw_name (name_of (c ∷ cs)) (identifier_of c cs h) e
    by_raw false e = tt

letter_named : (c : ℕ) (cs : List ℕ) → is_name_start c ≡ true → BeginsNamed (letter_at c cs)
letter_named c cs h =
    let text = c ∷ cs in
    cases_named (letter_cases c cs) (name_at text) (
      (λ _. byte_named text (drop 1 cs)),
      (
        (λ _. text_named quoted.Bytes text (drop 1 cs)),
        (
          (λ _. text_named quoted.CText text (drop 1 cs)),
          (
            (λ _. raw_text_named quoted.Text text cs),
            (
              (λ _. raw_text_named quoted.Bytes text (drop 1 cs)),
              (
                (λ _. raw_text_named quoted.CText text (drop 1 cs)),
                ((λ e. raw_named text (drop 1 cs) (and_parts _ _ e).1), tt),
              ),
            ),
          ),
        ),
      ),
    ) (lexeme_named (name_of text) (identifier_of c cs h))

-- what a text begins with
pub piece_named : (c : ℕ) (cs : List ℕ) → BeginsNamed (piece_at c cs)
unfolding piece_at
piece_named c cs =
    cases_named (piece_cases c cs) (mark_at (c ∷ cs)) (
      (λ _. tt),
      (
        (λ _. tt),
        (
          (λ _. comment_named (c ∷ cs) (comment_end 0 (drop 1 cs))),
          (
            (λ _. number_named c cs),
            (
              (λ _. quote_named (c ∷ cs) cs),
              ((λ _. text_named quoted.Text (c ∷ cs) cs), ((λ h. letter_named c cs h), tt)),
            ),
          ),
        ),
      ),
    ) (mark_named (c ∷ cs) (longest_mark (c ∷ cs)))
