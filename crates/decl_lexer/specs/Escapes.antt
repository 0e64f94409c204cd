-- Escapes (the Rust Reference, "Character escapes", "Byte escapes" and "Unicode escapes").
use Rattle.std.specs.Prelude.{ℕ, ◌+◌, ◌*◌, Bool, true, false, ◌&&◌, List, [], ◌∷◌, drop, nat_le, Option, Some, None, option_map, if◌then◌else◌}
use lib.Utf8.{scalar}
use Rattle.std.specs.Char.{digit_value, is_digit}
use lib.Chars.{codes}
use Rattle.decl_lexer.specs.Text.{first_passes, begins_with, is_one_of, is_underscore}
use Rattle.decl_lexer.specs.Tables.{with_text}
use Rattle.decl_lexer.specs.Marks.{or_else}
use Rattle.decl_lexer.specs.Numbers.{behind_digits, number_from}
use Rattle.decl_lexer.specs.declared.escapes.Quoted.{Quoted}
use Rattle.decl_lexer.specs.declared.escapes.Quoted.TheVariants.{Text, Bytes, CText}

-- `\x` is at most 7F in characters and texts
abbrev pub greatest_hex : Quoted → ℕ
greatest_hex Text = 0x7F
greatest_hex Bytes = 0xFF
greatest_hex CText = 0xFF

-- `\u` is in no byte and no byte text
abbrev pub has_unicode : Quoted → Bool
has_unicode Text = true
has_unicode Bytes = false
has_unicode CText = true

-- the characters that stand behind a backslash alone, each with the character that the escape stands for
abbrev pub simple_escapes : List (List ℕ × ℕ)
simple_escapes =
    (codes "n", 10) ∷
    (codes "r", 13) ∷
    (codes "t", 9) ∷
    (codes "\\", 92) ∷
    (codes "0", 0) ∷
    (codes "'", 39) ∷
    (codes "\"", 34) ∷ []

-- the character that a backslash and this character stand for
abbrev pub simple_escape : ℕ → Option ℕ
simple_escape c = with_text simple_escapes (c ∷ [])

-- two hexadecimal digits behind `\x`
abbrev pub hex_escape : Quoted → List ℕ → Option (ℕ × List ℕ)
hex_escape kind [] = None
hex_escape kind (high ∷ []) = None
hex_escape kind (high ∷ low ∷ cs) =
    if is_digit high 16 && is_digit low 16 && nat_le (16 * digit_value high + digit_value low) (greatest_hex kind) then Some (16 * digit_value high + digit_value low, cs)
    else None

-- how many digits are among the digits and underscores that a text begins with
abbrev pub digit_count : ℕ → List ℕ → ℕ
digit_count radix [] = 0
digit_count radix (c ∷ cs) = if is_underscore c then digit_count radix cs else (if is_digit c radix then digit_count radix cs + 1 else 0)

-- behind `\u{`: 1 to 6 hexadecimal digits, with underscores behind the first, then `}`; they write a Unicode scalar value
abbrev pub is_unicode_escape : List ℕ → Bool
is_unicode_escape cs =
    first_passes (λ c. is_digit c 16) cs && nat_le (digit_count 16 cs) 6 && begins_with (codes "}") (behind_digits 16 cs) && scalar (number_from 16 16 0 cs)

-- an escape behind `\u`
abbrev pub unicode_escape : List ℕ → Option (ℕ × List ℕ)
unicode_escape cs =
    if begins_with (codes "{") cs && is_unicode_escape (drop 1 cs) then Some (number_from 16 16 0 (drop 1 cs), drop 1 (behind_digits 16 (drop 1 cs)))
    else None

-- the character that an escape stands for, and what follows, in a text that stands behind its backslash; all else there is no escape
abbrev pub escape : Quoted → List ℕ → Option (ℕ × List ℕ)
escape kind [] = None
escape kind (c ∷ cs) =
    or_else (option_map (λ value. (value, cs)) (simple_escape c))
    (if is_one_of (codes "x") c then hex_escape kind cs
    else (if is_one_of (codes "u") c && has_unicode kind then unicode_escape cs
    else None))
