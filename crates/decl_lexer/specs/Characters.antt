-- Character and byte literals, and lifetimes (the Rust Reference, "Character literals", "Byte literals" and "Lifetimes and loop labels").
use Rattle.std.specs.Prelude.{ℕ, Bool, ◌&&◌, not, List, [], ◌∷◌, drop, if◌then◌else◌, encode_utf8_all}
use Rattle.std.specs.Char.{is_ascii}
use Rattle.std.specs.Option.{option_map_or}
use lib.Chars.{codes}
use Rattle.decl_lexer.specs.Begins.{Lexeme, Lifetime, Character, Byte, Begins, token, breaks, first_case}
use Rattle.decl_lexer.specs.Text.{first_passes, begins_with, is_one_of}
use Rattle.decl_lexer.specs.Words.{can_be_raw}
use Rattle.decl_lexer.specs.Names.{is_name_start, name_of, behind_name}
use Rattle.decl_lexer.specs.Escapes.{escape}
use Rattle.decl_lexer.specs.declared.escapes.Quoted.{Quoted}
use Rattle.decl_lexer.specs.declared.escapes.Quoted.TheVariants.{Text, Bytes}

-- a character that stands for itself between quotes: no `'`, line feed, CR or tab
abbrev pub is_plain : ℕ → Bool
is_plain c = not (is_one_of (codes "'\n\r\t") c)

-- an ASCII character that stands for itself in a byte literal
abbrev pub is_plain_byte : ℕ → Bool
is_plain_byte c = is_ascii c && is_plain c

-- a literal whose escape stands at its backslash: rule 5 where there is no escape, rule 2 where no `'` follows it
abbrev pub escaped_at : Quoted → (ℕ → Lexeme) → List ℕ → List ℕ → Begins
escaped_at kind literal text escaped =
    option_map_or (λ found. if begins_with (codes "'") found.1 then token (literal found.0) (drop 1 found.1) else breaks 2 text)
    (escape kind (drop 1 escaped)) (breaks 5 escaped)

-- a literal of the first character, behind which a `'` stands
abbrev pub plain_at : (ℕ → Lexeme) → List ℕ → List ℕ → Begins
plain_at literal text [] = breaks 2 text
plain_at literal text (c ∷ cs) = token (literal c) (drop 1 cs)

-- a raw lifetime, whose name this begins with: no token where that name can't be raw or where a `'` follows
abbrev pub raw_lifetime_at : List ℕ → List ℕ → Begins
raw_lifetime_at text named =
    if can_be_raw (encode_utf8_all (name_of named)) && not (begins_with (codes "'") (behind_name named)) then token Lifetime (behind_name named)
    else breaks 2 text

-- a lifetime, whose name this begins with: no token where a `'` follows
abbrev pub lifetime_at : List ℕ → List ℕ → Begins
lifetime_at text named = if begins_with (codes "'") (behind_name named) then breaks 2 text else token Lifetime (behind_name named)

-- the first of these cases that holds decides at a `'`, behind which this stands
abbrev pub quote_cases : List ℕ → List ℕ → List (Bool × Begins)
quote_cases text inside =
    -- a backslash follows: an escape and a `'` are a character
    (begins_with (codes "\\") inside, escaped_at Text Character text inside) ∷
    -- one character and a `'` follow
    (first_passes is_plain inside && begins_with (codes "'") (drop 1 inside), plain_at Character text inside) ∷
    -- `r#` and an identifier or `_` follow
    (begins_with (codes "r#") inside && first_passes is_name_start (drop 2 inside), raw_lifetime_at text (drop 2 inside)) ∷
    -- an identifier or `_` follows
    (first_passes is_name_start inside, lifetime_at text inside) ∷ []

-- else no token begins there
abbrev pub quote_at : List ℕ → List ℕ → Begins
quote_at text inside = first_case (quote_cases text inside) (breaks 2 text)

-- the first of these cases that holds decides at `b'`, behind which this stands
abbrev pub byte_cases : List ℕ → List ℕ → List (Bool × Begins)
byte_cases text inside =
    -- a backslash follows: a byte escape and a `'` are a byte
    (begins_with (codes "\\") inside, escaped_at Bytes Byte text inside) ∷
    -- one ASCII character and a `'` follow
    (first_passes is_plain_byte inside && begins_with (codes "'") (drop 1 inside), plain_at Byte text inside) ∷ []

-- else no token begins there
abbrev pub byte_at : List ℕ → List ℕ → Begins
byte_at text inside = first_case (byte_cases text inside) (breaks 2 text)
