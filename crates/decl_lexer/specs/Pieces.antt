-- What a text begins with: whitespace, a comment or a token, or else a fault.
use Rattle.std.specs.Prelude.{ℕ, Bool, ◌&&◌, List, [], ◌∷◌, drop}
use Rattle.std.specs.Char.{is_digit}
use lib.Chars.{codes}
use Rattle.decl_lexer.specs.Begins.{Begins, gap, first_case}
use Rattle.decl_lexer.specs.Text.{skip_while, first_passes, begins_with}
use Rattle.decl_lexer.specs.Gaps.{is_space, is_within_line, comment_at}
use Rattle.decl_lexer.specs.Names.{is_name_start, name_at, raw_name_at}
use Rattle.decl_lexer.specs.Numbers.{number_at}
use Rattle.decl_lexer.specs.Characters.{quote_at, byte_at}
use Rattle.decl_lexer.specs.Texts.{text_at, is_raw_text, raw_text_at}
use Rattle.decl_lexer.specs.declared.escapes.Quoted.TheVariants.{Text, Bytes, CText}
use Rattle.decl_lexer.specs.Marks.{mark_at}

-- the first of these cases that holds decides what a text begins with whose first character c may begin an identifier
abbrev pub letter_cases : ℕ → List ℕ → List (Bool × Begins)
letter_cases c cs =
    -- `b'` begins a byte
    (begins_with (codes "b'") (c ∷ cs), byte_at (c ∷ cs) (drop 1 cs)) ∷
    -- `b` and a quote begin a byte text
    (begins_with (codes "b\"") (c ∷ cs), text_at Bytes (c ∷ cs) (drop 1 cs)) ∷
    -- `c` and a quote begin a C text
    (begins_with (codes "c\"") (c ∷ cs), text_at CText (c ∷ cs) (drop 1 cs)) ∷
    -- `r`, `#` and a quote begin a raw text
    (begins_with (codes "r") (c ∷ cs) && is_raw_text cs, raw_text_at Text (c ∷ cs) cs) ∷
    -- `br`, `#` and a quote begin a raw byte text
    (begins_with (codes "br") (c ∷ cs) && is_raw_text (drop 1 cs), raw_text_at Bytes (c ∷ cs) (drop 1 cs)) ∷
    -- `cr`, `#` and a quote begin a raw C text
    (begins_with (codes "cr") (c ∷ cs) && is_raw_text (drop 1 cs), raw_text_at CText (c ∷ cs) (drop 1 cs)) ∷
    -- `r#` and an identifier are a raw name
    (begins_with (codes "r#") (c ∷ cs) && first_passes is_name_start (drop 1 cs), raw_name_at (c ∷ cs) (drop 1 cs)) ∷ []

-- else it begins with an identifier
abbrev pub letter_at : ℕ → List ℕ → Begins
letter_at c cs = first_case (letter_cases c cs) (name_at (c ∷ cs))

-- the first of these cases that holds decides what a text begins with whose first character is c
abbrev pub piece_cases : ℕ → List ℕ → List (Bool × Begins)
piece_cases c cs =
    -- whitespace
    (is_space c, gap (skip_while is_space cs)) ∷
    -- `//` begins a comment to the end of the line
    (begins_with (codes "//") (c ∷ cs), gap (skip_while is_within_line cs)) ∷
    -- `/*` begins a comment to its own `*/`
    (begins_with (codes "/*") (c ∷ cs), comment_at (c ∷ cs) (drop 1 cs)) ∷
    -- numbers begin with a decimal digit
    (is_digit c 10, number_at c cs) ∷
    -- `'` begins a character or a lifetime
    (begins_with (codes "'") (c ∷ cs), quote_at (c ∷ cs) cs) ∷
    -- a quote begins a text
    (begins_with (codes "\"") (c ∷ cs), text_at Text (c ∷ cs) cs) ∷
    -- names, and what else begins with a letter
    (is_name_start c, letter_at c cs) ∷ []

-- else it begins with a mark, and where there is none no token begins there
unfoldable pub piece_at : ℕ → List ℕ → Begins
piece_at c cs = first_case (piece_cases c cs) (mark_at (c ∷ cs))
