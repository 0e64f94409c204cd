-- What the front of a text tells of a plain token that it begins with.
use Rattle.std.specs.Prelude.{◌≡◌, ℕ, List, [], ◌∷◌, Bool, true, not, nat_lt, ◌&&◌, ◌||◌, ◌==◌, nat_le, Option, Some, None, chars}
use Rattle.std.specs.Char.{is_ascii_alphanumeric}
use lib.Chars.{codes}
use denote.Ref.{Bor}
use Rattle.decl_lexer.specs.declared.read.PlainKind.{PlainKind}
use Rattle.decl_lexer.specs.Begins.{Begins, token}
use Rattle.decl_lexer.specs.Text.{is_one_of, first_passes}
use Rattle.decl_lexer.specs.Views.{plain_view}

-- the letters of ASCII but `b`, `c` and `r`, and `_`
abbrev pub is_plain_start : ℕ → Bool
is_plain_start c = c == 97 || (nat_le 100 c && nat_le c 113) || (nat_le 115 c && nat_le c 122) || (nat_le 65 c && nat_le c 90) || c == 95

-- what may be part of a quoted piece or a raw name behind `b`, `c` or `r`: a quote, `#`, or `r`, which may stand before them
abbrev pub is_quote_sign : ℕ → Bool
is_quote_sign c = is_one_of (codes "\"#'r") c

-- `b`, `c` or `r` with none of these behind it
abbrev pub is_letter_name : ℕ → List ℕ → Bool
is_letter_name c cs = is_one_of (codes "bcr") c && not (first_passes is_quote_sign cs)

-- the decimal digits but `0`
abbrev pub is_plain_digit : ℕ → Bool
is_plain_digit c = nat_le 49 c && nat_le c 57

-- the characters of ASCII but letters, digits, `_` and `.`: none of them goes on a number
abbrev pub ends_number : ℕ → Bool
ends_number c = nat_lt c 128 && not (is_ascii_alphanumeric c) && not (c == 95) && not (c == 46)

-- whether a text is empty or begins with one of them
abbrev pub starts_other : List ℕ → Bool
starts_other [] = true
starts_other (c ∷ cs) = ends_number c

-- the first characters of the commonest marks
abbrev pub is_plain_mark : ℕ → Bool
is_plain_mark c = is_one_of (codes "(){}[],;#:=|") c

-- nothing is said, or this token is what the definition gives
abbrev pub GivesPlain : Begins → Option (PlainKind × Bor (List ℕ)) → Type 0
GivesPlain read None = Unit {0}
GivesPlain read (Some p) = read ≡ token (plain_view p.0) (chars p.1.now)
