-- The tokens as the grammar of types and patterns counts them: each `&&` is two `&`, and each `>>` two `>`
-- (Rust Reference, Tokens, and Types and Patterns for where they are split).
use Rattle.std.specs.Prelude.{ℕ, ◌-◌, Bool, true, false, List, [], ◌∷◌, ◌++◌, Option, Some, None, option_map, if◌then◌else◌}
use denote.Enum.Bare.{sameb}
use Rattle.decl_lexer.specs.declared.marks.Mark.{Mark}
use Rattle.decl_lexer.specs.declared.marks.Mark.TheVariants as marks
use Rattle.decl_lexer.specs.declared.words.Word.{Word}
use Rattle.decl_lexer.specs.contracts.marks.Mark as mark_contract
use Rattle.decl_lexer.specs.contracts.words.Word as word_contract
use Rattle.decl_lexer.specs.Begins.{Lexeme, Keyword, Marked, Lifetime, Integer}
pub use Rattle.decl_lexer.specs.Begins.{mark_of, name_of}
use Rattle.decl_lexer.specs.Views.{lexeme_view}
use Rattle.decl_lexer.specs.Lexing.{Placed}
use Rattle.decl_lexer.specs.Stored.{rest_view}
use Rattle.decl_syntax.specs.declared.cursor.Cursor.{Cursor}
use Rattle.decl_syntax.specs.declared.cursor.Place.{Place}
use Rattle.decl_syntax.specs.declared.cursor.Place.TheVariants as places
use Rattle.decl_syntax.specs.declared.cursor.Unit as declared
use Rattle.decl_syntax.specs.declared.cursor.Seen.{Seen}
use Rattle.decl_syntax.specs.declared.cursor.Seen.TheVariants as seen

-- the mark of which a token is two
abbrev pub doubled_mark : Lexeme → Option Mark
doubled_mark (Marked marks.And) = Some marks.Ampersand
doubled_mark (Marked marks.ShiftRight) = Some marks.Greater
doubled_mark _ = None

-- the second of two marks is the last byte of their token
abbrev pub second_half : Mark → ℕ → Placed
second_half mark to = record { lexeme = Marked mark; from = to - 1; to = to }

-- a token, or the two marks that it counts as
abbrev pub halves : Placed → Option Mark → List Placed
halves t None = t ∷ []
halves t (Some mark) = record { lexeme = Marked mark; from = t.from; to = t.to - 1 } ∷ second_half mark t.to ∷ []

-- the tokens, with each `&&` and `>>` as two marks
unfoldable pub units : List Placed → List Placed
units [] = []
units (t ∷ ts) = halves t (doubled_mark t.lexeme) ++ units ts

-- what is left of a token behind the first of its two marks, and all of it where it is not two
abbrev pub later_half : Placed → Option Mark → List Placed
later_half t None = t ∷ []
later_half t (Some mark) = second_half mark t.to ∷ []

-- the same of the first of these tokens, and the others
unfoldable pub units_within : List Placed → List Placed
units_within [] = []
units_within (t ∷ ts) = later_half t (doubled_mark t.lexeme) ++ units ts

-- the tokens from the one on before or within which a place stands
abbrev pub tokens_of : Place → List Placed
tokens_of (places.Before rest) = rest_view rest
tokens_of (places.Within rest) = rest_view rest

-- the tokens behind a place
abbrev pub place_view : Place → List Placed
place_view (places.Before rest) = units (rest_view rest)
place_view (places.Within rest) = units_within (rest_view rest)

-- the same of a place in a source
unfoldable pub left : Cursor → List Placed
left c = place_view c.place

-- a token without where its text lies in memory
abbrev pub seen_view : Seen → Lexeme
seen_view (seen.Mark mark) = Marked mark
seen_view (seen.Other kind) = lexeme_view kind

-- the same with its place
abbrev pub unit_view : declared.Unit → Placed
unit_view u = record { lexeme = seen_view u.kind; from = u.from; to = u.to }

-- whether two marks are the same
abbrev pub same_mark : Mark → Mark → Bool
same_mark = sameb mark_contract.the_type

-- whether two keywords are the same
abbrev pub same_word : Word → Word → Bool
same_word = sameb word_contract.the_type

-- whether a token is this mark
abbrev pub is_mark : Mark → Lexeme → Bool
is_mark mark (Marked other) = same_mark other mark
is_mark mark _ = false

-- whether a token is this keyword
abbrev pub is_word : Word → Lexeme → Bool
is_word word (Keyword other) = same_word other word
is_word word _ = false

-- the tokens behind the first, if that passes
abbrev pub behind : (Lexeme → Bool) → List Placed → Option (List Placed)
behind passes [] = None
behind passes (t ∷ ts) = if passes t.lexeme then Some ts else None

-- whether there is a first token and it passes
abbrev pub first_passes : (Lexeme → Bool) → List Placed → Bool
first_passes passes [] = false
first_passes passes (t ∷ ts) = passes t.lexeme

-- the byte at which the first token begins, and 0 where there is none
abbrev pub from_of : List Placed → ℕ
from_of [] = 0
from_of (t ∷ ts) = t.from

-- whether the first token passes, and the tokens behind it or else all of them
abbrev pub flag_from : Option (List Placed) → List Placed → Bool × List Placed
flag_from (Some rest) ts = (true, rest)
flag_from None ts = (false, ts)

-- the same, from the test
abbrev pub flag_at : (Lexeme → Bool) → List Placed → Bool × List Placed
flag_at passes ts = flag_from (behind passes ts) ts

-- whether a token is a lifetime
abbrev pub is_lifetime : Lexeme → Bool
is_lifetime Lifetime = true
is_lifetime _ = false

-- a token's mark, if it is one
abbrev pub mark_seen : Lexeme → Option (Option Mark)
mark_seen t = Some (mark_of t)

-- what the first token stands for, and the tokens behind it
abbrev pub token_at : {A : Type 0} → (Lexeme → Option A) → List Placed → Option (A × List Placed)
token_at meaning [] = None
token_at meaning (t ∷ ts) = option_map (λ x. (x, ts)) (meaning t.lexeme)

-- the value and the suffix of an integer
abbrev pub integer_of : Lexeme → Option (Option ℕ × List ℕ)
integer_of (Integer value suffix decimal) = Some (value, suffix)
integer_of _ = None
