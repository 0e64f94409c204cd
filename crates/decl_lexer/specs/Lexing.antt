-- The tokens of a source text, or its first fault.
use Rattle.std.specs.Prelude.{◌≡◌, ℕ, ◌+◌, ◌<◌, ◌≤◌, List, [], ◌∷◌, ◌++◌, length, drop, chars, Ok, Err, if◌then◌else◌, encode_utf8_all, ◌⊎◌}
use Rattle.std.specs.Str.{IsUtf8, IsValidUpTo}
use lib.Chars.{codes}
use Rattle.decl_lexer.specs.Begins.{Lexeme, Gap, Token, Fault}
use Rattle.decl_lexer.specs.Text.{begins_with}
use Rattle.decl_lexer.specs.Pieces.{piece_at}

-- a token, and the bytes from which and to which it stands
pub record Placed : Type 0 where
  pub lexeme : Lexeme
  pub from : ℕ
  pub to : ℕ

-- how many bytes the characters take
abbrev pub width : List ℕ → ℕ
width cs = length (encode_utf8_all cs)

-- what comes first in a text, behind whitespace and comments: its end, a token and what stands behind it, or a fault
pub data First : Type 0 where
  End : First
  Found : Placed → List ℕ → First
  Broken : ℕ → ℕ → First

-- in a text that begins at this byte, this comes first
pub data Finds : ℕ → List ℕ → First → Type 0 where
  nothing : (at : ℕ) → Finds at [] End
  takes : (at c : ℕ) (cs front rest : List ℕ) (lexeme : Lexeme) → piece_at c cs ≡ Ok (Token lexeme, rest) → cs ≡ front ++ rest
      → Finds at (c ∷ cs) (Found (record { lexeme = lexeme; from = at; to = at + width (c ∷ front) }) rest)
  fails : (at c : ℕ) (cs front : List ℕ) (fault : Fault) → piece_at c cs ≡ Err fault → c ∷ cs ≡ front ++ fault.rest
      → Finds at (c ∷ cs) (Broken fault.rule (at + width front))
  skips : (at c : ℕ) (cs front rest : List ℕ) (first : First) → piece_at c cs ≡ Ok (Gap, rest) → cs ≡ front ++ rest
      → Finds (at + width (c ∷ front)) rest first → Finds at (c ∷ cs) first

-- a text that begins at this byte is pieces from start to end, and these are its tokens
pub data Lexes : ℕ → List ℕ → List Placed → Type 0 where
  ends : (at : ℕ) (cs : List ℕ) → Finds at cs End → Lexes at cs []
  goes_on : (at : ℕ) (cs rest : List ℕ) (token : Placed) (tokens : List Placed) → Finds at cs (Found token rest) → Lexes token.to rest tokens → Lexes at cs (token ∷ tokens)

-- in a text that begins at this byte, behind the pieces that it begins with, this rule is broken at this byte
pub data Faults (rule place : ℕ) : ℕ → List ℕ → Type 0 where
  here : (at : ℕ) (cs : List ℕ) → Finds at cs (Broken rule place) → Faults rule place at cs
  later : (at : ℕ) (cs rest : List ℕ) (token : Placed) → Finds at cs (Found token rest) → Faults rule place token.to rest → Faults rule place at cs

-- the characters without a byte order mark at the start
abbrev pub without_mark : List ℕ → List ℕ
without_mark cs = if begins_with (codes "\u{feff}") cs then drop 1 cs else cs

-- how many bytes a byte order mark at the start takes
abbrev pub mark_width : List ℕ → ℕ
mark_width cs = if begins_with (codes "\u{feff}") cs then 3 else 0

-- the bytes are UTF-8 and are a text of these tokens
abbrev pub HasTokens : List ℕ → List Placed → Type 0
HasTokens bytes tokens = IsUtf8 bytes × Lexes (mark_width (chars bytes)) (without_mark (chars bytes)) tokens

-- the first fault of the bytes is of this rule, at this byte: bytes that are no UTF-8 come before all else
abbrev pub HasFault : List ℕ → ℕ → ℕ → Type 0
HasFault bytes rule place =
    ((rule ≡ 1) × IsValidUpTo bytes place)
    ⊎ (IsUtf8 bytes × Faults rule place (mark_width (chars bytes)) (without_mark (chars bytes)))

-- the tokens stand between these bytes, each from a byte to a later one, and none begins before the end of the one before it
abbrev pub AreInOrder : ℕ → ℕ → List Placed → Type 0
AreInOrder from to [] = from ≤ to
AreInOrder from to (token ∷ tokens) = (from ≤ token.from) × (token.from < token.to) × AreInOrder token.to to tokens
