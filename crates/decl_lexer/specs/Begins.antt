-- What a text may begin with.
use Rattle.std.specs.Prelude.{ℕ, Bool, List, [], ◌∷◌, Option, Some, None, Result, Ok, Err, if◌then◌else◌}
use Rattle.decl_lexer.specs.declared.words.Word.{Word}
use Rattle.decl_lexer.specs.declared.marks.Mark.{Mark}

-- a token without its place; texts stand in UTF-8
pub data Lexeme : Type 0 where
  Named : List ℕ → Bool → Lexeme
  Keyword : Word → Lexeme
  Marked : Mark → Lexeme
  Lifetime : Lexeme
  Integer : Option ℕ → List ℕ → Bool → Lexeme
  Float : Lexeme
  Character : ℕ → Lexeme
  Byte : ℕ → Lexeme
  Text : List ℕ → Lexeme
  ByteText : Lexeme
  CText : Lexeme

-- the mark that a token is
abbrev pub mark_of : Lexeme → Option Mark
mark_of (Marked mark) = Some mark
mark_of _ = None

-- the keyword that a token is
abbrev pub keyword_of : Lexeme → Option Word
keyword_of (Keyword word) = Some word
keyword_of _ = None

-- the text of the name that a token is
abbrev pub name_of : Lexeme → Option (List ℕ)
name_of (Named text raw) = Some text
name_of _ = None

-- whitespace or a comment, or a token
pub data Piece : Type 0 where
  Gap : Piece
  Token : Lexeme → Piece

-- a rule that is broken, and the text from there on
pub record Fault : Type 0 where
  pub rule : ℕ
  pub rest : List ℕ

-- the piece that a text begins with and what stands behind it, or the fault
abbrev pub Begins : Type 0
Begins = Result (Piece × List ℕ) Fault

-- whitespace or a comment, and what stands behind it
abbrev pub gap : List ℕ → Begins
gap rest = Ok (Gap, rest)

-- a token, and what stands behind it
abbrev pub token : Lexeme → List ℕ → Begins
token lexeme rest = Ok (Token lexeme, rest)

-- a rule is broken where this text begins
abbrev pub breaks : ℕ → List ℕ → Begins
breaks rule rest = Err (record { rule = rule; rest = rest })

-- what the first of these cases whose condition holds gives, or else the last one
abbrev pub first_case : List (Bool × Begins) → Begins → Begins
first_case [] other = other
first_case (case ∷ cases) other = if case.0 then case.1 else first_case cases other
