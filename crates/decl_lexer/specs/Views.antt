-- What a caller sees of pieces and of answers.
use Rattle.std.specs.Prelude.{◌≡◌, ℕ, true, false, List, [], Some, chars, String, string_bytes, Result, Ok, Err}
use Rattle.std.specs.Rc.{rc_str_bytes}
use denote.Ref.{Bor}
use Rattle.std.specs.declared.alloc.Global.{Global}
use Rattle.decl_lexer.specs.declared.marks.Mark.{Mark}
use Rattle.decl_lexer.specs.declared.token.TokenKind.{TokenKind}
use Rattle.decl_lexer.specs.declared.token.TokenKind.TheVariants as kinds
use Rattle.decl_lexer.specs.declared.token.Token as seen
use Rattle.decl_lexer.specs.declared.read.ReadKind.{ReadKind}
use Rattle.decl_lexer.specs.declared.read.ReadKind.TheVariants as read
use Rattle.decl_lexer.specs.declared.read.ReadToken.{ReadToken}
use Rattle.decl_lexer.specs.declared.read.PlainKind.{PlainKind}
use Rattle.decl_lexer.specs.declared.read.PlainKind.TheVariants as plain
use Rattle.decl_lexer.specs.declared.read.PlainToken.{PlainToken}
use Rattle.decl_lexer.specs.Lexing.{Placed}
use Rattle.decl_lexer.specs.declared.pieces.Piece as declared
use Rattle.decl_lexer.specs.declared.pieces.Piece.TheVariants as pieces
use Rattle.decl_lexer.specs.declared.pieces.PieceError.{PieceError}
use Rattle.decl_lexer.specs.declared.pieces.PieceError.TheVariants as errors
use Rattle.decl_lexer.specs.Texts.{TextRead}
use Rattle.decl_lexer.specs.Begins.{Lexeme, Named, Keyword, Marked, Lifetime, Integer, Float, Character, Byte, Text, ByteText, CText, Piece, Gap, Token, Fault, Begins}

-- a mark and the characters behind it
abbrev pub mark_view : Mark × Bor (List ℕ) → Mark × List ℕ
mark_view p = (p.0, chars p.1.now)

-- a character and the characters behind it
abbrev pub char_view : ℕ × Bor (List ℕ) → ℕ × List ℕ
char_view p = (p.0, chars p.1.now)

-- a token's kind, without where its text lies in memory
abbrev pub lexeme_view : TokenKind → Lexeme
lexeme_view (kinds.Name text raw) = Named (rc_str_bytes text.now) raw
lexeme_view (kinds.Word word) = Keyword word
lexeme_view (kinds.Mark mark) = Marked mark
lexeme_view kinds.Lifetime = Lifetime
lexeme_view (kinds.Small value) = Integer (Some value) [] true
lexeme_view (kinds.Int integer) = Integer integer.now.value (string_bytes integer.now.suffix) integer.now.decimal
lexeme_view kinds.Float = Float
lexeme_view (kinds.Char c) = Character c
lexeme_view (kinds.Byte b) = Byte b
lexeme_view (kinds.Str text) = Text (string_bytes text.now)
lexeme_view kinds.ByteStr = ByteText
lexeme_view kinds.CStr = CText

-- the same with its place
abbrev pub token_view : seen.Token → Placed
token_view t = record { lexeme = lexeme_view t.kind; from = t.from; to = t.to }

-- the same of a token that was read
abbrev pub read_view : ReadKind → Lexeme
read_view (read.Plain text raw) = Named text.now raw
read_view (read.Name text raw) = Named (string_bytes text) raw
read_view (read.Word word) = Keyword word
read_view (read.Mark mark) = Marked mark
read_view read.Lifetime = Lifetime
read_view (read.Small value) = Integer (Some value) [] true
read_view (read.Int integer) = Integer integer.value.value (string_bytes integer.value.suffix) integer.value.decimal
read_view read.Float = Float
read_view (read.Char c) = Character c
read_view (read.Byte b) = Byte b
read_view (read.Str text) = Text (string_bytes text)
read_view read.ByteStr = ByteText
read_view read.CStr = CText

-- the same with its place
abbrev pub read_token_view : ReadToken → Placed
read_token_view t = record { lexeme = read_view t.kind; from = t.from; to = t.to }

-- the same of a plain token
abbrev pub plain_view : PlainKind → Lexeme
plain_view (plain.Mark mark) = Marked mark
plain_view (plain.Word word) = Keyword word
plain_view (plain.Name text) = Named text.now false
plain_view (plain.Small value) = Integer (Some value) [] true

-- the same with its place
abbrev pub plain_token_view : PlainToken → Placed
plain_token_view t = record { lexeme = plain_view t.kind; from = t.from; to = t.to }

-- a piece, without where its text lies in memory
abbrev pub piece_view : declared.Piece → Piece
piece_view pieces.Gap = Gap
piece_view (pieces.Token kind) = Token (read_view kind)

-- memory ran out, or this fault is what the definition gives
abbrev pub Fails : {A : Type 0} → PieceError → Result A Fault → Type 0
Fails errors.Memory read = Unit {0}
Fails (errors.Fault rule rest) read = read ≡ Err (record { rule = rule; rest = chars rest.now })

-- what a function returned is what the definition gives, unless memory ran out
abbrev pub GivesPiece : Result (declared.Piece × Bor (List ℕ)) PieceError → Begins → Type 0
GivesPiece (Ok x) read = read ≡ Ok (piece_view x.0, chars x.1.now)
GivesPiece (Err e) read = Fails e read

-- the same of a text that is read, and the characters behind it
abbrev pub GivesText : Result (String Global × Bor (List ℕ)) PieceError → TextRead → Type 0
GivesText (Ok x) read = read ≡ Ok (string_bytes x.0, chars x.1.now)
GivesText (Err e) read = Fails e read
