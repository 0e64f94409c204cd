-- The tokens of a source by what they are to places, and how many brackets are open around each. Tokens are counted as the
-- grammar counts them: `&&` is two `&`.
use Rattle.std.specs.Prelude.{ℕ, ◌+◌, ◌-◌, ◌^◌, min, List, [], ◌∷◌, Bool, true, false, if◌then◌else◌}
use Rattle.decl_lexer.specs.declared.marks.Mark.TheVariants as marks
use Rattle.decl_lexer.specs.declared.words.Word.TheVariants as words
use Rattle.decl_lexer.specs.Begins.{Lexeme, Named, Keyword, Marked}
use Rattle.decl_lexer.specs.Lexing.{Placed, HasTokens, HasFault}
use Rattle.decl_syntax.specs.Units.{units}
use Rattle.explain_places.specs.declared.pieces.Class.{Class}
use Rattle.explain_places.specs.declared.pieces.Class.TheVariants as classes
use Rattle.explain_places.specs.declared.pieces.Piece.{Piece}

-- what a token is to places
abbrev pub class_of : Lexeme → Class
class_of (Named text raw) = classes.Name
class_of (Keyword words.Fn) = classes.Function
class_of (Keyword words.Match) = classes.Match
class_of (Keyword words.If) = classes.If
class_of (Marked marks.FatArrow) = classes.Arrow
class_of (Marked marks.Bar) = classes.Bar
class_of (Marked marks.Comma) = classes.Comma
class_of (Marked marks.OpenCurly) = classes.OpenBlock
class_of (Marked marks.OpenRound) = classes.Open
class_of (Marked marks.OpenSquare) = classes.Open
class_of (Marked marks.CloseCurly) = classes.Close
class_of (Marked marks.CloseRound) = classes.Close
class_of (Marked marks.CloseSquare) = classes.Close
class_of _ = classes.Other

-- the token opens a bracket
abbrev pub opens : Class → Bool
opens classes.OpenBlock = true
opens classes.Open = true
opens _ = false

-- the token closes a bracket
abbrev pub closes : Class → Bool
closes classes.Close = true
closes _ = false

-- one more, as far as the machine counts
abbrev pub one_more : ℕ → ℕ
one_more n = min (n + 1) (2 ^ 64 - 1)

-- how many brackets are open around a token before which so many are open: a closing one is no part of what it closes
abbrev pub depth_at : ℕ → Class → ℕ
depth_at depth class = if closes class then depth - 1 else depth

-- how many brackets are open behind it
abbrev pub depth_behind : ℕ → Class → ℕ
depth_behind depth class = if opens class then one_more depth else depth_at depth class

-- a token, before which so many brackets are open
abbrev pub piece_of : ℕ → Placed → Piece
piece_of depth t = record { class = class_of t.lexeme; depth = depth_at depth (class_of t.lexeme); from = t.from; to = t.to }

-- tokens, before which so many brackets are open
unfoldable pub pieces_from : ℕ → List Placed → List Piece
pieces_from depth [] = []
pieces_from depth (t ∷ ts) = piece_of depth t ∷ pieces_from (depth_behind depth (class_of t.lexeme)) ts

-- the pieces of a source are its tokens, or none where it has a fault
pub data ArePieces (source : List ℕ) : List Piece → Type 0 where
  tokens : (ts : List Placed) → HasTokens source ts → ArePieces source (pieces_from 0 (units ts))
  fault : (rule place : ℕ) → HasFault source rule place → ArePieces source []
