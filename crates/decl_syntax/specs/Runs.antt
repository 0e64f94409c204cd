-- Tokens whose brackets pair up, and attributes (Rust Reference, Attributes, and Macros for the runs).
use Rattle.std.specs.Prelude.{◌≡◌, ℕ, Bool, true, false, List, [], ◌∷◌, ◌++◌, Option, Some, None, Result, Ok, Err, if◌then◌else◌}
use Rattle.decl_lexer.specs.declared.marks.Mark.{Mark}
use Rattle.decl_lexer.specs.declared.marks.Mark.TheVariants as marks
use Rattle.decl_lexer.specs.Begins.{Lexeme, Marked}
use Rattle.decl_lexer.specs.Lexing.{Placed}
use Rattle.decl_syntax.specs.declared.stop.Stop.{Stop}
use Rattle.decl_syntax.specs.declared.stop.Stop.TheVariants as stops
use Rattle.decl_syntax.specs.declared.attributes.Part as declared
use Rattle.decl_syntax.specs.declared.attributes.Part.TheVariants as parts
use Rattle.decl_syntax.specs.Units.{is_mark, name_of}
pub use Rattle.decl_lexer.specs.Begins.{mark_of}
use Rattle.decl_syntax.specs.Patterns.{AttrTree}
use Rattle.decl_syntax.specs.Grammar.{IsMark, Many}

-- what a token is to brackets: it opens one, which this mark closes, or closes one, or neither
pub data Part : Type 0 where
  Opens : Mark → Part
  Closes : Part
  Inside : Part

-- the same of a token
abbrev pub part_of : Lexeme → Part
part_of (Marked marks.OpenRound) = Opens marks.CloseRound
part_of (Marked marks.OpenSquare) = Opens marks.CloseSquare
part_of (Marked marks.OpenCurly) = Opens marks.CloseCurly
part_of (Marked marks.CloseRound) = Closes
part_of (Marked marks.CloseSquare) = Closes
part_of (Marked marks.CloseCurly) = Closes
part_of _ = Inside

-- what a caller sees of it
abbrev pub part_view : declared.Part → Part
part_view (parts.Opens mark) = Opens mark
part_view parts.Closes = Closes
part_view parts.Inside = Inside

-- the marks that are still to close the open brackets, the innermost first, behind a token; nothing where it closes another bracket
abbrev pub behind_part : Part → Lexeme → List Mark → Option (List Mark)
behind_part (Opens mark) t open_ = Some (mark ∷ open_)
behind_part Closes t [] = None
behind_part Closes t (mark ∷ open_) = if is_mark mark t then Some open_ else None
behind_part Inside t open_ = Some open_

-- memory ran out, or these are the marks behind the token, or it closes another bracket
abbrev pub Tracks : Result Bool Stop → Option (List Mark) → List Mark → Type 0
Tracks (Ok true) behind now = behind ≡ Some now
Tracks (Ok false) behind now = behind ≡ None
Tracks (Err stops.Memory) behind now = Unit {0}
Tracks (Err stops.Syntax) behind now = ⊥

-- whether brackets pair up, where these are still to be closed
abbrev pub pairs_behind : (List Mark → Bool) → Option (List Mark) → Bool
pairs_behind others None = false
pairs_behind others (Some open_) = others open_

abbrev pub pairs_up : List Placed → List Mark → Bool
pairs_up [] [] = true
pairs_up [] (mark ∷ open_) = false
pairs_up (t ∷ ts) open_ = pairs_behind (pairs_up ts) (behind_part (part_of t.lexeme) t.lexeme open_)

-- this, or else another one
abbrev pub or_else : {A : Type 0} → Option A → Option A → Option A
or_else None other = other
or_else (Some x) other = Some x

-- the first name among tokens
abbrev pub first_name : List Placed → Option (List ℕ)
first_name [] = None
first_name (t ∷ ts) = or_else (name_of t.lexeme) (first_name ts)

-- a text, or an empty one
abbrev pub text_of : Option (List ℕ) → List ℕ
text_of None = []
text_of (Some text) = text

-- "#" "[" a run that is not empty "]"
pub data SpellsAttribute : List Placed → AttrTree → List Placed → Type 0 where
  attribute : (hash opening closing first : Placed) (run rest : List Placed) → IsMark marks.Hash hash → IsMark marks.OpenSquare opening
      → pairs_up (first ∷ run) [] ≡ true → IsMark marks.CloseSquare closing
      → SpellsAttribute (hash ∷ opening ∷ first ∷ run ++ closing ∷ rest) (record { from = hash.from; word = text_of (first_name (first ∷ run)) }) rest

-- attributes one after the other, up to a token that is no "#"
abbrev pub SpellsAttributes : List Placed → List AttrTree → List Placed → Type 0
SpellsAttributes = Many marks.Hash SpellsAttribute

-- tokens begin with at most one list of attributes
abbrev pub OneAttributeList : Type 0
OneAttributeList = (ts us vs : List Placed) (as_ bs : List AttrTree) → SpellsAttributes ts as_ us → SpellsAttributes ts bs vs → (as_ ≡ bs) × (us ≡ vs)
