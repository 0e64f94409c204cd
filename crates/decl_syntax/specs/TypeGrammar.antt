-- What types are spelled by, a case for each form of docs/grammar.md (Rust Reference, Types; the levels are our own
-- choice).
use Rattle.std.specs.Prelude.{◌≡◌, ℕ, zero, suc, Bool, List, [], ◌∷◌, Option, Some, None}
use Rattle.decl_lexer.specs.declared.marks.Mark.TheVariants as marks
use Rattle.decl_lexer.specs.declared.words.Word.TheVariants as words
use Rattle.decl_lexer.specs.Begins as lexemes
use Rattle.decl_lexer.specs.Lexing.{Placed}
use Rattle.decl_syntax.specs.Units.{is_mark, is_word, is_lifetime}
use Rattle.decl_syntax.specs.Types.{TypeTree, Never, Tuple, Point, Slice, Array, Named, none, more, types_from}
use Rattle.decl_syntax.specs.Grammar.{Spelling, IsMark, NextIsNot, CommaList, Maybe}

-- what stands between `<` and `>`: a lifetime, which leaves nothing, or a type
pub data ArgumentForm (Inner : Spelling TypeTree) : List Placed → Option TypeTree → List Placed → Type 0 where
  lifetime : (t : Placed) (rest : List Placed) → t.lexeme ≡ lexemes.Lifetime → ArgumentForm Inner (t ∷ rest) None rest
  argument : (ts rest : List Placed) (x : TypeTree) → Inner ts x rest → ArgumentForm Inner ts (Some x) rest

-- the values among these
abbrev pub somes : {A : Type 0} → List (Option A) → List A
somes [] = []
somes (None ∷ xs) = somes xs
somes (Some x ∷ xs) = x ∷ somes xs

-- the forms of a type, where Inner says what its parts are
pub data TypeForm (Inner : Spelling TypeTree) : List Placed → TypeTree → List Placed → Type 0 where
  -- "!"
  never : (bang : Placed) (rest : List Placed) → IsMark marks.Bang bang → TypeForm Inner (bang ∷ rest) Never rest
  -- "(" ")"
  unit : (opening closing : Placed) (rest : List Placed) → IsMark marks.OpenRound opening → IsMark marks.CloseRound closing
      → TypeForm Inner (opening ∷ closing ∷ rest) (Tuple none) rest
  -- "(" type ")"
  round : (opening closing : Placed) (ts rest : List Placed) (inner : TypeTree) → IsMark marks.OpenRound opening
      → Inner ts inner (closing ∷ rest) → IsMark marks.CloseRound closing → TypeForm Inner (opening ∷ ts) inner rest
  -- "(" type "," types ")"
  tuple : (opening comma : Placed) (ts us rest : List Placed) (first : TypeTree) (others : List TypeTree)
      → IsMark marks.OpenRound opening → Inner ts first (comma ∷ us) → IsMark marks.Comma comma
      → CommaList marks.CloseRound Inner us others rest → TypeForm Inner (opening ∷ ts) (Tuple (more first (types_from others))) rest
  -- "&" [LIFETIME] ["mut"] type
  point : (and : Placed) (ts us vs rest : List Placed) (named mutable : Bool) (inner : TypeTree) → IsMark marks.Ampersand and
      → Maybe is_lifetime ts named us → Maybe (is_word words.Mut) us mutable vs → Inner vs inner rest
      → TypeForm Inner (and ∷ ts) (Point mutable inner) rest
  -- "[" type "]"
  slice : (opening closing : Placed) (ts rest : List Placed) (item : TypeTree) → IsMark marks.OpenSquare opening
      → Inner ts item (closing ∷ rest) → IsMark marks.CloseSquare closing → TypeForm Inner (opening ∷ ts) (Slice item) rest
  -- "[" type ";" INT "]"
  array : (opening semicolon number closing : Placed) (ts rest : List Placed) (item : TypeTree) (len : Option ℕ)
      (suffix : List ℕ) (decimal : Bool) → IsMark marks.OpenSquare opening
      → Inner ts item (semicolon ∷ number ∷ closing ∷ rest) → IsMark marks.Semicolon semicolon
      → number.lexeme ≡ lexemes.Integer len suffix decimal → IsMark marks.CloseSquare closing
      → TypeForm Inner (opening ∷ ts) (Array item len suffix) rest
  -- NAME, which no "<" follows
  named : (word : Placed) (rest : List Placed) (name : List ℕ) (raw : Bool) → word.lexeme ≡ lexemes.Named name raw
      → NextIsNot (is_mark marks.Less) rest → TypeForm Inner (word ∷ rest) (Named name none) rest
  -- NAME "<" arguments ">"
  applied : (word less : Placed) (ts rest : List Placed) (name : List ℕ) (raw : Bool) (args : List (Option TypeTree))
      → word.lexeme ≡ lexemes.Named name raw → IsMark marks.Less less
      → CommaList marks.Greater (ArgumentForm Inner) ts args rest
      → TypeForm Inner (word ∷ less ∷ ts) (Named name (types_from (somes args))) rest

-- a type of at most so many levels, one for each form that stands around another one and one for the innermost
unfoldable pub SpellsType : ℕ → List Placed → TypeTree → List Placed → Type 0
SpellsType zero ts t rest = ⊥
SpellsType (suc n) ts t rest = TypeForm (SpellsType n) ts t rest

-- tokens begin with at most one type
abbrev pub OneType : Type 0
OneType = (ts us vs : List Placed) (t u : TypeTree) → SpellsType 64 ts t us → SpellsType 64 ts u vs → (t ≡ u) × (us ≡ vs)
