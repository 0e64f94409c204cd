-- What literals, paths and ranges are spelled by, a case for each form of docs/grammar.md
-- (Rust Reference, Patterns and Paths).
use Rattle.std.specs.Prelude.{ℕ, Bool, true, false, ◌&&◌, List, [], ◌∷◌, Option, Some, None, map}
use lib.Chars.{codes}
use Rattle.decl_lexer.specs.declared.marks.Mark.TheVariants as marks
use Rattle.decl_lexer.specs.declared.words.Word.TheVariants as words
use Rattle.decl_lexer.specs.Begins.{Lexeme, Named, Keyword, Marked, Integer, Float, Character, Byte, Text, ByteText, CText}
use Rattle.decl_lexer.specs.Lexing.{Placed}
use Rattle.decl_syntax.specs.Patterns as trees
use Rattle.decl_syntax.specs.Patterns.{LitTree, PathTree, Shape, Range}
use Rattle.decl_syntax.specs.Grammar.{IsMark, NextIsNot, Separated}

-- a first token that stands for something
pub data OneToken {A : Type 0} (Means : Lexeme → A → Type 0) : List Placed → A → List Placed → Type 0 where
  one_token : (t : Placed) (rest : List Placed) (x : A) → Means t.lexeme x → OneToken Means (t ∷ rest) x rest

-- a part of a path: its text, and whether it is a name
pub record Segment : Type 0 where
  pub text : List ℕ
  pub is_name : Bool

-- the tokens that may be a part of a path
pub data IsSegment : Lexeme → Segment → Type 0 where
  a_name : (text : List ℕ) (raw : Bool) → IsSegment (Named text raw) (record { text = text; is_name = true })
  the_crate : IsSegment (Keyword words.Crate) (record { text = codes "crate"; is_name = false })
  the_value : IsSegment (Keyword words.SelfValue) (record { text = codes "self"; is_name = false })
  the_parent : IsSegment (Keyword words.Super) (record { text = codes "super"; is_name = false })
  the_type : IsSegment (Keyword words.SelfType) (record { text = codes "Self"; is_name = false })

-- parts with `::` between them
abbrev pub SpellsPath : List Placed → List Segment → List Placed → Type 0
SpellsPath = Separated marks.PathSeparator (OneToken IsSegment)

-- the names of parts
abbrev pub names_of : List Segment → List (List ℕ)
names_of segments = map (λ s. s.text) segments

-- whether each of them is a name
abbrev pub all_names : List Segment → Bool
all_names [] = true
all_names (s ∷ ss) = s.is_name && all_names ss

-- the tree of a path
abbrev pub path_of : List Segment → PathTree
path_of segments = record { names = names_of segments; plain = all_names segments }

-- the tokens that are a literal
pub data IsLiteral : Lexeme → LitTree → Type 0 where
  a_true : IsLiteral (Keyword words.True) (trees.Flag true)
  a_false : IsLiteral (Keyword words.False) (trees.Flag false)
  a_char : (c : ℕ) → IsLiteral (Character c) (trees.Char c)
  a_byte : (b : ℕ) → IsLiteral (Byte b) (trees.Byte b)
  an_int : (value : Option ℕ) (suffix : List ℕ) (decimal : Bool) → IsLiteral (Integer value suffix decimal) (trees.Int false value suffix)
  a_float : IsLiteral Float trees.Other
  a_text : (text : List ℕ) → IsLiteral (Text text) (trees.Str text)
  a_byte_text : IsLiteral ByteText trees.Other
  a_c_text : IsLiteral CText trees.Other

-- the tokens that are a literal behind `-`
pub data IsNegated : Lexeme → LitTree → Type 0 where
  negated_int : (value : Option ℕ) (suffix : List ℕ) (decimal : Bool) → IsNegated (Integer value suffix decimal) (trees.Int true value suffix)
  negated_float : IsNegated Float trees.Other

-- the tokens that are the end of a range
pub data IsEnd : Lexeme → LitTree → Type 0 where
  char_end : (c : ℕ) → IsEnd (Character c) (trees.Char c)
  byte_end : (b : ℕ) → IsEnd (Byte b) (trees.Byte b)
  int_end : (value : Option ℕ) (suffix : List ℕ) (decimal : Bool) → IsEnd (Integer value suffix decimal) (trees.Int false value suffix)
  float_end : IsEnd Float trees.Other

-- the end of a range
pub data SpellsEnd : List Placed → LitTree → List Placed → Type 0 where
  plain_end : (t : Placed) (rest : List Placed) (x : LitTree) → IsEnd t.lexeme x → SpellsEnd (t ∷ rest) x rest
  negative_end : (minus t : Placed) (rest : List Placed) (x : LitTree) → IsMark marks.Minus minus → IsNegated t.lexeme x → SpellsEnd (minus ∷ t ∷ rest) x rest
  path_end : (ts rest : List Placed) (segments : List Segment) → SpellsPath ts segments rest → SpellsEnd ts trees.Other rest

-- whether a token begins the end of a range
abbrev pub begins_end : Lexeme → Bool
begins_end (Marked marks.Minus) = true
begins_end (Character c) = true
begins_end (Byte b) = true
begins_end (Integer value suffix decimal) = true
begins_end Float = true
begins_end (Named text raw) = true
begins_end (Keyword words.Crate) = true
begins_end (Keyword words.SelfValue) = true
begins_end (Keyword words.Super) = true
begins_end (Keyword words.SelfType) = true
begins_end _ = false

-- `..`, or `..=`, by which the end is within the range
pub data IsRangeMark : Lexeme → Bool → Type 0 where
  two_dots : IsRangeMark (Marked marks.TwoDots) false
  dots_equal : IsRangeMark (Marked marks.DotsEqual) true

-- a range; a mark takes the end that follows where the next token begins one
pub data SpellsRange : List Placed → Shape → List Placed → Type 0 where
  both_ends : (ts us rest : List Placed) (mark : Placed) (low high : LitTree) (closed : Bool) → SpellsEnd ts low (mark ∷ us)
      → IsRangeMark mark.lexeme closed → SpellsEnd us high rest → SpellsRange ts (Range (Some low) (Some high) closed) rest
  low_end : (ts rest : List Placed) (mark : Placed) (low : LitTree) → SpellsEnd ts low (mark ∷ rest) → IsMark marks.TwoDots mark
      → NextIsNot begins_end rest → SpellsRange ts (Range (Some low) None false) rest
  high_end : (us rest : List Placed) (mark : Placed) (high : LitTree) (closed : Bool) → IsRangeMark mark.lexeme closed
      → SpellsEnd us high rest → SpellsRange (mark ∷ us) (Range None (Some high) closed) rest
