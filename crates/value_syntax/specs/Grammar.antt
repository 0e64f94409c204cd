-- What values are spelled by, a case for each form of docs/grammar.md (our own choice, after the literals, tuples,
-- arrays and struct expressions of the Rust Reference, Expressions).
use Rattle.std.specs.Prelude.{◌≡◌, ℕ, zero, suc, Bool, true, false, List, [], ◌∷◌, Some}
use lib.Chars.{codes}
use Rattle.decl_lexer.specs.declared.marks.Mark.TheVariants as marks
use Rattle.decl_lexer.specs.declared.words.Word.TheVariants as words
use Rattle.decl_lexer.specs.Begins.{Lexeme, Named, Keyword, Integer, Character, Byte, Text}
use Rattle.decl_lexer.specs.Lexing.{Placed, HasTokens}
use Rattle.decl_syntax.specs.Units.{units, is_mark, is_word}
use Rattle.decl_syntax.specs.Grammar.{Spelling, IsMark, NextIsNot, CommaList, Maybe}
use Rattle.witness_text.specs.Trees.{NameTree, PlainName, VariantName}
use Rattle.value_syntax.specs.declared.value.ReadFault.{ReadFault}
use Rattle.value_syntax.specs.declared.value.ReadFault.TheVariants as faults
use Rattle.value_syntax.specs.Trees.{WrittenTree, WrittenFlag, WrittenChar, WrittenByte, WrittenInt, WrittenStr}
use Rattle.value_syntax.specs.Trees.{WrittenText, WrittenOpaque, WrittenLater, WrittenUnseen, WrittenPoint}
use Rattle.value_syntax.specs.Trees.{WrittenTuple, WrittenRow, WrittenUnitForm, WrittenTupleForm, WrittenBraceForm}
use Rattle.value_syntax.specs.Trees.{no_values, more_values, values_from, FieldTree, fields_from}

-- the tokens that are a value by themselves; an integer has at most 128 bits
pub data IsLiteral : Lexeme → WrittenTree → Type 0 where
  a_true : IsLiteral (Keyword words.True) (WrittenFlag true)
  a_false : IsLiteral (Keyword words.False) (WrittenFlag false)
  a_char : (c : ℕ) → IsLiteral (Character c) (WrittenChar c)
  a_byte : (b : ℕ) → IsLiteral (Byte b) (WrittenByte b)
  an_int : (size : ℕ) (suffix : List ℕ) (decimal : Bool)
      → IsLiteral (Integer (Some size) suffix decimal) (WrittenInt false size suffix)
  a_str : (text : List ℕ) → IsLiteral (Text text) (WrittenStr text)

-- the words behind `?`; each is a plain name, without `r#`
pub data IsUnknown : Lexeme → WrittenTree → Type 0 where
  an_opaque : IsUnknown (Named (codes "opaque") false) WrittenOpaque
  a_later : IsUnknown (Named (codes "later") false) WrittenLater
  an_unseen : IsUnknown (Named (codes "unseen") false) WrittenUnseen

-- NAME ["::" NAME]
pub data SpellsName : List Placed → NameTree → List Placed → Type 0 where
  plain_name : (word : Placed) (rest : List Placed) (name : List ℕ) (raw : Bool) → word.lexeme ≡ Named name raw
      → NextIsNot (is_mark marks.PathSeparator) rest
      → SpellsName (word ∷ rest) (PlainName name) rest
  variant_name : (first mark second : Placed) (rest : List Placed) (owner name : List ℕ) (raw raw_too : Bool)
      → first.lexeme ≡ Named owner raw
      → IsMark marks.PathSeparator mark → second.lexeme ≡ Named name raw_too
      → SpellsName (first ∷ mark ∷ second ∷ rest) (VariantName owner name) rest

-- a field: NAME ":" value
pub data FieldForm (Inner : Spelling WrittenTree) : List Placed → FieldTree → List Placed → Type 0 where
  a_field : (word colon : Placed) (ts rest : List Placed) (name : List ℕ) (raw : Bool) (value : WrittenTree)
      → word.lexeme ≡ Named name raw
      → IsMark marks.Colon colon → Inner ts value rest
      → FieldForm Inner (word ∷ colon ∷ ts) (record { name = name; value = value }) rest

-- the forms of a value, where Inner says what its parts are
pub data ValueForm (Inner : Spelling WrittenTree) : List Placed → WrittenTree → List Placed → Type 0 where
  -- a flag, CHAR, BYTE, INT or STR
  literal : (t : Placed) (rest : List Placed) (x : WrittenTree) → IsLiteral t.lexeme x
      → ValueForm Inner (t ∷ rest) x rest
  -- "-" INT
  negative : (minus t : Placed) (rest : List Placed) (size : ℕ) (suffix : List ℕ) (decimal : Bool)
      → IsMark marks.Minus minus
      → t.lexeme ≡ Integer (Some size) suffix decimal
      → ValueForm Inner (minus ∷ t ∷ rest) (WrittenInt true size suffix) rest
  -- "*" STR
  referred : (star t : Placed) (rest : List Placed) (text : List ℕ) → IsMark marks.Star star → t.lexeme ≡ Text text
      → ValueForm Inner (star ∷ t ∷ rest) (WrittenText text) rest
  -- "?" and a word
  unknown : (question t : Placed) (rest : List Placed) (x : WrittenTree) → IsMark marks.Question question
      → IsUnknown t.lexeme x
      → ValueForm Inner (question ∷ t ∷ rest) x rest
  -- "&" ["mut"] value
  point : (and : Placed) (ts us rest : List Placed) (mutable : Bool) (inner : WrittenTree) → IsMark marks.Ampersand and
      → Maybe (is_word words.Mut) ts mutable us → Inner us inner rest
      → ValueForm Inner (and ∷ ts) (WrittenPoint mutable inner) rest
  -- "(" ")"
  unit : (opening closing : Placed) (rest : List Placed) → IsMark marks.OpenRound opening
      → IsMark marks.CloseRound closing
      → ValueForm Inner (opening ∷ closing ∷ rest) (WrittenTuple no_values) rest
  -- "(" value ")"
  round : (opening closing : Placed) (ts rest : List Placed) (inner : WrittenTree) → IsMark marks.OpenRound opening
      → Inner ts inner (closing ∷ rest) → IsMark marks.CloseRound closing → ValueForm Inner (opening ∷ ts) inner rest
  -- "(" value "," values ")"
  tuple : (opening comma : Placed) (ts us rest : List Placed) (first : WrittenTree) (others : List WrittenTree)
      → IsMark marks.OpenRound opening
      → Inner ts first (comma ∷ us) → IsMark marks.Comma comma → CommaList marks.CloseRound Inner us others rest
      → ValueForm Inner (opening ∷ ts) (WrittenTuple (more_values first (values_from others))) rest
  -- "[" values "]"
  row : (opening : Placed) (ts rest : List Placed) (items : List WrittenTree) → IsMark marks.OpenSquare opening
      → CommaList marks.CloseSquare Inner ts items rest
      → ValueForm Inner (opening ∷ ts) (WrittenRow (values_from items)) rest
  -- a name, which no "(" or "{" follows
  unit_form : (ts rest : List Placed) (name : NameTree) → SpellsName ts name rest
      → NextIsNot (is_mark marks.OpenRound) rest
      → NextIsNot (is_mark marks.OpenCurly) rest → ValueForm Inner ts (WrittenUnitForm name) rest
  -- a name "(" values ")"
  tuple_form : (ts us rest : List Placed) (opening : Placed) (name : NameTree) (parts : List WrittenTree)
      → SpellsName ts name (opening ∷ us)
      → IsMark marks.OpenRound opening → CommaList marks.CloseRound Inner us parts rest
      → ValueForm Inner ts (WrittenTupleForm name (values_from parts)) rest
  -- a name "{" fields "}"
  brace_form : (ts us rest : List Placed) (opening : Placed) (name : NameTree) (fields : List FieldTree)
      → SpellsName ts name (opening ∷ us)
      → IsMark marks.OpenCurly opening → CommaList marks.CloseCurly (FieldForm Inner) us fields rest
      → ValueForm Inner ts (WrittenBraceForm name (fields_from fields)) rest

-- a value of at most so many levels, one for each form that stands around another one and one for the innermost
unfoldable pub SpellsValue : ℕ → List Placed → WrittenTree → List Placed → Type 0
SpellsValue zero ts w rest = ⊥
SpellsValue (suc n) ts w rest = ValueForm (SpellsValue n) ts w rest

-- the text has tokens, and these spell the value within 64 levels, with nothing behind it
abbrev pub IsWritten : (text : List ℕ) → WrittenTree → Type 0
IsWritten text w = (tokens : List Placed) × HasTokens text tokens × SpellsValue 64 (units tokens) w []

-- memory ran out, or the text spells no value
abbrev pub NoneWritten : (text : List ℕ) → ReadFault → Type 0
NoneWritten text faults.NoMemory = Unit {0}
NoneWritten text faults.Syntax = (w : WrittenTree) → IsWritten text w → ⊥
