-- What a function is spelled by, from the "(" behind its name on: docs/grammar.md (Rust Reference, Functions; the
-- form of the body is our own choice).
use Rattle.std.specs.Prelude.{◌≡◌, ℕ, Bool, List, ◌∷◌, Option, Some, None, map}
use Rattle.decl_lexer.specs.declared.marks.Mark.TheVariants as marks
use Rattle.decl_lexer.specs.declared.words.Word.TheVariants as words
use Rattle.decl_lexer.specs.Begins.{Named}
use Rattle.decl_lexer.specs.Lexing.{Placed}
use Rattle.decl_syntax.specs.Units.{is_mark, is_word}
use Rattle.decl_syntax.specs.Types.{TypeTree, type_view}
use Rattle.decl_syntax.specs.TypeGrammar.{SpellsType}
use Rattle.decl_syntax.specs.Grammar.{IsMark, IsWord, NextIsNot, Maybe}
use Rattle.decl_parser.specs.declared.runs.Until.TheVariants as until
use Rattle.decl_parser.specs.declared.functions.Body as declared
use Rattle.decl_syntax.specs.Items.{ArmTree, arm_view}
use Rattle.decl_parser.specs.RunGrammar.{SpellsRun}
use Rattle.decl_parser.specs.ArmGrammar.{SpellsArms}

-- the parameter's name and type
pub record Parameter : Type 0 where
  pub name : List ℕ
  pub type : TypeTree

-- "(" ["mut"] NAME ":" type [","] ")"
pub data SpellsParameter : List Placed → Parameter → List Placed → Type 0 where
  parameter : (opening word colon closing : Placed) (ts us vs rest : List Placed) (mutable comma raw : Bool) (name : List ℕ) (type : TypeTree)
      → IsMark marks.OpenRound opening → Maybe (is_word words.Mut) ts mutable (word ∷ colon ∷ us) → word.lexeme ≡ Named name raw → IsMark marks.Colon colon
      → SpellsType 64 us type vs → Maybe (is_mark marks.Comma) vs comma (closing ∷ rest) → IsMark marks.CloseRound closing
      → SpellsParameter (opening ∷ ts) (record { name = name; type = type }) rest

-- ["->" run]
pub data SpellsReturned : List Placed → List Placed → Type 0 where
  nothing : (ts : List Placed) → NextIsNot (is_mark marks.ThinArrow) ts → SpellsReturned ts ts
  returned : (arrow : Placed) (ts rest : List Placed) → IsMark marks.ThinArrow arrow → SpellsRun until.Block ts rest → SpellsReturned (arrow ∷ ts) rest

-- what is matched on: the place of "*", if it is there, and a name
pub record Scrutinee : Type 0 where
  pub deref : Option ℕ
  pub name : List ℕ

-- "match" ["*"] NAME
pub data SpellsScrutinee : List Placed → Scrutinee → List Placed → Type 0 where
  plain : (keyword word : Placed) (rest : List Placed) (name : List ℕ) (raw : Bool) → IsWord words.Match keyword → word.lexeme ≡ Named name raw
      → SpellsScrutinee (keyword ∷ word ∷ rest) (record { deref = None; name = name }) rest
  dereferenced : (keyword star word : Placed) (rest : List Placed) (name : List ℕ) (raw : Bool) → IsWord words.Match keyword → IsMark marks.Star star
      → word.lexeme ≡ Named name raw → SpellsScrutinee (keyword ∷ star ∷ word ∷ rest) (record { deref = Some star.from; name = name }) rest

-- the type of the parameter, the place of `*` before the scrutinee, and the arms
pub record BodyTree : Type 0 where
  pub param : TypeTree
  pub deref : Option ℕ
  pub arms : List ArmTree

-- what a caller sees of it
abbrev pub body_view : declared.Body → BodyTree
body_view b = record { param = type_view b.param; deref = b.deref; arms = map arm_view b.arms.items }

-- a parameter, what is returned, "{", the match on the parameter's name, "{", arms and "}", "}"
pub data SpellsFunction : List Placed → BodyTree → List Placed → Type 0 where
  spelled : (ts us vs ws rest : List Placed) (opening inner closing : Placed) (p : Parameter) (s : Scrutinee) (arms : List ArmTree) → SpellsParameter ts p us
      → SpellsReturned us (opening ∷ vs) → IsMark marks.OpenCurly opening → SpellsScrutinee vs s (inner ∷ ws) → s.name ≡ p.name → IsMark marks.OpenCurly inner
      → SpellsArms ws arms (closing ∷ rest) → IsMark marks.CloseCurly closing
      → SpellsFunction ts (record { param = p.type; deref = s.deref; arms = arms }) rest

-- tokens begin with at most one function from its "(" on
abbrev pub OneFunction : Type 0
OneFunction = (ts us vs : List Placed) (f g : BodyTree) → SpellsFunction ts f us → SpellsFunction ts g vs → (f ≡ g) × (us ≡ vs)
