-- What the arms of a match are spelled by: docs/grammar.md (Rust Reference, Match expressions).
use Rattle.std.specs.Prelude.{◌≡◌, Bool, true, false, List, [], ◌∷◌, ◌++◌}
use Rattle.decl_lexer.specs.declared.marks.Mark.TheVariants as marks
use Rattle.decl_lexer.specs.declared.words.Word.TheVariants as words
use Rattle.decl_lexer.specs.Lexing.{Placed}
use Rattle.decl_syntax.specs.Units.{is_mark, is_word}
use Rattle.decl_syntax.specs.Patterns.{AttrTree, PatternTree}
use Rattle.decl_syntax.specs.PatternGrammar.{SpellsPattern}
use Rattle.decl_syntax.specs.Grammar.{IsMark, IsWord, NextIsNot, Maybe}
use Rattle.decl_syntax.specs.Runs.{pairs_up, SpellsAttributes}
use Rattle.decl_parser.specs.declared.runs.Until.TheVariants as until
use Rattle.decl_syntax.specs.Items.{ArmTree}
use Rattle.decl_parser.specs.RunGrammar.{SpellsRun}

-- ["if" run], and whether it is there
pub data SpellsGuard : List Placed → Bool → List Placed → Type 0 where
  no_guard : (ts : List Placed) → NextIsNot (is_word words.If) ts → SpellsGuard ts false ts
  a_guard : (word : Placed) (ts rest : List Placed) → IsWord words.If word → SpellsRun until.Arrow ts rest → SpellsGuard (word ∷ ts) true rest

-- a body and what stands between it and the next arm: a block and an optional comma; or a run and a comma, or a run that "}" follows
pub data SpellsBody : List Placed → List Placed → Type 0 where
  block : (opening closing : Placed) (inner us rest : List Placed) (comma : Bool) → IsMark marks.OpenCurly opening → pairs_up inner [] ≡ true
      → IsMark marks.CloseCurly closing → Maybe (is_mark marks.Comma) us comma rest → SpellsBody (opening ∷ inner ++ closing ∷ us) rest
  before_comma : (ts rest : List Placed) (comma : Placed) → NextIsNot (is_mark marks.OpenCurly) ts → SpellsRun until.CommaOrArrow ts (comma ∷ rest)
      → IsMark marks.Comma comma → SpellsBody ts rest
  at_the_end : (ts rest : List Placed) (closing : Placed) → NextIsNot (is_mark marks.OpenCurly) ts → SpellsRun until.CommaOrArrow ts (closing ∷ rest)
      → IsMark marks.CloseCurly closing → SpellsBody ts (closing ∷ rest)

-- attributes, a pattern, a guard or none, "=>", a body
pub data SpellsArm : List Placed → ArmTree → List Placed → Type 0 where
  spelled : (ts us vs ws rest : List Placed) (arrow : Placed) (attrs : List AttrTree) (pattern : PatternTree) (guarded : Bool) → SpellsAttributes ts attrs us
      → SpellsPattern us pattern vs → SpellsGuard vs guarded (arrow ∷ ws) → IsMark marks.FatArrow arrow → SpellsBody ws rest
      → SpellsArm ts (record { attrs = attrs; pattern = pattern; guarded = guarded }) rest

-- arms one after the other, and the "}" behind them
pub data SpellsArms : List Placed → List ArmTree → List Placed → Type 0 where
  no_more : (closing : Placed) (rest : List Placed) → IsMark marks.CloseCurly closing → SpellsArms (closing ∷ rest) [] rest
  one_more : (ts us rest : List Placed) (arm : ArmTree) (arms : List ArmTree) → NextIsNot (is_mark marks.CloseCurly) ts → SpellsArm ts arm us → SpellsArms us arms rest
      → SpellsArms ts (arm ∷ arms) rest
