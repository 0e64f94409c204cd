-- What the files and functions have that a source's tokens spell.
use Rattle.std.specs.Prelude.{◌≡◌, ◌≤◌, ℕ, Bool, true, List, length, chars, nat_le, Some, IsTrue}
use Rattle.std.specs.List.{list_all, Contains}
use Rattle.match_model.specs.Texts.{is_scalar}
use Rattle.match_model.specs.SourcePatterns.{ascend}
use Rattle.decl_lexer.specs.Begins.{Lexeme, Character, Byte, Text}
use Rattle.decl_lexer.specs.Lexing.{Placed, HasTokens}
use Rattle.decl_syntax.specs.Units.{units}
use Rattle.decl_syntax.specs.Items.{ItemTree, ArmTree}
use Rattle.decl_syntax.specs.Functions.{FunctionTree}
use Rattle.decl_parser.specs.FileGrammar.{IsFile}
use Rattle.type_table.specs.declared.table.TypeTable.{TypeTable}
use Rattle.type_table.specs.Faults as declarations
use Rattle.type_table.specs.Tables.{IsTableOf}
use Rattle.pattern_rules.specs.Settings.{Setting}
use Rattle.pattern_rules.specs.Faults.{function_of, BreaksNone}
use Rattle.pattern_rules.specs.Spelled.{is_spelled, choice_offsets}
use Rattle.pattern_rules.specs.ShownMatches.{IsSoundArm}
use Rattle.pattern_laws.specs.TableLaws.{IsSoundFile}

-- a character is a scalar value, a byte is at most 255, and a text is one of scalar values
abbrev pub lexeme_is_spelled : Lexeme → Bool
lexeme_is_spelled (Character c) = is_scalar c
lexeme_is_spelled (Byte b) = nat_le b 255
lexeme_is_spelled (Text text) = list_all is_scalar (chars text)
lexeme_is_spelled _ = true

-- law: the tokens of a source are so
abbrev pub TokensAreSpelled : Type 0
TokensAreSpelled = (bytes : List ℕ) (tokens : List Placed) → HasTokens bytes tokens →
    IsTrue (list_all (λ t. lexeme_is_spelled t.lexeme) tokens)

-- each arm of the function is as tokens spell it, its offsets ascend, and the function has no more arms than the source
-- has bytes
pub record IsParsedFunction (bytes : List ℕ) (f : FunctionTree) : Type 0 where
  pub spelled : (a : ArmTree) → Contains f.arms a → IsTrue (is_spelled a.pattern)
  pub ascend : (a : ArmTree) → Contains f.arms a → IsTrue (ascend (choice_offsets a.pattern))
  pub few : length f.arms ≤ length bytes

-- law: so is each function of the items that the tokens of a source spell
abbrev pub ParsedFunctionsAreSpelled : Type 0
ParsedFunctionsAreSpelled =
    (bytes : List ℕ) (tokens : List Placed) (items : List ItemTree) (item : ItemTree) (f : FunctionTree) →
    HasTokens bytes tokens → IsFile (units tokens) items → Contains items item → function_of item.kind ≡ Some f →
    IsParsedFunction bytes f

-- law: where the items have a table, each arm is sound of each function that breaks no rule
abbrev pub ParsedArmsAreSound : Type 0
ParsedArmsAreSound =
    (bytes : List ℕ) (tokens : List Placed) (s : Setting) (table : TypeTable) (item : ItemTree) (f : FunctionTree)
    (a : ArmTree) → HasTokens bytes tokens → IsFile (units tokens) s.items → IsTableOf s.items s.width table →
    Contains s.items item → function_of item.kind ≡ Some f → BreaksNone s f → Contains f.arms a → IsSoundArm s f a

-- law: the types of the items that tokens spell are sound, where none of the items breaks a rule on declarations
abbrev pub FilesAreSound : Type 0
FilesAreSound = (tokens : List Placed) (s : Setting) → IsFile tokens s.items →
    declarations.BreaksNone s.items s.width → IsSoundFile s
