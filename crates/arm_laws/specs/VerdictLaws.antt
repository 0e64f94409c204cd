-- The laws on the witnesses of a verdict and on the arms that are made of them.
use Rattle.std.specs.Prelude.{◌≡◌, ℕ, Bool, true, List, Some}
use Rattle.std.specs.List.{Contains}
use Rattle.decl_lexer.specs.Lexing.{Placed, HasTokens}
use Rattle.decl_parser.specs.FileGrammar.{IsFile}
use Rattle.decl_syntax.specs.Functions.{FunctionTree}
use Rattle.decl_syntax.specs.Items.{ItemTree}
use Rattle.decl_syntax.specs.Units.{units}
use Rattle.match_model.specs.Unreachable.{Entry}
use Rattle.match_model.specs.Witness.{MWitness}
use Rattle.pattern_rules.specs.Faults.{BreaksNone, function_of, scrutinee_type}
use Rattle.pattern_rules.specs.Settings.{Setting, program}
use Rattle.pattern_rules.specs.Verdicts.{IsVerdictOn}
use Rattle.type_table.specs.Faults as declarations
use Rattle.file_names.specs.Named.{AreNames}
use Rattle.arm_maker.specs.Arms.{AreArms}
use Rattle.arm_laws.specs.Completes.{Completes}
use Rattle.arm_laws.specs.FunctionLaws.{IsJudged}
use Rattle.arm_laws.specs.LiteralEnds.{literal_ends}
use Rattle.arm_laws.specs.Meant.{is_referred}

-- law: the ranges in a witness of a verdict end at literals or lie beyond them
abbrev pub VerdictEndsAtLiterals : Type 0
VerdictEndsAtLiterals = (s : Setting) (f : FunctionTree) (witnesses : List MWitness) (w : MWitness) →
    IsJudged s f witnesses → Contains witnesses w → literal_ends (program s) (scrutinee_type s f) w ≡ true

-- law: a text stands in a witness of a verdict only behind a shared reference
abbrev pub VerdictTextsAreReferred : Type 0
VerdictTextsAreReferred = (s : Setting) (f : FunctionTree) (witnesses : List MWitness) (w : MWitness) →
    IsJudged s f witnesses → Contains witnesses w → is_referred (program s) (scrutinee_type s f) w ≡ true

-- law: the arms for the witnesses of a verdict complete the match of a function that breaks no rule, in a file of which
-- no item breaks a rule on declarations and whose names are identifiers
abbrev pub ArmTextsComplete : Type 0
ArmTextsComplete = (s : Setting) (f : FunctionTree) (witnesses : List MWitness) (texts : List (List ℕ)) →
    IsJudged s f witnesses → BreaksNone s f → declarations.BreaksNone s.items s.width → AreNames (program s) →
    AreArms (program s) (scrutinee_type s f) witnesses texts → Completes s f texts

-- the tokens of a source spell the file, no item of it breaks a rule on declarations, one of its functions breaks no
-- rule, and these are the witnesses of its verdict
pub record IsFound (bytes : List ℕ) (tokens : List Placed) (s : Setting) (f : FunctionTree)
    (witnesses : List MWitness) : Type 0 where
  pub lexed : HasTokens bytes tokens
  pub spelled : IsFile (units tokens) s.items
  pub unbroken : declarations.BreaksNone s.items s.width
  pub item : ItemTree
  pub among : Contains s.items item
  pub is : function_of item.kind ≡ Some f
  pub fine : BreaksNone s f
  pub exhaustive : Bool
  pub unreachable : List Entry
  pub verdict : IsVerdictOn s f exhaustive unreachable witnesses

-- law: the arms for them complete the function's match
abbrev pub ArmsCompleteMatch : Type 0
ArmsCompleteMatch = (bytes : List ℕ) (tokens : List Placed) (s : Setting) (f : FunctionTree)
    (witnesses : List MWitness) (texts : List (List ℕ)) → IsFound bytes tokens s f witnesses →
    AreArms (program s) (scrutinee_type s f) witnesses texts → Completes s f texts
