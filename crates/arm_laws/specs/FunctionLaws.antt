-- The laws on the arms that are added to a function.
use Rattle.std.specs.Prelude.{Bool, List, IsTrue}
use Rattle.std.specs.List.{Contains}
use Rattle.match_model.specs.Lists.{Ordered, Each}
use Rattle.match_model.specs.Match.{ArmWays}
use Rattle.match_model.specs.RustTypes.{is_type, IsSoundProgram}
use Rattle.match_model.specs.Unreachable.{Entry}
use Rattle.match_model.specs.Witness.{MWitness}
use Rattle.decl_syntax.specs.Patterns.{PatternTree}
use Rattle.decl_syntax.specs.Items.{ArmTree}
use Rattle.decl_syntax.specs.Functions.{FunctionTree}
use Rattle.pattern_rules.specs.Settings.{Setting, program}
use Rattle.pattern_rules.specs.Faults.{scrutinee_type}
use Rattle.pattern_rules.specs.ShownMatches.{IsSoundArm, elaborated_arm}
use Rattle.pattern_rules.specs.Verdicts.{IsVerdictOn}
use Rattle.arm_maker.specs.Order.{AreInArmOrder, IsOneFirst}
use Rattle.arm_laws.specs.Completed.{Serves, AreCompleting, IsPatternFor}
use Rattle.arm_laws.specs.Completes.{DoComplete}
use Rattle.arm_laws.specs.Near.{AreNear, HasNodes}

-- law: the ranges of an arm that breaks no rule have ends that are literals or beside one
abbrev pub WrittenIsNear : Type 0
WrittenIsNear = (s : Setting) (f : FunctionTree) (a : ArmTree) → IsSoundArm s f a →
    HasNodes AreNear (elaborated_arm s f a)

-- the types of the function's file are sound, its arms too, and this is its verdict
pub record IsJudged (s : Setting) (f : FunctionTree) (witnesses : List MWitness) : Type 0 where
  pub sound : IsSoundProgram (program s)
  pub type : IsTrue (is_type (program s) (scrutinee_type s f))
  pub arms : (a : ArmTree) → Contains f.arms a → IsSoundArm s f a
  pub exhaustive : Bool
  pub unreachable : List Entry
  pub verdict : IsVerdictOn s f exhaustive unreachable witnesses

-- law: of any two witnesses of a verdict one stands before the other
abbrev pub VerdictIsOrdered : Type 0
VerdictIsOrdered = (s : Setting) (f : FunctionTree) (exhaustive : Bool) (unreachable : List Entry)
    (witnesses : List MWitness) → IsVerdictOn s f exhaustive unreachable witnesses → Ordered IsOneFirst witnesses

-- law: arms for the witnesses of its verdict, in the order of arms, complete the function's match
abbrev pub ArmsComplete : Type 0
ArmsComplete = (s : Setting) (f : FunctionTree) (witnesses sorted : List MWitness) (arms : List ArmWays) →
    IsJudged s f witnesses → AreInArmOrder (program s) (scrutinee_type s f) witnesses sorted →
    Each (Serves s f) sorted arms → AreCompleting s f arms

-- law: so do arms of patterns for them
abbrev pub PatternsComplete : Type 0
PatternsComplete = (s : Setting) (f : FunctionTree) (witnesses sorted : List MWitness) (ps : List PatternTree) →
    IsJudged s f witnesses → AreInArmOrder (program s) (scrutinee_type s f) witnesses sorted →
    Each (IsPatternFor s f) sorted ps → DoComplete s f ps
