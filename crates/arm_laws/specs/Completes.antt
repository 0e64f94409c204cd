-- When texts of arms complete the match of a function (our own choice; rustc suggests to add such arms).
use Rattle.std.specs.Prelude.{ℕ, ◌<◌, ◌+◌, false, List, [], ◌++◌, length, map}
use Rattle.std.specs.List.{AllZip}
use Rattle.match_model.specs.Match.{IsExhaustive, IsArmReachable}
use Rattle.decl_syntax.specs.Functions.{FunctionTree}
use Rattle.decl_syntax.specs.Items.{ArmTree}
use Rattle.decl_syntax.specs.Patterns.{PatternTree}
use Rattle.pattern_rules.specs.Faults.{BreaksNone}
use Rattle.pattern_rules.specs.Settings.{Setting}
use Rattle.pattern_rules.specs.Verdicts.{Domain, written_arms}
use Rattle.arm_laws.specs.Spelled.{SpellsAlone}

-- an arm of this pattern, without a guard
abbrev pub plain_arm : PatternTree → ArmTree
plain_arm p = record { attrs = []; pattern = p; guarded = false }

-- the function with such arms behind its own
abbrev pub with_arms : FunctionTree → List PatternTree → FunctionTree
with_arms f ps = record f { arms = f.arms ++ map plain_arm ps }

-- with arms of these patterns the function's match is exhaustive, and a value comes to each of them
pub record DoComplete (s : Setting) (f : FunctionTree) (ps : List PatternTree) : Type 0 where
  pub exhaustive : IsExhaustive (Domain s (with_arms f ps)) (written_arms s (with_arms f ps))
  pub each_reached : (k : ℕ) → k < length ps →
      IsArmReachable (Domain s (with_arms f ps)) (written_arms s (with_arms f ps)) (length f.arms + k)

-- each text spells one pattern; with an arm of each behind its own, in order and without a guard, the function breaks
-- no rule, its match is exhaustive, and a value comes to each arm that was added
pub record Completes (s : Setting) (f : FunctionTree) (texts : List (List ℕ)) : Type 0 where
  pub patterns : List PatternTree
  pub spelled : AllZip SpellsAlone texts patterns
  pub fine : BreaksNone s (with_arms f patterns)
  pub complete : DoComplete s f patterns
