-- No meaning: arms, or patterns, that match just what the arms for witnesses take, and that complete a match.
use Rattle.std.specs.Prelude.{◌≡◌, ◌<◌, ℕ, ◌+◌, false, not, List, ◌++◌, length}
use Rattle.match_model.specs.declared.Mode.TheVariants.{Move}
use Rattle.match_model.specs.Values.{MValue}
use Rattle.match_model.specs.Witness.{MWitness}
use Rattle.match_model.specs.Match.{ArmWays, is_empty_list, arm_matches, IsExhaustive, IsArmReachable}
use Rattle.match_model.specs.Matching.{ways}
use Rattle.decl_syntax.specs.Patterns.{PatternTree}
use Rattle.decl_syntax.specs.Functions.{FunctionTree}
use Rattle.pattern_rules.specs.Settings.{Setting, program}
use Rattle.pattern_rules.specs.Faults.{scrutinee_type}
use Rattle.pattern_rules.specs.Resolved.{resolved}
use Rattle.pattern_rules.specs.Verdicts.{Domain, written_arms}
use Rattle.arm_laws.specs.Takes.{takes}

-- the arm has no guard, and it matches just the values that the arm for the witness takes
pub record Serves (s : Setting) (f : FunctionTree) (w : MWitness) (a : ArmWays) : Type 0 where
  pub plain : a.guarded ≡ false
  pub matches : (v : MValue) → Domain s f v → arm_matches v a ≡ takes (program s) (scrutinee_type s f) w v

-- with these arms behind its own the match is exhaustive, and a value comes to each of them
pub record AreCompleting (s : Setting) (f : FunctionTree) (arms : List ArmWays) : Type 0 where
  pub exhaustive : IsExhaustive (Domain s f) (written_arms s f ++ arms)
  pub each_reached : (k : ℕ) → k < length arms →
      IsArmReachable (Domain s f) (written_arms s f ++ arms) (length f.arms + k)

-- the pattern matches just the values that the arm for the witness takes
abbrev pub IsPatternFor : Setting → FunctionTree → MWitness → PatternTree → Type 0
IsPatternFor s f w p = (v : MValue) → Domain s f v →
    not (is_empty_list (ways (resolved s (scrutinee_type s f) p) Move v)) ≡ takes (program s) (scrutinee_type s f) w v
