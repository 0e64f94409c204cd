-- The law that a function with arms that break no rule breaks none.
use Rattle.std.specs.Prelude.{List}
use Rattle.std.specs.List.{Contains}
use Rattle.decl_syntax.specs.Functions.{FunctionTree}
use Rattle.decl_syntax.specs.Patterns.{PatternTree}
use Rattle.pattern_rules.specs.Faults.{BreaksNone, scrutinee_type}
use Rattle.pattern_rules.specs.Settings.{Setting}
use Rattle.arm_laws.specs.Completes.{with_arms}
use Rattle.arm_laws.specs.Fine.{IsFinePattern}

-- law: a function that breaks no rule breaks none with arms of such patterns behind its own
abbrev pub FineArmsBreakNone : Type 0
FineArmsBreakNone = (s : Setting) (f : FunctionTree) (ps : List PatternTree) → BreaksNone s f →
    ((p : PatternTree) → Contains ps p → IsFinePattern s (scrutinee_type s f) p) → BreaksNone s (with_arms f ps)
