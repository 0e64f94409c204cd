-- The law that the pattern of an arm for a witness breaks no rule.
use Rattle.std.specs.Prelude.{◌≡◌, ℕ, true, false, [], slice_get, Some}
use Rattle.decl_syntax.specs.Functions.{FunctionTree}
use Rattle.decl_syntax.specs.Patterns.{PatternTree}
use Rattle.match_model.specs.OfType.{witness_is_of}
use Rattle.match_model.specs.RustTypes.{rust_context}
use Rattle.match_model.specs.Types.{MType}
use Rattle.match_model.specs.Values.{MValue}
use Rattle.match_model.specs.Witness.{MWitness, fits}
use Rattle.match_model.specs.declared.Mode.TheVariants.{Move}
use Rattle.pattern_rules.specs.Faults.{node_rules, alternative_rules, breaks, scrutinee_type}
use Rattle.pattern_rules.specs.Nodes.{Node, Elsewhere, nodes}
use Rattle.pattern_rules.specs.Settings.{Setting, program, place}
use Rattle.arm_maker.specs.Arms.{arm_tree}
use Rattle.arm_laws.specs.LiteralEnds.{literal_ends}
use Rattle.arm_laws.specs.NamedOnce.{IsNamedOnce}
use Rattle.arm_laws.specs.Patterns.{arm_shape, unplaced, without_places}

-- the node breaks no rule
pub record IsFineNode (s : Setting) (n : Node) : Type 0 where
  pub alone : (rule : ℕ) → breaks node_rules s n rule ≡ false
  pub alternatives : (rule : ℕ) → breaks alternative_rules s n rule ≡ false

-- no node of the pattern, which stands at the type by a move, breaks a rule
abbrev pub IsFinePattern : Setting → MType → PatternTree → Type 0
IsFinePattern s t p =
    (i : ℕ) (n : Node) → slice_get (nodes s Elsewhere [] (place t Move) p) i ≡ Some n → IsFineNode s n

-- law: the pattern for a witness of the scrutinee's type, which some value fits and whose ranges end at literals,
-- breaks no rule, where no name of the file stands twice
abbrev pub ArmPatternIsFine : Type 0
ArmPatternIsFine = (s : Setting) (f : FunctionTree) (w : MWitness) (v : MValue) (p : PatternTree) → IsNamedOnce s →
    witness_is_of (rust_context (program s)) (scrutinee_type s f) w ≡ true →
    literal_ends (program s) (scrutinee_type s f) w ≡ true → fits w v ≡ true →
    without_places p ≡ unplaced (arm_shape (arm_tree (program s) (scrutinee_type s f) w)) →
    IsFinePattern s (scrutinee_type s f) p
