-- What is found of a function that breaks no rule, in the words of the definitions of matching.
use Rattle.std.specs.Prelude.{◌≡◌, ◌↔◌, Bool, true, List, map, is_some, is_none, IsTrue}
use Rattle.std.specs.List.{Contains}
use Rattle.match_model.specs.Types.{MType}
use Rattle.match_model.specs.Values.{MValue}
use Rattle.match_model.specs.Typing.{InDomain}
use Rattle.match_model.specs.Match.{ArmWays, arm_ways, IsExhaustive}
use Rattle.match_model.specs.Unreachable.{Entry, IsUnreachableList}
use Rattle.match_model.specs.Witness.{MWitness}
use Rattle.match_model.specs.OfType.{witness_is_of}
use Rattle.match_model.specs.WitnessList.{IsWitnessList}
use Rattle.match_model.specs.ExactCover.{IsExactCover}
use Rattle.match_model.specs.ArenaPatterns.{MDeMatch}
use Rattle.match_model.specs.RustTypes.{rust_context, RustValue}
use Rattle.decl_syntax.specs.Functions.{FunctionTree}
use Rattle.pattern_rules.specs.Settings.{Setting, program}
use Rattle.pattern_rules.specs.Faults.{scrutinee_type}
use Rattle.pattern_rules.specs.Resolved.{resolved_arm}
use Rattle.pattern_rules.specs.ShownMatches.{elaborated_arm}

-- the values that the match is to take
abbrev pub Domain : Setting → FunctionTree → MValue → Type 0
Domain s f v = InDomain (program s) (is_some f.deref) (scrutinee_type s f) v

-- the arms as they are written, each as the function from a value to its ways
abbrev pub written_arms : Setting → FunctionTree → List ArmWays
written_arms s f = map (λ a. arm_ways (resolved_arm s (scrutinee_type s f) a)) f.arms

-- the match by constructors
abbrev pub elaborated_match : Setting → FunctionTree → MDeMatch MType
elaborated_match s f = record {
  type = scrutinee_type s f;
  sure = is_none f.deref;
  arms = map (λ a. record { pat = elaborated_arm s f a; guarded = a.guarded }) f.arms;
}

-- the match is exhaustive exactly where it is told so, this is the list of its unreachable arms and alternatives, and this its
-- witness list, each of the scrutinee's type, which is an exact cover of what is missing
pub record IsVerdictOn (s : Setting) (f : FunctionTree) (exhaustive : Bool) (unreachable : List Entry)
    (witnesses : List MWitness) : Type 0 where
  pub tells : (exhaustive ≡ true) ↔ IsExhaustive (Domain s f) (written_arms s f)
  pub unreachable_is : IsUnreachableList (Domain s f) (written_arms s f) unreachable
  pub cover : IsExactCover (Domain s f) (written_arms s f) witnesses
  pub typed : (w : MWitness) → Contains witnesses w → IsTrue (witness_is_of (rust_context (program s)) (scrutinee_type s f) w)
  pub listed : IsWitnessList (rust_context (program s)) (RustValue (program s)) (elaborated_match s f) witnesses
