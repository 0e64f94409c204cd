-- Edition 2024 leaves a pattern one reading of its binding modes (Rust Reference, binding modes; Rust Edition Guide,
-- match ergonomics reservations).
use Rattle.std.specs.Prelude.{◌≡◌, ◌↔◌, List, map, IsTrue}
use Rattle.std.specs.List.{Contains}
use Rattle.match_model.specs.declared.Mode.{Mode}
use Rattle.match_model.specs.declared.Mode.TheVariants.{Move}
use Rattle.match_model.specs.Values.{MValue}
use Rattle.match_model.specs.Patterns.{MArm}
use Rattle.match_model.specs.Matching.{ways_by, ways}
use Rattle.match_model.specs.Readings.{moves_at}
use Rattle.match_model.specs.Match.{ArmWays, alternatives_in, IsExhaustive}
use Rattle.match_model.specs.Unreachable.{Entry, IsUnreachableList}
use Rattle.match_model.specs.Witness.{MWitness}
use Rattle.match_model.specs.ExactCover.{IsExactCover}
use Rattle.decl_syntax.specs.Items.{ArmTree}
use Rattle.decl_syntax.specs.Functions.{FunctionTree}
use Rattle.pattern_rules.specs.declared.Edition.TheVariants.{E2024}
use Rattle.pattern_rules.specs.Settings.{Setting}
use Rattle.pattern_rules.specs.Faults.{BreaksNone, scrutinee_type}
use Rattle.pattern_rules.specs.Resolved.{resolved, resolved_arm}
use Rattle.pattern_rules.specs.Verdicts.{Domain, written_arms}

-- in edition 2024 the function breaks no rule
pub record IsFine2024 (s : Setting) (f : FunctionTree) : Type 0 where
  pub edition : s.edition ≡ E2024
  pub fine : BreaksNone s f

-- law: while an arm's pattern is matched with a value of the domain, the mode is a move at each `&` and each `mut`
abbrev pub MovesWhereWritten : Type 0
MovesWhereWritten =
    (s : Setting) (f : FunctionTree) (a : ArmTree) (v : MValue) → IsFine2024 s f → Contains f.arms a → Domain s f v →
    IsTrue (moves_at (resolved s (scrutinee_type s f) a.pattern) Move v)

-- law: so the arm has the same ways, whatever becomes of another mode than a move at a `&` or a `mut`
abbrev pub OlderWaysAgree : Type 0
OlderWaysAgree =
    (back : Mode → Mode) → back Move ≡ Move →
    (s : Setting) (f : FunctionTree) (a : ArmTree) (v : MValue) → IsFine2024 s f → Contains f.arms a → Domain s f v →
    ways_by back (resolved s (scrutinee_type s f) a.pattern) Move v
    ≡ ways (resolved s (scrutinee_type s f) a.pattern) Move v

-- an arm of the source, by what becomes of the binding mode at a `&` and at a `mut`
abbrev pub arm_ways_by : (back : Mode → Mode) → MArm → ArmWays
arm_ways_by back a = record {
  guarded = a.guarded;
  ways_of = ways_by back a.pat Move;
  id = a.at;
  at = a.at;
  alternatives = alternatives_in a.pat;
}

-- the arms as they are written, by what becomes of the binding mode there
abbrev pub arms_by : (back : Mode → Mode) → Setting → FunctionTree → List ArmWays
arms_by back s f = map (λ a. arm_ways_by back (resolved_arm s (scrutinee_type s f) a)) f.arms

-- law: and the match is exhaustive, has this list of what is unreachable, and leaves exactly this out, by one reading
-- exactly where it does by the other
abbrev pub OlderMatchAgrees : Type 0
OlderMatchAgrees =
    (back : Mode → Mode) → back Move ≡ Move → (s : Setting) (f : FunctionTree) → IsFine2024 s f →
    (IsExhaustive (Domain s f) (arms_by back s f) ↔ IsExhaustive (Domain s f) (written_arms s f))
    × ((entries : List Entry) → IsUnreachableList (Domain s f) (arms_by back s f) entries
    ↔ IsUnreachableList (Domain s f) (written_arms s f) entries)
    × ((witnesses : List MWitness) → IsExactCover (Domain s f) (arms_by back s f) witnesses
    ↔ IsExactCover (Domain s f) (written_arms s f) witnesses)
