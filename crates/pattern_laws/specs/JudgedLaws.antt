-- What judging an engine's match says of the function that it shows.
use Rattle.std.specs.Prelude.{◌≡◌, Bool, List, map, nat_eq, IsTrue}
use Rattle.std.specs.List.{flat_map, Contains, IsDistinct}
use Rattle.match_model.specs.Types.{MType}
use Rattle.match_model.specs.RustTypes.{rust_context, is_type, IsSoundProgram, RustValue}
use Rattle.match_model.specs.Contexts.{Context}
use Rattle.match_model.specs.ContextViews.{View, Passing, Seen}
use Rattle.match_model.specs.Lists.{Every}
use Rattle.match_model.specs.ArenaPatterns.{MDeArm, MDeMatch, type_of}
use Rattle.match_model.specs.WellTyped.{IsWellTyped, uids_in}
use Rattle.match_model.specs.Made.{AreArmsMade}
use Rattle.match_model.specs.Unreachable.{Entry}
use Rattle.match_model.specs.Witness.{MWitness}
use Rattle.pattern_matrix.specs.SearchLaws.{IsJudged}
use Rattle.decl_syntax.specs.Items.{ArmTree}
use Rattle.decl_syntax.specs.Functions.{FunctionTree}
use Rattle.pattern_rules.specs.Settings.{Setting, program}
use Rattle.pattern_rules.specs.Faults.{scrutinee_type}
use Rattle.pattern_rules.specs.ArenaForms.{all_within}
use Rattle.pattern_rules.specs.ShownMatches.{IsSoundArm, IsShownMatch}
use Rattle.pattern_rules.specs.Verdicts.{IsVerdictOn}

-- the entry, with the pattern's offset in place of its name in a trace
abbrev pub by_offset : Entry → Entry
by_offset e = record e { id = e.at }

-- the match shows the function to an engine whose context is seen through the types of the program: its types are the
-- context's, no two of its patterns have one uid, and its ranges can be held
pub record IsEngineMatch {T : Type 0} (type : T → MType) (is_type_s : T → Bool) (cy : Context T) (s : Setting)
    (f : FunctionTree) (m : MDeMatch T) : Type 0 where
  pub sound : IsSoundProgram (program s)
  pub view : View type (Passing is_type_s) (Passing (is_type (program s))) cy (rust_context (program s))
  pub shown : IsShownMatch type s f m
  pub type_is : IsTrue (is_type_s m.type)
  pub types : (d : MDeArm T) → Contains m.arms d → Every (λ q. IsTrue (is_type_s (type_of q))) (all_within d.pat)
  pub uids : IsDistinct nat_eq (flat_map (λ d. uids_in d.pat) m.arms)
  pub made : AreArmsMade m.arms

-- law: it is well typed
abbrev pub ShownMatchIsWellTyped : Type 0 → Type 0
ShownMatchIsWellTyped T =
    (type : T → MType) (is_type_s : T → Bool) (cy : Context T) (s : Setting) (f : FunctionTree) (m : MDeMatch T) →
    IsEngineMatch type is_type_s cy s f m → IsWellTyped (Passing is_type_s) cy m

-- law: what it is judged to be is what is found of the function, with offsets in place of uids
abbrev pub JudgedShownMatch : Type 0 → Type 0
JudgedShownMatch T =
    (type : T → MType) (is_type_s : T → Bool) (cy : Context T) (s : Setting) (f : FunctionTree) (m : MDeMatch T)
    (exhaustive : Bool) (unreachable : List Entry) (witnesses : List MWitness) → IsEngineMatch type is_type_s cy s f m →
    IsJudged (Seen type (RustValue (program s))) cy m exhaustive unreachable witnesses →
    IsVerdictOn s f exhaustive (map by_offset unreachable) witnesses

-- law: of a function one thing alone is found
abbrev pub VerdictIsOne : Type 0
VerdictIsOne =
    (s : Setting) (f : FunctionTree) (exhaustive told : Bool) (unreachable entries : List Entry)
    (witnesses others : List MWitness) → IsVerdictOn s f exhaustive unreachable witnesses →
    IsVerdictOn s f told entries others →
    (exhaustive ≡ told) × (unreachable ≡ entries) × (witnesses ≡ others)

-- law: of each function that breaks no rule something is found, where its arms are sound
abbrev pub SomeVerdict : Type 0
SomeVerdict =
    (s : Setting) (f : FunctionTree) → IsSoundProgram (program s) → IsTrue (is_type (program s) (scrutinee_type s f)) →
    ((a : ArmTree) → Contains f.arms a → IsSoundArm s f a) →
    (exhaustive : Bool) × (unreachable : List Entry) × (witnesses : List MWitness)
    × IsVerdictOn s f exhaustive unreachable witnesses
