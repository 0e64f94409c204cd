-- What an engine's match is to show of a function that breaks no rule: the elaborated patterns, without their uids.
use Rattle.std.specs.Prelude.{◌≡◌, ℕ, length, slice_get, Some, is_none, nat_eq, IsTrue}
use Rattle.std.specs.List.{Contains, IsDistinct}
use Rattle.match_model.specs.declared.Mode.TheVariants.{Move}
use Rattle.match_model.specs.Types.{MType}
use Rattle.match_model.specs.RustTypes.{is_type, IsSoundProgram}
use Rattle.match_model.specs.SourcePatterns.{ascend}
use Rattle.match_model.specs.ArenaPatterns.{MDeArm, MDeMatch}
use Rattle.match_model.specs.WellTyped.{uids_in}
use Rattle.decl_syntax.specs.Items.{ArmTree}
use Rattle.decl_syntax.specs.Functions.{FunctionTree}
use Rattle.pattern_rules.specs.Settings.{Setting, program}
use Rattle.pattern_rules.specs.Nodes.{offset_of}
use Rattle.pattern_rules.specs.Faults.{BreaksNone, scrutinee_type}
use Rattle.pattern_rules.specs.Resolved.{resolved}
use Rattle.pattern_rules.specs.Builders.{Built}
use Rattle.pattern_rules.specs.Elaborated.{elaborated, standing_at}
use Rattle.pattern_rules.specs.Spelled.{is_spelled, choice_offsets}
use Rattle.pattern_rules.specs.Shown.{shown}

-- a function that breaks no rule, in a file whose types are sound, and one of its arms, as tokens spell it; offsets ascend from
-- left to right
pub record IsSoundArm (s : Setting) (f : FunctionTree) (a : ArmTree) : Type 0 where
  pub sound : IsSoundProgram (program s)
  pub type_is : IsTrue (is_type (program s) (scrutinee_type s f))
  pub fine : BreaksNone s f
  pub among : Contains f.arms a
  pub spelled : IsTrue (is_spelled a.pattern)
  pub ascend : IsTrue (ascend (choice_offsets a.pattern))

-- what the arm's pattern becomes, at its offset
abbrev pub elaborated_arm : Setting → FunctionTree → ArmTree → Built
elaborated_arm s f a =
    standing_at (offset_of a.pattern) (elaborated (program s) (resolved s (scrutinee_type s f) a.pattern)
    (scrutinee_type s f) Move)

-- the arm shows what the written one becomes: the same guard, and the pattern, whose uids differ
pub record IsShownArm {T : Type 0} (type : T → MType) (s : Setting) (f : FunctionTree) (a : ArmTree)
    (d : MDeArm T) : Type 0 where
  pub sound : IsSoundArm s f a
  pub guard : d.guarded ≡ a.guarded
  pub pattern : shown type d.pat ≡ elaborated_arm s f a
  pub uids : IsDistinct nat_eq (uids_in d.pat)

-- the match has the function's type and validity, and shows its arms
pub record IsShownMatch {T : Type 0} (type : T → MType) (s : Setting) (f : FunctionTree)
    (m : MDeMatch T) : Type 0 where
  pub type_is : type m.type ≡ scrutinee_type s f
  pub sure_is : m.sure ≡ is_none f.deref
  pub count : length m.arms ≡ length f.arms
  pub arms : (j : ℕ) (a : ArmTree) (d : MDeArm T) → slice_get f.arms j ≡ Some a → slice_get m.arms j ≡ Some d →
      IsShownArm type s f a d
