-- What the patterns of a function that breaks no rule keep as an engine gets them.
use Rattle.std.specs.Prelude.{◌≡◌, ◌≤◌, is_some, length, filter, IsTrue}
use Rattle.std.specs.List.{Contains}
use Rattle.match_model.specs.declared.Mode.TheVariants.{Move}
use Rattle.match_model.specs.Values.{MValue}
use Rattle.match_model.specs.Typing.{InDomain}
use Rattle.match_model.specs.RustTypes.{rust_context}
use Rattle.match_model.specs.Matching.{ways}
use Rattle.match_model.specs.ArenaPatterns.{at_of}
use Rattle.match_model.specs.ArenaWays.{arena_ways}
use Rattle.match_model.specs.WellTyped.{IsTyped, names_differ}
use Rattle.decl_syntax.specs.Items.{ArmTree}
use Rattle.decl_syntax.specs.Counts.{pattern_nodes}
use Rattle.decl_syntax.specs.Functions.{FunctionTree}
use Rattle.pattern_rules.specs.Settings.{Setting, program}
use Rattle.pattern_rules.specs.Nodes.{offset_of}
use Rattle.pattern_rules.specs.Faults.{scrutinee_type}
use Rattle.pattern_rules.specs.Resolved.{resolved}
use Rattle.pattern_rules.specs.ArenaForms.{all_within, subs_in, is_or, lone_ranges_only}
use Rattle.pattern_rules.specs.Promises.{texts_are_referred, HasWrittenRanges}
use Rattle.pattern_rules.specs.Builders.{Built}
use Rattle.pattern_rules.specs.ShownMatches.{IsSoundArm, elaborated_arm}

-- law: its ways are those of the pattern that the written one means
abbrev pub WaysAreKept : Type 0
WaysAreKept = (s : Setting) (f : FunctionTree) (a : ArmTree) (v : MValue) → IsSoundArm s f a → InDomain (program s)
    (is_some f.deref) (scrutinee_type s f) v →
    arena_ways (elaborated_arm s f a) v ≡ ways (resolved s (scrutinee_type s f) a.pattern) Move v

-- law: it is well typed for the scrutinee's type
abbrev pub ArmsAreTyped : Type 0
ArmsAreTyped = (s : Setting) (f : FunctionTree) (a : ArmTree) → IsSoundArm s f a → IsTyped (rust_context (program s))
    (scrutinee_type s f) (elaborated_arm s f a)

-- law: no two of its names are one, but for those of different alternatives
abbrev pub NamesAreApart : Type 0
NamesAreApart = (s : Setting) (f : FunctionTree) (a : ArmTree) → IsSoundArm s f a →
    IsTrue (names_differ (elaborated_arm s f a))

-- the pattern stands at the offset of the written one, is in the form that the engine's definitions ask for, has the written
-- ranges, and has at most as many or-patterns as the written one has nodes, none with more alternatives
pub record IsInForm (s : Setting) (f : FunctionTree) (a : ArmTree) (p : Built) : Type 0 where
  pub offset : at_of p ≡ offset_of a.pattern
  pub lone : IsTrue (lone_ranges_only p)
  pub text : IsTrue (texts_are_referred (λ t. t) p)
  pub range : HasWrittenRanges (λ t. t) s f a p
  pub few : length (filter is_or (all_within p)) ≤ pattern_nodes a.pattern
  pub narrow : (q : Built) → Contains (all_within p) q → IsTrue (is_or q) →
      length (subs_in q) ≤ pattern_nodes a.pattern

-- law: so is what the arm's pattern becomes
abbrev pub ArmsAreInForm : Type 0
ArmsAreInForm = (s : Setting) (f : FunctionTree) (a : ArmTree) → IsSoundArm s f a →
    IsInForm s f a (elaborated_arm s f a)
