-- The witnesses of a verdict have texts only behind shared references, and ranges that end at literals or lie beyond
-- them.
use Rattle.std.proofs.Common.{◌≡◌, false, true, List}
use Rattle.std.specs.List.{Contains}
use Rattle.decl_syntax.specs.Functions.{FunctionTree}
use Rattle.match_model.specs.ArenaPatterns.{MDeArm}
use Rattle.match_model.specs.Types.{MType}
use Rattle.match_model.specs.Witness.{MWitness}
use Rattle.pattern_rules.specs.Faults.{scrutinee_type}
use Rattle.pattern_rules.specs.Settings.{Setting, program}
use Rattle.pattern_rules.specs.ShownMatches.{elaborated_arm}
use Rattle.pattern_rules.specs.Verdicts.{elaborated_match}
use Rattle.pattern_laws.proofs.ArmsKept.{arms_in_form}
use Rattle.arm_laws.specs.FunctionLaws.{IsJudged}
use Rattle.arm_laws.specs.VerdictLaws.{VerdictEndsAtLiterals, VerdictTextsAreReferred}
use Rattle.arm_laws.proofs.Completing.{every_made, every_of, near_list, shown}
use Rattle.arm_laws.proofs.Kept.{is_kept, witnesses_kept, kept_ends, kept_texts}
use Rattle.arm_laws.proofs.TextPlaces.{Allows, pattern_allowed}

kept : (s : Setting) (f : FunctionTree) (witnesses : List MWitness) (w : MWitness) → IsJudged s f witnesses →
    Contains witnesses w → is_kept (program s) false (scrutinee_type s f) w ≡ true
kept s f witnesses w h c =
    every_of (λ (u : MWitness). is_kept (program s) false (scrutinee_type s f) u ≡ true) witnesses
    (witnesses_kept (program s) h.sound (elaborated_match s f) witnesses (near_list s f witnesses h)
    (every_made (λ (d : MDeArm MType). Allows false d.pat) (shown s f) f.arms
    (λ a m. pattern_allowed (elaborated_arm s f a) (arms_in_form s f a (h.arms a m)).text))) w c

pub verdict_ends_at_literals : VerdictEndsAtLiterals
verdict_ends_at_literals s f witnesses w h c =
    kept_ends (program s) false (scrutinee_type s f) w (kept s f witnesses w h c)

pub verdict_texts_are_referred : VerdictTextsAreReferred
verdict_texts_are_referred s f witnesses w h c =
    kept_texts (program s) false (scrutinee_type s f) w (kept s f witnesses w h c)
