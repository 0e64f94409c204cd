-- In edition 2024 both readings agree on each function that breaks no rule.
use Rattle.std.proofs.Common.{◌≡◌, suc, not, is_some, List, [], ◌∷◌, map, refl, arith}
use Rattle.std.specs.List.{Contains}
use Rattle.match_model.specs.declared.Mode.{Mode}
use Rattle.match_model.specs.declared.Mode.TheVariants.{Move}
use Rattle.match_model.specs.Match.{arm_ways}
use Rattle.match_model.proofs.Agreeing.{readings_agree}
use Rattle.decl_syntax.specs.Items.{ArmTree}
use Rattle.decl_syntax.specs.Functions.{FunctionTree}
use Rattle.pattern_rules.specs.Settings.{Setting, place}
use Rattle.pattern_rules.specs.Faults.{scrutinee_type}
use Rattle.pattern_rules.specs.Resolved.{resolved, resolved_arm}
use Rattle.pattern_rules.specs.Verdicts.{Domain, written_arms}
use Rattle.edition_laws.specs.Laws.{IsFine2024, MovesWhereWritten, OlderWaysAgree, arm_ways_by, arms_by, OlderMatchAgrees}
use Rattle.edition_laws.proofs.NodesKept.{arm_keeps}
use Rattle.edition_laws.proofs.PatternsMove.{pattern_moves}
use Rattle.edition_laws.proofs.AlikeArms.{AlikeArms, exhaustive_alike, unreachable_alike, cover_alike}

pub moves_where_written : MovesWhereWritten
moves_where_written s f a v h c d =
    pattern_moves s h.edition (place (scrutinee_type s f) Move) a.pattern (not (is_some f.deref)) v
    (arm_keeps s f a h.fine c) d

pub older_ways_agree : OlderWaysAgree
older_ways_agree back fixed s f a v h c d =
    readings_agree back fixed (resolved s (scrutinee_type s f) a.pattern) Move v (moves_where_written s f a v h c d)

module _ (back : Mode → Mode) (fixed : back Move ≡ Move) (s : Setting) (f : FunctionTree) (fine : IsFine2024 s f) where
  arms_alike : (bs : List ArmTree) → ((a : ArmTree) → Contains bs a → Contains f.arms a) →
      AlikeArms (Domain s f) (map (λ a. arm_ways_by back (resolved_arm s (scrutinee_type s f) a)) bs)
      (map (λ a. arm_ways (resolved_arm s (scrutinee_type s f) a)) bs)
  arms_alike [] there = tt
  arms_alike (a ∷ bs) there = (
    record {
      guarded = refl;
      same_ways = λ v d. older_ways_agree back fixed s f a v fine (there a (0, omega arith, refl)) d;
      id = refl;
      at = refl;
      alternatives = refl;
    },
    arms_alike bs (λ b (k, l, e). there b (suc k, omega (arith, l), e)),
  )

  alike : AlikeArms (Domain s f) (arms_by back s f) (written_arms s f)
  alike = arms_alike f.arms (λ a c. c)

pub older_match_agrees : OlderMatchAgrees
older_match_agrees back fixed s f fine = (
  exhaustive_alike (Domain s f) (arms_by back s f) (written_arms s f) (alike back fixed s f fine),
  unreachable_alike (Domain s f) (arms_by back s f) (written_arms s f) (alike back fixed s f fine),
  cover_alike (Domain s f) (arms_by back s f) (written_arms s f) (alike back fixed s f fine),
)
