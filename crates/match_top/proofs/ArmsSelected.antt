-- What the arms of a match do with a value is what the arms do as they are written.
use Rattle.std.proofs.Common.{◌≡◌, ℕ, suc, Bool, List, [], ◌∷◌, map, refl, subst}
use Rattle.match_model.specs.declared.Mode.TheVariants.{Move}
use Rattle.match_model.specs.ArenaPatterns.{MDeArm, MDeMatch}
use Rattle.match_model.specs.ArenaWays.{arena_ways, arena_arm, match_arms}
use Rattle.match_model.specs.Lists.{Each}
use Rattle.match_model.specs.Match.{arm_ways}
use Rattle.match_model.specs.Matching.{ways}
use Rattle.match_model.specs.Select.{try_of, tries_from, select}
use Rattle.match_model.specs.Types.{MType}
use Rattle.match_model.specs.Values.{MValue}
use Rattle.decl_syntax.specs.Functions.{FunctionTree}
use Rattle.decl_syntax.specs.Items.{ArmTree}
use Rattle.pattern_rules.specs.ArenaForms.{by_offsets}
use Rattle.pattern_rules.specs.Faults.{scrutinee_type}
use Rattle.pattern_rules.specs.Resolved.{resolved, resolved_arm}
use Rattle.pattern_rules.specs.Settings.{Setting}
use Rattle.pattern_rules.specs.ShownMatches.{IsShownArm}
use Rattle.pattern_rules.specs.Verdicts.{Domain, written_arms}
use Rattle.pattern_laws.specs.TableLaws.{IsTableMatch, is_number_of}
use Rattle.pattern_laws.proofs.JudgedShown.{each}
use Rattle.pattern_laws.proofs.SameSelection.{SameTry, selected_same, tries_both, tries_renamed}
use Rattle.pattern_laws.proofs.ShownKept.{shown_arm}
use Rattle.pattern_laws.proofs.TableSeen.{engine_match}
use Rattle.type_table.specs.declared.table.TyId.{TyId}
use Rattle.type_table.specs.declared.table.TypeTable.{TypeTable}
use Rattle.type_table.specs.TableContext.{table_context}
use Rattle.type_table.specs.Tables.{table_type}

-- the same is tried of each arm, but for the traces
same_tries : {T : Type 0} (type : T → MType) (s : Setting) (f : FunctionTree) (v : MValue) → Domain s f v → (j : ℕ) (bs : List ArmTree)
    (ds : List (MDeArm T)) → Each (λ d a. IsShownArm type s f a d) ds bs
    → Each SameTry (tries_from j (map arena_arm ds) v) (tries_from j (map (λ a. arm_ways (resolved_arm s (scrutinee_type s f) a)) bs) v)
same_tries type s f v inside j [] [] h = tt
same_tries type s f v inside j (a ∷ bs) [] h = absurd h
same_tries type s f v inside j [] (d ∷ ds) h = absurd h
same_tries type s f v inside j (a ∷ bs) (d ∷ ds) h =
    let kept = shown_arm type s f a d h.0 in
    let here = map (try_of j d.guarded) (arena_ways d.pat v) in
    tries_both here (map (try_of j a.guarded) (ways (resolved s (scrutinee_type s f) a.pattern) Move v))
    (tries_from (suc j) (map arena_arm ds) v)
    (tries_from (suc j) (map (λ b. arm_ways (resolved_arm s (scrutinee_type s f) b)) bs) v)
    (subst (λ b. Each SameTry here (map (try_of j b) (ways (resolved s (scrutinee_type s f) a.pattern) Move v))) kept.guard
    (subst (λ ws. Each SameTry here (map (try_of j d.guarded) ws)) (kept.way v inside)
    (tries_renamed (by_offsets d.pat) (λ w. refl) j d.guarded (arena_ways d.pat v))))
    (same_tries type s f v inside (suc j) bs ds h.1)

-- so the same is selected
pub selected_on : (table : TypeTable) (s : Setting) (f : FunctionTree) (m : MDeMatch TyId) → IsTableMatch table s f m → (v : MValue)
    (answers : List Bool) → Domain s f v → select (match_arms m) v answers ≡ select (written_arms s f) v answers
selected_on table s f m h v answers inside =
    selected_same (tries_from 0 (match_arms m) v) (tries_from 0 (written_arms s f) v)
    (same_tries (table_type table) s f v inside 0 f.arms m.arms
    (each (table_type table) (is_number_of table) (table_context table) s f m (engine_match table s f m h))) answers
