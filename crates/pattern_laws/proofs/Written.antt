-- The overlaps of an engine's match are those of the arms as they are written.
use Rattle.std.proofs.Common.{ℕ, suc, Bool, List, [], ◌∷◌, map, refl, subst}
use Rattle.match_model.specs.declared.Mode.TheVariants.{Move}
use Rattle.match_model.specs.Types.{MType}
use Rattle.match_model.specs.Values.{MValue}
use Rattle.match_model.specs.RustTypes.{RustValue, rust_context, is_type}
use Rattle.match_model.specs.Emptiness.{IsRustType}
use Rattle.match_model.specs.Contexts.{Context}
use Rattle.match_model.specs.ContextViews.{Seen}
use Rattle.match_model.specs.Lists.{Each}
use Rattle.match_model.specs.Match.{arm_ways}
use Rattle.match_model.specs.Matching.{ways}
use Rattle.match_model.specs.Select.{try_of, tries_from}
use Rattle.match_model.specs.Overlaps.{MOverlap, IsOverlapList}
use Rattle.match_model.specs.ArenaPatterns.{MDeArm, MDeMatch}
use Rattle.match_model.specs.ArenaWays.{arena_ways, arena_arm, match_arms, InMatchDomain}
use Rattle.match_model.proofs.OneOverlaps.{one_overlap_list}
use Rattle.match_model.proofs.RustValues.{rust_values_law}
use Rattle.match_model.proofs.RustParts.{rust_parts}
use Rattle.match_model.proofs.Decided.{sure_marks}
use Rattle.match_model.proofs.Marked.{rust_empty, rust_unsure}
use Rattle.decl_syntax.specs.Items.{ArmTree}
use Rattle.decl_syntax.specs.Functions.{FunctionTree}
use Rattle.type_table.specs.TableContext.{table_context}
use Rattle.type_table.specs.Tables.{table_type}
use Rattle.pattern_rules.specs.Settings.{Setting, program}
use Rattle.pattern_rules.specs.Faults.{scrutinee_type}
use Rattle.pattern_rules.specs.Resolved.{resolved, resolved_arm}
use Rattle.pattern_rules.specs.ArenaForms.{by_offsets}
use Rattle.pattern_rules.specs.ShownMatches.{IsShownArm}
use Rattle.pattern_rules.specs.Verdicts.{Domain, written_arms}
use Rattle.pattern_laws.specs.JudgedLaws.{IsEngineMatch}
use Rattle.pattern_laws.specs.NumberedMatch.{numbered_match}
use Rattle.pattern_laws.specs.TableLaws.{is_number_of}
use Rattle.pattern_laws.proofs.ShownKept.{shown_arm}
use Rattle.pattern_laws.proofs.JudgedShown.{each, in_domain, shown_typed}
use Rattle.pattern_laws.proofs.SomeVerdict.{engine}
use Rattle.pattern_laws.proofs.TableSeen.{engine_match}
use Rattle.pattern_laws.specs.OverlapLaws.{IsOverlapListOn, OverlapsOfTableMatch, OverlapListOnIsOne, SomeOverlaps}
use Rattle.pattern_laws.proofs.SameSpans.{SameSpans, spans_both, spans_renamed, overlaps_same}
use Rattle.pattern_laws.proofs.SomeOverlaps.{overlaps_exist}

module _ {T : Type 0} (type : T → MType) (s : Setting) (f : FunctionTree) where
  spans_same : (v : MValue) → Domain s f v → (j : ℕ) (bs : List ArmTree) (ds : List (MDeArm T)) →
      Each (λ d a. IsShownArm type s f a d) ds bs →
      Each SameSpans (tries_from j (map arena_arm ds) v)
      (tries_from j (map (λ a. arm_ways (resolved_arm s (scrutinee_type s f) a)) bs) v)
  spans_same v i j [] [] h = tt
  spans_same v i j (a ∷ bs) [] h = absurd h
  spans_same v i j [] (d ∷ ds) h = absurd h
  spans_same v i j (a ∷ bs) (d ∷ ds) h =
      let kept = shown_arm type s f a d h.0 in
      spans_both (map (try_of j d.guarded) (arena_ways d.pat v))
      (map (try_of j a.guarded) (ways (resolved s (scrutinee_type s f) a.pattern) Move v))
      (tries_from (suc j) (map arena_arm ds) v)
      (tries_from (suc j) (map (λ b. arm_ways (resolved_arm s (scrutinee_type s f) b)) bs) v)
      (subst (λ ws. Each SameSpans (map (try_of j d.guarded) (arena_ways d.pat v)) (map (try_of j a.guarded) ws))
      (kept.way v i)
      (spans_renamed (by_offsets d.pat) (λ w. refl) j d.guarded a.guarded (arena_ways d.pat v)))
      (spans_same v i (suc j) bs ds h.1)

module _ {T : Type 0} (type : T → MType) (is_type_s : T → Bool) (cy : Context T) (s : Setting) (f : FunctionTree)
    (m : MDeMatch T) (k : IsEngineMatch type is_type_s cy s f m) where
  overlaps_of_shown : (os : List MOverlap) →
      IsOverlapList (InMatchDomain (Seen type (RustValue (program s))) m) (match_arms m) os → IsOverlapListOn s f os
  overlaps_of_shown os h =
      overlaps_same (Domain s f) (match_arms m) (written_arms s f)
      (λ v i. spans_same type s f v i 0 f.arms m.arms (each type is_type_s cy s f m k)) os
      (in_domain type is_type_s cy s f m k (λ D. IsOverlapList D (match_arms m) os) h)

pub overlaps_of_table : OverlapsOfTableMatch
overlaps_of_table table s f m os k h =
    overlaps_of_shown (table_type table) (is_number_of table) (table_context table) s f m (engine_match table s f m k) os
    (subst (λ p. IsOverlapList (InMatchDomain (Seen (table_type table) (RustValue p)) m) (match_arms m) os)
    k.table_is.program h)

pub one_list : OverlapListOnIsOne
one_list s f os ps a b = one_overlap_list (Domain s f) (written_arms s f) os ps a b

pub some_overlaps : SomeOverlaps
some_overlaps s f sound type_is arms =
    let rust = program s in
    let marks = sure_marks rust sound in
    let whole : MDeMatch MType = numbered_match s f in
    let shows : IsEngineMatch (λ t. t) (is_type rust) (rust_context rust) s f whole = engine s f sound type_is arms in
    let told = overlaps_exist (IsRustType rust) (RustValue rust) (rust_context rust) (rust_values_law rust)
    (rust_parts rust sound) _ _ (rust_empty rust marks.0 sound marks.1) (rust_unsure rust sound) whole
    (shown_typed MType (λ t. t) (is_type rust) (rust_context rust) s f whole shows) shows.made in (
      told.0,
      overlaps_of_shown (λ t. t) (is_type rust) (rust_context rust) s f whole shows told.0 told.1,
    )
