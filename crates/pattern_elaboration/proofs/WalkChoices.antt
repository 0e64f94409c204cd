-- Alternatives in a walk, one by one.
use Rattle.std.proofs.Common.{◌≡◌, ℕ, ◌+◌, ◌<◌, List, [], ◌∷◌, ◌++◌, map, length, drop, get_or, refl, sym, ap, subst, ◌∙◌}
use Rattle.std.proofs.lemmas.List.{map-append}
use Rattle.match_model.specs.declared.Mode.{Mode}
use Rattle.match_model.specs.Types.{MType}
use Rattle.match_model.specs.Constructors.{OrCtor}
use Rattle.match_model.specs.Patterns.{OrPat}
use Rattle.match_model.specs.ArenaPatterns.{MDePat, de_pat, more_de_pats, de_pats_of}
use Rattle.decl_syntax.specs.declared.tree.Pat.{Pat}
use Rattle.decl_syntax.specs.Patterns.{PatternTrees, none, more, pattern_view}
use Rattle.pattern_arena.specs.declared.pattern.DePat.{DePat}
use Rattle.pattern_arena.specs.Trees.{tree}
use Rattle.type_table.specs.declared.table.TyId.{TyId}
use Rattle.type_table.specs.declared.table.TypeTable.{TypeTable}
use Rattle.type_table.specs.Tables.{table_type}
use Rattle.pattern_rules.specs.Settings.{Setting, program}
use Rattle.pattern_rules.specs.Nodes.{offset_of}
use Rattle.pattern_rules.specs.Builders.{Built, over}
use Rattle.pattern_rules.specs.Elaborated.{elaborated, elaborated_alternatives, standing_at}
use Rattle.pattern_rules.specs.Resolved.{alternatives}
use Rattle.pattern_rules.specs.Shown.{settled, shown}
use Rattle.pattern_elaboration.specs.Checking.{IsSettingOf}
use Rattle.pattern_elaboration.specs.Fitting.{Fits, AllFit}
use Rattle.pattern_elaboration.specs.Walking.{plain, PatternShown}
use Rattle.pattern_elaboration.specs.Written.{built, built_choices}
use Rattle.pattern_elaboration.proofs.Settling.{choices_settled}
use Rattle.pattern_elaboration.proofs.WalkLists.{one_more}
use Rattle.pattern_elaboration.proofs.Walks.{list_of, from_here}

-- what the alternatives become, one by one
pub choices_are : (s : Setting) (t : MType) (m : Mode) (ps : PatternTrees) → elaborated_alternatives (program s)
    (alternatives s t ps) t m ≡ de_pats_of (built_choices s t m ps)
choices_are s t m none = refl
choices_are s t m (more p ps) = ap (more_de_pats (standing_at (offset_of p) (built s t m p))) (choices_are s t m ps)

abbrev pub shown_list : TypeTable → List (DePat TyId) → List Built
shown_list table ps = map (λ p. shown (table_type table) (tree p)) ps

-- alternatives: these are made, and those are left
abbrev pub ChoicesLeft : TypeTable → MType → Mode → (all left : PatternTrees) → List (DePat TyId) → Type 0
ChoicesLeft table t m all left made =
    (s : Setting) → IsSettingOf table s → AllFit s t all → AllFit s t left × (shown_list table made ++ built_choices s
    t m left ≡ built_choices s t m all)

pub choice_pushed : (table : TypeTable) (t : MType) (m : Mode) (all : List Pat) (i : ℕ) (p : Pat)
    (done pushed : List (DePat TyId)) (below new : DePat TyId) →
    i < length all → p ≡ get_or all i p → pushed ≡ done ++ new ∷ [] →
    shown (table_type table) (tree new) ≡ standing_at (offset_of (pattern_view p)) (plain table below) →
    PatternShown table t m (pattern_view p) below →
    ChoicesLeft table t m (list_of all) (list_of (drop i all)) done → ChoicesLeft table t m (list_of all)
    (list_of (drop (i + 1) all)) pushed
choice_pushed table t m all i p done pushed below new lt at push stands made h s is fit =
    let before : AllFit s t (list_of (drop i all)) × (shown_list table done ++ built_choices s t m
    (list_of (drop i all)) ≡ built_choices s t m (list_of all)) = h s is fit in
    let here : Fits s t (pattern_view p) × AllFit s t (list_of (drop (i + 1) all)) = subst (λ xs. AllFit s t xs)
    (from_here all i p lt at) before.0 in
    let value : shown (table_type table) (tree new) ≡ standing_at (offset_of (pattern_view p))
    (built s t m (pattern_view p))
    = stands ∙ ap (standing_at (offset_of (pattern_view p))) (made s is here.0) in
    let step : built_choices s t m (list_of (drop i all)) ≡ shown (table_type table) (tree new) ∷ built_choices s t m
    (list_of (drop (i + 1) all))
    = ap (λ xs. built_choices s t m xs) (from_here all i p lt at) ∙ ap (λ (b : Built). b ∷ built_choices s t m
    (list_of (drop (i + 1) all))) (sym value) in (
      here.1,
      ap (λ xs. xs ++ built_choices s t m (list_of (drop (i + 1) all)))
          (ap (λ (xs : List (DePat TyId)). shown_list table xs) push
          ∙ map-append (λ (q : DePat TyId). shown (table_type table) (tree q)) done (new ∷ []))
          ∙ one_more (shown_list table done) (shown (table_type table) (tree new))
          (built_choices s t m (list_of (drop (i + 1) all)))
          (built_choices s t m (list_of (drop i all))) (built_choices s t m (list_of all)) step before.1,
    )

shown_trees : (table : TypeTable) (ps : List (DePat TyId)) → map (shown (table_type table)) (map tree ps) ≡ shown_list
    table ps
shown_trees table [] = refl
shown_trees table (p ∷ ps) = ap (λ bs. shown (table_type table) (tree p) ∷ bs) (shown_trees table ps)

-- an or-pattern over these alternatives
pub or_shown : (table : TypeTable) (s : Setting) (ty : TyId) (n : ℕ) (m : Mode) (ps : PatternTrees)
    (made : List (DePat TyId)) (p : MDePat TyId) →
    p ≡ de_pat OrCtor ty n 0 (de_pats_of (map tree made)) [] → shown_list table made ≡ built_choices s
    (table_type table ty) m ps →
    settled (table_type table) 0 p ≡ elaborated (program s) (OrPat (alternatives s (table_type table ty) ps))
    (table_type table ty) m
or_shown table s ty n m ps made p e h =
    ap (settled (table_type table) 0) e
    ∙ ap (over OrCtor (table_type table ty))
    (choices_settled (table_type table) (map tree made)
    ∙ (ap de_pats_of (shown_trees table made ∙ h) ∙ sym (choices_are s (table_type table ty) m ps)))
