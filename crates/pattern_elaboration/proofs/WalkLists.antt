-- The lists of a walk, item by item: what is made so far, and what is left.
use Rattle.std.proofs.Common.{◌≡◌, ℕ, suc, ◌+◌, ◌-◌, ◌<◌, Bool, true, false, List, [], ◌∷◌, ◌++◌, map, length, drop, get_or, refl, sym, ap, subst, ◌∙◌, append_assoc, arith, if◌then◌else◌}
use Rattle.std.proofs.lemmas.List.{map-append, length-drop}
use Rattle.match_model.specs.declared.Mode.{Mode}
use Rattle.match_model.specs.Types.{MType}
use Rattle.decl_syntax.specs.declared.tree.Pat.{Pat}
use Rattle.decl_syntax.specs.Patterns.{PatternTree, PatternTrees, more, pattern_view, patterns_from}
use Rattle.decl_syntax.specs.Widths.{pattern_count}
use Rattle.pattern_arena.specs.declared.pattern.DePat.{DePat}
use Rattle.pattern_arena.specs.Trees.{tree}
use Rattle.type_table.specs.declared.table.TyId.{TyId}
use Rattle.type_table.specs.declared.table.TypeTable.{TypeTable}
use Rattle.type_table.specs.Tables.{IsOf, table_program, table_type, fields_of_type}
use Rattle.pattern_rules.specs.Settings.{Setting}
use Rattle.pattern_rules.specs.Nodes.{is_rest, part_behind}
use Rattle.pattern_rules.specs.Builders.{Built}
use Rattle.pattern_elaboration.specs.Checking.{IsSettingOf}
use Rattle.pattern_elaboration.specs.Fitting.{Fits, PartsFit}
use Rattle.pattern_elaboration.specs.Given.{trees, given, field_trees, given_fields}
use Rattle.pattern_elaboration.specs.Numbered.{IsMade, AreMade}
use Rattle.pattern_elaboration.specs.Walking.{plain, PatternShown}
use Rattle.pattern_elaboration.specs.Written.{types_of_parts, built, built_parts}
use Rattle.pattern_elaboration.proofs.Numbering.{made_more}
use Rattle.pattern_elaboration.proofs.Walks.{list_of, from_here}

pub pattern_count-map : {A : Type 0} (f : A → PatternTree) (xs : List A) → pattern_count (patterns_from (map f xs)) ≡
    length xs
pattern_count-map f [] = refl
pattern_count-map f (x ∷ xs) = ap suc (pattern_count-map f xs)

-- how many items are left
pub left_count : (all : List Pat) (i left : ℕ) → left + (i + 1) ≡ length all → pattern_count
    (list_of (drop (i + 1) all)) ≡ left
left_count all i left e = pattern_count-map pattern_view (drop (i + 1) all) ∙ (length-drop (i + 1) all ∙ omega arith)

-- one thing more in front of what is left
pub one_more : {A : Type 0} (done : List A) (x : A) (later whole all : List A) → whole ≡ x ∷ later →
    done ++ whole ≡ all → (done ++ x ∷ []) ++ later ≡ all
one_more done x later whole all e h = append_assoc done (x ∷ []) later ∙ (ap (λ xs. done ++ xs) (sym e) ∙ h)

-- a pattern at the type where it was made
pub shown_at : (table : TypeTable) (t u : MType) (m : Mode) (p : PatternTree) (new : DePat TyId) →
    PatternShown table u m p new → u ≡ t →
    (s : Setting) → IsSettingOf table s → Fits s t p → plain table new ≡ built s t m p
shown_at table t u m p new h e s is fit = h s is (subst (λ v. Fits s v p) (sym e) fit) ∙ ap (λ v. built s v m p) e

pub fields_more : (table : TypeTable) (written : List (ℕ × DePat TyId)) (n : ℕ) (new : DePat TyId) →
    given_fields (table_type table) (written ++ (n, new) ∷ []) ≡ given_fields (table_type table) written ++
    (n, plain table new) ∷ []
fields_more table written n new = map-append (λ (f : ℕ × DePat TyId). (f.0, plain table f.1)) written ((n, new) ∷ [])

pub field_trees_more : (written : List (ℕ × DePat TyId)) (n : ℕ) (new : DePat TyId) →
    field_trees (written ++ (n, new) ∷ []) ≡ field_trees written ++ tree new ∷ []
field_trees_more written n new = map-append (λ (f : ℕ × DePat TyId). tree f.1) written ((n, new) ∷ [])

pub trees_more : (ps : List (DePat TyId)) (new : DePat TyId) → trees (ps ++ new ∷ []) ≡ trees ps ++ tree new ∷ []
trees_more ps new = map-append (λ (p : DePat TyId). tree p) ps (new ∷ [])

pub given_more : (table : TypeTable) (ps : List (DePat TyId)) (new : DePat TyId) → given (table_type table)
    (ps ++ new ∷ []) ≡ given (table_type table) ps ++ plain table new ∷ []
given_more table ps new = map-append (λ (p : DePat TyId). plain table p) ps (new ∷ [])

-- the uids and types of one field more
pub fields_made : (table : TypeTable) (a b c n : ℕ) (written pushed : List (ℕ × DePat TyId)) (new : DePat TyId) →
    pushed ≡ written ++ (n, new) ∷ [] →
    AreMade (IsOf table) a b (field_trees written) → IsMade (IsOf table) b c (tree new) → AreMade (IsOf table) a c
    (field_trees pushed)
fields_made table a b c n written pushed new e h k =
    subst (λ ts. AreMade (IsOf table) a c ts) (sym (ap (λ (fs : List (ℕ × DePat TyId)). field_trees fs) e
    ∙ field_trees_more written n new))
    (made_more (IsOf table) a b c (field_trees written) (tree new) h k)

pub trees_made : (table : TypeTable) (a b c : ℕ) (ps pushed : List (DePat TyId)) (new : DePat TyId) →
    pushed ≡ ps ++ new ∷ [] →
    AreMade (IsOf table) a b (trees ps) → IsMade (IsOf table) b c (tree new) → AreMade (IsOf table) a c (trees pushed)
trees_made table a b c ps pushed new e h k =
    subst (λ ts. AreMade (IsOf table) a c ts) (sym (ap (λ (fs : List (DePat TyId)). trees fs) e ∙ trees_more ps new))
    (made_more (IsOf table) a b c (trees ps) (tree new) h k)

-- the written fields of a tuple form: these are made, and those are left
abbrev pub PartsLeft : TypeTable → MType → Mode → (variant : ℕ) → (all : PatternTrees) → (number : ℕ) →
    (left : PatternTrees) → List (ℕ × DePat TyId) → Type 0
PartsLeft table t m k all number left written =
    (s : Setting) (types : ℕ → MType) (parts : ℕ) → IsSettingOf table s →
    ((i : ℕ) → types_of_parts (table_program table) t k i ≡ types i) →
    fields_of_type (table_program table) t k ≡ parts → PartsFit s types parts 0 all →
    PartsFit s types parts number left × (given_fields (table_type table) written ++ built_parts s types parts number
    m left ≡ built_parts s types parts 0 m all)

module _ (table : TypeTable) (t : MType) (m : Mode) (k : ℕ) (all : List Pat) (i number following left : ℕ) (p : Pat)
    (written : List (ℕ × DePat TyId))
    (lt : i < length all) (at : p ≡ get_or all i p) (count : left + (i + 1) ≡ length all)
    (next : following ≡ (if is_rest (pattern_view p) then fields_of_type (table_program table) t k - left else suc
    number)) where
  behind_here : (parts : ℕ) → fields_of_type (table_program table) t k ≡ parts → part_behind parts number
      (pattern_view p) (list_of (drop (i + 1) all)) ≡ following
  behind_here parts e =
      ap (λ n. if is_rest (pattern_view p) then parts - n else suc number) (left_count all i left count)
      ∙ (ap (λ n. if is_rest (pattern_view p) then n - left else suc number) (sym e) ∙ sym next)

  pub part_pushed : (pushed : List (ℕ × DePat TyId)) (new : DePat TyId) (u : MType) → pushed ≡ written ++
      (number, new) ∷ [] → is_rest (pattern_view p) ≡ false →
      u ≡ types_of_parts (table_program table) t k number → PatternShown table u m (pattern_view p) new →
      PartsLeft table t m k (list_of all) number (list_of (drop i all)) written → PartsLeft table t m k (list_of all)
      following (list_of (drop (i + 1) all)) pushed
  part_pushed pushed new u push plain_item type made h s types parts is same fields fit =
      let before : PartsFit s types parts number (list_of (drop i all)) × (given_fields (table_type table) written ++
      built_parts s types parts number m (list_of (drop i all)) ≡ built_parts s types parts 0 m (list_of all))
      = h s types parts is same fields fit in
      let here : PartsFit s types parts number (more (pattern_view p) (list_of (drop (i + 1) all))) = subst
      (λ xs. PartsFit s types parts number xs) (from_here all i p lt at) before.0 in
      let value : plain table new ≡ built s (types number) m (pattern_view p) = shown_at table (types number) u m
      (pattern_view p) new made (type ∙ same number) s is here.0 in
      let step : built_parts s types parts number m (list_of (drop i all)) ≡ (number, plain table new) ∷ built_parts s
      types parts following m (list_of (drop (i + 1) all))
      = ap (λ xs. built_parts s types parts number m xs) (from_here all i p lt at)
      ∙ (ap (λ (b : Bool). if b then built_parts s types parts (part_behind parts number (pattern_view p)
      (list_of (drop (i + 1) all))) m (list_of (drop (i + 1) all))
      else (number, built s (types number) m (pattern_view p)) ∷ built_parts s types parts (part_behind parts number
      (pattern_view p) (list_of (drop (i + 1) all))) m (list_of (drop (i + 1) all))) plain_item
      ∙ (ap (λ n. (number, built s (types number) m (pattern_view p)) ∷ built_parts s types parts n m
      (list_of (drop (i + 1) all))) (behind_here parts fields)
      ∙ ap (λ (b : Built). (number, b) ∷ built_parts s types parts following m (list_of (drop (i + 1) all)))
      (sym value))) in (
        subst (λ n. PartsFit s types parts n (list_of (drop (i + 1) all))) (behind_here parts fields) here.1,
        ap (λ xs. xs ++ built_parts s types parts following m (list_of (drop (i + 1) all)))
            (ap (λ (fs : List (ℕ × DePat TyId)). given_fields (table_type table) fs) push ∙ fields_more table written
            number new)
            ∙ one_more (given_fields (table_type table) written) (number, plain table new)
            (built_parts s types parts following m (list_of (drop (i + 1) all)))
            (built_parts s types parts number m (list_of (drop i all))) (built_parts s types parts 0 m (list_of all))
            step before.1,
      )

  pub part_skipped : is_rest (pattern_view p) ≡ true → PartsLeft table t m k (list_of all) number
      (list_of (drop i all)) written →
      PartsLeft table t m k (list_of all) following (list_of (drop (i + 1) all)) written
  part_skipped rest h s types parts is same fields fit =
      let before : PartsFit s types parts number (list_of (drop i all)) × (given_fields (table_type table) written ++
      built_parts s types parts number m (list_of (drop i all)) ≡ built_parts s types parts 0 m (list_of all))
      = h s types parts is same fields fit in
      let here : PartsFit s types parts number (more (pattern_view p) (list_of (drop (i + 1) all))) = subst
      (λ xs. PartsFit s types parts number xs) (from_here all i p lt at) before.0 in
      let step : built_parts s types parts number m (list_of (drop i all)) ≡ built_parts s types parts following m
      (list_of (drop (i + 1) all))
      = ap (λ xs. built_parts s types parts number m xs) (from_here all i p lt at)
      ∙ (ap (λ (b : Bool). if b then built_parts s types parts (part_behind parts number (pattern_view p)
      (list_of (drop (i + 1) all))) m (list_of (drop (i + 1) all))
      else (number, built s (types number) m (pattern_view p)) ∷ built_parts s types parts (part_behind parts number
      (pattern_view p) (list_of (drop (i + 1) all))) m (list_of (drop (i + 1) all))) rest
      ∙ ap (λ n. built_parts s types parts n m (list_of (drop (i + 1) all))) (behind_here parts fields)) in (
        subst (λ n. PartsFit s types parts n (list_of (drop (i + 1) all))) (behind_here parts fields) here.1,
        ap (λ xs. given_fields (table_type table) written ++ xs) (sym step) ∙ before.1,
      )
