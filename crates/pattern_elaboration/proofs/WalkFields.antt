-- The written fields of a brace form in a walk, field by field.
use Rattle.std.proofs.Common.{◌≡◌, ℕ, ◌+◌, suc, ◌<◌, add-one, false, List, [], ◌∷◌, ◌++◌, map, length, drop, get_or, sym, ap, subst, ◌∙◌, rules}
use Rattle.std.specs.Rc.{rc_str_bytes}
use Rattle.std.proofs.Math.Seq.{drop-cons}
use Rattle.match_model.specs.declared.Mode.{Mode}
use Rattle.match_model.specs.Types.{MType}
use Rattle.decl_syntax.specs.declared.tree.FieldPat.{FieldPat}
use Rattle.decl_syntax.specs.declared.tree.PatKind.{the_lemmas}
use Rattle.decl_syntax.specs.Patterns.{FieldTree, FieldTrees, and_field, pattern_view, field_view, fields_from}
use Rattle.pattern_arena.specs.declared.pattern.DePat.{DePat}
use Rattle.type_table.specs.declared.table.TyId.{TyId}
use Rattle.type_table.specs.declared.table.TypeTable.{TypeTable}
use Rattle.type_table.specs.Lookups.{field_names as names_of_variant}
use Rattle.type_table.specs.Tables.{table_program, table_type, type_variant}
use Rattle.pattern_rules.specs.Settings.{Setting}
use Rattle.pattern_rules.specs.Namings.{field_number}
use Rattle.pattern_rules.specs.NodeRules.{is_tuple}
use Rattle.pattern_rules.specs.Builders.{Built}
use Rattle.pattern_elaboration.specs.Checking.{IsSettingOf}
use Rattle.pattern_elaboration.specs.Fitting.{Fits, FieldsFit}
use Rattle.pattern_elaboration.specs.Given.{given_fields}
use Rattle.pattern_elaboration.specs.Walking.{plain, PatternShown}
use Rattle.pattern_elaboration.specs.Written.{types_of_parts, built, built_fields}
use Rattle.pattern_elaboration.proofs.WalkLists.{one_more, shown_at, fields_more}

-- the fields of a list
abbrev pub field_list : List FieldPat → FieldTrees
field_list fields = fields_from (map field_view fields)

field_at : (f : FieldPat) → field_view f ≡ record {
  name = rc_str_bytes f.name;
  short = f.short;
  attrs =
      (field_view f).attrs;
  pattern = pattern_view f.pat;
}
field_at f = search (rules, the_lemmas)

fields_here : (all : List FieldPat) (i : ℕ) (f : FieldPat) → i < length all → f ≡ get_or all i f →
    field_list (drop i all) ≡ and_field (rc_str_bytes f.name) f.short (field_view f).attrs (pattern_view f.pat)
    (field_list (drop (i + 1) all))
fields_here all i f lt e =
    rw (drop-cons all i f, add-one, ← e)
    (ap (λ (x : FieldTree). and_field x.name x.short x.attrs x.pattern (field_list (drop (suc i) all))) (field_at f))

-- the written fields of a brace form: these are made, and those are left
abbrev pub FieldsLeft : TypeTable → MType → Mode → (variant : ℕ) → (all left : FieldTrees) → List (ℕ × DePat TyId) →
    Type 0
FieldsLeft table t m k all left written =
    (s : Setting) (types : ℕ → MType) (names : List (List ℕ)) → IsSettingOf table s →
    ((i : ℕ) → types_of_parts (table_program table) t k i ≡ types i) →
    is_tuple t ≡ false → names_of_variant (type_variant (table_program table) t k) ≡ names → FieldsFit s types names
    all →
    FieldsFit s types names left × (given_fields (table_type table) written ++ built_fields s types names m left ≡
    built_fields s types names m all)

pub field_pushed : (table : TypeTable) (t : MType) (m : Mode) (k : ℕ) (all : List FieldPat) (i number : ℕ)
    (f : FieldPat) (written pushed : List (ℕ × DePat TyId))
    (new : DePat TyId) (u : MType) → i < length all → f ≡ get_or all i f →
    (is_tuple t ≡ false → number ≡ field_number (names_of_variant (type_variant (table_program table) t k))
    (rc_str_bytes f.name)) →
    pushed ≡ written ++ (number, new) ∷ [] → u ≡ types_of_parts (table_program table) t k number →
    PatternShown table u m (pattern_view f.pat) new →
    FieldsLeft table t m k (field_list all) (field_list (drop i all)) written → FieldsLeft table t m k
    (field_list all) (field_list (drop (i + 1) all)) pushed
field_pushed table t m k all i number f written pushed new u lt at place push type made h s types names is same tuple
    named fit =
    let before : FieldsFit s types names (field_list (drop i all)) × (given_fields (table_type table) written ++
    built_fields s types names m (field_list (drop i all)) ≡ built_fields s types names m (field_list all))
    = h s types names is same tuple named fit in
    let here : Fits s (types (field_number names (rc_str_bytes f.name))) (pattern_view f.pat) × FieldsFit s types
    names (field_list (drop (i + 1) all))
    = subst (λ xs. FieldsFit s types names xs) (fields_here all i f lt at) before.0 in
    let it : field_number names (rc_str_bytes f.name) ≡ number = sym (place tuple
    ∙ ap (λ ns. field_number ns (rc_str_bytes f.name)) named) in
    let value : plain table new ≡ built s (types number) m (pattern_view f.pat)
    = shown_at table (types number) u m (pattern_view f.pat) new made (type ∙ same number) s is
    (subst (λ n. Fits s (types n) (pattern_view f.pat)) it here.0) in
    let step : built_fields s types names m (field_list (drop i all)) ≡ (number, plain table new) ∷ built_fields s
    types names m (field_list (drop (i + 1) all))
    = ap (λ xs. built_fields s types names m xs) (fields_here all i f lt at)
    ∙ (ap (λ n. (n, built s (types n) m (pattern_view f.pat)) ∷ built_fields s types names m
    (field_list (drop (i + 1) all))) it
    ∙ ap (λ (b : Built). (number, b) ∷ built_fields s types names m (field_list (drop (i + 1) all))) (sym value)) in (
      here.1,
      ap (λ xs. xs ++ built_fields s types names m (field_list (drop (i + 1) all)))
          (ap (λ (fs : List (ℕ × DePat TyId)). given_fields (table_type table) fs) push ∙ fields_more table written
          number new)
          ∙ one_more (given_fields (table_type table) written) (number, plain table new) (built_fields s types names m
          (field_list (drop (i + 1) all)))
          (built_fields s types names m (field_list (drop i all))) (built_fields s types names m (field_list all))
          step before.1,
    )
