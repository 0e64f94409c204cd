-- What is told of the parts of a form by the type that it meets.
use Rattle.std.proofs.Common.{◌≡◌, ℕ, Bool, true, false, List, [], length, Option, Some, None, refl, sym, ap, ◌∙◌}
use Rattle.std.specs.Prelude.{IsTrue}
use Rattle.std.specs.Str.{bytes_eq}
use Rattle.match_model.specs.declared.Mode.{Mode}
use Rattle.match_model.specs.Types.{MType}
use Rattle.match_model.specs.Declarations.{MProgram}
use Rattle.match_model.specs.RustTypes.{is_type}
use Rattle.list_members.specs.Members.{repeats}
use Rattle.decl_syntax.specs.Patterns.{PathTree, PatternTrees, FieldTrees, Shape, TupleForm, Brace}
use Rattle.type_names.specs.Finding.{FoundTree, FoundStruct, FoundVariant, path_finds, is_found}
use Rattle.type_table.specs.Lookups as declared
use Rattle.type_table.specs.Tables.{fields_of_type, type_variant}
use Rattle.pattern_rules.specs.Settings.{Setting, program, place, bottom_type, bottom_mode}
use Rattle.pattern_rules.specs.Namings.{found_if, found_by, found_ctor, found_number, fields_found, field_names, is_short, meets}
use Rattle.pattern_rules.specs.Nodes.{Node, Standing, part_nodes, part_types, field_nodes}
use Rattle.pattern_rules.specs.NodeRules.{written_names, has_rests}
use Rattle.pattern_rules.specs.Faults.{node_rules}
use Rattle.pattern_rules.specs.FirstFault.{least_broken}
use Rattle.pattern_check.specs.declared.fault.NodeFault.{NodeFault}
use Rattle.pattern_check.specs.Checking.{IsMet}
use Rattle.pattern_check.specs.NodeForms.{node_at, pick}
use Rattle.pattern_check.specs.Walks.{first_in, types_of_parts, IsFine}
use Rattle.pattern_check.proofs.FieldLemmas.{path_there, form_found}
use Rattle.pattern_check.proofs.NamedFields.{names_in, counted, met_is_named}
use Rattle.pattern_check.proofs.OwnFaults.{form_unfound, form_missed, brace_unfound, brace_missed}

never : (a b : Bool) (rule : ℕ) → pick a 20 (pick b rule (Some 35)) ≡ None → ⊥
never true b rule e = absurd cc
never false true rule e = absurd cc
never false false rule e = absurd cc

some_is_none : {n : ℕ} → Some n ≡ None → ⊥
some_is_none e = cc

module _ (s : Setting) (at : ℕ) (st : Standing) (t : MType) (m : Mode) (before : List (List ℕ)) (path : PathTree) where
  told : FoundTree
  told = found_if (is_short path) (path_finds s.items path)

  fine_form : (ps : PatternTrees) → None ≡ least_broken node_rules s (node_at at (TupleForm path ps) st (place t m) before) → IsMet s (found_by s (TupleForm path ps)) (bottom_type t)
  fine_form ps e = by (is_found (found_by s (TupleForm path ps))) (meets (found_by s (TupleForm path ps)) (bottom_type t)) refl refl
    where
      by : (b c : Bool) → is_found (found_by s (TupleForm path ps)) ≡ b → meets (found_by s (TupleForm path ps)) (bottom_type t) ≡ c → IsMet s (found_by s (TupleForm path ps)) (bottom_type t)
      by false c f g =
          absurd (never (is_short path) (has_rests ps) 27
          (form_unfound s at st t m before path ps (has_rests ps) (pick (is_short path) 20 (pick (has_rests ps) 27 (Some 35))) (sym f) refl refl ∙ sym e))
      by true false f g = absurd (some_is_none (form_missed s at st t m before path ps (sym f) (sym g) ∙ sym e))
      by true true f g = record { there = path_there s.items path (is_short path) (sym f); met = g }

  fine_brace : (fs : FieldTrees) (rest : Bool) → None ≡ least_broken node_rules s (node_at at (Brace path fs rest) st (place t m) before) → IsMet s (found_by s (Brace path fs rest)) (bottom_type t)
  fine_brace fs rest e = by (is_found (found_by s (Brace path fs rest))) (meets (found_by s (Brace path fs rest)) (bottom_type t)) refl refl
    where
      by : (b c : Bool) → is_found (found_by s (Brace path fs rest)) ≡ b → meets (found_by s (Brace path fs rest)) (bottom_type t) ≡ c → IsMet s (found_by s (Brace path fs rest)) (bottom_type t)
      by false c f g =
          absurd (never (is_short path) (repeats bytes_eq [] (written_names fs)) 25
          (brace_unfound s at st t m before path fs rest (repeats bytes_eq [] (written_names fs)) (pick (is_short path) 20 (pick (repeats bytes_eq [] (written_names fs)) 25 (Some 35))) (sym f) refl refl ∙ sym e))
      by true false f g = absurd (some_is_none (brace_missed s at st t m before path fs rest (sym f) (sym g) ∙ sym e))
      by true true f g = record { there = path_there s.items path (is_short path) (sym f); met = g }

-- a form that breaks no rule by itself meets its type
pub fine_told : (s : Setting) (at : ℕ) (st : Standing) (t : MType) (m : Mode) (before : List (List ℕ)) (sh : Shape) → None ≡ least_broken node_rules s (node_at at sh st (place t m) before) → IsFine s sh t
fine_told s at st t m before (TupleForm path ps) e = fine_form s at st t m before path ps e
fine_told s at st t m before (Brace path fs rest) e = fine_brace s at st t m before path fs rest e
fine_told s at st t m before sh e = tt

-- the parts of what was found
form_parts : (s : Setting) (before : List (List ℕ)) (found : FoundTree) (u : MType) (m : Mode) (parts : ℕ) (qs : PatternTrees) → is_found found ≡ true →
    part_nodes s before (types_of_parts (program s) u (found_number found)) m parts 0 qs ≡ part_nodes s before (part_types s (found_ctor found) u) m parts 0 qs
form_parts s before (FoundStruct i) u m parts qs h = refl
form_parts s before (FoundVariant o k) u m parts qs h = refl
form_parts s before found u m parts qs h = absurd cc

brace_parts : (s : Setting) (before : List (List ℕ)) (found : FoundTree) (u : MType) (m : Mode) (names : List (List ℕ)) (fs : FieldTrees) → is_found found ≡ true →
    field_nodes s before (types_of_parts (program s) u (found_number found)) m names fs ≡ field_nodes s before (part_types s (found_ctor found) u) m names fs
brace_parts s before (FoundStruct i) u m names fs h = refl
brace_parts s before (FoundVariant o k) u m names fs h = refl
brace_parts s before found u m names fs h = absurd cc

module _ (p : MProgram) (s : Setting) (same : p ≡ program s) (found : FoundTree) (t u : MType) (m n : Mode) (k : ℕ) (met : IsMet s found (bottom_type t)) (type : IsTrue (is_type p u))
    (ty : u ≡ bottom_type t) (mode : n ≡ bottom_mode t m) (number : k ≡ found_number found) where
  met_here : meets found u ≡ true
  met_here = ap (λ (v : MType). meets found v) ty ∙ met.met

  pub is_named : bottom_type t ≡ u
  is_named = sym ty

  names_told : field_names s.items found ≡ declared.field_names (type_variant p u k)
  names_told =
      names_in p s.items s.width found u same met.there type met_here
      ∙ ap (λ (i : ℕ). declared.field_names (type_variant p u i)) (sym number)

  -- the nodes below a tuple form, as a table tells its parts
  pub form_nodes : (before : List (List ℕ)) (qs : PatternTrees) → part_nodes s before (types_of_parts p u k) n (fields_of_type p u k) 0 qs
      ≡ part_nodes s before (part_types s (found_ctor found) (bottom_type t)) (bottom_mode t m) (fields_found s.items found) 0 qs
  form_nodes before qs =
      let count : fields_of_type p u k ≡ fields_found s.items found = counted p u k (met_is_named found u met_here) ∙ ap (λ (ns : List (List ℕ)). length ns) (sym names_told) in
      let told : MProgram → MType → Mode → ℕ → ℕ → List Node = λ q v o i c. part_nodes s before (types_of_parts q v i) o c 0 qs in
      ap (λ (c : ℕ). told p u n k c) count
      ∙ (ap (λ (q : MProgram). told q u n k (fields_found s.items found)) same
      ∙ (ap (λ (v : MType). told (program s) v n k (fields_found s.items found)) ty
      ∙ (ap (λ (o : Mode). told (program s) (bottom_type t) o k (fields_found s.items found)) mode
      ∙ (ap (λ (i : ℕ). told (program s) (bottom_type t) (bottom_mode t m) i (fields_found s.items found)) number
      ∙ form_parts s before found (bottom_type t) (bottom_mode t m) (fields_found s.items found) qs (form_found s.items found met.there)))))

  pub form_within : (before : List (List ℕ)) (qs : PatternTrees) (r : Option NodeFault) → r ≡ first_in node_rules s (part_nodes s before (types_of_parts p u k) n (fields_of_type p u k) 0 qs) →
      r ≡ first_in node_rules s (part_nodes s before (part_types s (found_ctor found) (bottom_type t)) (bottom_mode t m) (fields_found s.items found) 0 qs)
  form_within before qs r h = h ∙ ap (λ (ns : List Node). first_in node_rules s ns) (form_nodes before qs)

  -- the nodes below a brace form, as a table tells its fields
  pub brace_nodes : (before : List (List ℕ)) (fs : FieldTrees) → field_nodes s before (types_of_parts p u k) n (declared.field_names (type_variant p u k)) fs
      ≡ field_nodes s before (part_types s (found_ctor found) (bottom_type t)) (bottom_mode t m) (field_names s.items found) fs
  brace_nodes before fs =
      let told : MProgram → MType → Mode → ℕ → List (List ℕ) → List Node = λ q v o i ns. field_nodes s before (types_of_parts q v i) o ns fs in
      ap (λ (ns : List (List ℕ)). told p u n k ns) (sym names_told)
      ∙ (ap (λ (q : MProgram). told q u n k (field_names s.items found)) same
      ∙ (ap (λ (v : MType). told (program s) v n k (field_names s.items found)) ty
      ∙ (ap (λ (o : Mode). told (program s) (bottom_type t) o k (field_names s.items found)) mode
      ∙ (ap (λ (i : ℕ). told (program s) (bottom_type t) (bottom_mode t m) i (field_names s.items found)) number
      ∙ brace_parts s before found (bottom_type t) (bottom_mode t m) (field_names s.items found) fs (form_found s.items found met.there)))))

  pub brace_within : (before : List (List ℕ)) (fs : FieldTrees) (r : Option NodeFault) →
      r ≡ first_in node_rules s (field_nodes s before (types_of_parts p u k) n (declared.field_names (type_variant p u k)) fs) →
      r ≡ first_in node_rules s (field_nodes s before (part_types s (found_ctor found) (bottom_type t)) (bottom_mode t m) (field_names s.items found) fs)
  brace_within before fs r h = h ∙ ap (λ (ns : List Node). first_in node_rules s ns) (brace_nodes before fs)

  pub named_here : (found_type : MType) → found_type ≡ u → meets found found_type ≡ true
  named_here v e = ap (λ (w : MType). meets found w) e ∙ met_here

-- the nodes below a tuple, as a table tells its parts
pub tuple_nodes : (p : MProgram) (s : Setting) → p ≡ program s → (t u : MType) (m n : Mode) → u ≡ bottom_type t → n ≡ bottom_mode t m → (before : List (List ℕ)) (qs : PatternTrees) →
    part_nodes s before (types_of_parts p u 0) n (fields_of_type p u 0) 0 qs
    ≡ part_nodes s before (types_of_parts (program s) (bottom_type t) 0) (bottom_mode t m) (fields_of_type (program s) (bottom_type t) 0) 0 qs
tuple_nodes p s same t u m n ty mode before qs =
    let told : MProgram → MType → Mode → List Node = λ q v o. part_nodes s before (types_of_parts q v 0) o (fields_of_type q v 0) 0 qs in
    ap (λ (q : MProgram). told q u n) same ∙ (ap (λ (v : MType). told (program s) v n) ty ∙ ap (λ (o : Mode). told (program s) (bottom_type t) o) mode)

pub tuple_within : (p : MProgram) (s : Setting) → p ≡ program s → (t u : MType) (m n : Mode) → u ≡ bottom_type t → n ≡ bottom_mode t m → (before : List (List ℕ)) (qs : PatternTrees) (r : Option NodeFault) →
    r ≡ first_in node_rules s (part_nodes s before (types_of_parts p u 0) n (fields_of_type p u 0) 0 qs) →
    r ≡ first_in node_rules s (part_nodes s before (types_of_parts (program s) (bottom_type t) 0) (bottom_mode t m) (fields_of_type (program s) (bottom_type t) 0) 0 qs)
tuple_within p s same t u m n ty mode before qs r h = h ∙ ap (λ (ns : List Node). first_in node_rules s ns) (tuple_nodes p s same t u m n ty mode before qs)
