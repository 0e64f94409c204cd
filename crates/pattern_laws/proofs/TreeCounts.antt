-- A pattern has at most as many or-patterns and ranges as nodes.
use Rattle.std.proofs.Common.{◌≡◌, ℕ, ℤ, suc, ◌+◌, ◌-◌, ◌≤◌, Bool, true, false, List, [], ◌∷◌, ◌++◌, length, Option, Some, None, arith, length-append, if◌then◌else◌}
use Rattle.match_model.specs.declared.Mode.{Mode}
use Rattle.match_model.specs.Types.{MType}
use Rattle.match_model.specs.Constructors.{SingleCtor}
use Rattle.match_model.specs.RustTypes.{rust_arity, inner_type}
use Rattle.match_model.specs.Patterns.{MPat, MPats, no_pats, more_pats, MNumbered, more_numbered}
use Rattle.decl_syntax.specs.Patterns.{PatternTree, At, Shape, PatternTrees, none, more, FieldTrees, no_field, and_field, LitTree, Flag, Char, Byte, Int, Str, Other}
use Rattle.decl_syntax.specs.Patterns as patterns
use Rattle.decl_syntax.specs.Widths.{pattern_count}
use Rattle.decl_syntax.specs.Counts as counts
use Rattle.decl_syntax.specs.Counts.{pattern_nodes, list_nodes}
use Rattle.type_names.specs.Finding.{FoundTree}
use Rattle.pattern_rules.specs.Settings.{Setting, program, Place, place, bottom_type, bottom_mode, pointed}
use Rattle.pattern_rules.specs.Namings.{is_path_name, found_by, found_ctor, field_names, field_number, fields_found}
use Rattle.pattern_rules.specs.Literals.{number_of}
use Rattle.pattern_rules.specs.Nodes.{Standing, AsItem, Elsewhere, nodes, nodes_within, part_nodes, field_nodes, item_nodes, alternative_nodes, names_bound, is_rest, part_behind, part_types, slice_item_type, field_standing}
use Rattle.pattern_rules.specs.Resolved.{resolved, resolved_shape, literal_pattern, number_pattern, name_pattern, form_parts, form_fields, front_items, back_items, alternatives}
use Rattle.pattern_laws.proofs.Choices.{total, choices, choices_of, choices_each}

number_choices : (n : Option ℤ) → choices (number_pattern n) ≤ 1
number_choices None = omega arith
number_choices (Some n) = omega arith

literal_choices : (l : LitTree) → choices (literal_pattern l) ≤ 1
literal_choices (Flag b) = omega arith
literal_choices (Str text) = omega arith
literal_choices (Char c) = omega arith
literal_choices (Byte b) = omega arith
literal_choices (Int negative size suffix) = number_choices (number_of (Int negative size suffix))
literal_choices Other = omega arith

name_choices : (b : Bool) (found : FoundTree) (name : List ℕ) → choices (name_pattern b found name) ≤ 1
name_choices true found name = omega arith
name_choices false found name = omega arith

-- one item, or a rest
numbered_if : (i : ℕ) (q : MPat) (qs : MNumbered) (b : Bool) (n k : ℕ) → choices q ≤ n → total (choices_of qs) ≤ k →
    total (choices_of (if b then qs else more_numbered i q qs)) ≤ n + k
numbered_if i q qs true n k h l = omega (arith, l)
numbered_if i q qs false n k h l = omega (arith, h, l)

front_if : (q : MPat) (qs : MPats) (b : Bool) (n k : ℕ) → choices q ≤ n → total (choices_each qs) ≤ k →
    total (choices_each (if b then no_pats else more_pats q qs)) ≤ n + k
front_if q qs true n k h l = omega arith
front_if q qs false n k h l = omega (arith, h, l)

list_if : (q : MPat) (fronts backs behind : MPats) (b : Bool) (n k : ℕ) → choices q ≤ n →
    total (choices_each behind) ≤ k → total (choices_each fronts) + total (choices_each backs) ≤ k →
    total (choices_each (if b then no_pats else more_pats q fronts)) + total
    (choices_each (if b then behind else backs)) ≤ n + k
list_if q fronts backs behind true n k h l m = omega (arith, l)
list_if q fronts backs behind false n k h l m = omega (arith, h, m)

mutual
  pub tree_choices : (s : Setting) (t : MType) (q : PatternTree) → choices (resolved s t q) ≤ pattern_nodes q
  tree_choices s t (At from shape) = shape_choices s t from shape

  shape_choices : (s : Setting) (t : MType) (from : ℕ) (shape : Shape) → choices (resolved_shape s t from shape) ≤ suc
      (counts.nodes_within shape)
  shape_choices s t from patterns.Wild = omega arith
  shape_choices s t from patterns.Rest = omega arith
  shape_choices s t from (patterns.Literal l) = omega (arith, literal_choices l)
  shape_choices s t from (patterns.Name name) = omega
      (arith, name_choices (is_path_name s name) (found_by s (patterns.Name name)) name)
  shape_choices s t from (patterns.Bind name by_ref mutable) = omega arith
  shape_choices s t from (patterns.BindAs name by_ref mutable q) = omega (arith, tree_choices s t q)
  shape_choices s t from (patterns.Path path) = omega arith
  shape_choices s t from (patterns.TupleForm path ps) =
      omega (
        arith,
        part_choices s (part_types s (found_ctor (found_by s (patterns.TupleForm path ps)))
            (bottom_type t)) (fields_found s.items (found_by s (patterns.TupleForm path ps))) 0 ps,
      )
  shape_choices s t from (patterns.Brace path fs rest) =
      omega (
        arith,
        field_choices s (part_types s (found_ctor (found_by s (patterns.Brace path fs rest)))
            (bottom_type t)) (field_names s.items (found_by s (patterns.Brace path fs rest))) fs,
      )
  shape_choices s t from (patterns.Tuple ps) = omega (
    arith,
    item_choices s (part_types s SingleCtor (bottom_type t)) 0
        (rust_arity (program s) SingleCtor (bottom_type t)) ps,
  )
  shape_choices s t from (patterns.Group q) = omega (arith, tree_choices s t q)
  shape_choices s t from (patterns.Slice ps) = omega
      (arith, item_choices s (λ i. inner_type (bottom_type t)) 0 (pattern_count ps) ps)
  shape_choices s t from (patterns.Point mutable q) = omega (arith, tree_choices s (inner_type t) q)
  shape_choices s t from (patterns.Range low high closed) = omega arith
  shape_choices s t from (patterns.Or ps) = omega (arith, alternative_choices s t ps)

  part_choices : (s : Setting) (types : ℕ → MType) (parts i : ℕ) (ps : PatternTrees) →
      total (choices_of (form_parts s types parts i ps)) ≤ list_nodes ps
  part_choices s types parts i none = omega arith
  part_choices s types parts i (more q qs) =
      numbered_if i (resolved s (types i) q) (form_parts s types parts (part_behind parts i q qs) qs) (is_rest q)
      (pattern_nodes q) (list_nodes qs) (tree_choices s (types i) q)
      (part_choices s types parts (part_behind parts i q qs) qs)

  field_choices : (s : Setting) (types : ℕ → MType) (names : List (List ℕ)) (fs : FieldTrees) →
      total (choices_of (form_fields s types names fs)) ≤ counts.field_nodes fs
  field_choices s types names no_field = omega arith
  field_choices s types names (and_field name short attrs q fs) = omega
      (arith, tree_choices s (types (field_number names name)) q, field_choices s types names fs)

  front_choices : (s : Setting) (types : ℕ → MType) (i : ℕ) (ps : PatternTrees) →
      total (choices_each (front_items s types i ps)) ≤ list_nodes ps
  front_choices s types i none = omega arith
  front_choices s types i (more q qs) =
      front_if (resolved s (types i) q) (front_items s types (suc i) qs) (is_rest q) (pattern_nodes q) (list_nodes qs)
      (tree_choices s (types i) q) (front_choices s types (suc i) qs)

  item_choices : (s : Setting) (types : ℕ → MType) (i parts : ℕ) (ps : PatternTrees) →
      total (choices_each (front_items s types i ps)) + total
      (choices_each (back_items s types parts ps)) ≤ list_nodes ps
  item_choices s types i parts none = omega arith
  item_choices s types i parts (more q qs) =
      list_if (resolved s (types i) q) (front_items s types (suc i) qs) (back_items s types parts qs)
      (front_items s types (parts - pattern_count qs) qs) (is_rest q) (pattern_nodes q) (list_nodes qs)
      (tree_choices s (types i) q) (front_choices s types (parts - pattern_count qs) qs)
      (item_choices s types (suc i) parts qs)

  alternative_choices : (s : Setting) (t : MType) (ps : PatternTrees) →
      total (choices_of (alternatives s t ps)) ≤ list_nodes ps
  alternative_choices s t none = omega arith
  alternative_choices s t (more q qs) = omega (arith, tree_choices s t q, alternative_choices s t qs)

mutual
  -- a pattern's nodes are those of its tree
  pub node_count : (s : Setting) (standing : Standing) (before : List (List ℕ)) (p : Place) (q : PatternTree) →
      length (nodes s standing before p q) ≡ pattern_nodes q
  node_count s standing before p (At from shape) = within_count s before p shape

  within_count : (s : Setting) (before : List (List ℕ)) (p : Place) (shape : Shape) →
      suc (length (nodes_within s before p shape)) ≡ suc (counts.nodes_within shape)
  within_count s before p patterns.Wild = omega arith
  within_count s before p patterns.Rest = omega arith
  within_count s before p (patterns.Literal l) = omega arith
  within_count s before p (patterns.Name name) = omega arith
  within_count s before p (patterns.Bind name by_ref mutable) = omega arith
  within_count s before p (patterns.BindAs name by_ref mutable q) = omega
      (arith, node_count s Elsewhere (before ++ name ∷ []) p q)
  within_count s before p (patterns.Path path) = omega arith
  within_count s before p (patterns.TupleForm path ps) =
      omega (
        arith,
        part_count s before (part_types s (found_ctor (found_by s (patterns.TupleForm path ps)))
            (bottom_type p.type)) (bottom_mode p.type p.mode)
            (fields_found s.items (found_by s (patterns.TupleForm path ps))) 0 ps,
      )
  within_count s before p (patterns.Brace path fs rest) =
      omega (
        arith,
        field_count s before (part_types s (found_ctor (found_by s (patterns.Brace path fs rest)))
            (bottom_type p.type)) (bottom_mode p.type p.mode)
            (field_names s.items (found_by s (patterns.Brace path fs rest))) fs,
      )
  within_count s before p (patterns.Tuple ps) =
      omega (
        arith,
        part_count s before (part_types s SingleCtor (bottom_type p.type)) (bottom_mode p.type p.mode)
            (rust_arity (program s) SingleCtor (bottom_type p.type)) 0 ps,
      )
  within_count s before p (patterns.Group q) = omega (arith, node_count s Elsewhere before p q)
  within_count s before p (patterns.Slice ps) = omega
      (arith, item_count s before (bottom_type p.type) (pattern_count ps) (bottom_mode p.type p.mode) ps)
  within_count s before p (patterns.Point mutable q) = omega (arith, node_count s Elsewhere before (pointed p) q)
  within_count s before p (patterns.Range low high closed) = omega arith
  within_count s before p (patterns.Or ps) = omega (arith, alternative_count s before p ps)

  part_count : (s : Setting) (before : List (List ℕ)) (types : ℕ → MType) (m : Mode) (parts i : ℕ)
      (ps : PatternTrees) → length (part_nodes s before types m parts i ps) ≡ list_nodes ps
  part_count s before types m parts i none = omega arith
  part_count s before types m parts i (more q qs) =
      omega (
        arith,
        length-append (nodes s Elsewhere before (place (types i) m) q)
            (part_nodes s (before ++ names_bound s q) types m parts (part_behind parts i q qs) qs),
        node_count s Elsewhere before (place (types i) m) q,
        part_count s (before ++ names_bound s q) types m parts
            (part_behind parts i q qs) qs,
      )

  field_count : (s : Setting) (before : List (List ℕ)) (types : ℕ → MType) (m : Mode) (names : List (List ℕ))
      (fs : FieldTrees) → length (field_nodes s before types m names fs) ≡ counts.field_nodes fs
  field_count s before types m names no_field = omega arith
  field_count s before types m names (and_field name short attrs q fs) =
      omega (
        arith,
        length-append
            (nodes s (field_standing short) before (place (types (field_number names name)) m) q)
            (field_nodes s (before ++ names_bound s q) types m names fs),
        node_count s (field_standing short) before (place (types (field_number names name)) m) q,
        field_count s
            (before ++ names_bound s q) types m names fs,
      )

  item_count : (s : Setting) (before : List (List ℕ)) (t : MType) (items : ℕ) (m : Mode) (ps : PatternTrees) →
      length (item_nodes s before t items m ps) ≡ list_nodes ps
  item_count s before t items m none = omega arith
  item_count s before t items m (more q qs) =
      omega (
        arith,
        length-append (nodes s AsItem before (place (slice_item_type t items q) m) q)
            (item_nodes s (before ++ names_bound s q) t items m qs),
        node_count s AsItem before (place (slice_item_type t items q) m) q,
        item_count s
            (before ++ names_bound s q) t items m qs,
      )

  alternative_count : (s : Setting) (before : List (List ℕ)) (p : Place) (ps : PatternTrees) →
      length (alternative_nodes s before p ps) ≡ list_nodes ps
  alternative_count s before p none = omega arith
  alternative_count s before p (more q qs) =
      omega (
        arith,
        length-append (nodes s Elsewhere before p q) (alternative_nodes s before p qs),
        node_count s Elsewhere before p q,
        alternative_count s before p qs,
      )
