-- Patterns that break no rule have the form of the type where they stand.
use Rattle.std.proofs.Common.{◌≡◌, ℕ, Bool, true, false, not, ◌&&◌, nat_le, List, [], ◌++◌, ◌∷◌, refl, subst}
use Rattle.match_model.specs.declared.Mode.{Mode}
use Rattle.match_model.specs.declared.Mode.TheVariants.{Move}
use Rattle.match_model.specs.Types.{MType}
use Rattle.match_model.specs.Constructors.{SingleCtor}
use Rattle.match_model.specs.RustTypes.{rust_arity, inner_type}
use Rattle.decl_syntax.specs.Patterns.{PathTree, PatternTree, At, Shape, PatternTrees, none, more, FieldTrees, no_field, and_field}
use Rattle.decl_syntax.specs.Patterns as patterns
use Rattle.decl_syntax.specs.Widths.{pattern_count, most_parts}
use Rattle.decl_syntax.specs.Functions.{FunctionTree}
use Rattle.decl_syntax.specs.Items.{ArmTree}
use Rattle.type_names.specs.Finding.{path_finds, is_found}
use Rattle.pattern_rules.specs.Settings.{Setting, program, Place, place, pointed, bottom_type, bottom_mode}
use Rattle.pattern_rules.specs.Namings.{found_by, found_if, found_ctor, field_names, field_number, fields_found, is_short, meets}
use Rattle.pattern_rules.specs.Nodes.{Standing, AsItem, Elsewhere, nodes, nodes_within, part_nodes, field_nodes, item_nodes, alternative_nodes, field_standing, part_types, part_behind, slice_item_type, names_bound, is_rest}
use Rattle.pattern_rules.specs.NodeRules.{finds_none, misses, is_tuple, is_row, has_other_count}
use Rattle.pattern_rules.specs.Faults.{scrutinee_type}
use Rattle.pattern_rules.specs.Spelled.{has_bound_rest, is_spelled, shape_is_spelled, all_are_spelled, fields_are_spelled, are_two}
use Rattle.pattern_rules.specs.ShownMatches.{IsSoundArm}
use Rattle.pattern_rules.proofs.SameTypes.{both_left, both_right}
use Rattle.pattern_elaboration.specs.Checking.{IsMet}
use Rattle.pattern_elaboration.specs.Fitting.{Fits, ShapeFits, PartsFit, FieldsFit, AllFit}
use Rattle.pattern_elaboration.proofs.FineNodes.{NodeFine, AllFine, fine_left, fine_right, arm_fine, untwice}
use Rattle.pattern_elaboration.proofs.FoundForms.{path_there}
use Rattle.pattern_elaboration.proofs.RangesFit.{range_fits}

-- what a short path finds, where it finds something, meets the type that it does not miss
met_there : (s : Setting) (path : PathTree) (u : MType) → not (is_short path) ≡ false →
    finds_none (found_if (is_short path) (path_finds s.items path)) (is_short path) ≡ false →
    misses (found_if (is_short path) (path_finds s.items path)) u ≡ false →
    IsMet s (found_if (is_short path) (path_finds s.items path)) u
met_there s path u short known type =
    let found : is_found (found_if (is_short path) (path_finds s.items path)) ≡ true = untwice
    (is_found (found_if (is_short path) (path_finds s.items path)))
    (second (is_short path) (not (is_found (found_if (is_short path) (path_finds s.items path))))
    (untwice (is_short path) short) known) in
    record {
      there = path_there s.items path (is_short path) found;
      met = untwice (meets (found_if (is_short path) (path_finds s.items path)) u)
          (second (is_found (found_if (is_short path) (path_finds s.items path)))
          (not (meets (found_if (is_short path) (path_finds s.items path)) u)) found type);
    }
  where
    second : (a b : Bool) → a ≡ true → (a && b) ≡ false → b ≡ false
    second true b h k = k
    second false b h k = cc

-- a rest fits at each type
rest_fits : (s : Setting) (t : MType) (p : PatternTree) → is_rest p ≡ true → Fits s t p
rest_fits s t (At from patterns.Rest) h = tt
rest_fits s t (At from (patterns.BindAs name by_ref mutable (At at patterns.Rest))) h = tt
rest_fits s t (At from shape) h = absurd cc

item_type_there : (t : MType) (items : ℕ) (p : PatternTree) → is_rest p ≡ false → slice_item_type t items p ≡
    inner_type t
item_type_there t items p e = rw e refl

module _ (s : Setting) where
  item_fits : (before : List (List ℕ)) (t : MType) (items : ℕ) (m : Mode) (q : PatternTree) (b : Bool) → is_rest q ≡ b →
      (AllFine s (nodes s AsItem before (place (inner_type t) m) q) → Fits s (inner_type t) q) →
      AllFine s (nodes s AsItem before (place (slice_item_type t items q) m) q) → Fits s (inner_type t) q
  item_fits before t items m q true e k h = rest_fits s (inner_type t) q e
  item_fits before t items m q false e k h = k (subst (λ w. AllFine s (nodes s AsItem before (place w m) q))
      (item_type_there t items q e) h)

  mutual
    pub tree_fits : (st : Standing) (before : List (List ℕ)) (p : Place) (q : PatternTree) → is_spelled q ≡ true →
        AllFine s (nodes s st before p q) → Fits s p.type q
    tree_fits st before p (At from shape) f h = shape_fits st before p from shape f h.0 h.1

    shape_fits : (st : Standing) (before : List (List ℕ)) (p : Place) (from : ℕ) (shape : Shape) →
        shape_is_spelled shape ≡ true →
        NodeFine s (record { at = from; shape = shape; standing = st; place = p; before = before }) →
        AllFine s (nodes_within s before p shape) →
        ShapeFits s p.type shape
    shape_fits st before p from patterns.Wild f n h = tt
    shape_fits st before p from patterns.Rest f n h = tt
    shape_fits st before p from (patterns.Literal l) f n h = tt
    shape_fits st before p from (patterns.Name name) f n h = tt
    shape_fits st before p from (patterns.Bind name by_ref mutable) f n h = tt
    shape_fits st before p from (patterns.BindAs name by_ref mutable q) f n h = tree_fits Elsewhere
        (before ++ name ∷ []) p q f h
    shape_fits st before p from (patterns.Path path) f n h = tt
    shape_fits st before p from (patterns.TupleForm path ps) f n h = (
      met_there s path (bottom_type p.type) n.kind n.known n.type,
      parts_fit before (part_types s (found_ctor (found_by s (patterns.TupleForm path ps))) (bottom_type p.type))
          (bottom_mode p.type p.mode)
          (fields_found s.items (found_by s (patterns.TupleForm path ps))) 0 ps f h,
    )
    shape_fits st before p from (patterns.Brace path fs rest) f n h = (
      met_there s path (bottom_type p.type) n.kind n.known n.type,
      fields_fit before (part_types s (found_ctor (found_by s (patterns.Brace path fs rest))) (bottom_type p.type))
          (bottom_mode p.type p.mode)
          (field_names s.items (found_by s (patterns.Brace path fs rest))) fs f h,
    )
    shape_fits st before p from (patterns.Tuple ps) f n h =
        let tuple : is_tuple (bottom_type p.type) ≡ true = untwice (is_tuple (bottom_type p.type)) n.type in (
          record {
            type = tuple;
            once = n.rest;
            count = counted (is_tuple (bottom_type p.type))
                (has_other_count ps (rust_arity (program s) SingleCtor (bottom_type p.type))) tuple n.count;
          },
          parts_fit before (part_types s SingleCtor (bottom_type p.type)) (bottom_mode p.type p.mode)
              (rust_arity (program s) SingleCtor (bottom_type p.type)) 0 ps
              (both_right (not (has_bound_rest ps)) (all_are_spelled ps) f) h,
        )
      where
        counted : (a b : Bool) → a ≡ true → (a && b) ≡ false → b ≡ false
        counted true b h k = k
        counted false b h k = cc
    shape_fits st before p from (patterns.Group q) f n h = tree_fits Elsewhere before p q f h
    shape_fits st before p from (patterns.Slice ps) f n h = (
      record { type = untwice (is_row (bottom_type p.type)) n.type; once = n.rest },
      items_fit before (bottom_type p.type) (pattern_count ps) (bottom_mode p.type p.mode) (pattern_count ps) 0 ps
          (both_right (nat_le (pattern_count ps) most_parts) (all_are_spelled ps) f) h,
    )
    shape_fits st before p from (patterns.Point mutable q) f n h = tree_fits Elsewhere before (pointed p) q f h
    shape_fits st before p from (patterns.Range low high closed) f n h = range_fits s.width low high closed
        (bottom_type p.type) f n.kind n.type n.range n.ends
    shape_fits st before p from (patterns.Or ps) f n h = alternatives_fit before p ps
        (both_right (are_two ps) (all_are_spelled ps) f) h

    parts_fit : (before : List (List ℕ)) (types : ℕ → MType) (m : Mode) (parts i : ℕ) (ps : PatternTrees) →
        all_are_spelled ps ≡ true →
        AllFine s (part_nodes s before types m parts i ps) → PartsFit s types parts i ps
    parts_fit before types m parts i none f h = tt
    parts_fit before types m parts i (more q qs) f h = (
      tree_fits Elsewhere before (place (types i) m) q (both_left (is_spelled q) (all_are_spelled qs) f)
          (fine_left s (nodes s Elsewhere before (place (types i) m) q) (part_nodes s (before ++ names_bound s q)
          types m parts (part_behind parts i q qs) qs) h),
      parts_fit (before ++ names_bound s q) types m parts (part_behind parts i q qs) qs (both_right (is_spelled q)
          (all_are_spelled qs) f)
          (fine_right s (nodes s Elsewhere before (place (types i) m) q) (part_nodes s (before ++ names_bound s q)
          types m parts (part_behind parts i q qs) qs) h),
    )

    fields_fit : (before : List (List ℕ)) (types : ℕ → MType) (m : Mode) (names : List (List ℕ)) (fs : FieldTrees) →
        fields_are_spelled fs ≡ true →
        AllFine s (field_nodes s before types m names fs) → FieldsFit s types names fs
    fields_fit before types m names no_field f h = tt
    fields_fit before types m names (and_field name short attrs q fs) f h = (
      tree_fits (field_standing short) before (place (types (field_number names name)) m) q (both_left (is_spelled q)
          (fields_are_spelled fs) f)
          (fine_left s (nodes s (field_standing short) before (place (types (field_number names name)) m) q)
          (field_nodes s (before ++ names_bound s q) types m names fs) h),
      fields_fit (before ++ names_bound s q) types m names fs (both_right (is_spelled q) (fields_are_spelled fs) f)
          (fine_right s (nodes s (field_standing short) before (place (types (field_number names name)) m) q)
          (field_nodes s (before ++ names_bound s q) types m names fs) h),
    )

    items_fit : (before : List (List ℕ)) (t : MType) (items : ℕ) (m : Mode) (parts i : ℕ) (ps : PatternTrees) →
        all_are_spelled ps ≡ true →
        AllFine s (item_nodes s before t items m ps) → PartsFit s (λ j. inner_type t) parts i ps
    items_fit before t items m parts i none f h = tt
    items_fit before t items m parts i (more q qs) f h = (
      item_fits before t items m q (is_rest q) refl
          (λ k. tree_fits AsItem before (place (inner_type t) m) q (both_left (is_spelled q) (all_are_spelled qs) f) k)
          (fine_left s (nodes s AsItem before (place (slice_item_type t items q) m) q)
          (item_nodes s (before ++ names_bound s q) t items m qs) h),
      items_fit (before ++ names_bound s q) t items m parts (part_behind parts i q qs) qs (both_right (is_spelled q)
          (all_are_spelled qs) f)
          (fine_right s (nodes s AsItem before (place (slice_item_type t items q) m) q)
          (item_nodes s (before ++ names_bound s q) t items m qs) h),
    )

    alternatives_fit : (before : List (List ℕ)) (p : Place) (ps : PatternTrees) → all_are_spelled ps ≡ true →
        AllFine s (alternative_nodes s before p ps) → AllFit s p.type ps
    alternatives_fit before p none f h = tt
    alternatives_fit before p (more q qs) f h = (
      tree_fits Elsewhere before p q (both_left (is_spelled q) (all_are_spelled qs) f)
          (fine_left s (nodes s Elsewhere before p q) (alternative_nodes s before p qs) h),
      alternatives_fit before p qs (both_right (is_spelled q) (all_are_spelled qs) f)
          (fine_right s (nodes s Elsewhere before p q) (alternative_nodes s before p qs) h),
    )

-- the pattern of an arm
pub arm_fits : (s : Setting) (f : FunctionTree) (a : ArmTree) → IsSoundArm s f a → Fits s (scrutinee_type s f) a.pattern
arm_fits s f a h = tree_fits s Elsewhere [] (place (scrutinee_type s f) Move) a.pattern h.spelled
    (arm_fine s f a h.fine h.among)
