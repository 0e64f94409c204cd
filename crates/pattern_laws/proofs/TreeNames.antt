-- The names of a pattern whose nodes pass the tests differ.
use Rattle.std.proofs.Common.{◌≡◌, ◌⊎◌, inl, inr, ℕ, Bool, true, false, List, [], ◌∷◌, ◌++◌, refl, subst}
use Rattle.match_model.specs.declared.Mode.{Mode}
use Rattle.match_model.specs.Types.{MType}
use Rattle.match_model.specs.Constructors.{SingleCtor}
use Rattle.match_model.specs.RustTypes.{rust_arity}
use Rattle.decl_syntax.specs.Patterns.{PatternTree, At, Shape, PatternTrees, none, more, FieldTrees, no_field, and_field, LitTree, Flag, Char, Byte, Int, Str, Other}
use Rattle.decl_syntax.specs.Patterns as patterns
use Rattle.decl_syntax.specs.Widths.{pattern_count}
use Rattle.type_names.specs.NameRules.{is_among}
use Rattle.pattern_rules.specs.Settings.{Setting, program, Place, place, bottom_type, bottom_mode, pointed}
use Rattle.pattern_rules.specs.Namings.{is_path_name, found_by, found_ctor, field_names, field_number, fields_found}
use Rattle.pattern_rules.specs.Nodes.{Standing, AsItem, Elsewhere, nodes, nodes_within, part_nodes, field_nodes, item_nodes, alternative_nodes, names_bound, names_within, names_of_all, names_of_fields, name_if, part_behind, part_types, slice_item_type, field_standing}
use Rattle.pattern_rules.specs.OtherRules.{binds_twice}
use Rattle.pattern_laws.proofs.FineNodes.{NodeFine, AllFine, fine_left, fine_right}
use Rattle.pattern_laws.proofs.NameLists.{In, Apart, in_left, in_right, in_either, not_among}

-- names that are none of those before
abbrev pub New : (names before : List (List ℕ)) → Type 0
New names before = (x : List ℕ) → In x names → In x before → ⊥

new_both : (before first others : List (List ℕ)) → New first before → New others (before ++ first) →
    New (first ++ others) before
new_both before first others h k x a b = go (in_either x first others a)
  where
    go : In x first ⊎ In x others → ⊥
    go (inl q) = h x q b
    go (inr q) = k x q (in_left x before first b)

new_with : (before : List (List ℕ)) (name : List ℕ) (others : List (List ℕ)) → (In name before → ⊥) →
    New others (before ++ name ∷ []) → New (name ∷ others) before
new_with before name others h k x (inl e) b = h (subst (λ z. In z before) e b)
new_with before name others h k x (inr q) b = k x q (in_left x before (name ∷ []) b)

new_either : (before first others : List (List ℕ)) → New first before → New others before →
    New (first ++ others) before
new_either before first others h k x a b = go (in_either x first others a)
  where
    go : In x first ⊎ In x others → ⊥
    go (inl q) = h x q b
    go (inr q) = k x q b

-- a bare name that is no path
one_name : (s : Setting) (standing : Standing) (before : List (List ℕ)) (p : Place) (from : ℕ) (name : List ℕ)
    (b : Bool) → is_path_name s name ≡ b →
    binds_twice s (record { at = from; shape = patterns.Name name; standing = standing; place = p; before = before })
    ≡ false → New (name_if (is_path_name s name) name) before
one_name s standing before p from name true e h = rw e (λ x a b. a)
one_name s standing before p from name false e h =
    let new : is_among name before ≡ false = rw e at h in
    rw e (new_with before name [] (not_among name before new) (λ x a b. a))

mutual
  -- the names that a pattern binds are none of those before it
  pub names_new : (s : Setting) (standing : Standing) (before : List (List ℕ)) (p : Place) (q : PatternTree) →
      AllFine s (nodes s standing before p q) → New (names_bound s q) before
  names_new s standing before p (At from shape) h = names_new_within s standing before p from shape h.0 h.1

  names_new_within : (s : Setting) (standing : Standing) (before : List (List ℕ)) (p : Place) (from : ℕ)
      (shape : Shape) →
      NodeFine s (record { at = from; shape = shape; standing = standing; place = p; before = before }) →
      AllFine s (nodes_within s before p shape) → New (names_within s shape) before
  names_new_within s standing before p from patterns.Wild n h = λ x a b. a
  names_new_within s standing before p from patterns.Rest n h = λ x a b. a
  names_new_within s standing before p from (patterns.Literal l) n h = λ x a b. a
  names_new_within s standing before p from (patterns.Name name) n h = one_name s standing before p from name
      (is_path_name s name) refl n.name
  names_new_within s standing before p from (patterns.Bind name by_ref mutable) n h = new_with before name []
      (not_among name before n.name) (λ x a b. a)
  names_new_within s standing before p from (patterns.BindAs name by_ref mutable q) n h =
      new_with before name (names_bound s q) (not_among name before n.name)
      (names_new s Elsewhere (before ++ name ∷ []) p q h)
  names_new_within s standing before p from (patterns.Path path) n h = λ x a b. a
  names_new_within s standing before p from (patterns.TupleForm path ps) n h =
      parts_new s before (part_types s (found_ctor (found_by s (patterns.TupleForm path ps))) (bottom_type p.type))
      (bottom_mode p.type p.mode)
      (fields_found s.items (found_by s (patterns.TupleForm path ps))) 0 ps h
  names_new_within s standing before p from (patterns.Brace path fs rest) n h =
      fields_new s before (part_types s (found_ctor (found_by s (patterns.Brace path fs rest))) (bottom_type p.type))
      (bottom_mode p.type p.mode)
      (field_names s.items (found_by s (patterns.Brace path fs rest))) fs h
  names_new_within s standing before p from (patterns.Tuple ps) n h =
      parts_new s before (part_types s SingleCtor (bottom_type p.type)) (bottom_mode p.type p.mode)
      (rust_arity (program s) SingleCtor (bottom_type p.type)) 0 ps h
  names_new_within s standing before p from (patterns.Group q) n h = names_new s Elsewhere before p q h
  names_new_within s standing before p from (patterns.Slice ps) n h = items_new s before (bottom_type p.type)
      (pattern_count ps) (bottom_mode p.type p.mode) ps h
  names_new_within s standing before p from (patterns.Point mutable q) n h = names_new s Elsewhere before
      (pointed p) q h
  names_new_within s standing before p from (patterns.Range low high closed) n h = λ x a b. a
  names_new_within s standing before p from (patterns.Or ps) n h = alternatives_new s before p ps h

  parts_new : (s : Setting) (before : List (List ℕ)) (types : ℕ → MType) (m : Mode) (parts i : ℕ)
      (ps : PatternTrees) → AllFine s (part_nodes s before types m parts i ps) → New (names_of_all s ps) before
  parts_new s before types m parts i none h = λ x a b. a
  parts_new s before types m parts i (more q qs) h =
      new_both before (names_bound s q) (names_of_all s qs)
      (names_new s Elsewhere before (place (types i) m) q
      (fine_left s (nodes s Elsewhere before (place (types i) m) q)
      (part_nodes s (before ++ names_bound s q) types m parts (part_behind parts i q qs) qs) h))
      (parts_new s (before ++ names_bound s q) types m parts (part_behind parts i q qs) qs
      (fine_right s (nodes s Elsewhere before (place (types i) m) q)
      (part_nodes s (before ++ names_bound s q) types m parts (part_behind parts i q qs) qs) h))

  pub fields_new : (s : Setting) (before : List (List ℕ)) (types : ℕ → MType) (m : Mode) (names : List (List ℕ))
      (fs : FieldTrees) → AllFine s (field_nodes s before types m names fs) → New (names_of_fields s fs) before
  fields_new s before types m names no_field h = λ x a b. a
  fields_new s before types m names (and_field name short attrs q fs) h =
      new_both before (names_bound s q) (names_of_fields s fs)
      (names_new s (field_standing short) before (place (types (field_number names name)) m) q
      (fine_left s (nodes s (field_standing short) before (place (types (field_number names name)) m) q)
      (field_nodes s (before ++ names_bound s q) types m names fs) h))
      (fields_new s (before ++ names_bound s q) types m names fs
      (fine_right s (nodes s (field_standing short) before (place (types (field_number names name)) m) q)
      (field_nodes s (before ++ names_bound s q) types m names fs) h))

  items_new : (s : Setting) (before : List (List ℕ)) (t : MType) (items : ℕ) (m : Mode) (ps : PatternTrees) →
      AllFine s (item_nodes s before t items m ps) → New (names_of_all s ps) before
  items_new s before t items m none h = λ x a b. a
  items_new s before t items m (more q qs) h =
      new_both before (names_bound s q) (names_of_all s qs)
      (names_new s AsItem before (place (slice_item_type t items q) m) q
      (fine_left s (nodes s AsItem before (place (slice_item_type t items q) m) q)
      (item_nodes s (before ++ names_bound s q) t items m qs) h))
      (items_new s (before ++ names_bound s q) t items m qs
      (fine_right s (nodes s AsItem before (place (slice_item_type t items q) m) q)
      (item_nodes s (before ++ names_bound s q) t items m qs) h))

  pub alternatives_new : (s : Setting) (before : List (List ℕ)) (p : Place) (ps : PatternTrees) →
      AllFine s (alternative_nodes s before p ps) → New (names_of_all s ps) before
  alternatives_new s before p none h = λ x a b. a
  alternatives_new s before p (more q qs) h =
      new_either before (names_bound s q) (names_of_all s qs)
      (names_new s Elsewhere before p q
      (fine_left s (nodes s Elsewhere before p q) (alternative_nodes s before p qs) h))
      (alternatives_new s before p qs
      (fine_right s (nodes s Elsewhere before p q) (alternative_nodes s before p qs) h))

-- each item of a list passes the tests, the names of those before it being bound
abbrev pub ItemsFine : Setting → (before : List (List ℕ)) → PatternTrees → Type 0
ItemsFine s before none = Unit {0}
ItemsFine s before (more q qs) = ((standing : Standing) × (p : Place) × AllFine s (nodes s standing before p q))
    × ItemsFine s (before ++ names_bound s q) qs

pub parts_items : (s : Setting) (before : List (List ℕ)) (types : ℕ → MType) (m : Mode) (parts i : ℕ)
    (ps : PatternTrees) → AllFine s (part_nodes s before types m parts i ps) → ItemsFine s before ps
parts_items s before types m parts i none h = tt
parts_items s before types m parts i (more q qs) h = (
  (
    Elsewhere,
    place (types i) m,
    fine_left s (nodes s Elsewhere before (place (types i) m) q)
        (part_nodes s (before ++ names_bound s q) types m parts (part_behind parts i q qs) qs) h,
  ),
  parts_items s (before ++ names_bound s q) types m parts (part_behind parts i q qs) qs
      (fine_right s (nodes s Elsewhere before (place (types i) m) q)
      (part_nodes s (before ++ names_bound s q) types m parts (part_behind parts i q qs) qs) h),
)

pub row_items : (s : Setting) (before : List (List ℕ)) (t : MType) (items : ℕ) (m : Mode) (ps : PatternTrees) →
    AllFine s (item_nodes s before t items m ps) → ItemsFine s before ps
row_items s before t items m none h = tt
row_items s before t items m (more q qs) h = (
  (
    AsItem,
    place (slice_item_type t items q) m,
    fine_left s
        (nodes s AsItem before (place (slice_item_type t items q) m) q)
        (item_nodes s (before ++ names_bound s q) t items m qs) h,
  ),
  row_items s (before ++ names_bound s q) t items m qs
      (fine_right s (nodes s AsItem before (place (slice_item_type t items q) m) q)
      (item_nodes s (before ++ names_bound s q) t items m qs) h),
)

pub list_new : (s : Setting) (before : List (List ℕ)) (ps : PatternTrees) → ItemsFine s before ps →
    New (names_of_all s ps) before
list_new s before none h = λ x a b. a
list_new s before (more q qs) ((standing, p, h), k) =
    new_both before (names_bound s q) (names_of_all s qs) (names_new s standing before p q h)
    (list_new s (before ++ names_bound s q) qs k)

-- names of items behind one are none of its own
pub apart_from : (before first others : List (List ℕ)) → New others (before ++ first) → Apart first others
apart_from before first others h = λ x a b. h x b (in_right x before first a)
