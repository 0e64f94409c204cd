-- While a pattern whose nodes pass the tests of edition 2024 is matched with a value of its type, the binding mode is a
-- move at each `&` and each `mut`.
use Rattle.std.proofs.Common.{◌≡◌, ℕ, suc, ℤ, ◌-◌, Bool, true, false, not, ◌&&◌, ◌||◌, List, [], ◌∷◌, ◌++◌, length, Option, Some, None, nat_eq, if◌then◌else◌, refl, ap, subst}
use Rattle.match_model.specs.declared.Mode.{Mode}
use Rattle.match_model.specs.declared.Mode.TheVariants.{Move}
use Rattle.match_model.specs.Types.{MType, TupleType, types_list}
use Rattle.match_model.specs.Values.{MValue}
use Rattle.match_model.specs.Declarations.{MProgram, node_types}
use Rattle.match_model.specs.Constructors.{SingleCtor}
use Rattle.match_model.specs.RustTypes.{rust_arity, part_type, inner_type}
use Rattle.match_model.specs.Patterns.{MRest, MPat, FormPat, MPats, no_pats, more_pats, MNumbered, more_numbered}
use Rattle.match_model.specs.Readings.{move_if_mut, move_if_rest_mut, test_form, test_list, moves_at, items_move, field_moves, alternatives_move}
use Rattle.match_model.specs.Readings as readings
use Rattle.match_model.specs.Typing.{is_value}
use Rattle.match_model.proofs.Basics.{and_true, nat_equal}
use Rattle.decl_syntax.specs.Patterns.{PathTree, PatternTree, At, Shape, PatternTrees, none, more, FieldTrees, no_field, and_field, LitTree}
use Rattle.decl_syntax.specs.Patterns as patterns
use Rattle.decl_syntax.specs.Widths.{pattern_count}
use Rattle.type_names.specs.Finding.{FoundTree, FoundNothing, FoundTwice, FoundStruct, FoundVariant, is_found}
use Rattle.pattern_rules.specs.declared.Edition.TheVariants.{E2024}
use Rattle.pattern_rules.specs.Settings.{Setting, program, Place, place, bottom_type, bottom_mode, pointed, is_move}
use Rattle.pattern_rules.specs.Namings.{is_path_name, is_short, found_by, found_ctor, found_number, field_names, field_number, fields_found}
use Rattle.pattern_rules.specs.Nodes.{Standing, AsItem, Elsewhere, Node, nodes, nodes_within, part_nodes, field_nodes, item_nodes, alternative_nodes, names_bound, is_rest, part_behind, part_types, slice_item_type, field_standing}
use Rattle.pattern_rules.specs.NodeRules.{is_tuple, is_row, finds_none, has_other_count, has_rests}
use Rattle.pattern_rules.specs.OtherRules.{written, is_free_edition}
use Rattle.pattern_rules.specs.Literals.{number_of}
use Rattle.pattern_rules.specs.Resolved.{number_pattern, literal_pattern, name_pattern, resolved, resolved_shape, rest_in, rest_of, form_parts, form_fields, front_items, back_items, alternatives}
use Rattle.pattern_laws.proofs.Fitting.{pats_count}
use Rattle.pattern_laws.proofs.FieldNumbers.{untwice}
use Rattle.pattern_laws.proofs.FineNodes.{AllNodes, nodes_left, nodes_right}
use Rattle.pattern_laws.proofs.ListCounts.{behind, backs_behind, count_fits}
use Rattle.edition_laws.proofs.NodesKept.{NodeKeeps, reserved, move_at_point, move_at_mut}
use Rattle.edition_laws.proofs.TestsMet.{bare_form, through_met, inside_met, form_met, MetFrom, any_number, tuple_met, row_met}

-- what is said where both hold
behind_true : (a b : Bool) → a ≡ true → (a && b) ≡ false → b ≡ false
behind_true true b f h = h
behind_true false b f h = cc

-- a path of one or two plain names that breaks no rule finds something
found_path : (found : FoundTree) (short : Bool) → not short ≡ false → finds_none found short ≡ false →
    is_found found ≡ true
found_path found short k h = untwice (is_found found) (behind_true short (not (is_found found)) (untwice short k) h)

-- a literal writes no mode
number_moves : (n : Option ℤ) (m : Mode) (v : MValue) → moves_at (number_pattern n) m v ≡ true
number_moves None m v = refl
number_moves (Some n) m v = refl

literal_moves : (l : LitTree) (m : Mode) (v : MValue) → moves_at (literal_pattern l) m v ≡ true
literal_moves (patterns.Flag b) m v = refl
literal_moves (patterns.Str text) m v = refl
literal_moves (patterns.Char c) m v = number_moves (number_of (patterns.Char c)) m v
literal_moves (patterns.Byte b) m v = number_moves (number_of (patterns.Byte b)) m v
literal_moves (patterns.Int negative size suffix) m v = number_moves (number_of (patterns.Int negative size suffix)) m v
literal_moves patterns.Other m v = number_moves (number_of patterns.Other) m v

-- nor does a bare name
name_moves : (b : Bool) (found : FoundTree) (name : List ℕ) (m : Mode) (v : MValue) →
    moves_at (name_pattern b found name) m v ≡ true
name_moves true found name m v = bare_form (found_number found) m v
name_moves false found name m v = refl

-- how many tests there are
tests_count : (ps : MPats) (m : Mode) → length (items_move ps m) ≡ pats_count ps
tests_count no_pats m = refl
tests_count (more_pats p ps) m = ap suc (tests_count ps m)

-- the types of the fields that were found
field_types : (s : Setting) (found : FoundTree) (u : MType) → is_found found ≡ true → (j : ℕ) →
    part_types s (found_ctor found) u j ≡ part_type u (node_types (program s) u (found_number found)) j
field_types s (FoundStruct i) u h j = refl
field_types s (FoundVariant o k) u h j = refl
field_types s FoundNothing u h j = cc
field_types s FoundTwice u h j = cc

-- a form
form_moves : (s : Setting) (found : FoundTree) (fields : MNumbered) (t : MType) (m : Mode) (sure : Bool) (v : MValue) →
    is_found found ≡ true →
    ((b : Bool) (i : ℕ) (w : MValue) →
    is_value (program s) b (part_types s (found_ctor found) (bottom_type t) i) w ≡ true →
    field_moves fields (bottom_mode t m) i w ≡ true) →
    is_value (program s) sure t v ≡ true → moves_at (FormPat (found_number found) fields) m v ≡ true
form_moves s found fields t m sure v f h e =
    through_met (program s) (λ m' w. test_form (found_number found) (λ i u. field_moves fields m' i u) w) t m sure v e
    (λ b w k. form_met (program s) (found_number found) (part_types s (found_ctor found) (bottom_type t))
    (λ i u. field_moves fields (bottom_mode t m) i u) (bottom_type t) b w
    (field_types s found (bottom_type t) f) (λ i u q. h b i u q) k)

-- one field, and one that may be a rest
one_field : (q : MPat) (qs : MNumbered) (i j : ℕ) (m : Mode) (w : MValue) → (i ≡ j → moves_at q m w ≡ true) →
    field_moves qs m i w ≡ true → field_moves (more_numbered j q qs) m i w ≡ true
one_field q qs i j m w h k = go (nat_eq i j) refl
  where
    go : (b : Bool) → nat_eq i j ≡ b → (if b then moves_at q m w else field_moves qs m i w) ≡ true
    go true e = h (nat_equal i j e)
    go false e = k

field_or_rest : (b : Bool) (q : MPat) (qs : MNumbered) (i j : ℕ) (m : Mode) (w : MValue) →
    (i ≡ j → moves_at q m w ≡ true) → field_moves qs m i w ≡ true →
    field_moves (if b then qs else more_numbered j q qs) m i w ≡ true
field_or_rest true q qs i j m w h k = k
field_or_rest false q qs i j m w h k = one_field q qs i j m w h k

-- one item, or the rest
front_or_rest : (p : MProgram) (sure : Bool) (types : ℕ → MType) (i : ℕ) (q : MPat) (qs : MPats) (m : Mode)
    (b c : Bool) → b ≡ c → (b ≡ false → (w : MValue) → is_value p sure (types i) w ≡ true → moves_at q m w ≡ true) →
    (b ≡ false → MetFrom p sure types (suc i) (items_move qs m)) →
    MetFrom p sure types i (items_move (if c then no_pats else more_pats q qs) m)
front_or_rest p sure types i q qs m b true e h k = tt
front_or_rest p sure types i q qs m b false e h k = (h e, k e)

back_or_front : (p : MProgram) (sure : Bool) (types : ℕ → MType) (n c d : ℕ) (fronts backs : MPats) (m : Mode)
    (a b : Bool) → a ≡ b → (a ≡ true → MetFrom p sure types (n - c) (items_move fronts m)) →
    (a ≡ false → MetFrom p sure types (n - d) (items_move backs m)) →
    MetFrom p sure types (n - (if b then c else d)) (items_move (if b then fronts else backs) m)
back_or_front p sure types n c d fronts backs m a true e h k = h e
back_or_front p sure types n c d fronts backs m a false e h k = k e

either_items : (p : MProgram) (sure : Bool) (types : ℕ → MType) (k : ℕ) (fronts backs : MPats) (m : Mode) (b : Bool) →
    MetFrom p sure types k (items_move fronts m) → MetFrom p sure types k (items_move backs m) →
    MetFrom p sure types k (items_move (if b then fronts else backs) m)
either_items p sure types k fronts backs m true h q = h
either_items p sure types k fronts backs m false h q = q

part_after : (parts i : ℕ) (p : PatternTree) (ps : PatternTrees) → is_rest p ≡ false → part_behind parts i p ps ≡ suc i
part_after parts i p ps e = rw e refl

part_past : (parts i : ℕ) (p : PatternTree) (ps : PatternTrees) → is_rest p ≡ true →
    part_behind parts i p ps ≡ parts - pattern_count ps
part_past parts i p ps e = rw e refl

item_type_there : (t : MType) (items : ℕ) (p : PatternTree) → is_rest p ≡ false →
    slice_item_type t items p ≡ inner_type t
item_type_there t items p e = rw e refl

-- a tuple
tuple_moves : (s : Setting) (ps : PatternTrees) (u : MType) (m : Mode) (sure : Bool) (v : MValue) → is_tuple u ≡ true →
    has_rests ps ≡ false → (is_tuple u && has_other_count ps (rust_arity (program s) SingleCtor u)) ≡ false →
    move_if_rest_mut (rest_of ps) m ≡ true →
    MetFrom (program s) sure (part_types s SingleCtor u) 0
    (items_move (front_items s (part_types s SingleCtor u) 0 ps) m) →
    MetFrom (program s) sure (part_types s SingleCtor u) (rust_arity (program s) SingleCtor u - behind ps)
    (items_move (back_items s (part_types s SingleCtor u) (rust_arity (program s) SingleCtor u) ps) m) →
    is_value (program s) sure u v ≡ true →
    test_list (items_move (front_items s (part_types s SingleCtor u) 0 ps) m) (rest_of ps)
    (items_move (back_items s (part_types s SingleCtor u) (rust_arity (program s) SingleCtor u) ps) m) m v ≡ true
tuple_moves s ps (TupleType ts) m sure v t r c w h k e =
    tuple_met (program s) sure ts (rest_of ps) m
    (items_move (front_items s (part_types s SingleCtor (TupleType ts)) 0 ps) m)
    (items_move (back_items s (part_types s SingleCtor (TupleType ts)) (length (types_list ts)) ps) m) v
    (rw (
      tests_count (front_items s (part_types s SingleCtor (TupleType ts)) 0 ps) m,
      tests_count (back_items s (part_types s SingleCtor (TupleType ts)) (length (types_list ts)) ps) m,
    ) (count_fits s (part_types s SingleCtor (TupleType ts)) (length (types_list ts)) ps r c)) w h
    (rw (
      tests_count (back_items s (part_types s SingleCtor (TupleType ts)) (length (types_list ts)) ps) m,
      backs_behind s (part_types s SingleCtor (TupleType ts)) (length (types_list ts)) ps r,
    ) k) e
tuple_moves s ps u m sure v t r c w h k e = cc

module _ (s : Setting) (edition : s.edition ≡ E2024) where
  AllKeep : List Node → Type 0
  AllKeep ns = AllNodes (λ n. NodeKeeps s n) ns

  left : (ns ms : List Node) → AllKeep (ns ++ ms) → AllKeep ns
  unfolding AllKeep
  left ns ms h = nodes_left (λ n. NodeKeeps s n) ns ms h

  right : (ns ms : List Node) → AllKeep (ns ++ ms) → AllKeep ms
  unfolding AllKeep
  right ns ms h = nodes_right (λ n. NodeKeeps s n) ns ms h

  first : (n : Node) (ns : List Node) → AllKeep (n ∷ ns) → NodeKeeps s n
  unfolding AllKeep
  first n ns h = h.0

  others : (n : Node) (ns : List Node) → AllKeep (n ∷ ns) → AllKeep ns
  unfolding AllKeep
  others n ns h = h.1

  -- a node with this form
  abbrev node_with : (standing : Standing) → (before : List (List ℕ)) → Place → (from : ℕ) → Shape → Node
  node_with standing before p from shape =
      record { at = from; shape = shape; standing = standing; place = p; before = before }

  -- a mode is written only where the mode is a move
  mut_moves : (m : Mode) (by_ref mutable : Bool) →
      (not (is_free_edition s.edition) && (not (is_move m) && (by_ref || mutable))) ≡ false →
      move_if_mut (written by_ref mutable) m ≡ true
  mut_moves m by_ref mutable h = move_at_mut by_ref mutable m (reserved s.edition m (by_ref || mutable) edition h)

  point_moves : (m : Mode) → (not (is_free_edition s.edition) && (not (is_move m) && true)) ≡ false →
      readings.is_move m ≡ true
  point_moves m h = move_at_point m (reserved s.edition m true edition h)

  -- a rest writes one only there
  rest_moves : (standing : Standing) (before : List (List ℕ)) (p : Place) (from : ℕ) (shape : Shape) →
      NodeKeeps s (node_with standing before p from shape) → move_if_rest_mut (rest_in shape) p.mode ≡ true
  rest_moves standing before p from (patterns.BindAs name by_ref mutable (At at patterns.Rest)) n =
      mut_moves p.mode by_ref mutable n.mode
  rest_moves standing before p from (patterns.BindAs name by_ref mutable (At at shape)) n = refl
  rest_moves standing before p from patterns.Rest n = refl
  rest_moves standing before p from shape n = refl

  rest_or_next : (b : Bool) (here next : MRest) (m : Mode) → move_if_rest_mut here m ≡ true →
      move_if_rest_mut next m ≡ true → move_if_rest_mut (if b then here else next) m ≡ true
  rest_or_next true here next m h k = h
  rest_or_next false here next m h k = k

  part_rest : (before : List (List ℕ)) (types : ℕ → MType) (m : Mode) (parts i : ℕ) (ps : PatternTrees) →
      AllKeep (part_nodes s before types m parts i ps) → move_if_rest_mut (rest_of ps) m ≡ true
  part_rest before types m parts i none h = refl
  part_rest before types m parts i (more (At from shape) qs) h =
      rest_or_next (is_rest (At from shape)) (rest_in shape) (rest_of qs) m
      (rest_moves Elsewhere before (place (types i) m) from shape
      (first (node_with Elsewhere before (place (types i) m) from shape)
      (nodes_within s before (place (types i) m) shape)
      (left (nodes s Elsewhere before (place (types i) m) (At from shape))
      (part_nodes s (before ++ names_bound s (At from shape)) types m parts
      (part_behind parts i (At from shape) qs) qs) h)))
      (part_rest (before ++ names_bound s (At from shape)) types m parts (part_behind parts i (At from shape) qs) qs
      (right (nodes s Elsewhere before (place (types i) m) (At from shape))
      (part_nodes s (before ++ names_bound s (At from shape)) types m parts
      (part_behind parts i (At from shape) qs) qs) h))

  item_rest : (before : List (List ℕ)) (t : MType) (items : ℕ) (m : Mode) (ps : PatternTrees) →
      AllKeep (item_nodes s before t items m ps) → move_if_rest_mut (rest_of ps) m ≡ true
  item_rest before t items m none h = refl
  item_rest before t items m (more (At from shape) qs) h =
      rest_or_next (is_rest (At from shape)) (rest_in shape) (rest_of qs) m
      (rest_moves AsItem before (place (slice_item_type t items (At from shape)) m) from shape
      (first (node_with AsItem before (place (slice_item_type t items (At from shape)) m) from shape)
      (nodes_within s before (place (slice_item_type t items (At from shape)) m) shape)
      (left (nodes s AsItem before (place (slice_item_type t items (At from shape)) m) (At from shape))
      (item_nodes s (before ++ names_bound s (At from shape)) t items m qs) h)))
      (item_rest (before ++ names_bound s (At from shape)) t items m qs
      (right (nodes s AsItem before (place (slice_item_type t items (At from shape)) m) (At from shape))
      (item_nodes s (before ++ names_bound s (At from shape)) t items m qs) h))

  mutual
    -- a pattern
    tree_moves : (standing : Standing) (before : List (List ℕ)) (p : Place) (q : PatternTree) (sure : Bool)
        (v : MValue) → AllKeep (nodes s standing before p q) → is_value (program s) sure p.type v ≡ true →
        moves_at (resolved s p.type q) p.mode v ≡ true
    tree_moves standing before p (At from shape) sure v h e =
        shape_moves standing before p from shape sure v
        (first (node_with standing before p from shape) (nodes_within s before p shape) h)
        (others (node_with standing before p from shape) (nodes_within s before p shape) h) e

    -- a form
    shape_moves : (standing : Standing) (before : List (List ℕ)) (p : Place) (from : ℕ) (shape : Shape) (sure : Bool)
        (v : MValue) → NodeKeeps s (node_with standing before p from shape) → AllKeep (nodes_within s before p shape) →
        is_value (program s) sure p.type v ≡ true → moves_at (resolved_shape s p.type from shape) p.mode v ≡ true
    shape_moves standing before p from patterns.Wild sure v n h e = refl
    shape_moves standing before p from patterns.Rest sure v n h e = refl
    shape_moves standing before p from (patterns.Literal l) sure v n h e = literal_moves l p.mode v
    shape_moves standing before p from (patterns.Name name) sure v n h e =
        name_moves (is_path_name s name) (found_by s (patterns.Name name)) name p.mode v
    shape_moves standing before p from (patterns.Bind name by_ref mutable) sure v n h e =
        and_true (move_if_mut (written by_ref mutable) p.mode) true (mut_moves p.mode by_ref mutable n.mode) refl
    shape_moves standing before p from (patterns.BindAs name by_ref mutable q) sure v n h e =
        and_true (move_if_mut (written by_ref mutable) p.mode) (moves_at (resolved s p.type q) p.mode v)
        (mut_moves p.mode by_ref mutable n.mode) (tree_moves Elsewhere (before ++ name ∷ []) p q sure v h e)
    shape_moves standing before p from (patterns.Path path) sure v n h e =
        bare_form (found_number (found_by s (patterns.Path path))) p.mode v
    shape_moves standing before p from (patterns.TupleForm path ps) sure v n h e =
        form_moves s (found_by s (patterns.TupleForm path ps))
        (form_parts s (part_types s (found_ctor (found_by s (patterns.TupleForm path ps))) (bottom_type p.type))
        (fields_found s.items (found_by s (patterns.TupleForm path ps))) 0 ps) p.type p.mode sure v
        (found_path (found_by s (patterns.TupleForm path ps)) (is_short path) n.fine.kind n.fine.known)
        (λ b i w k. parts_move before
        (part_types s (found_ctor (found_by s (patterns.TupleForm path ps))) (bottom_type p.type))
        (bottom_mode p.type p.mode) (fields_found s.items (found_by s (patterns.TupleForm path ps))) 0 ps b i w h k) e
    shape_moves standing before p from (patterns.Brace path fs rest) sure v n h e =
        form_moves s (found_by s (patterns.Brace path fs rest))
        (form_fields s (part_types s (found_ctor (found_by s (patterns.Brace path fs rest))) (bottom_type p.type))
        (field_names s.items (found_by s (patterns.Brace path fs rest))) fs) p.type p.mode sure v
        (found_path (found_by s (patterns.Brace path fs rest)) (is_short path) n.fine.kind n.fine.known)
        (λ b i w k. fields_move before
        (part_types s (found_ctor (found_by s (patterns.Brace path fs rest))) (bottom_type p.type))
        (bottom_mode p.type p.mode) (field_names s.items (found_by s (patterns.Brace path fs rest))) fs b i w h k) e
    shape_moves standing before p from (patterns.Tuple ps) sure v n h e =
        through_met (program s)
        (λ m' w. test_list (items_move (front_items s (part_types s SingleCtor (bottom_type p.type)) 0 ps) m')
        (rest_of ps) (items_move (back_items s (part_types s SingleCtor (bottom_type p.type))
        (rust_arity (program s) SingleCtor (bottom_type p.type)) ps) m') m' w) p.type p.mode sure v e
        (λ b w k. tuple_moves s ps (bottom_type p.type) (bottom_mode p.type p.mode) b w
        (untwice (is_tuple (bottom_type p.type)) n.fine.type) n.fine.rest n.fine.count
        (part_rest before (part_types s SingleCtor (bottom_type p.type)) (bottom_mode p.type p.mode)
        (rust_arity (program s) SingleCtor (bottom_type p.type)) 0 ps h)
        (fronts_move before (part_types s SingleCtor (bottom_type p.type)) (bottom_mode p.type p.mode)
        (rust_arity (program s) SingleCtor (bottom_type p.type)) 0 ps b h)
        (backs_move before (part_types s SingleCtor (bottom_type p.type)) (bottom_mode p.type p.mode)
        (rust_arity (program s) SingleCtor (bottom_type p.type)) 0 ps b h) k)
    shape_moves standing before p from (patterns.Group q) sure v n h e = tree_moves Elsewhere before p q sure v h e
    shape_moves standing before p from (patterns.Slice ps) sure v n h e =
        through_met (program s)
        (λ m' w. test_list (items_move (front_items s (λ j. inner_type (bottom_type p.type)) 0 ps) m') (rest_of ps)
        (items_move (back_items s (λ j. inner_type (bottom_type p.type)) (pattern_count ps) ps) m') m' w)
        p.type p.mode sure v e
        (λ b w k. row_met (program s) b (bottom_type p.type) (rest_of ps) (bottom_mode p.type p.mode)
        (items_move (front_items s (λ j. inner_type (bottom_type p.type)) 0 ps) (bottom_mode p.type p.mode))
        (items_move (back_items s (λ j. inner_type (bottom_type p.type)) (pattern_count ps) ps)
        (bottom_mode p.type p.mode)) w
        (untwice (is_row (bottom_type p.type)) n.fine.type)
        (item_rest before (bottom_type p.type) (pattern_count ps) (bottom_mode p.type p.mode) ps h)
        (item_fronts before (bottom_type p.type) (pattern_count ps) (bottom_mode p.type p.mode) 0 ps b h)
        (item_backs before (bottom_type p.type) (pattern_count ps) (bottom_mode p.type p.mode)
        (pattern_count ps) 0 ps b h) k)
    shape_moves standing before p from (patterns.Point mutable q) sure v n h e =
        and_true (readings.is_move p.mode)
        (readings.test_inside (λ w. moves_at (resolved s (inner_type p.type) q) Move w) v)
        (point_moves p.mode n.mode)
        (inside_met (program s) (λ w. moves_at (resolved s (inner_type p.type) q) Move w) p.type sure v e
        (λ w k. tree_moves Elsewhere before (pointed p) q false w h k))
    shape_moves standing before p from (patterns.Range low high closed) sure v n h e = refl
    shape_moves standing before p from (patterns.Or ps) sure v n h e = alternatives_move_there before p ps sure v h e

    -- the written fields of a tuple form
    parts_move : (before : List (List ℕ)) (types : ℕ → MType) (m : Mode) (parts j : ℕ) (ps : PatternTrees) (sure : Bool)
        (i : ℕ) (w : MValue) → AllKeep (part_nodes s before types m parts j ps) →
        is_value (program s) sure (types i) w ≡ true → field_moves (form_parts s types parts j ps) m i w ≡ true
    parts_move before types m parts j none sure i w h e = refl
    parts_move before types m parts j (more q qs) sure i w h e =
        field_or_rest (is_rest q) (resolved s (types j) q) (form_parts s types parts (part_behind parts j q qs) qs) i
        j m w (λ d. tree_moves Elsewhere before (place (types j) m) q sure w
        (left (nodes s Elsewhere before (place (types j) m) q)
        (part_nodes s (before ++ names_bound s q) types m parts (part_behind parts j q qs) qs) h)
        (subst (λ k. is_value (program s) sure (types k) w ≡ true) d e))
        (parts_move (before ++ names_bound s q) types m parts (part_behind parts j q qs) qs sure i w
        (right (nodes s Elsewhere before (place (types j) m) q)
        (part_nodes s (before ++ names_bound s q) types m parts (part_behind parts j q qs) qs) h) e)

    -- the written fields of a brace form
    fields_move : (before : List (List ℕ)) (types : ℕ → MType) (m : Mode) (names : List (List ℕ)) (fs : FieldTrees)
        (sure : Bool) (i : ℕ) (w : MValue) → AllKeep (field_nodes s before types m names fs) →
        is_value (program s) sure (types i) w ≡ true → field_moves (form_fields s types names fs) m i w ≡ true
    fields_move before types m names no_field sure i w h e = refl
    fields_move before types m names (and_field name short attrs q fs) sure i w h e =
        one_field (resolved s (types (field_number names name)) q) (form_fields s types names fs) i
        (field_number names name) m w
        (λ d. tree_moves (field_standing short) before (place (types (field_number names name)) m) q sure w
        (left (nodes s (field_standing short) before (place (types (field_number names name)) m) q)
        (field_nodes s (before ++ names_bound s q) types m names fs) h)
        (subst (λ k. is_value (program s) sure (types k) w ≡ true) d e))
        (fields_move (before ++ names_bound s q) types m names fs sure i w
        (right (nodes s (field_standing short) before (place (types (field_number names name)) m) q)
        (field_nodes s (before ++ names_bound s q) types m names fs) h) e)

    -- the items of a tuple up to a rest
    fronts_move : (before : List (List ℕ)) (types : ℕ → MType) (m : Mode) (parts i : ℕ) (ps : PatternTrees)
        (sure : Bool) → AllKeep (part_nodes s before types m parts i ps) →
        MetFrom (program s) sure types i (items_move (front_items s types i ps) m)
    fronts_move before types m parts i none sure h = tt
    fronts_move before types m parts i (more q qs) sure h =
        front_or_rest (program s) sure types i (resolved s (types i) q) (front_items s types (suc i) qs) m (is_rest q)
        (is_rest q) refl
        (λ d w e. tree_moves Elsewhere before (place (types i) m) q sure w
        (left (nodes s Elsewhere before (place (types i) m) q)
        (part_nodes s (before ++ names_bound s q) types m parts (part_behind parts i q qs) qs) h) e)
        (λ d. fronts_move (before ++ names_bound s q) types m parts (suc i) qs sure
        (subst (λ n. AllKeep (part_nodes s (before ++ names_bound s q) types m parts n qs)) (part_after parts i q qs d)
        (right (nodes s Elsewhere before (place (types i) m) q)
        (part_nodes s (before ++ names_bound s q) types m parts (part_behind parts i q qs) qs) h)))

    -- the items of a tuple behind a rest
    backs_move : (before : List (List ℕ)) (types : ℕ → MType) (m : Mode) (parts i : ℕ) (ps : PatternTrees)
        (sure : Bool) → AllKeep (part_nodes s before types m parts i ps) →
        MetFrom (program s) sure types (parts - behind ps) (items_move (back_items s types parts ps) m)
    backs_move before types m parts i none sure h = tt
    backs_move before types m parts i (more q qs) sure h =
        back_or_front (program s) sure types parts (pattern_count qs) (behind qs)
        (front_items s types (parts - pattern_count qs) qs) (back_items s types parts qs) m (is_rest q) (is_rest q) refl
        (λ d. fronts_move (before ++ names_bound s q) types m parts (parts - pattern_count qs) qs sure
        (subst (λ n. AllKeep (part_nodes s (before ++ names_bound s q) types m parts n qs)) (part_past parts i q qs d)
        (right (nodes s Elsewhere before (place (types i) m) q)
        (part_nodes s (before ++ names_bound s q) types m parts (part_behind parts i q qs) qs) h)))
        (λ d. backs_move (before ++ names_bound s q) types m parts (part_behind parts i q qs) qs sure
        (right (nodes s Elsewhere before (place (types i) m) q)
        (part_nodes s (before ++ names_bound s q) types m parts (part_behind parts i q qs) qs) h))

    -- the items of a slice pattern up to a rest
    item_fronts : (before : List (List ℕ)) (t : MType) (items : ℕ) (m : Mode) (i : ℕ) (ps : PatternTrees)
        (sure : Bool) → AllKeep (item_nodes s before t items m ps) →
        MetFrom (program s) sure (λ j. inner_type t) i (items_move (front_items s (λ j. inner_type t) i ps) m)
    item_fronts before t items m i none sure h = tt
    item_fronts before t items m i (more q qs) sure h =
        front_or_rest (program s) sure (λ j. inner_type t) i (resolved s (inner_type t) q)
        (front_items s (λ j. inner_type t) (suc i) qs) m (is_rest q) (is_rest q) refl
        (λ d w e. tree_moves AsItem before (place (inner_type t) m) q sure w
        (subst (λ u. AllKeep (nodes s AsItem before (place u m) q)) (item_type_there t items q d)
        (left (nodes s AsItem before (place (slice_item_type t items q) m) q)
        (item_nodes s (before ++ names_bound s q) t items m qs) h)) e)
        (λ d. item_fronts (before ++ names_bound s q) t items m (suc i) qs sure
        (right (nodes s AsItem before (place (slice_item_type t items q) m) q)
        (item_nodes s (before ++ names_bound s q) t items m qs) h))

    -- the items of a slice pattern behind a rest
    item_backs : (before : List (List ℕ)) (t : MType) (items : ℕ) (m : Mode) (n k : ℕ) (ps : PatternTrees)
        (sure : Bool) → AllKeep (item_nodes s before t items m ps) →
        MetFrom (program s) sure (λ j. inner_type t) k (items_move (back_items s (λ j. inner_type t) n ps) m)
    item_backs before t items m n k none sure h = tt
    item_backs before t items m n k (more q qs) sure h =
        either_items (program s) sure (λ j. inner_type t) k
        (front_items s (λ j. inner_type t) (n - pattern_count qs) qs) (back_items s (λ j. inner_type t) n qs) m
        (is_rest q) (any_number (program s) sure (inner_type t) (n - pattern_count qs) k
        (items_move (front_items s (λ j. inner_type t) (n - pattern_count qs) qs) m)
        (item_fronts (before ++ names_bound s q) t items m (n - pattern_count qs) qs sure
        (right (nodes s AsItem before (place (slice_item_type t items q) m) q)
        (item_nodes s (before ++ names_bound s q) t items m qs) h)))
        (item_backs (before ++ names_bound s q) t items m n k qs sure
        (right (nodes s AsItem before (place (slice_item_type t items q) m) q)
        (item_nodes s (before ++ names_bound s q) t items m qs) h))

    -- alternatives
    alternatives_move_there : (before : List (List ℕ)) (p : Place) (ps : PatternTrees) (sure : Bool) (v : MValue) →
        AllKeep (alternative_nodes s before p ps) → is_value (program s) sure p.type v ≡ true →
        alternatives_move (alternatives s p.type ps) p.mode v ≡ true
    alternatives_move_there before p none sure v h e = refl
    alternatives_move_there before p (more q qs) sure v h e =
        and_true (moves_at (resolved s p.type q) p.mode v) (alternatives_move (alternatives s p.type qs) p.mode v)
        (tree_moves Elsewhere before p q sure v
        (left (nodes s Elsewhere before p q) (alternative_nodes s before p qs) h) e)
        (alternatives_move_there before p qs sure v
        (right (nodes s Elsewhere before p q) (alternative_nodes s before p qs) h) e)

  -- where all nodes of a pattern pass the tests
  pub pattern_moves : (p : Place) (q : PatternTree) (sure : Bool) (v : MValue) →
      AllNodes (λ n. NodeKeeps s n) (nodes s Elsewhere [] p q) → is_value (program s) sure p.type v ≡ true →
      moves_at (resolved s p.type q) p.mode v ≡ true
  unfolding AllKeep
  pattern_moves p q sure v h e = tree_moves Elsewhere [] p q sure v h e
