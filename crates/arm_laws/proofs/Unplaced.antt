-- The tests of nodes read no offset: a pattern passes where it passes without its places.
use Rattle.std.proofs.Common.{◌≡◌, ℕ, suc, ◌+◌, ◌-◌, not, ◌||◌, ◌&&◌, List, [], ◌∷◌, ◌++◌, map, refl, sym, ap, subst}
use Rattle.std.proofs.Common.{◌∙◌, nat_eq}
use Rattle.std.specs.Prelude.{if◌then◌else◌, nat_le, nat_lt}
use Rattle.std.specs.List.{filter_map}
use Rattle.std.specs.Str.{bytes_eq}
use Rattle.list_members.specs.Members.{repeats}
use Rattle.match_model.specs.declared.Mode.{Mode}
use Rattle.match_model.specs.Constructors.{SingleCtor}
use Rattle.match_model.specs.RustTypes.{rust_arity, inner_type}
use Rattle.match_model.specs.Types.{MType, ArrayType}
use Rattle.decl_syntax.specs.Patterns.{PatternTree, At, Shape, PatternTrees, none, more, FieldTrees, no_field}
use Rattle.decl_syntax.specs.Patterns.{and_field}
use Rattle.decl_syntax.specs.Patterns as patterns
use Rattle.decl_syntax.specs.Widths.{pattern_count}
use Rattle.type_names.specs.Finding.{FoundTree, found_form, is_found}
use Rattle.pattern_rules.specs.Namings.{is_tuple_form, found_by, found_ctor, field_names, fields_found}
use Rattle.pattern_rules.specs.NodeRules.{is_tuple, rest_count, has_other_count, misfits_array, misfits_form}
use Rattle.pattern_rules.specs.NodeRules.{written_names, some_absent, type_met}
use Rattle.pattern_rules.specs.Nodes.{Node, Standing, AsItem, Elsewhere, shape_of, is_dots, is_rest, field_standing}
use Rattle.pattern_rules.specs.Nodes.{names_bound, names_within, names_of_all, names_of_fields, part_behind}
use Rattle.pattern_rules.specs.Nodes.{slice_item_type, part_types, nodes, nodes_within, part_nodes, field_nodes}
use Rattle.pattern_rules.specs.Nodes.{item_nodes, alternative_nodes}
use Rattle.pattern_rules.specs.OtherRules.{BoundName, bound_by, bound_in, are_among, some_differs, some_differ}
use Rattle.pattern_rules.specs.Settings.{Setting, program, Place, place, bottom, pointed, rest_type}
use Rattle.pattern_rules.specs.Namings.{field_number}
use Rattle.pattern_laws.proofs.FineNodes.{AllNodes}
use Rattle.arm_laws.specs.Patterns.{without_places, shape_without, all_without, fields_without}
use Rattle.arm_laws.proofs.FineTests.{PassesAll}

-- ---- counts and names

dots_within : (shape : Shape) → is_dots (shape_without shape) ≡ is_dots shape
dots_within patterns.Rest = refl
dots_within shape = refl

dots_same : (p : PatternTree) → is_dots (shape_of (without_places p)) ≡ is_dots (shape_of p)
dots_same (At from shape) = dots_within shape

rest_same : (p : PatternTree) → is_rest (without_places p) ≡ is_rest p
rest_same (At from (patterns.BindAs name by_ref mutable p)) = dots_same p
rest_same (At from shape) = refl

count_same : (ps : PatternTrees) → pattern_count (all_without ps) ≡ pattern_count ps
count_same none = refl
count_same (more p ps) = ap suc (count_same ps)

rests_same : (ps : PatternTrees) → rest_count (all_without ps) ≡ rest_count ps
rests_same none = refl
rests_same (more p ps) =
    ap (λ b. (if b then 1 else 0) + rest_count (all_without ps)) (rest_same p)
    ∙ ap (λ n. (if is_rest p then 1 else 0) + n) (rests_same ps)

written_same : (fs : FieldTrees) → written_names (fields_without fs) ≡ written_names fs
written_same no_field = refl
written_same (and_field name short attrs p fs) = ap (λ ns. name ∷ ns) (written_same fs)

behind_same : (n i : ℕ) (p : PatternTree) (ps : PatternTrees) →
    part_behind n i (without_places p) (all_without ps) ≡ part_behind n i p ps
behind_same n i p ps =
    ap (λ b. if b then n - pattern_count (all_without ps) else suc i) (rest_same p)
    ∙ ap (λ c. if is_rest p then n - c else suc i) (count_same ps)

item_same : (t : MType) (items : ℕ) (p : PatternTree) →
    slice_item_type t items (without_places p) ≡ slice_item_type t items p
item_same t items p = ap (λ b. if b then rest_type t items else inner_type t) (rest_same p)

map_more : {A B : Type 0} (f : A → B) (xs ys : List A) → map f (xs ++ ys) ≡ map f xs ++ map f ys
map_more f [] ys = refl
map_more f (x ∷ xs) ys = ap (λ zs. f x ∷ zs) (map_more f xs ys)

-- the node without places
abbrev bare : Node → Node
bare n = record { at = 0; shape = shape_without n.shape; standing = n.standing; place = n.place; before = n.before }

joined : (xs ys xs' ys' : List Node) → xs' ≡ map bare xs → ys' ≡ map bare ys → xs' ++ ys' ≡ map bare (xs ++ ys)
joined xs ys xs' ys' e f =
    ap (λ zs. zs ++ ys') e ∙ (ap (λ zs. map bare xs ++ zs) f ∙ sym (map_more bare xs ys))

module _ (s : Setting) where
  mutual
    names_same : (p : PatternTree) → names_bound s (without_places p) ≡ names_bound s p
    names_same (At from shape) = within_same shape

    within_same : (shape : Shape) → names_within s (shape_without shape) ≡ names_within s shape
    within_same (patterns.BindAs name by_ref mutable p) = ap (λ ns. name ∷ ns) (names_same p)
    within_same (patterns.TupleForm path ps) = all_same ps
    within_same (patterns.Brace path fs rest) = fields_same fs
    within_same (patterns.Tuple ps) = all_same ps
    within_same (patterns.Group p) = names_same p
    within_same (patterns.Slice ps) = all_same ps
    within_same (patterns.Point mutable p) = names_same p
    within_same (patterns.Or ps) = all_same ps
    within_same shape = refl

    all_same : (ps : PatternTrees) → names_of_all s (all_without ps) ≡ names_of_all s ps
    all_same none = refl
    all_same (more p ps) =
        ap (λ ns. ns ++ names_of_all s (all_without ps)) (names_same p)
        ∙ ap (λ ns. names_bound s p ++ ns) (all_same ps)

    fields_same : (fs : FieldTrees) → names_of_fields s (fields_without fs) ≡ names_of_fields s fs
    fields_same no_field = refl
    fields_same (and_field name short attrs p fs) =
        ap (λ ns. ns ++ names_of_fields s (fields_without fs)) (names_same p)
        ∙ ap (λ ns. names_bound s p ++ ns) (fields_same fs)

  -- ---- nodes

  mutual
    nodes_bare : (st : Standing) (before : List (List ℕ)) (at : Place) (p : PatternTree) →
        nodes s st before at (without_places p) ≡ map bare (nodes s st before at p)
    nodes_bare st before at (At from shape) =
        let first : Node =
        record { at = 0; shape = shape_without shape; standing = st; place = at; before = before } in
        ap (λ ns. first ∷ ns) (within_bare before at shape)

    within_bare : (before : List (List ℕ)) (at : Place) (shape : Shape) →
        nodes_within s before at (shape_without shape) ≡ map bare (nodes_within s before at shape)
    within_bare before at (patterns.BindAs name by_ref mutable q) = nodes_bare Elsewhere (before ++ name ∷ []) at q
    within_bare before at (patterns.TupleForm path qs) =
        parts_bare before (part_types s (found_ctor (found_by s (patterns.TupleForm path qs))) (bottom at).type)
        (bottom at).mode (fields_found s.items (found_by s (patterns.TupleForm path qs))) 0 qs
    within_bare before at (patterns.Brace path fs rest) =
        fields_bare before (part_types s (found_ctor (found_by s (patterns.Brace path fs rest))) (bottom at).type)
        (bottom at).mode (field_names s.items (found_by s (patterns.Brace path fs rest))) fs
    within_bare before at (patterns.Tuple qs) =
        parts_bare before (part_types s SingleCtor (bottom at).type) (bottom at).mode
        (rust_arity (program s) SingleCtor (bottom at).type) 0 qs
    within_bare before at (patterns.Group q) = nodes_bare Elsewhere before at q
    within_bare before at (patterns.Slice qs) =
        ap (λ c. item_nodes s before (bottom at).type c (bottom at).mode (all_without qs)) (count_same qs)
        ∙ items_bare before (bottom at).type (pattern_count qs) (bottom at).mode qs
    within_bare before at (patterns.Point mutable q) = nodes_bare Elsewhere before (pointed at) q
    within_bare before at (patterns.Or qs) = alternatives_bare before at qs
    within_bare before at shape = refl

    parts_bare : (before : List (List ℕ)) (types : ℕ → MType) (m : Mode) (n i : ℕ) (qs : PatternTrees) →
        part_nodes s before types m n i (all_without qs) ≡ map bare (part_nodes s before types m n i qs)
    parts_bare before types m n i none = refl
    parts_bare before types m n i (more q qs) =
        joined (nodes s Elsewhere before (place (types i) m) q)
        (part_nodes s (before ++ names_bound s q) types m n (part_behind n i q qs) qs)
        (nodes s Elsewhere before (place (types i) m) (without_places q))
        (part_nodes s (before ++ names_bound s (without_places q)) types m n
        (part_behind n i (without_places q) (all_without qs)) (all_without qs))
        (nodes_bare Elsewhere before (place (types i) m) q)
        (ap (λ ns. part_nodes s (before ++ ns) types m n (part_behind n i (without_places q) (all_without qs))
        (all_without qs)) (names_same q)
        ∙ (ap (λ k. part_nodes s (before ++ names_bound s q) types m n k (all_without qs)) (behind_same n i q qs)
        ∙ parts_bare (before ++ names_bound s q) types m n (part_behind n i q qs) qs))

    fields_bare : (before : List (List ℕ)) (types : ℕ → MType) (m : Mode) (names : List (List ℕ)) (fs : FieldTrees) →
        field_nodes s before types m names (fields_without fs) ≡ map bare (field_nodes s before types m names fs)
    fields_bare before types m names no_field = refl
    fields_bare before types m names (and_field name short attrs q fs) =
        joined (nodes s (field_standing short) before (place (types (field_number names name)) m) q)
        (field_nodes s (before ++ names_bound s q) types m names fs)
        (nodes s (field_standing short) before (place (types (field_number names name)) m) (without_places q))
        (field_nodes s (before ++ names_bound s (without_places q)) types m names (fields_without fs))
        (nodes_bare (field_standing short) before (place (types (field_number names name)) m) q)
        (ap (λ ns. field_nodes s (before ++ ns) types m names (fields_without fs)) (names_same q)
        ∙ fields_bare (before ++ names_bound s q) types m names fs)

    items_bare : (before : List (List ℕ)) (t : MType) (items : ℕ) (m : Mode) (qs : PatternTrees) →
        item_nodes s before t items m (all_without qs) ≡ map bare (item_nodes s before t items m qs)
    items_bare before t items m none = refl
    items_bare before t items m (more q qs) =
        joined (nodes s AsItem before (place (slice_item_type t items q) m) q)
        (item_nodes s (before ++ names_bound s q) t items m qs)
        (nodes s AsItem before (place (slice_item_type t items (without_places q)) m) (without_places q))
        (item_nodes s (before ++ names_bound s (without_places q)) t items m (all_without qs))
        (ap (λ u. nodes s AsItem before (place u m) (without_places q)) (item_same t items q)
        ∙ nodes_bare AsItem before (place (slice_item_type t items q) m) q)
        (ap (λ ns. item_nodes s (before ++ ns) t items m (all_without qs)) (names_same q)
        ∙ items_bare (before ++ names_bound s q) t items m qs)

    alternatives_bare : (before : List (List ℕ)) (at : Place) (qs : PatternTrees) →
        alternative_nodes s before at (all_without qs) ≡ map bare (alternative_nodes s before at qs)
    alternatives_bare before at none = refl
    alternatives_bare before at (more q qs) =
        joined (nodes s Elsewhere before at q) (alternative_nodes s before at qs)
        (nodes s Elsewhere before at (without_places q)) (alternative_nodes s before at (all_without qs))
        (nodes_bare Elsewhere before at q) (alternatives_bare before at qs)

  -- ---- what alternatives bind

  bound_same : (n : Node) (shape : Shape) →
      bound_by s (bare (record n { shape = shape })) ≡ bound_by s (record n { shape = shape })
  bound_same n (patterns.BindAs name by_ref mutable p) = refl
  bound_same n shape = refl

  all_bound : (ns : List Node) → filter_map (bound_by s) (map bare ns) ≡ filter_map (bound_by s) ns
  all_bound [] = refl
  all_bound (n ∷ ns) = rw (bound_same n n.shape, all_bound ns) refl

  bound_in_same : (at : Place) (q : PatternTree) → bound_in s at (without_places q) ≡ bound_in s at q
  bound_in_same at q =
      ap (filter_map (bound_by s)) (nodes_bare Elsewhere [] at q) ∙ all_bound (nodes s Elsewhere [] at q)

  differs_same : (at : Place) (bs : List BoundName) (qs : PatternTrees) →
      some_differs s at bs (all_without qs) ≡ some_differs s at bs qs
  differs_same at bs none = refl
  differs_same at bs (more q qs) =
      ap (λ cs. not (are_among bs cs && are_among cs bs) || some_differs s at bs (all_without qs)) (bound_in_same at q)
      ∙ ap (λ b. not (are_among bs (bound_in s at q) && are_among (bound_in s at q) bs) || b) (differs_same at bs qs)

  differ_same : (at : Place) (qs : PatternTrees) → some_differ s at (all_without qs) ≡ some_differ s at qs
  differ_same at none = refl
  differ_same at (more q qs) =
      ap (λ bs. some_differs s at bs (all_without qs)) (bound_in_same at q) ∙ differs_same at (bound_in s at q) qs

  -- ---- tests

  other_same : (ps : PatternTrees) (n : ℕ) → has_other_count (all_without ps) n ≡ has_other_count ps n
  other_same ps n =
      ap (λ r. (nat_eq r 0 && not (nat_eq (pattern_count (all_without ps)) n))
      || (nat_eq r 1 && nat_lt (suc n) (pattern_count (all_without ps)))) (rests_same ps)
      ∙ ap (λ c. (nat_eq (rest_count ps) 0 && not (nat_eq c n)) || (nat_eq (rest_count ps) 1 && nat_lt (suc n) c))
      (count_same ps)

  array_same : (ps : PatternTrees) (t : MType) → misfits_array (all_without ps) t ≡ misfits_array ps t
  array_same ps (ArrayType t n) = other_same ps n
  array_same ps t = refl

  form_same : (found : FoundTree) (ps : PatternTrees) → misfits_form s found (all_without ps) ≡ misfits_form s found ps
  form_same found ps =
      ap (λ r. is_found found && (nat_le r 1 && (not (is_tuple_form (found_form s.items found))
      || has_other_count (all_without ps) (fields_found s.items found)))) (rests_same ps)
      ∙ ap (λ b. is_found found && (nat_le (rest_count ps) 1 && (not (is_tuple_form (found_form s.items found)) || b)))
      (other_same ps (fields_found s.items found))

  passes_at : (n : Node) (shape : Shape) → PassesAll s (bare (record n { shape = shape })) →
      PassesAll s (record n { shape = shape })
  passes_at n (patterns.TupleForm path ps) h = record {
    known = h.known;
    binding = h.binding;
    type = h.type;
    count = sym (form_same (found_by s (patterns.TupleForm path ps)) ps) ∙ h.count;
    field = h.field;
    once = h.once;
    all = h.all;
    rest = sym (ap (nat_lt 1) (rests_same ps)) ∙ h.rest;
    range = h.range;
    ends = h.ends;
    name = h.name;
    others = h.others;
    mode = h.mode;
    item = h.item;
    kind = h.kind;
  }
  passes_at n (patterns.Brace path fs rest) h = record {
    known = h.known;
    binding = h.binding;
    type = h.type;
    count = h.count;
    field = sym (ap (λ ns. is_found (found_by s (patterns.Brace path fs rest))
        && some_absent ns (field_names s.items (found_by s (patterns.Brace path fs rest)))) (written_same fs))
        ∙ h.field;
    once = sym (ap (repeats bytes_eq []) (written_same fs)) ∙ h.once;
    all = sym (ap (λ ns. is_found (found_by s (patterns.Brace path fs rest))
        && (not rest && some_absent (field_names s.items (found_by s (patterns.Brace path fs rest))) ns))
        (written_same fs)) ∙ h.all;
    rest = h.rest;
    range = h.range;
    ends = h.ends;
    name = h.name;
    others = h.others;
    mode = h.mode;
    item = h.item;
    kind = h.kind;
  }
  passes_at n (patterns.Tuple ps) h = record {
    known = h.known;
    binding = h.binding;
    type = h.type;
    count = sym (ap (λ b. is_tuple (type_met n) && b)
        (other_same ps (rust_arity (program s) SingleCtor (type_met n)))) ∙ h.count;
    field = h.field;
    once = h.once;
    all = h.all;
    rest = sym (ap (nat_lt 1) (rests_same ps)) ∙ h.rest;
    range = h.range;
    ends = h.ends;
    name = h.name;
    others = h.others;
    mode = h.mode;
    item = h.item;
    kind = h.kind;
  }
  passes_at n (patterns.Slice ps) h = record {
    known = h.known;
    binding = h.binding;
    type = h.type;
    count = sym (array_same ps (type_met n)) ∙ h.count;
    field = h.field;
    once = h.once;
    all = h.all;
    rest = sym (ap (nat_lt 1) (rests_same ps)) ∙ h.rest;
    range = h.range;
    ends = h.ends;
    name = h.name;
    others = h.others;
    mode = h.mode;
    item = h.item;
    kind = h.kind;
  }
  passes_at n (patterns.Or qs) h = record {
    known = h.known;
    binding = h.binding;
    type = h.type;
    count = h.count;
    field = h.field;
    once = h.once;
    all = h.all;
    rest = h.rest;
    range = h.range;
    ends = h.ends;
    name = h.name;
    others = sym (differ_same n.place qs) ∙ h.others;
    mode = h.mode;
    item = h.item;
    kind = h.kind;
  }
  passes_at n shape h = record {
    known = h.known;
    binding = h.binding;
    type = h.type;
    count = h.count;
    field = h.field;
    once = h.once;
    all = h.all;
    rest = h.rest;
    range = h.range;
    ends = h.ends;
    name = h.name;
    others = h.others;
    mode = h.mode;
    item = h.item;
    kind = h.kind;
  }

  all_pass : (ns : List Node) → AllNodes (PassesAll s) (map bare ns) → AllNodes (PassesAll s) ns
  all_pass [] h = tt
  all_pass (n ∷ ns) h = (passes_at n n.shape h.0, all_pass ns h.1)

  -- a pattern passes where it passes without its places
  pub placed_pass : (st : Standing) (before : List (List ℕ)) (at : Place) (p : PatternTree) →
      AllNodes (PassesAll s) (nodes s st before at (without_places p)) → AllNodes (PassesAll s) (nodes s st before at p)
  placed_pass st before at p h =
      all_pass (nodes s st before at p) (subst (AllNodes (PassesAll s)) (nodes_bare st before at p) h)
