-- The pattern that a written one means binds no other names, and they differ.
use Rattle.std.proofs.Common.{◌⊎◌, inl, inr, ℕ, ℤ, suc, ◌-◌, Bool, true, false, List, [], ◌∷◌, ◌++◌, Option, Some, None, refl, if◌then◌else◌}
use Rattle.match_model.specs.declared.Mode.{Mode}
use Rattle.match_model.specs.Types.{MType}
use Rattle.match_model.specs.Constructors.{SingleCtor}
use Rattle.match_model.specs.RustTypes.{rust_arity, inner_type}
use Rattle.match_model.specs.Patterns.{MRest, MPat, MPats, no_pats, more_pats, MNumbered, more_numbered}
use Rattle.decl_syntax.specs.Patterns.{PatternTree, At, Shape, PatternTrees, none, more, FieldTrees, no_field, and_field, LitTree, Flag, Char, Byte, Int, Str, Other}
use Rattle.decl_syntax.specs.Patterns as patterns
use Rattle.decl_syntax.specs.Widths.{pattern_count}
use Rattle.type_names.specs.Finding.{FoundTree}
use Rattle.pattern_rules.specs.Settings.{Setting, program, Place, place, bottom_type, bottom_mode, pointed}
use Rattle.pattern_rules.specs.Namings.{is_path_name, found_by, found_ctor, field_names, field_number, fields_found}
use Rattle.pattern_rules.specs.Literals.{number_of}
use Rattle.pattern_rules.specs.Nodes.{Standing, Elsewhere, nodes, nodes_within, field_nodes, alternative_nodes, names_bound, names_within, names_of_all, names_of_fields, name_if, is_rest, part_behind, part_types, field_standing}
use Rattle.pattern_rules.specs.Resolved.{resolved, resolved_shape, literal_pattern, number_pattern, name_pattern, form_parts, form_fields, front_items, back_items, alternatives, rest_of, rest_in}
use Rattle.pattern_laws.proofs.FineNodes.{AllFine, fine_left, fine_right}
use Rattle.pattern_laws.proofs.NameLists.{In, Apart, Within, in_left, in_right, in_either, joined, AllApart}
use Rattle.pattern_laws.proofs.PatNames.{rest_names, pat_names, names_of_numbered, names_of_pats, NamesDiffer, EachDiffers, PatsDiffer}
use Rattle.pattern_laws.proofs.TreeNames.{New, names_new, fields_new, ItemsFine, parts_items, row_items, list_new, apart_from}

number_names : (n : Option ℤ) → Within (pat_names (number_pattern n)) []
number_names None = λ x a. a
number_names (Some n) = λ x a. a

number_differs : (n : Option ℤ) → NamesDiffer (number_pattern n)
number_differs None = tt
number_differs (Some n) = tt

literal_names : (l : LitTree) → Within (pat_names (literal_pattern l)) []
literal_names (Flag b) = λ x a. a
literal_names (Str text) = λ x a. a
literal_names (Char c) = λ x a. a
literal_names (Byte b) = λ x a. a
literal_names (Int negative size suffix) = number_names (number_of (Int negative size suffix))
literal_names Other = λ x a. a

literal_differs : (l : LitTree) → NamesDiffer (literal_pattern l)
literal_differs (Flag b) = tt
literal_differs (Str text) = tt
literal_differs (Char c) = tt
literal_differs (Byte b) = tt
literal_differs (Int negative size suffix) = number_differs (number_of (Int negative size suffix))
literal_differs Other = tt

bare_names : (b : Bool) (found : FoundTree) (name : List ℕ) → Within (pat_names (name_pattern b found name))
    (name_if b name)
bare_names true found name = λ x a. a
bare_names false found name = λ x a. a

bare_differs : (b : Bool) (found : FoundTree) (name : List ℕ) → NamesDiffer (name_pattern b found name)
bare_differs true found name = (tt, tt)
bare_differs false found name = (λ a. a, tt)

-- both within
both_within : (xs ys zs ws : List (List ℕ)) → Within xs zs → Within ys ws → Within (xs ++ ys) (zs ++ ws)
both_within xs ys zs ws h k x a = go (in_either x xs ys a)
  where
    go : In x xs ⊎ In x ys → In x (zs ++ ws)
    go (inl q) = in_left x zs ws (h x q)
    go (inr q) = in_right x zs ws (k x q)

named_within : (name : List ℕ) (xs ys : List (List ℕ)) → Within xs ys → Within (name ∷ xs) (name ∷ ys)
named_within name xs ys h x (inl e) = inl e
named_within name xs ys h x (inr q) = inr (h x q)

-- the name of a rest
rest_within : (s : Setting) (shape : Shape) → Within (rest_names (rest_in shape)) (names_within s shape)
rest_within s patterns.Rest = λ x a. absurd a
rest_within s (patterns.BindAs name by_ref mutable (At at patterns.Rest)) = named_within name [] [] (λ x a. a)
rest_within s (patterns.BindAs name by_ref mutable (At at shape)) = λ x a. absurd a
rest_within s shape = λ x a. absurd a

-- a field that is written, or left out at a rest
numbered_within : (i : ℕ) (q : MPat) (qs : MNumbered) (b : Bool) (first others : List (List ℕ)) →
    Within (pat_names q) first → Within (joined (names_of_numbered qs)) others →
    Within (joined (names_of_numbered (if b then qs else more_numbered i q qs))) (first ++ others)
numbered_within i q qs true first others h k x a = in_right x first others (k x a)
numbered_within i q qs false first others h k x a = both_within (pat_names q)
    (joined (names_of_numbered qs)) first others h k x a

front_within : (q : MPat) (qs : MPats) (b : Bool) (first others : List (List ℕ)) → Within (pat_names q) first →
    Within (joined (names_of_pats qs)) others →
    Within (joined (names_of_pats (if b then no_pats else more_pats q qs))) (first ++ others)
front_within q qs true first others h k x a = absurd a
front_within q qs false first others h k x a = both_within (pat_names q)
    (joined (names_of_pats qs)) first others h k x a

-- an item of a list, or its first rest
list_within : (q : MPat) (r s : MRest) (fronts backs behind : MPats) (b : Bool) (first others : List (List ℕ)) →
    Within (pat_names q) first → Within (rest_names r) first →
    Within (joined (names_of_pats behind)) others →
    Within (joined (names_of_pats fronts ++ (rest_names s ∷ names_of_pats backs))) others →
    Within (joined (names_of_pats (if b then no_pats else more_pats q fronts) ++
    (rest_names (if b then r else s) ∷ names_of_pats (if b then behind else backs)))) (first ++ others)
list_within q r s fronts backs behind true first others h k l m x a = both_within (rest_names r)
    (joined (names_of_pats behind)) first others k l x a
list_within q r s fronts backs behind false first others h k l m x a =
    both_within (pat_names q)
    (joined (names_of_pats fronts ++ (rest_names s ∷ names_of_pats backs))) first others h m x a

mutual
  -- the pattern binds no other names
  pub names_within_tree : (s : Setting) (t : MType) (q : PatternTree) → Within (pat_names (resolved s t q))
      (names_bound s q)
  names_within_tree s t (At from shape) = names_within_shape s t from shape

  names_within_shape : (s : Setting) (t : MType) (from : ℕ) (shape : Shape) →
      Within (pat_names (resolved_shape s t from shape)) (names_within s shape)
  names_within_shape s t from patterns.Wild = λ x a. a
  names_within_shape s t from patterns.Rest = λ x a. a
  names_within_shape s t from (patterns.Literal l) = literal_names l
  names_within_shape s t from (patterns.Name name) = bare_names (is_path_name s name)
      (found_by s (patterns.Name name)) name
  names_within_shape s t from (patterns.Bind name by_ref mutable) = λ x a. a
  names_within_shape s t from (patterns.BindAs name by_ref mutable q) = named_within name (pat_names (resolved s t q))
      (names_bound s q) (names_within_tree s t q)
  names_within_shape s t from (patterns.Path path) = λ x a. a
  names_within_shape s t from (patterns.TupleForm path ps) =
      parts_within s (part_types s (found_ctor (found_by s (patterns.TupleForm path ps))) (bottom_type t))
      (fields_found s.items (found_by s (patterns.TupleForm path ps))) 0 ps
  names_within_shape s t from (patterns.Brace path fs rest) =
      fields_within s (part_types s (found_ctor (found_by s (patterns.Brace path fs rest))) (bottom_type t))
      (field_names s.items (found_by s (patterns.Brace path fs rest))) fs
  names_within_shape s t from (patterns.Tuple ps) = items_within s (part_types s SingleCtor (bottom_type t)) 0
      (rust_arity (program s) SingleCtor (bottom_type t)) ps
  names_within_shape s t from (patterns.Group q) = names_within_tree s t q
  names_within_shape s t from (patterns.Slice ps) = items_within s (λ i. inner_type (bottom_type t)) 0
      (pattern_count ps) ps
  names_within_shape s t from (patterns.Point mutable q) = names_within_tree s (inner_type t) q
  names_within_shape s t from (patterns.Range low high closed) = λ x a. a
  names_within_shape s t from (patterns.Or ps) = alternatives_within s t ps

  parts_within : (s : Setting) (types : ℕ → MType) (parts i : ℕ) (ps : PatternTrees) →
      Within (joined (names_of_numbered (form_parts s types parts i ps))) (names_of_all s ps)
  parts_within s types parts i none = λ x a. a
  parts_within s types parts i (more q qs) =
      numbered_within i (resolved s (types i) q) (form_parts s types parts (part_behind parts i q qs) qs) (is_rest q)
      (names_bound s q) (names_of_all s qs)
      (names_within_tree s (types i) q) (parts_within s types parts (part_behind parts i q qs) qs)

  fields_within : (s : Setting) (types : ℕ → MType) (names : List (List ℕ)) (fs : FieldTrees) →
      Within (joined (names_of_numbered (form_fields s types names fs))) (names_of_fields s fs)
  fields_within s types names no_field = λ x a. a
  fields_within s types names (and_field name short attrs q fs) =
      both_within (pat_names (resolved s (types (field_number names name)) q))
      (joined (names_of_numbered (form_fields s types names fs))) (names_bound s q) (names_of_fields s fs)
      (names_within_tree s (types (field_number names name)) q) (fields_within s types names fs)

  fronts_within : (s : Setting) (types : ℕ → MType) (i : ℕ) (ps : PatternTrees) →
      Within (joined (names_of_pats (front_items s types i ps))) (names_of_all s ps)
  fronts_within s types i none = λ x a. a
  fronts_within s types i (more q qs) =
      front_within (resolved s (types i) q) (front_items s types (suc i) qs) (is_rest q) (names_bound s q)
      (names_of_all s qs) (names_within_tree s (types i) q) (fronts_within s types (suc i) qs)

  items_within : (s : Setting) (types : ℕ → MType) (i parts : ℕ) (ps : PatternTrees) →
      Within (joined (names_of_pats (front_items s types i ps) ++
      (rest_names (rest_of ps) ∷ names_of_pats (back_items s types parts ps)))) (names_of_all s ps)
  items_within s types i parts none = λ x a. a
  items_within s types i parts (more (At from shape) qs) =
      list_within (resolved s (types i) (At from shape)) (rest_in shape) (rest_of qs) (front_items s types (suc i) qs)
      (back_items s types parts qs) (front_items s types (parts - pattern_count qs) qs)
      (is_rest (At from shape)) (names_within s shape) (names_of_all s qs) (names_within_shape s (types i) from shape)
      (rest_within s shape) (fronts_within s types (parts - pattern_count qs) qs)
      (items_within s types (suc i) parts qs)

  alternatives_within : (s : Setting) (t : MType) (ps : PatternTrees) →
      Within (joined (names_of_numbered (alternatives s t ps))) (names_of_all s ps)
  alternatives_within s t none = λ x a. a
  alternatives_within s t (more q qs) =
      both_within (pat_names (resolved s t q)) (joined (names_of_numbered (alternatives s t qs))) (names_bound s q)
      (names_of_all s qs) (names_within_tree s t q) (alternatives_within s t qs)

-- narrower lists are apart too
narrow_apart : (xs ys zs ws : List (List ℕ)) → Within xs zs → Within ys ws → Apart zs ws → Apart xs ys
narrow_apart xs ys zs ws h k a x p q = a x (h x p) (k x q)

-- a field that is written, or left out at a rest
numbered_differ : (i : ℕ) (q : MPat) (qs : MNumbered) (b : Bool) → NamesDiffer q →
    Apart (pat_names q) (joined (names_of_numbered qs)) → EachDiffers qs × AllApart (names_of_numbered qs) →
    EachDiffers (if b then qs else more_numbered i q qs) × AllApart
    (names_of_numbered (if b then qs else more_numbered i q qs))
numbered_differ i q qs true h a k = k
numbered_differ i q qs false h a k = ((h, k.0), (a, k.1))

front_differ : (q : MPat) (qs : MPats) (b : Bool) → NamesDiffer q → Apart (pat_names q) (joined (names_of_pats qs)) →
    PatsDiffer qs × AllApart (names_of_pats qs) →
    PatsDiffer (if b then no_pats else more_pats q qs) × AllApart
    (names_of_pats (if b then no_pats else more_pats q qs))
front_differ q qs true h a k = (tt, tt)
front_differ q qs false h a k = ((h, k.0), (a, k.1))

-- what a list pattern asks
abbrev ListDiffers : MPats → MRest → MPats → Type 0
ListDiffers front rest back = PatsDiffer front × PatsDiffer back × AllApart
    (names_of_pats front ++ (rest_names rest ∷ names_of_pats back))

list_differ : (q : MPat) (r s : MRest) (fronts backs behind : MPats) (b : Bool) → NamesDiffer q → Apart (pat_names q)
    (joined (names_of_pats fronts ++ (rest_names s ∷ names_of_pats backs))) →
    Apart (rest_names r) (joined (names_of_pats behind)) → PatsDiffer behind × AllApart (names_of_pats behind) →
    ListDiffers fronts s backs →
    ListDiffers (if b then no_pats else more_pats q fronts) (if b then r else s) (if b then behind else backs)
list_differ q r s fronts backs behind true h a c k l = (tt, k.0, (c, k.1))
list_differ q r s fronts backs behind false h a c k l = ((h, l.0), l.1, (a, l.2))

mutual
  -- the names of the pattern differ, whatever type it is resolved at
  pub tree_differs : (s : Setting) (standing : Standing) (before : List (List ℕ)) (p : Place) (q : PatternTree)
      (t : MType) → AllFine s (nodes s standing before p q) → NamesDiffer (resolved s t q)
  tree_differs s standing before p (At from shape) t h = shape_differs s before p from shape t h.1
      (names_new s standing before p (At from shape) h)

  shape_differs : (s : Setting) (before : List (List ℕ)) (p : Place) (from : ℕ) (shape : Shape) (t : MType) →
      AllFine s (nodes_within s before p shape) → New (names_within s shape) before →
      NamesDiffer (resolved_shape s t from shape)
  shape_differs s before p from patterns.Wild t h n = tt
  shape_differs s before p from patterns.Rest t h n = tt
  shape_differs s before p from (patterns.Literal l) t h n = literal_differs l
  shape_differs s before p from (patterns.Name name) t h n = bare_differs (is_path_name s name)
      (found_by s (patterns.Name name)) name
  shape_differs s before p from (patterns.Bind name by_ref mutable) t h n = (λ a. a, tt)
  shape_differs s before p from (patterns.BindAs name by_ref mutable q) t h n = (
    λ a. names_new s Elsewhere (before ++ name ∷ []) p q h name (names_within_tree s t q name a)
        (in_right name before (name ∷ []) (inl refl)),
    tree_differs s Elsewhere (before ++ name ∷ []) p q t h,
  )
  shape_differs s before p from (patterns.Path path) t h n = (tt, tt)
  shape_differs s before p from (patterns.TupleForm path ps) t h n =
      parts_differ s before ps (part_types s (found_ctor (found_by s (patterns.TupleForm path ps))) (bottom_type t))
      (fields_found s.items (found_by s (patterns.TupleForm path ps))) 0
      (parts_items s before (part_types s (found_ctor (found_by s (patterns.TupleForm path ps))) (bottom_type p.type))
      (bottom_mode p.type p.mode)
      (fields_found s.items (found_by s (patterns.TupleForm path ps))) 0 ps h)
  shape_differs s before p from (patterns.Brace path fs rest) t h n =
      fields_differ s before fs (part_types s (found_ctor (found_by s (patterns.Brace path fs rest)))
      (bottom_type p.type)) (bottom_mode p.type p.mode)
      (field_names s.items (found_by s (patterns.Brace path fs rest)))
      (part_types s (found_ctor (found_by s (patterns.Brace path fs rest))) (bottom_type t)) h
  shape_differs s before p from (patterns.Tuple ps) t h n =
      items_differ s before ps (part_types s SingleCtor (bottom_type t)) 0
      (rust_arity (program s) SingleCtor (bottom_type t))
      (parts_items s before (part_types s SingleCtor (bottom_type p.type)) (bottom_mode p.type p.mode)
      (rust_arity (program s) SingleCtor (bottom_type p.type)) 0 ps h)
  shape_differs s before p from (patterns.Group q) t h n = tree_differs s Elsewhere before p q t h
  shape_differs s before p from (patterns.Slice ps) t h n =
      items_differ s before ps (λ i. inner_type (bottom_type t)) 0 (pattern_count ps)
      (row_items s before (bottom_type p.type) (pattern_count ps) (bottom_mode p.type p.mode) ps h)
  shape_differs s before p from (patterns.Point mutable q) t h n = tree_differs s Elsewhere before (pointed p) q
      (inner_type t) h
  shape_differs s before p from (patterns.Range low high closed) t h n = tt
  shape_differs s before p from (patterns.Or ps) t h n = alternatives_differ s before p ps t h

  parts_differ : (s : Setting) (before : List (List ℕ)) (ps : PatternTrees) (types : ℕ → MType) (parts i : ℕ) →
      ItemsFine s before ps →
      EachDiffers (form_parts s types parts i ps) × AllApart (names_of_numbered (form_parts s types parts i ps))
  parts_differ s before none types parts i h = (tt, tt)
  parts_differ s before (more q qs) types parts i ((standing, p, h), k) =
      numbered_differ i (resolved s (types i) q) (form_parts s types parts (part_behind parts i q qs) qs) (is_rest q)
      (tree_differs s standing before p q (types i) h)
      (narrow_apart (pat_names (resolved s (types i) q))
      (joined (names_of_numbered (form_parts s types parts (part_behind parts i q qs) qs))) (names_bound s q)
      (names_of_all s qs)
      (names_within_tree s (types i) q) (parts_within s types parts (part_behind parts i q qs) qs)
      (apart_from before (names_bound s q) (names_of_all s qs) (list_new s (before ++ names_bound s q) qs k)))
      (parts_differ s (before ++ names_bound s q) qs types parts (part_behind parts i q qs) k)

  fields_differ : (s : Setting) (before : List (List ℕ)) (fs : FieldTrees) (places : ℕ → MType) (m : Mode)
      (names : List (List ℕ)) (types : ℕ → MType) → AllFine s (field_nodes s before places m names fs) →
      EachDiffers (form_fields s types names fs) × AllApart (names_of_numbered (form_fields s types names fs))
  fields_differ s before no_field places m names types h = (tt, tt)
  fields_differ s before (and_field name short attrs q fs) places m names types h =
      numbered_differ (field_number names name) (resolved s (types (field_number names name)) q)
      (form_fields s types names fs) false
      (tree_differs s (field_standing short) before (place (places (field_number names name)) m) q
      (types (field_number names name))
      (fine_left s (nodes s (field_standing short) before (place (places (field_number names name)) m) q)
      (field_nodes s (before ++ names_bound s q) places m names fs) h))
      (narrow_apart (pat_names (resolved s (types (field_number names name)) q))
      (joined (names_of_numbered (form_fields s types names fs))) (names_bound s q) (names_of_fields s fs)
      (names_within_tree s (types (field_number names name)) q) (fields_within s types names fs)
      (apart_from before (names_bound s q) (names_of_fields s fs)
      (fields_new s (before ++ names_bound s q) places m names fs
      (fine_right s (nodes s (field_standing short) before (place (places (field_number names name)) m) q)
      (field_nodes s (before ++ names_bound s q) places m names fs) h))))
      (fields_differ s (before ++ names_bound s q) fs places m names types
      (fine_right s (nodes s (field_standing short) before (place (places (field_number names name)) m) q)
      (field_nodes s (before ++ names_bound s q) places m names fs) h))

  fronts_differ : (s : Setting) (before : List (List ℕ)) (ps : PatternTrees) (types : ℕ → MType) (i : ℕ) →
      ItemsFine s before ps →
      PatsDiffer (front_items s types i ps) × AllApart (names_of_pats (front_items s types i ps))
  fronts_differ s before none types i h = (tt, tt)
  fronts_differ s before (more q qs) types i ((standing, p, h), k) =
      front_differ (resolved s (types i) q) (front_items s types (suc i) qs) (is_rest q)
      (tree_differs s standing before p q (types i) h)
      (narrow_apart (pat_names (resolved s (types i) q)) (joined (names_of_pats (front_items s types (suc i) qs)))
      (names_bound s q) (names_of_all s qs)
      (names_within_tree s (types i) q) (fronts_within s types (suc i) qs)
      (apart_from before (names_bound s q) (names_of_all s qs) (list_new s (before ++ names_bound s q) qs k)))
      (fronts_differ s (before ++ names_bound s q) qs types (suc i) k)

  items_differ : (s : Setting) (before : List (List ℕ)) (ps : PatternTrees) (types : ℕ → MType) (i parts : ℕ) →
      ItemsFine s before ps →
      PatsDiffer (front_items s types i ps) × PatsDiffer (back_items s types parts ps)
      × AllApart (names_of_pats (front_items s types i ps) ++
      (rest_names (rest_of ps) ∷ names_of_pats (back_items s types parts ps)))
  items_differ s before none types i parts h = (tt, tt, (λ x a b. a, tt))
  items_differ s before (more (At from shape) qs) types i parts ((standing, p, h), k) =
      list_differ (resolved s (types i) (At from shape)) (rest_in shape) (rest_of qs) (front_items s types (suc i) qs)
      (back_items s types parts qs) (front_items s types (parts - pattern_count qs) qs)
      (is_rest (At from shape)) (tree_differs s standing before p (At from shape) (types i) h)
      (narrow_apart (pat_names (resolved s (types i) (At from shape)))
      (joined (names_of_pats (front_items s types (suc i) qs) ++
      (rest_names (rest_of qs) ∷ names_of_pats (back_items s types parts qs))))
      (names_within s shape) (names_of_all s qs) (names_within_shape s (types i) from shape)
      (items_within s types (suc i) parts qs)
      (apart_from before (names_within s shape) (names_of_all s qs)
      (list_new s (before ++ names_within s shape) qs k)))
      (narrow_apart (rest_names (rest_in shape))
      (joined (names_of_pats (front_items s types (parts - pattern_count qs) qs))) (names_within s shape)
      (names_of_all s qs)
      (rest_within s shape) (fronts_within s types (parts - pattern_count qs) qs)
      (apart_from before (names_within s shape) (names_of_all s qs)
      (list_new s (before ++ names_within s shape) qs k)))
      (fronts_differ s (before ++ names_within s shape) qs types (parts - pattern_count qs) k)
      (items_differ s (before ++ names_within s shape) qs types (suc i) parts k)

  alternatives_differ : (s : Setting) (before : List (List ℕ)) (p : Place) (ps : PatternTrees) (t : MType) →
      AllFine s (alternative_nodes s before p ps) → EachDiffers (alternatives s t ps)
  alternatives_differ s before p none t h = tt
  alternatives_differ s before p (more q qs) t h = (
    tree_differs s Elsewhere before p q t
        (fine_left s (nodes s Elsewhere before p q) (alternative_nodes s before p qs) h),
    alternatives_differ s before p qs t
        (fine_right s (nodes s Elsewhere before p q) (alternative_nodes s before p qs) h),
  )
