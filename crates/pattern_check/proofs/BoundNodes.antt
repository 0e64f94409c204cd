-- What nodes bind is the same whatever is bound before them, and wherever they stand.
use Rattle.std.proofs.Common.{◌≡◌, ℕ, List, ◌∷◌, [], ◌++◌, Option, refl, ap, sym, ◌∙◌}
use Rattle.std.specs.List.{cons_option}
use Rattle.std.proofs.lemmas.List.Elements.{filter_map-append}
use Rattle.match_model.specs.declared.Mode.{Mode}
use Rattle.match_model.specs.Types.{MType}
use Rattle.match_model.specs.Constructors.{SingleCtor}
use Rattle.match_model.specs.RustTypes.{rust_arity}
use Rattle.decl_syntax.specs.Patterns.{PatternTree, At, Shape, PatternTrees, FieldTrees, no_field, and_field}
use Rattle.decl_syntax.specs.Patterns as patterns
use Rattle.decl_syntax.specs.Widths.{pattern_count}
use Rattle.pattern_rules.specs.Settings.{Setting, program, Place, place, bottom, pointed}
use Rattle.pattern_rules.specs.Namings.{found_by, found_ctor, field_names, field_number, fields_found}
use Rattle.pattern_rules.specs.Nodes.{Node, Standing, AsItem, Elsewhere, field_standing, nodes, nodes_within, part_types, part_nodes, part_behind, field_nodes, item_nodes, slice_item_type, alternative_nodes, names_bound}
use Rattle.pattern_rules.specs.OtherRules.{BoundName, bound_by}
use Rattle.pattern_check.specs.NodeForms.{node_at}
use Rattle.pattern_check.specs.BoundSets.{bounds_of}

own_same : (s : Setting) (from : ℕ) (st su : Standing) (b d : List (List ℕ)) (p : Place) (sh : Shape) → bound_by s (node_at from sh st p b) ≡ bound_by s (node_at from sh su p d)
own_same s from st su b d p patterns.Wild = refl
own_same s from st su b d p patterns.Rest = refl
own_same s from st su b d p (patterns.Literal l) = refl
own_same s from st su b d p (patterns.Name name) = refl
own_same s from st su b d p (patterns.Bind name by_ref mutable) = refl
own_same s from st su b d p (patterns.BindAs name by_ref mutable q) = refl
own_same s from st su b d p (patterns.Path path) = refl
own_same s from st su b d p (patterns.TupleForm path qs) = refl
own_same s from st su b d p (patterns.Brace path fs rest) = refl
own_same s from st su b d p (patterns.Tuple qs) = refl
own_same s from st su b d p (patterns.Group q) = refl
own_same s from st su b d p (patterns.Slice qs) = refl
own_same s from st su b d p (patterns.Point mutable q) = refl
own_same s from st su b d p (patterns.Range low high closed) = refl
own_same s from st su b d p (patterns.Or qs) = refl

-- two lists of nodes, one after the other
both_same : (s : Setting) (xs us ys vs : List Node) → bounds_of s xs ≡ bounds_of s us → bounds_of s ys ≡ bounds_of s vs → bounds_of s (xs ++ ys) ≡ bounds_of s (us ++ vs)
both_same s xs us ys vs e f =
    filter_map-append (bound_by s) xs ys
    ∙ (ap (λ (bs : List BoundName). bs ++ bounds_of s ys) e
    ∙ (ap (λ (bs : List BoundName). bounds_of s us ++ bs) f ∙ sym (filter_map-append (bound_by s) us vs)))

mutual
  pub same_bounds : (s : Setting) (st su : Standing) (b d : List (List ℕ)) (p : Place) (q : PatternTree) → bounds_of s (nodes s st b p q) ≡ bounds_of s (nodes s su d p q)
  same_bounds s st su b d p (At from sh) =
      ap (λ (o : Option BoundName). cons_option o (bounds_of s (nodes_within s b p sh))) (own_same s from st su b d p sh)
      ∙ ap (λ (bs : List BoundName). cons_option (bound_by s (node_at from sh su p d)) bs) (same_within s b d p sh)

  same_within : (s : Setting) (b d : List (List ℕ)) (p : Place) (sh : Shape) → bounds_of s (nodes_within s b p sh) ≡ bounds_of s (nodes_within s d p sh)
  same_within s b d p patterns.Wild = refl
  same_within s b d p patterns.Rest = refl
  same_within s b d p (patterns.Literal l) = refl
  same_within s b d p (patterns.Name name) = refl
  same_within s b d p (patterns.Bind name by_ref mutable) = refl
  same_within s b d p (patterns.BindAs name by_ref mutable q) = same_bounds s Elsewhere Elsewhere (b ++ name ∷ []) (d ++ name ∷ []) p q
  same_within s b d p (patterns.Path path) = refl
  same_within s b d p (patterns.TupleForm path qs) =
      same_parts s b d (part_types s (found_ctor (found_by s (patterns.TupleForm path qs))) (bottom p).type) (bottom p).mode (fields_found s.items (found_by s (patterns.TupleForm path qs))) 0 qs
  same_within s b d p (patterns.Brace path fs rest) =
      same_fields s b d (part_types s (found_ctor (found_by s (patterns.Brace path fs rest))) (bottom p).type) (bottom p).mode (field_names s.items (found_by s (patterns.Brace path fs rest))) fs
  same_within s b d p (patterns.Tuple qs) =
      same_parts s b d (part_types s SingleCtor (bottom p).type) (bottom p).mode (rust_arity (program s) SingleCtor (bottom p).type) 0 qs
  same_within s b d p (patterns.Group q) = same_bounds s Elsewhere Elsewhere b d p q
  same_within s b d p (patterns.Slice qs) = same_items s b d (bottom p).type (pattern_count qs) (bottom p).mode qs
  same_within s b d p (patterns.Point mutable q) = same_bounds s Elsewhere Elsewhere b d (pointed p) q
  same_within s b d p (patterns.Range low high closed) = refl
  same_within s b d p (patterns.Or qs) = same_ways s b d p qs

  same_parts : (s : Setting) (b d : List (List ℕ)) (types : ℕ → MType) (m : Mode) (parts i : ℕ) (qs : PatternTrees) →
      bounds_of s (part_nodes s b types m parts i qs) ≡ bounds_of s (part_nodes s d types m parts i qs)
  same_parts s b d types m parts i patterns.none = refl
  same_parts s b d types m parts i (patterns.more q qs) =
      both_same s (nodes s Elsewhere b (place (types i) m) q) (nodes s Elsewhere d (place (types i) m) q)
      (part_nodes s (b ++ names_bound s q) types m parts (part_behind parts i q qs) qs) (part_nodes s (d ++ names_bound s q) types m parts (part_behind parts i q qs) qs)
      (same_bounds s Elsewhere Elsewhere b d (place (types i) m) q) (same_parts s (b ++ names_bound s q) (d ++ names_bound s q) types m parts (part_behind parts i q qs) qs)

  same_fields : (s : Setting) (b d : List (List ℕ)) (types : ℕ → MType) (m : Mode) (names : List (List ℕ)) (fs : FieldTrees) →
      bounds_of s (field_nodes s b types m names fs) ≡ bounds_of s (field_nodes s d types m names fs)
  same_fields s b d types m names no_field = refl
  same_fields s b d types m names (and_field name short attrs q fs) =
      both_same s (nodes s (field_standing short) b (place (types (field_number names name)) m) q) (nodes s (field_standing short) d (place (types (field_number names name)) m) q)
      (field_nodes s (b ++ names_bound s q) types m names fs) (field_nodes s (d ++ names_bound s q) types m names fs)
      (same_bounds s (field_standing short) (field_standing short) b d (place (types (field_number names name)) m) q)
      (same_fields s (b ++ names_bound s q) (d ++ names_bound s q) types m names fs)

  same_items : (s : Setting) (b d : List (List ℕ)) (t : MType) (count : ℕ) (m : Mode) (qs : PatternTrees) →
      bounds_of s (item_nodes s b t count m qs) ≡ bounds_of s (item_nodes s d t count m qs)
  same_items s b d t count m patterns.none = refl
  same_items s b d t count m (patterns.more q qs) =
      both_same s (nodes s AsItem b (place (slice_item_type t count q) m) q) (nodes s AsItem d (place (slice_item_type t count q) m) q)
      (item_nodes s (b ++ names_bound s q) t count m qs) (item_nodes s (d ++ names_bound s q) t count m qs)
      (same_bounds s AsItem AsItem b d (place (slice_item_type t count q) m) q) (same_items s (b ++ names_bound s q) (d ++ names_bound s q) t count m qs)

  same_ways : (s : Setting) (b d : List (List ℕ)) (p : Place) (qs : PatternTrees) → bounds_of s (alternative_nodes s b p qs) ≡ bounds_of s (alternative_nodes s d p qs)
  same_ways s b d p patterns.none = refl
  same_ways s b d p (patterns.more q qs) =
      both_same s (nodes s Elsewhere b p q) (nodes s Elsewhere d p q) (alternative_nodes s b p qs) (alternative_nodes s d p qs)
      (same_bounds s Elsewhere Elsewhere b d p q) (same_ways s b d p qs)
