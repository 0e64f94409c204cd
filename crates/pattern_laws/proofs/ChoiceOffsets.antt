-- The offsets of the alternatives of the pattern that a written one means are some of the written ones, in the same order.
use Rattle.std.proofs.Common.{◌≡◌, ◌⊎◌, inl, inr, ℕ, ℤ, suc, ◌-◌, ◌<◌, Bool, true, false, List, [], ◌∷◌, ◌++◌, Option, Some, None, refl, sym, ap, subst, ◌∙◌, if◌then◌else◌}
use Rattle.match_model.specs.Types.{MType}
use Rattle.match_model.specs.Constructors.{SingleCtor}
use Rattle.match_model.specs.RustTypes.{rust_arity, inner_type}
use Rattle.match_model.specs.Patterns.{MPat, MPats, no_pats, more_pats, MNumbered, more_numbered}
use Rattle.match_model.specs.SourcePatterns.{ids_in}
use Rattle.match_model.specs.Lists.{Among}
use Rattle.match_model.specs.Match.{alternatives_in, alternatives_in_items, alternatives_in_fields, alternatives_of, and_others}
use Rattle.decl_syntax.specs.Patterns.{PatternTree, At, Shape, PatternTrees, none, more, FieldTrees, no_field, and_field, LitTree, Flag, Char, Byte, Int, Str, Other}
use Rattle.decl_syntax.specs.Patterns as patterns
use Rattle.decl_syntax.specs.Widths.{pattern_count}
use Rattle.type_names.specs.Finding.{FoundTree}
use Rattle.pattern_rules.specs.Settings.{Setting, program, bottom_type}
use Rattle.pattern_rules.specs.Namings.{is_path_name, found_by, found_ctor, field_names, field_number, fields_found}
use Rattle.pattern_rules.specs.Literals.{number_of}
use Rattle.pattern_rules.specs.Nodes.{is_rest, part_behind, part_types}
use Rattle.pattern_rules.specs.Resolved.{resolved, resolved_shape, literal_pattern, number_pattern, name_pattern, form_parts, form_fields, front_items, back_items, alternatives}
use Rattle.pattern_rules.specs.Spelled.{choice_offsets, offsets_within, offsets_in_all, offsets_in_fields, offsets_of_each}
use Rattle.pattern_laws.proofs.Reading.{Rising, ids_others}

-- the numbers of the first list are some of the second, in the same order
abbrev pub SomeOf : List ℕ → List ℕ → Type 0
SomeOf [] ys = Unit {0}
SomeOf (x ∷ xs) [] = ⊥
SomeOf (x ∷ xs) (y ∷ ys) = ((x ≡ y) × SomeOf xs ys) ⊎ SomeOf (x ∷ xs) ys

drop_first : (x : ℕ) (xs ys : List ℕ) → SomeOf (x ∷ xs) ys → SomeOf xs ys
drop_first x xs [] h = absurd h
drop_first x [] (y ∷ ys) h = tt
drop_first x (z ∷ xs) (y ∷ ys) (inl h) = inr h.1
drop_first x (z ∷ xs) (y ∷ ys) (inr h) = inr (drop_first x (z ∷ xs) ys h)

some_behind : (xs ys zs : List ℕ) → SomeOf xs zs → SomeOf xs (ys ++ zs)
some_behind xs [] zs h = h
some_behind [] (y ∷ ys) zs h = tt
some_behind (x ∷ xs) (y ∷ ys) zs h = inr (some_behind (x ∷ xs) ys zs h)

some_before : (xs ys zs : List ℕ) → SomeOf xs ys → SomeOf xs (ys ++ zs)
some_before [] ys zs h = tt
some_before (x ∷ xs) [] zs h = absurd h
some_before (x ∷ xs) (y ∷ ys) zs (inl h) = inl (h.0, some_before xs ys zs h.1)
some_before (x ∷ xs) (y ∷ ys) zs (inr h) = inr (some_before (x ∷ xs) ys zs h)

some_both : (xs ys zs ws : List ℕ) → SomeOf xs ys → SomeOf zs ws → SomeOf (xs ++ zs) (ys ++ ws)
some_both [] ys zs ws h k = some_behind zs ys ws k
some_both (x ∷ xs) [] zs ws h k = absurd h
some_both (x ∷ xs) (y ∷ ys) zs ws (inl h) k = inl (h.0, some_both xs ys zs ws h.1 k)
some_both (x ∷ xs) (y ∷ ys) zs ws (inr h) k = inr (some_both (x ∷ xs) ys zs ws h k)

some_among : (xs ys : List ℕ) (u : ℕ) → SomeOf xs ys → Among u xs → Among u ys
some_among [] ys u h a = absurd a
some_among (x ∷ xs) [] u h a = absurd h
some_among (x ∷ xs) (y ∷ ys) u (inl h) (inl e) = inl (e ∙ h.0)
some_among (x ∷ xs) (y ∷ ys) u (inl h) (inr a) = inr (some_among xs ys u h.1 a)
some_among (x ∷ xs) (y ∷ ys) u (inr h) a = inr (some_among (x ∷ xs) ys u h a)

-- some of numbers that rise
pub some_rising : (xs ys : List ℕ) → SomeOf xs ys → Rising ys → Rising xs
some_rising [] ys h r = tt
some_rising (x ∷ xs) [] h r = absurd h
some_rising (x ∷ xs) (y ∷ ys) (inl h) r = (
  λ m a. subst (λ n. n < m) (sym h.0) (r.0 m (some_among xs ys m h.1 a)),
  some_rising xs ys h.1 r.1,
)
some_rising (x ∷ xs) (y ∷ ys) (inr h) r = some_rising (x ∷ xs) ys h r.1

number_offsets : (n : Option ℤ) → SomeOf (ids_in (alternatives_in (number_pattern n))) []
number_offsets None = tt
number_offsets (Some n) = tt

literal_offsets : (l : LitTree) → SomeOf (ids_in (alternatives_in (literal_pattern l))) []
literal_offsets (Flag b) = tt
literal_offsets (Str text) = tt
literal_offsets (Char c) = tt
literal_offsets (Byte b) = tt
literal_offsets (Int negative size suffix) = number_offsets (number_of (Int negative size suffix))
literal_offsets Other = tt

name_offsets : (b : Bool) (found : FoundTree) (name : List ℕ) →
    SomeOf (ids_in (alternatives_in (name_pattern b found name))) []
name_offsets true found name = tt
name_offsets false found name = tt

-- the ids of both
both_ids : (q : MPat) (qs : MNumbered) (ys zs : List ℕ) → SomeOf (ids_in (alternatives_in q)) ys →
    SomeOf (ids_in (alternatives_in_fields qs)) zs →
    SomeOf (ids_in (and_others (alternatives_in q) (alternatives_in_fields qs))) (ys ++ zs)
both_ids q qs ys zs h k =
    subst (λ w. SomeOf w (ys ++ zs)) (sym (ids_others (alternatives_in q) (alternatives_in_fields qs)))
    (some_both (ids_in (alternatives_in q)) ys (ids_in (alternatives_in_fields qs)) zs h k)

numbered_if : (i : ℕ) (q : MPat) (qs : MNumbered) (b : Bool) (ys zs : List ℕ) →
    SomeOf (ids_in (alternatives_in q)) ys → SomeOf (ids_in (alternatives_in_fields qs)) zs →
    SomeOf (ids_in (alternatives_in_fields (if b then qs else more_numbered i q qs))) (ys ++ zs)
numbered_if i q qs true ys zs h k = some_behind (ids_in (alternatives_in_fields qs)) ys zs k
numbered_if i q qs false ys zs h k = both_ids q qs ys zs h k

item_ids : (q : MPat) (qs : MPats) (ys zs : List ℕ) → SomeOf (ids_in (alternatives_in q)) ys →
    SomeOf (ids_in (alternatives_in_items qs)) zs → SomeOf (ids_in (alternatives_in_items (more_pats q qs)))
    (ys ++ zs)
item_ids q qs ys zs h k =
    subst (λ w. SomeOf w (ys ++ zs)) (sym (ids_others (alternatives_in q) (alternatives_in_items qs)))
    (some_both (ids_in (alternatives_in q)) ys (ids_in (alternatives_in_items qs)) zs h k)

front_if : (q : MPat) (qs : MPats) (b : Bool) (ys zs : List ℕ) → SomeOf (ids_in (alternatives_in q)) ys →
    SomeOf (ids_in (alternatives_in_items qs)) zs →
    SomeOf (ids_in (alternatives_in_items (if b then no_pats else more_pats q qs))) (ys ++ zs)
front_if q qs true ys zs h k = tt
front_if q qs false ys zs h k = item_ids q qs ys zs h k

-- the ids of the front and the back, one after the other
abbrev ends_ids : MPats → MPats → List ℕ
ends_ids front back = ids_in (alternatives_in_items front) ++ ids_in (alternatives_in_items back)

append_three : (xs ys zs : List ℕ) → (xs ++ ys) ++ zs ≡ xs ++ (ys ++ zs)
append_three [] ys zs = refl
append_three (x ∷ xs) ys zs = ap (λ ws. x ∷ ws) (append_three xs ys zs)

list_if : (q : MPat) (fronts backs behind : MPats) (b : Bool) (ys zs : List ℕ) →
    SomeOf (ids_in (alternatives_in q)) ys → SomeOf (ids_in (alternatives_in_items behind)) zs →
    SomeOf (ends_ids fronts backs) zs →
    SomeOf (ends_ids (if b then no_pats else more_pats q fronts) (if b then behind else backs)) (ys ++ zs)
list_if q fronts backs behind true ys zs h k l = some_behind (ids_in (alternatives_in_items behind)) ys zs k
list_if q fronts backs behind false ys zs h k l =
    subst (λ w. SomeOf w (ys ++ zs))
    (sym (ap (λ w. w ++ ids_in (alternatives_in_items backs))
    (ids_others (alternatives_in q) (alternatives_in_items fronts))
    ∙ append_three (ids_in (alternatives_in q)) (ids_in (alternatives_in_items fronts))
    (ids_in (alternatives_in_items backs))))
    (some_both (ids_in (alternatives_in q)) ys (ends_ids fronts backs) zs h l)

mutual
  pub tree_offsets : (s : Setting) (t : MType) (q : PatternTree) → SomeOf (ids_in (alternatives_in (resolved s t q)))
      (choice_offsets q)
  tree_offsets s t (At from shape) = shape_offsets s t from shape

  shape_offsets : (s : Setting) (t : MType) (from : ℕ) (shape : Shape) →
      SomeOf (ids_in (alternatives_in (resolved_shape s t from shape))) (offsets_within shape)
  shape_offsets s t from patterns.Wild = tt
  shape_offsets s t from patterns.Rest = tt
  shape_offsets s t from (patterns.Literal l) = literal_offsets l
  shape_offsets s t from (patterns.Name name) = name_offsets (is_path_name s name)
      (found_by s (patterns.Name name)) name
  shape_offsets s t from (patterns.Bind name by_ref mutable) = tt
  shape_offsets s t from (patterns.BindAs name by_ref mutable q) = tree_offsets s t q
  shape_offsets s t from (patterns.Path path) = tt
  shape_offsets s t from (patterns.TupleForm path ps) =
      part_offsets s (part_types s (found_ctor (found_by s (patterns.TupleForm path ps))) (bottom_type t))
      (fields_found s.items (found_by s (patterns.TupleForm path ps))) 0 ps
  shape_offsets s t from (patterns.Brace path fs rest) =
      field_offsets s (part_types s (found_ctor (found_by s (patterns.Brace path fs rest))) (bottom_type t))
      (field_names s.items (found_by s (patterns.Brace path fs rest))) fs
  shape_offsets s t from (patterns.Tuple ps) =
      list_offsets s (part_types s SingleCtor (bottom_type t)) 0
      (rust_arity (program s) SingleCtor (bottom_type t)) ps
  shape_offsets s t from (patterns.Group q) = tree_offsets s t q
  shape_offsets s t from (patterns.Slice ps) = list_offsets s (λ i. inner_type (bottom_type t)) 0
      (pattern_count ps) ps
  shape_offsets s t from (patterns.Point mutable q) = tree_offsets s (inner_type t) q
  shape_offsets s t from (patterns.Range low high closed) = tt
  shape_offsets s t from (patterns.Or ps) = alternative_offsets s t ps

  part_offsets : (s : Setting) (types : ℕ → MType) (parts i : ℕ) (ps : PatternTrees) →
      SomeOf (ids_in (alternatives_in_fields (form_parts s types parts i ps))) (offsets_in_all ps)
  part_offsets s types parts i none = tt
  part_offsets s types parts i (more q qs) =
      numbered_if i (resolved s (types i) q) (form_parts s types parts (part_behind parts i q qs) qs) (is_rest q)
      (choice_offsets q) (offsets_in_all qs) (tree_offsets s (types i) q)
      (part_offsets s types parts (part_behind parts i q qs) qs)

  field_offsets : (s : Setting) (types : ℕ → MType) (names : List (List ℕ)) (fs : FieldTrees) →
      SomeOf (ids_in (alternatives_in_fields (form_fields s types names fs))) (offsets_in_fields fs)
  field_offsets s types names no_field = tt
  field_offsets s types names (and_field name short attrs q fs) =
      both_ids (resolved s (types (field_number names name)) q) (form_fields s types names fs) (choice_offsets q)
      (offsets_in_fields fs) (tree_offsets s (types (field_number names name)) q)
      (field_offsets s types names fs)

  front_offsets : (s : Setting) (types : ℕ → MType) (i : ℕ) (ps : PatternTrees) →
      SomeOf (ids_in (alternatives_in_items (front_items s types i ps))) (offsets_in_all ps)
  front_offsets s types i none = tt
  front_offsets s types i (more q qs) =
      front_if (resolved s (types i) q) (front_items s types (suc i) qs) (is_rest q) (choice_offsets q)
      (offsets_in_all qs) (tree_offsets s (types i) q) (front_offsets s types (suc i) qs)

  end_offsets : (s : Setting) (types : ℕ → MType) (i parts : ℕ) (ps : PatternTrees) →
      SomeOf (ends_ids (front_items s types i ps) (back_items s types parts ps)) (offsets_in_all ps)
  end_offsets s types i parts none = tt
  end_offsets s types i parts (more q qs) =
      list_if (resolved s (types i) q) (front_items s types (suc i) qs) (back_items s types parts qs)
      (front_items s types (parts - pattern_count qs) qs) (is_rest q) (choice_offsets q) (offsets_in_all qs)
      (tree_offsets s (types i) q) (front_offsets s types (parts - pattern_count qs) qs)
      (end_offsets s types (suc i) parts qs)

  list_offsets : (s : Setting) (types : ℕ → MType) (i parts : ℕ) (ps : PatternTrees) →
      SomeOf (ids_in (and_others (alternatives_in_items (front_items s types i ps))
      (alternatives_in_items (back_items s types parts ps)))) (offsets_in_all ps)
  list_offsets s types i parts none = tt
  list_offsets s types i parts (more q qs) =
      subst (λ w. SomeOf w (offsets_in_all (more q qs)))
      (sym (ids_others (alternatives_in_items (front_items s types i (more q qs)))
      (alternatives_in_items (back_items s types parts (more q qs)))))
      (list_if (resolved s (types i) q) (front_items s types (suc i) qs) (back_items s types parts qs)
      (front_items s types (parts - pattern_count qs) qs) (is_rest q) (choice_offsets q) (offsets_in_all qs)
      (tree_offsets s (types i) q) (front_offsets s types (parts - pattern_count qs) qs)
      (end_offsets s types (suc i) parts qs))

  alternative_offsets : (s : Setting) (t : MType) (ps : PatternTrees) →
      SomeOf (ids_in (alternatives_of (alternatives s t ps))) (offsets_of_each ps)
  alternative_offsets s t none = tt
  alternative_offsets s t (more q qs) =
      inl (
        refl,
        some_both (ids_in (alternatives_in (resolved s t q))) (choice_offsets q)
            (ids_in (alternatives_of (alternatives s t qs))) (offsets_of_each qs) (tree_offsets s t q)
            (alternative_offsets s t qs),
      )
