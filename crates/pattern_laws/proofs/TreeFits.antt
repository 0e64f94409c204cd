-- A pattern whose nodes pass the tests fits its type.
use Rattle.std.proofs.Common.{◌≡◌, ℕ, suc, ◌+◌, ◌-◌, Bool, true, false, not, ◌&&◌, ◌||◌, List, [], ◌∷◌, ◌++◌, length, Option, Some, None, slice_get, nat_eq, nat_le, refl, sym, ap, subst, ◌∙◌, arith, if◌then◌else◌, ◌≤◌, length-append}
use Rattle.std.proofs.lemmas.Bool.Decides.{nat_tests}
use mathlib.Core.Bool.{beq}
use Rattle.match_model.specs.declared.Mode.{Mode}
use Rattle.match_model.specs.Types.{MType, TupleType, PointType, SliceType, ArrayType, MTypes, no_types, more_types, types_list}
use Rattle.match_model.specs.Numbers.{MRange}
use Rattle.match_model.specs.Declarations.{MProgram, node_types}
use Rattle.match_model.specs.Constructors.{SingleCtor}
use Rattle.match_model.specs.RustTypes.{rust_arity, part_type, type_or, inner_type, is_type, IsSoundProgram}
use Rattle.match_model.specs.Matching.{are_parts}
use Rattle.match_model.specs.Patterns.{MRest, MPat, FormPat, MPats, no_pats, more_pats, MNumbered, no_numbered, more_numbered, numbers_in}
use Rattle.match_model.specs.SourcePatterns.{two_or_more}
use Rattle.decl_syntax.specs.Patterns.{PathTree, PatternTree, At, Shape, PatternTrees, none, more, FieldTrees, no_field, and_field}
use Rattle.decl_syntax.specs.Patterns as patterns
use Rattle.decl_syntax.specs.Widths.{pattern_count, most_parts}
use Rattle.type_names.specs.Finding.{FoundTree, FoundNothing, FoundTwice, FoundStruct, FoundVariant, is_found, name_finds, path_finds, found_form}
use Rattle.pattern_rules.specs.Settings.{Setting, program, Place, place, bottom_type, bottom_mode, pointed}
use Rattle.pattern_rules.specs.Namings.{is_path_name, is_unit_form, is_short, found_by, found_if, found_ctor, found_number, field_names, field_number, fields_found, meets, is_tuple_form}
use Rattle.pattern_rules.specs.Nodes.{Standing, AsItem, Elsewhere, Node, nodes, nodes_within, part_nodes, field_nodes, item_nodes, alternative_nodes, names_bound, is_rest, part_behind, part_types, slice_item_type, field_standing}
use Rattle.pattern_rules.specs.NodeRules.{type_met, is_point, is_tuple, is_row, misses, misfits_array, misfits_form, finds_none, has_other_count, has_rests, rest_count, some_absent, written_names}
use Rattle.pattern_rules.specs.Resolved.{resolved, resolved_shape, name_pattern, form_parts, form_fields, front_items, back_items, alternatives, rest_of}
use Rattle.pattern_rules.specs.Literals.{range_meant}
use Rattle.pattern_rules.specs.Promises.{range_written}
use Rattle.pattern_rules.specs.Builders.{types_or_none}
use Rattle.pattern_rules.proofs.SameTypes.{both_left, both_right}
use Rattle.pattern_laws.proofs.KeptLeaves.{EachType}
use Rattle.pattern_laws.proofs.KeptParts.{FormFits}
use Rattle.pattern_rules.specs.Spelled.{has_bound_rest, are_two, is_spelled, shape_is_spelled, all_are_spelled, fields_are_spelled}
use Rattle.pattern_laws.proofs.Fitting.{RangeFits, numbered_count, VariantFits, PointFits, ListFits, FitsIf, pats_count, Fits, FieldFits, PatsFit, AllFit, CountFits}
use Rattle.pattern_laws.proofs.FineNodes.{NodeFine, either_right}
use Rattle.pattern_laws.proofs.FoundThere.{is_there, name_there, path_there}
use Rattle.pattern_laws.proofs.FormsMet.{FormMet, form_met}
use Rattle.pattern_laws.proofs.FieldNumbers.{untwice, RoomFor, form_parts_ascend, ascend_parts, room_for, field_parts}
use Rattle.pattern_laws.proofs.ListCounts.{behind, backs_behind, count_fits, narrow_list, unbound_rest}
use Rattle.pattern_laws.proofs.LiteralsFit.{literal_pattern_fits, range_pattern_fits}
use Rattle.pattern_laws.proofs.BottomTypes.{at_bottom, bottom_is_type, inner_is_type, part_is_type}

-- a pattern has a node
pub some_nodes : (s : Setting) (standing : Standing) (before : List (List ℕ)) (p : Place) (q : PatternTree) →
    1 ≤ length (nodes s standing before p q)
some_nodes s standing before p (At from shape) = omega arith

module _ (Holds : MRange → MType → Type 0) (most : ℕ) where
  -- the written fields all fit the types of their numbers
  abbrev pub NumberedFit : MProgram → (types : ℕ → MType) → MNumbered → Type 0
  NumberedFit p types no_numbered = Unit {0}
  NumberedFit p types (more_numbered j q qs) = Fits p Holds most q (types j) × NumberedFit p types qs

  -- the field with a number fits, if it is written
  one_fits : (p : MProgram) (types : ℕ → MType) (fields : MNumbered) (i : ℕ) → NumberedFit p types fields →
      FieldFits p Holds most fields i (types i)
  one_fits p types no_numbered i h = tt
  one_fits p types (more_numbered j q qs) i h = go (nat_eq i j) refl (one_fits p types qs i h.1)
    where
      go : (b : Bool) → nat_eq i j ≡ b → FieldFits p Holds most qs i (types i) →
          FitsIf b (Fits p Holds most q (types i)) (FieldFits p Holds most qs i (types i))
      go true e rest = let same : j ≡ i = grind (arith, nat_tests, e) in subst
          (λ n. Fits p Holds most q (types n)) same h.0
      go false e rest = rest

  no_more : (i : ℕ) → i + 0 ≡ i
  no_more i = omega arith

  next_number : (i n : ℕ) → suc i + n ≡ i + suc n
  next_number i n = omega arith

  -- each part has its field fit
  each_fits : (p : MProgram) (types : ℕ → MType) (fields : MNumbered) (i : ℕ) (ts : MTypes) →
      ((j : ℕ) (u : MType) → slice_get (types_list ts) j ≡ Some u → types (i + j) ≡ u) →
      NumberedFit p types fields → EachType (λ j w. FieldFits p Holds most fields j w) i ts
  each_fits p types fields i no_types at h = tt
  each_fits p types fields i (more_types t ts) at h =
      let first : types i ≡ t = ap types (sym (no_more i)) ∙ at 0 t refl in (
        subst (λ w. FieldFits p Holds most fields i w) first (one_fits p types fields i h),
        each_fits p types fields
            (suc i) ts (λ j u s. ap types (next_number i j) ∙ at (suc j) u s) h,
      )

  -- a form that was found, with its written fields
  FormThere : Setting → FoundTree → MNumbered → MType → Type 0
  FormThere s found fields u =
      VariantFits (program s) (found_number found) u × FormFits (program s) u (found_number found) (numbers_in fields)
      × EachType (λ i w. FieldFits (program s) Holds most fields i w) 0
      (types_or_none (node_types (program s) u (found_number found)))

  form_there : (s : Setting) (found : FoundTree) (u : MType) (fields : MNumbered) → FormMet s found u →
      are_parts (numbers_in fields) (fields_found s.items found) ≡ true →
      NumberedFit (program s) (part_types s (found_ctor found) u) fields → FormThere s found fields u
  unfolding FormThere
  form_there s found u fields met parts h = (
    met.variant,
    record {
      single = met.single;
      fields = ap (λ n. are_parts (numbers_in fields) n) met.count ∙ parts;
    },
    each_fits (program s) (part_types s (found_ctor found) u) fields 0
        (types_or_none (node_types (program s) u (found_number found)))
        (λ j w e. met.types (0 + j) ∙ there (node_types (program s) u (found_number found)) j w e) h,
  )
    where
      zero_more : (j : ℕ) → 0 + j ≡ j
      zero_more j = omega arith

      there : (o : Option MTypes) (j : ℕ) (w : MType) → slice_get (types_list (types_or_none o)) j ≡ Some w →
          part_type u o (0 + j) ≡ w
      there None j w e = cc
      there (Some ts) j w e = ap (part_type u (Some ts)) (zero_more j) ∙ ap (type_or u) e

  form_fits : (s : Setting) (found : FoundTree) (t : MType) (fields : MNumbered) → FormThere s found fields
      (bottom_type t) → Fits (program s) Holds most (FormPat (found_number found) fields) t
  unfolding FormThere
  form_fits s found t fields h =
      at_bottom (λ u. VariantFits (program s) (found_number found) u × FormFits (program s) u (found_number found)
      (numbers_in fields)
      × EachType (λ i w. FieldFits (program s) Holds most fields i w) 0
      (types_or_none (node_types (program s) u (found_number found)))) t h

  -- no field is one of parts
  no_parts : (n : ℕ) → are_parts [] n ≡ true
  no_parts n = refl

  -- what was found meets the type
  met : (found : FoundTree) (u : MType) → is_found found ≡ true → misses found u ≡ false → meets found u ≡ true
  met found u f h = untwice (meets found u) (second (is_found found) (not (meets found u)) f h)
    where
      second : (a b : Bool) → a ≡ true → (a && b) ≡ false → b ≡ false
      second true b f h = h
      second false b f h = cc

  -- what is said where both hold
  behind_true : (a b : Bool) → a ≡ true → (a && b) ≡ false → b ≡ false
  behind_true true b f h = h
  behind_true false b f h = cc

  -- a path of one or two plain names that breaks no rule finds something
  found_path : (s : Setting) (path : PathTree) → is_short path ≡ true →
      finds_none (found_if (is_short path) (path_finds s.items path)) (is_short path) ≡ false →
      is_found (found_if (is_short path) (path_finds s.items path)) ≡ true
  found_path s path f h = untwice (is_found (found_if (is_short path) (path_finds s.items path)))
      (behind_true (is_short path) (not (is_found (found_if (is_short path) (path_finds s.items path)))) f h)

  if_path_there : (s : Setting) (b : Bool) (path : PathTree) → is_there s.items (found_if b (path_finds s.items path))
      ≡ true
  if_path_there s true path = path_there s.items path
  if_path_there s false path = refl

  found_unit : (s : Setting) (found : FoundTree) → is_unit_form (found_form s.items found) ≡ true →
      is_found found ≡ true
  found_unit s FoundNothing h = cc
  found_unit s FoundTwice h = cc
  found_unit s (FoundStruct i) h = refl
  found_unit s (FoundVariant o k) h = refl

  -- a reference of the kind
  point_fits : (m : Bool) (P : MType → Type 0) (t : MType) → is_point m t ≡ true → P (inner_type t) → PointFits m P t
  point_fits m P (PointType n t) h q = (same_flag m n h, q)
    where
      same_flag : (b c : Bool) → beq b c ≡ true → b ≡ c
      same_flag true true e = refl
      same_flag true false e = cc
      same_flag false true e = cc
      same_flag false false e = refl
  point_fits m P t h q = cc

  -- two alternatives or more
  two_there : (s : Setting) (t : MType) (ps : PatternTrees) → are_two ps ≡ true → two_or_more (alternatives s t ps)
      ≡ true
  two_there s t none h = cc
  two_there s t (more p none) h = cc
  two_there s t (more p (more q ps)) h = refl

  -- one item of a list, or the rest
  numbered_if : (p : MProgram) (types : ℕ → MType) (i : ℕ) (q : MPat) (qs : MNumbered) (b : Bool) →
      Fits p Holds most q (types i) → NumberedFit p types qs →
      NumberedFit p types (if b then qs else more_numbered i q qs)
  numbered_if p types i q qs true h k = k
  numbered_if p types i q qs false h k = (h, k)

  front_if : (p : MProgram) (types : ℕ → MType) (i : ℕ) (q : MPat) (qs : MPats) (b c : Bool) → b ≡ c →
      (b ≡ false → Fits p Holds most q (types i)) → (b ≡ false → PatsFit p Holds most qs types (suc i)) →
      PatsFit p Holds most (if c then no_pats else more_pats q qs) types i
  front_if p types i q qs b true e h k = tt
  front_if p types i q qs b false e h k = (h e, k e)

  back_if : (p : MProgram) (types : ℕ → MType) (n c d : ℕ) (fronts backs : MPats) (a b : Bool) → a ≡ b →
      (a ≡ true → PatsFit p Holds most fronts types (n - c)) →
      (a ≡ false → PatsFit p Holds most backs types (n - d)) →
      PatsFit p Holds most (if b then fronts else backs) types (n - (if b then c else d))
  back_if p types n c d fronts backs a true e h k = h e
  back_if p types n c d fronts backs a false e h k = k e

  -- the part behind an item that is no rest, and behind a rest
  part_after : (parts i : ℕ) (p : PatternTree) (ps : PatternTrees) → is_rest p ≡ false →
      part_behind parts i p ps ≡ suc i
  part_after parts i p ps e = rw e refl

  part_past : (parts i : ℕ) (p : PatternTree) (ps : PatternTrees) → is_rest p ≡ true →
      part_behind parts i p ps ≡ parts - pattern_count ps
  part_past parts i p ps e = rw e refl

  item_type_there : (t : MType) (items : ℕ) (p : PatternTree) → is_rest p ≡ false →
      slice_item_type t items p ≡ inner_type t
  item_type_there t items p e = rw e refl

  -- patterns at one type fit whatever their numbers
  any_number : (p : MProgram) (t : MType) (qs : MPats) (i j : ℕ) → PatsFit p Holds most qs (λ n. t) i →
      PatsFit p Holds most qs (λ n. t) j
  any_number p t no_pats i j h = tt
  any_number p t (more_pats q qs) i j h = (h.0, any_number p t qs (suc i) (suc j) h.1)

  -- a tuple pattern
  tuple_list : (s : Setting) (ps : PatternTrees) (u : MType) → is_tuple u ≡ true → has_bound_rest ps ≡ false →
      has_rests ps ≡ false →
      (is_tuple u && has_other_count ps (rust_arity (program s) SingleCtor u)) ≡ false →
      PatsFit (program s) Holds most (front_items s (part_types s SingleCtor u) 0 ps) (part_types s SingleCtor u) 0 →
      PatsFit (program s) Holds most
      (back_items s (part_types s SingleCtor u) (rust_arity (program s) SingleCtor u) ps) (part_types s SingleCtor u)
      (rust_arity (program s) SingleCtor u - behind ps) →
      ListFits (λ types i. PatsFit (program s) Holds most (front_items s (part_types s SingleCtor u) 0 ps) types i)
      (rest_of ps)
      (λ types i. PatsFit (program s) Holds most
      (back_items s (part_types s SingleCtor u) (rust_arity (program s) SingleCtor u) ps) types i)
      (pats_count (front_items s (part_types s SingleCtor u) 0 ps))
      (pats_count (back_items s (part_types s SingleCtor u) (rust_arity (program s) SingleCtor u) ps)) u
  tuple_list s ps (TupleType ts) t b r c h k = (
    unbound_rest ps b,
    count_fits s (part_types s SingleCtor (TupleType ts)) (length (types_list ts)) ps r c,
    h,
    rw (backs_behind s (part_types s SingleCtor (TupleType ts)) (length (types_list ts)) ps r) k,
  )
  tuple_list s ps u t b r c h k = cc

  -- a slice pattern
  slice_list : (s : Setting) (ps : PatternTrees) (u : MType) → is_row u ≡ true → has_rests ps ≡ false →
      nat_le (pattern_count ps) most_parts ≡ true → misfits_array ps u ≡ false →
      PatsFit (program s) Holds most (front_items s (λ i. inner_type u) 0 ps) (λ i. inner_type u) 0 →
      PatsFit (program s) Holds most (back_items s (λ i. inner_type u) (pattern_count ps) ps) (λ i. inner_type u) 0 →
      ListFits (λ types i. PatsFit (program s) Holds most (front_items s (λ j. inner_type u) 0 ps) types i)
      (rest_of ps)
      (λ types i. PatsFit (program s) Holds most (back_items s (λ j. inner_type u) (pattern_count ps) ps) types i)
      (pats_count (front_items s (λ j. inner_type u) 0 ps))
      (pats_count (back_items s (λ j. inner_type u) (pattern_count ps) ps)) u
  slice_list s ps (SliceType t) w r n m h k = (narrow_list s (λ j. t) (pattern_count ps) ps r n, h, k)
  slice_list s ps (ArrayType t len) w r n m h k = (
    narrow_list s (λ j. t) (pattern_count ps) ps r n,
    array_count (rest_of ps) (count_fits s (λ j. t) len ps r m),
    h,
    k,
  )
    where
      array_count : (rest : MRest) →
          CountFits rest (pats_count (front_items s (λ j. t) 0 ps) + pats_count (back_items s (λ j. t) len ps)) len →
          CountFits rest (pats_count (front_items s (λ j. t) 0 ps) + pats_count
          (back_items s (λ j. t) (pattern_count ps) ps)) len
      array_count rest c =
          rw (backs_behind s (λ j. t) (pattern_count ps) ps r, sym (backs_behind s (λ j. t) len ps r)) c
  slice_list s ps u w r n m h k = cc

  -- one of two lists of patterns at one type
  any_back : (p : MProgram) (t : MType) (fronts backs : MPats) (b : Bool) (k : ℕ) → PatsFit p Holds most fronts
      (λ n. t) k → PatsFit p Holds most backs (λ n. t) k → PatsFit p Holds most (if b then fronts else backs)
      (λ n. t) k
  any_back p t fronts backs true k h q = h
  any_back p t fronts backs false k h q = q

  unbound_there : (a b : Bool) → (not a && b) ≡ true → a ≡ false
  unbound_there true b h = cc
  unbound_there false b h = refl

  -- the types of the fields that were found are the program's
  found_types : (s : Setting) → IsSoundProgram (program s) → (found : FoundTree) (u : MType) → FormMet s found u →
      is_type (program s) u ≡ true →
      (j : ℕ) → is_type (program s) (part_types s (found_ctor found) u j) ≡ true
  found_types s sound found u met d j = ap (λ w. is_type (program s) w) (met.types j) ∙ part_is_type
      (program s) sound u (found_number found) j d

  -- a tuple form has room for its fields
  form_room : (s : Setting) (found : FoundTree) (ps : PatternTrees) → is_found found ≡ true → has_rests ps ≡ false →
      misfits_form s found ps ≡ false → RoomFor (fields_found s.items found) 0 ps
  form_room s found ps f r h = room_for ps (fields_found s.items found) r
      (either_right (not (is_tuple_form (found_form s.items found)))
      (has_other_count ps (fields_found s.items found)) counts)
    where
      few : nat_le (rest_count ps) 1 ≡ true
      few = grind (arith, nat_tests, r)

      counts : (not (is_tuple_form (found_form s.items found)) || has_other_count ps (fields_found s.items found))
          ≡ false
      counts =
          behind_true (nat_le (rest_count ps) 1) (not (is_tuple_form (found_form s.items found)) || has_other_count ps
          (fields_found s.items found)) few
          (behind_true (is_found found)
          (nat_le (rest_count ps) 1 && (not (is_tuple_form (found_form s.items found)) || has_other_count ps
          (fields_found s.items found))) f h)

  -- a bare name
  name_fits : (s : Setting) (name : List ℕ) (t : MType) → is_type (program s) (bottom_type t) ≡ true → (b : Bool) →
      is_path_name s name ≡ b →
      misses (found_by s (patterns.Name name)) (bottom_type t) ≡ false → Fits (program s) Holds most
      (name_pattern (is_path_name s name) (found_by s (patterns.Name name)) name) t
  name_fits s name t d true e h =
      let unit : is_unit_form (found_form s.items (name_finds s.items name)) ≡ true = e in
      let there : is_found (name_finds s.items name) ≡ true = found_unit s (name_finds s.items name) unit in
      let missed : misses (name_finds s.items name) (bottom_type t) ≡ false = rw e at h in
      rw e (form_fits s (name_finds s.items name) t no_numbered
      (form_there s (name_finds s.items name) (bottom_type t) no_numbered
      (form_met s (name_finds s.items name) (bottom_type t)
      (met (name_finds s.items name) (bottom_type t) there missed) (name_there s.items name) d)
      (no_parts (fields_found s.items (name_finds s.items name))) tt))
  name_fits s name t d false e h = rw e tt

  -- there are at most as many alternatives as nodes
  few_alternatives : (s : Setting) (t : MType) (before : List (List ℕ)) (p : Place) (ps : PatternTrees) →
      length (alternative_nodes s before p ps) ≤ most → numbered_count (alternatives s t ps) ≤ most
  few_alternatives s t before p ps h = omega (arith, h, at_most ps)
    where
      at_most : (ps : PatternTrees) → numbered_count (alternatives s t ps) ≤ length (alternative_nodes s before p ps)
      at_most none = omega arith
      at_most (more q qs) = omega (
        arith,
        at_most qs,
        some_nodes s Elsewhere before p q,
        length-append
            (nodes s Elsewhere before p q) (alternative_nodes s before p qs),
      )

  -- something that holds of lists of nodes and of their parts, by which nodes pass the tests, their ranges hold, and they are at
  -- most so many
  module _ (s : Setting) (sound : IsSoundProgram (program s)) (G : List Node → Type 0) (P : Node → Type 0)
      (left : (ns ms : List Node) → G (ns ++ ms) → G ns) (right : (ns ms : List Node) → G (ns ++ ms) → G ms)
      (first : (n : Node) (ns : List Node) → G (n ∷ ns) → P n) (others : (n : Node) (ns : List Node) → G (n ∷ ns) →
      G ns)
      (few : (ns : List Node) → G ns → length ns ≤ most)
      (fine : (n : Node) → P n → NodeFine s n)
      (holds : (n : Node) (r : MRange) → P n → range_written s n ≡ Some r → RangeFits (program s) r (type_met n) →
      Holds r (type_met n)) where
    mutual
      -- a pattern
      pub tree_fits : (standing : Standing) (before : List (List ℕ)) (p : Place) (q : PatternTree) →
          is_type (program s) p.type ≡ true →
          is_spelled q ≡ true → G (nodes s standing before p q) → Fits (program s) Holds most
          (resolved s p.type q) p.type
      tree_fits standing before p (At from shape) d f h =
          shape_fits standing before p from shape d f
          (first (record { at = from; shape = shape; standing = standing; place = p; before = before })
          (nodes_within s before p shape) h)
          (others (record { at = from; shape = shape; standing = standing; place = p; before = before })
          (nodes_within s before p shape) h)

      -- a form
      shape_fits : (standing : Standing) (before : List (List ℕ)) (p : Place) (from : ℕ) (shape : Shape) →
          is_type (program s) p.type ≡ true →
          shape_is_spelled shape ≡ true →
          P (record { at = from; shape = shape; standing = standing; place = p; before = before }) →
          G (nodes_within s before p shape) →
          Fits (program s) Holds most (resolved_shape s p.type from shape) p.type
      shape_fits standing before p from patterns.Wild d f n h = tt
      shape_fits standing before p from patterns.Rest d f n h = tt
      shape_fits standing before p from (patterns.Literal l) d f n h = literal_pattern_fits s Holds most l p.type
          (λ r e q. holds (record {
            at = from;
            shape = patterns.Literal l;
            standing = standing;
            place = p;
            before =
                before;
          }) r n e q) f (fine
          (record { at = from; shape = patterns.Literal l; standing = standing; place = p; before = before })
          n).kind (fine (record {
            at = from;
            shape = patterns.Literal l;
            standing = standing;
            place = p;
            before =
                before;
          }) n).type (fine
          (record { at = from; shape = patterns.Literal l; standing = standing; place = p; before = before })
          n).range
      shape_fits standing before p from (patterns.Name name) d f n h =
          name_fits s name p.type (bottom_is_type (program s) p.type d) (is_path_name s name) refl
          (fine (record {
            at = from;
            shape = patterns.Name name;
            standing = standing;
            place = p;
            before = before;
          }) n).type
      shape_fits standing before p from (patterns.Bind name by_ref mutable) d f n h = tt
      shape_fits standing before p from (patterns.BindAs name by_ref mutable q) d f n h = tree_fits Elsewhere
          (before ++ name ∷ []) p q d f h
      shape_fits standing before p from (patterns.Path path) d f n h =
          let found : FoundTree = found_by s (patterns.Path path) in
          let short : is_short path ≡ true = untwice (is_short path)
          (fine (record {
            at = from;
            shape = patterns.Path path;
            standing = standing;
            place = p;
            before = before;
          }) n).kind in
          let there : is_found (found_by s (patterns.Path path)) ≡ true = found_path s path short
          (fine (record {
            at = from;
            shape = patterns.Path path;
            standing = standing;
            place = p;
            before = before;
          }) n).known in
          form_fits s (found_by s (patterns.Path path)) p.type no_numbered
          (form_there s (found_by s (patterns.Path path)) (bottom_type p.type) no_numbered
          (form_met s (found_by s (patterns.Path path)) (bottom_type p.type)
          (met (found_by s (patterns.Path path)) (bottom_type p.type) there
          (fine (record { at = from; shape = patterns.Path path; standing = standing; place = p; before = before })
          n).type) (if_path_there s (is_short path) path) (bottom_is_type (program s) p.type d))
          (no_parts (fields_found s.items (found_by s (patterns.Path path)))) tt)
      shape_fits standing before p from (patterns.TupleForm path ps) d f n h =
          let short : is_short path ≡ true = untwice (is_short path)
          (fine (record {
            at = from;
            shape = patterns.TupleForm path ps;
            standing = standing;
            place = p;
            before =
                before;
          }) n).kind in
          let there : is_found (found_by s (patterns.TupleForm path ps)) ≡ true = found_path s path short
          (fine (record {
            at = from;
            shape = patterns.TupleForm path ps;
            standing = standing;
            place = p;
            before =
                before;
          }) n).known in
          let m : FormMet s (found_by s (patterns.TupleForm path ps)) (bottom_type p.type) =
          form_met s (found_by s (patterns.TupleForm path ps)) (bottom_type p.type)
          (met (found_by s (patterns.TupleForm path ps)) (bottom_type p.type) there
          (fine (record {
            at = from;
            shape = patterns.TupleForm path ps;
            standing = standing;
            place = p;
            before =
                before;
          }) n).type) (if_path_there s (is_short path) path) (bottom_is_type (program s) p.type d) in
          form_fits s (found_by s (patterns.TupleForm path ps)) p.type
          (form_parts s (part_types s (found_ctor (found_by s (patterns.TupleForm path ps))) (bottom_type p.type))
          (fields_found s.items (found_by s (patterns.TupleForm path ps))) 0 ps)
          (form_there s (found_by s (patterns.TupleForm path ps)) (bottom_type p.type)
          (form_parts s (part_types s (found_ctor (found_by s (patterns.TupleForm path ps))) (bottom_type p.type))
          (fields_found s.items (found_by s (patterns.TupleForm path ps))) 0 ps) m
          (ascend_parts 0 (fields_found s.items (found_by s (patterns.TupleForm path ps)))
          (numbers_in (form_parts s (part_types s (found_ctor (found_by s (patterns.TupleForm path ps)))
          (bottom_type p.type)) (fields_found s.items (found_by s (patterns.TupleForm path ps))) 0 ps))
          (form_parts_ascend s (part_types s (found_ctor (found_by s (patterns.TupleForm path ps)))
          (bottom_type p.type)) (fields_found s.items (found_by s (patterns.TupleForm path ps))) 0 ps
          (form_room s (found_by s (patterns.TupleForm path ps)) ps there
          (fine (record {
            at = from;
            shape = patterns.TupleForm path ps;
            standing = standing;
            place = p;
            before =
                before;
          }) n).rest (fine
          (record {
            at = from;
            shape = patterns.TupleForm path ps;
            standing = standing;
            place = p;
            before = before;
          }) n).count)))
          (parts_fit before (part_types s (found_ctor (found_by s (patterns.TupleForm path ps))) (bottom_type p.type))
          (bottom_mode p.type p.mode)
          (fields_found s.items (found_by s (patterns.TupleForm path ps))) 0 ps
          (found_types s sound (found_by s (patterns.TupleForm path ps)) (bottom_type p.type) m
          (bottom_is_type (program s) p.type d)) f h))
      shape_fits standing before p from (patterns.Brace path fs rest) d f n h =
          let short : is_short path ≡ true = untwice (is_short path)
          (fine (record {
            at = from;
            shape = patterns.Brace path fs rest;
            standing = standing;
            place = p;
            before =
                before;
          }) n).kind in
          let there : is_found (found_by s (patterns.Brace path fs rest)) ≡ true = found_path s path short
          (fine (record {
            at = from;
            shape = patterns.Brace path fs rest;
            standing = standing;
            place = p;
            before =
                before;
          }) n).known in
          let m : FormMet s (found_by s (patterns.Brace path fs rest)) (bottom_type p.type) =
          form_met s (found_by s (patterns.Brace path fs rest)) (bottom_type p.type)
          (met (found_by s (patterns.Brace path fs rest)) (bottom_type p.type) there
          (fine (record {
            at = from;
            shape = patterns.Brace path fs rest;
            standing = standing;
            place = p;
            before =
                before;
          }) n).type) (if_path_there s (is_short path) path) (bottom_is_type (program s) p.type d) in
          form_fits s (found_by s (patterns.Brace path fs rest)) p.type
          (form_fields s (part_types s (found_ctor (found_by s (patterns.Brace path fs rest))) (bottom_type p.type))
          (field_names s.items (found_by s (patterns.Brace path fs rest))) fs)
          (form_there s (found_by s (patterns.Brace path fs rest)) (bottom_type p.type)
          (form_fields s (part_types s (found_ctor (found_by s (patterns.Brace path fs rest))) (bottom_type p.type))
          (field_names s.items (found_by s (patterns.Brace path fs rest))) fs) m
          (field_parts s (part_types s (found_ctor (found_by s (patterns.Brace path fs rest))) (bottom_type p.type))
          (field_names s.items (found_by s (patterns.Brace path fs rest))) fs
          (behind_true (is_found (found_by s (patterns.Brace path fs rest)))
          (some_absent (written_names fs) (field_names s.items (found_by s (patterns.Brace path fs rest)))) there
          (fine (record {
            at = from;
            shape = patterns.Brace path fs rest;
            standing = standing;
            place = p;
            before =
                before;
          }) n).field) (fine
          (record {
            at = from;
            shape = patterns.Brace path fs rest;
            standing = standing;
            place = p;
            before =
                before;
          }) n).once)
          (fields_fit before (part_types s (found_ctor (found_by s (patterns.Brace path fs rest)))
          (bottom_type p.type)) (bottom_mode p.type p.mode)
          (field_names s.items (found_by s (patterns.Brace path fs rest))) fs
          (found_types s sound (found_by s (patterns.Brace path fs rest)) (bottom_type p.type) m
          (bottom_is_type (program s) p.type d)) f h))
      shape_fits standing before p from (patterns.Tuple ps) d f n h =
          let all : all_are_spelled ps ≡ true = both_right (not (has_bound_rest ps)) (all_are_spelled ps) f in
          let types : (j : ℕ) → is_type (program s) (part_types s SingleCtor (bottom_type p.type) j)
          ≡ true = λ j. part_is_type (program s) sound (bottom_type p.type) 0 j
          (bottom_is_type (program s) p.type d) in
          at_bottom (λ u. ListFits
          (λ ts i. PatsFit (program s) Holds most
          (front_items s (part_types s SingleCtor (bottom_type p.type)) 0 ps) ts i) (rest_of ps)
          (λ ts i. PatsFit (program s) Holds most
          (back_items s (part_types s SingleCtor (bottom_type p.type))
          (rust_arity (program s) SingleCtor (bottom_type p.type)) ps) ts i)
          (pats_count (front_items s (part_types s SingleCtor (bottom_type p.type)) 0 ps))
          (pats_count (back_items s (part_types s SingleCtor (bottom_type p.type))
          (rust_arity (program s) SingleCtor (bottom_type p.type)) ps)) u)
          p.type
          (tuple_list s ps (bottom_type p.type)
          (untwice (is_tuple (bottom_type p.type))
          (fine (record { at = from; shape = patterns.Tuple ps; standing = standing; place = p; before = before })
          n).type) (unbound_there (has_bound_rest ps) (all_are_spelled ps) f)
          (fine (record { at = from; shape = patterns.Tuple ps; standing = standing; place = p; before = before })
          n).rest (fine (record {
            at = from;
            shape = patterns.Tuple ps;
            standing = standing;
            place = p;
            before =
                before;
          }) n).count
          (fronts_fit before (part_types s SingleCtor (bottom_type p.type)) (bottom_mode p.type p.mode)
          (rust_arity (program s) SingleCtor (bottom_type p.type)) 0 ps types all h)
          (backs_fit before (part_types s SingleCtor (bottom_type p.type)) (bottom_mode p.type p.mode)
          (rust_arity (program s) SingleCtor (bottom_type p.type)) 0 ps types all h))
      shape_fits standing before p from (patterns.Group q) d f n h = tree_fits Elsewhere before p q d f h
      shape_fits standing before p from (patterns.Slice ps) d f n h =
          let all : all_are_spelled ps ≡ true = both_right (nat_le (pattern_count ps) most_parts)
          (all_are_spelled ps) f in
          let inner : is_type (program s) (inner_type (bottom_type p.type)) ≡ true = inner_is_type (program s)
          (bottom_type p.type) (bottom_is_type (program s) p.type d) in
          at_bottom (λ u. ListFits
          (λ ts i. PatsFit (program s) Holds most (front_items s (λ j. inner_type (bottom_type p.type)) 0 ps) ts i)
          (rest_of ps)
          (λ ts i. PatsFit (program s) Holds most
          (back_items s (λ j. inner_type (bottom_type p.type)) (pattern_count ps) ps) ts i)
          (pats_count (front_items s (λ j. inner_type (bottom_type p.type)) 0 ps))
          (pats_count (back_items s (λ j. inner_type (bottom_type p.type)) (pattern_count ps) ps)) u)
          p.type
          (slice_list s ps (bottom_type p.type)
          (untwice (is_row (bottom_type p.type))
          (fine (record { at = from; shape = patterns.Slice ps; standing = standing; place = p; before = before })
          n).type) (fine (record {
            at = from;
            shape = patterns.Slice ps;
            standing = standing;
            place = p;
            before =
                before;
          }) n).rest (both_left (nat_le (pattern_count ps) most_parts) (all_are_spelled ps) f)
          (fine (record { at = from; shape = patterns.Slice ps; standing = standing; place = p; before = before })
          n).count
          (item_fronts before (bottom_type p.type) (pattern_count ps) (bottom_mode p.type p.mode) 0 ps inner all h)
          (item_backs before (bottom_type p.type) (pattern_count ps) (bottom_mode p.type p.mode)
          (pattern_count ps) 0 ps inner all h))
      shape_fits standing before p from (patterns.Point mutable q) d f n h =
          point_fits mutable (λ u. Fits (program s) Holds most (resolved s (inner_type p.type) q) u) p.type
          (untwice (is_point mutable p.type)
          (fine (record {
            at = from;
            shape = patterns.Point mutable q;
            standing = standing;
            place = p;
            before =
                before;
          }) n).type)
          (tree_fits Elsewhere before (pointed p) q (inner_is_type (program s) p.type d) f h)
      shape_fits standing before p from (patterns.Range low high closed) d f n h =
          at_bottom (λ u. Holds (range_meant s.width (bottom_type p.type) low high closed) u) p.type
          (holds (record {
            at = from;
            shape = patterns.Range low high closed;
            standing = standing;
            place = p;
            before =
                before;
          }) (range_meant s.width (bottom_type p.type) low high closed) n refl
          (range_pattern_fits s low high closed (bottom_type p.type) f
          (fine (record {
            at = from;
            shape = patterns.Range low high closed;
            standing = standing;
            place = p;
            before = before;
          }) n).kind
          (fine (record {
            at = from;
            shape = patterns.Range low high closed;
            standing = standing;
            place = p;
            before = before;
          }) n).type
          (fine (record {
            at = from;
            shape = patterns.Range low high closed;
            standing = standing;
            place =
                p;
            before = before;
          }) n).range
          (fine (record {
            at = from;
            shape = patterns.Range low high closed;
            standing = standing;
            place =
                p;
            before = before;
          }) n).ends))
      shape_fits standing before p from (patterns.Or ps) d f n h = (
        two_there s p.type ps (both_left (are_two ps) (all_are_spelled ps) f),
        few_alternatives s p.type before p ps (few (alternative_nodes s before p ps) h),
        alternatives_fit before p ps d (both_right (are_two ps) (all_are_spelled ps) f) h,
      )

      -- the written fields of a tuple form
      parts_fit : (before : List (List ℕ)) (types : ℕ → MType) (m : Mode) (parts i : ℕ) (ps : PatternTrees) →
          ((j : ℕ) → is_type (program s) (types j) ≡ true) →
          all_are_spelled ps ≡ true → G (part_nodes s before types m parts i ps) → NumberedFit (program s) types
          (form_parts s types parts i ps)
      parts_fit before types m parts i none d f h = tt
      parts_fit before types m parts i (more q qs) d f h =
          numbered_if (program s) types i (resolved s (types i) q)
          (form_parts s types parts (part_behind parts i q qs) qs) (is_rest q)
          (tree_fits Elsewhere before (place (types i) m) q (d i) (both_left (is_spelled q) (all_are_spelled qs) f)
          (left (nodes s Elsewhere before (place (types i) m) q)
          (part_nodes s (before ++ names_bound s q) types m parts (part_behind parts i q qs) qs) h))
          (parts_fit (before ++ names_bound s q) types m parts (part_behind parts i q qs) qs d
          (both_right (is_spelled q) (all_are_spelled qs) f)
          (right (nodes s Elsewhere before (place (types i) m) q)
          (part_nodes s (before ++ names_bound s q) types m parts (part_behind parts i q qs) qs) h))

      -- the written fields of a brace form
      fields_fit : (before : List (List ℕ)) (types : ℕ → MType) (m : Mode) (names : List (List ℕ)) (fs : FieldTrees) →
          ((j : ℕ) → is_type (program s) (types j) ≡ true) →
          fields_are_spelled fs ≡ true → G (field_nodes s before types m names fs) → NumberedFit (program s) types
          (form_fields s types names fs)
      fields_fit before types m names no_field d f h = tt
      fields_fit before types m names (and_field name short attrs q fs) d f h = (
        tree_fits (field_standing short) before (place (types (field_number names name)) m) q
            (d (field_number names name)) (both_left (is_spelled q) (fields_are_spelled fs) f)
            (left (nodes s (field_standing short) before (place (types (field_number names name)) m) q)
            (field_nodes s (before ++ names_bound s q) types m names fs) h),
        fields_fit (before ++ names_bound s q) types m names fs d
            (both_right (is_spelled q) (fields_are_spelled fs) f)
            (right (nodes s (field_standing short) before (place (types (field_number names name)) m) q)
            (field_nodes s (before ++ names_bound s q) types m names fs) h),
      )

      -- the items of a tuple up to a rest
      fronts_fit : (before : List (List ℕ)) (types : ℕ → MType) (m : Mode) (parts i : ℕ) (ps : PatternTrees) →
          ((j : ℕ) → is_type (program s) (types j) ≡ true) →
          all_are_spelled ps ≡ true → G (part_nodes s before types m parts i ps) → PatsFit (program s) Holds most
          (front_items s types i ps) types i
      fronts_fit before types m parts i none d f h = tt
      fronts_fit before types m parts i (more q qs) d f h =
          front_if (program s) types i (resolved s (types i) q) (front_items s types (suc i) qs) (is_rest q)
          (is_rest q) refl
          (λ e. tree_fits Elsewhere before (place (types i) m) q (d i)
          (both_left (is_spelled q) (all_are_spelled qs) f)
          (left (nodes s Elsewhere before (place (types i) m) q)
          (part_nodes s (before ++ names_bound s q) types m parts (part_behind parts i q qs) qs) h))
          (λ e. fronts_fit (before ++ names_bound s q) types m parts (suc i) qs d
          (both_right (is_spelled q) (all_are_spelled qs) f)
          (subst (λ n. G (part_nodes s (before ++ names_bound s q) types m parts n qs)) (part_after parts i q qs e)
          (right (nodes s Elsewhere before (place (types i) m) q)
          (part_nodes s (before ++ names_bound s q) types m parts (part_behind parts i q qs) qs) h)))

      -- the items of a tuple behind a rest
      backs_fit : (before : List (List ℕ)) (types : ℕ → MType) (m : Mode) (parts i : ℕ) (ps : PatternTrees) →
          ((j : ℕ) → is_type (program s) (types j) ≡ true) →
          all_are_spelled ps ≡ true → G (part_nodes s before types m parts i ps) → PatsFit (program s) Holds most
          (back_items s types parts ps) types (parts - behind ps)
      backs_fit before types m parts i none d f h = tt
      backs_fit before types m parts i (more q qs) d f h =
          back_if (program s) types parts (pattern_count qs) (behind qs)
          (front_items s types (parts - pattern_count qs) qs) (back_items s types parts qs) (is_rest q)
          (is_rest q) refl
          (λ e. fronts_fit (before ++ names_bound s q) types m parts (parts - pattern_count qs) qs d
          (both_right (is_spelled q) (all_are_spelled qs) f)
          (subst (λ n. G (part_nodes s (before ++ names_bound s q) types m parts n qs)) (part_past parts i q qs e)
          (right (nodes s Elsewhere before (place (types i) m) q)
          (part_nodes s (before ++ names_bound s q) types m parts (part_behind parts i q qs) qs) h)))
          (λ e. backs_fit (before ++ names_bound s q) types m parts (part_behind parts i q qs) qs d
          (both_right (is_spelled q) (all_are_spelled qs) f)
          (right (nodes s Elsewhere before (place (types i) m) q)
          (part_nodes s (before ++ names_bound s q) types m parts (part_behind parts i q qs) qs) h))

      -- the items of a slice pattern up to a rest
      item_fronts : (before : List (List ℕ)) (t : MType) (items : ℕ) (m : Mode) (i : ℕ) (ps : PatternTrees) →
          is_type (program s) (inner_type t) ≡ true →
          all_are_spelled ps ≡ true → G (item_nodes s before t items m ps) → PatsFit (program s) Holds most
          (front_items s (λ j. inner_type t) i ps) (λ j. inner_type t) i
      item_fronts before t items m i none d f h = tt
      item_fronts before t items m i (more q qs) d f h =
          front_if (program s) (λ j. inner_type t) i (resolved s (inner_type t) q)
          (front_items s (λ j. inner_type t) (suc i) qs) (is_rest q) (is_rest q) refl
          (λ e. tree_fits AsItem before (place (inner_type t) m) q d (both_left (is_spelled q) (all_are_spelled qs) f)
          (subst (λ w. G (nodes s AsItem before (place w m) q)) (item_type_there t items q e)
          (left (nodes s AsItem before (place (slice_item_type t items q) m) q)
          (item_nodes s (before ++ names_bound s q) t items m qs) h)))
          (λ e. item_fronts (before ++ names_bound s q) t items m (suc i) qs d
          (both_right (is_spelled q) (all_are_spelled qs) f)
          (right (nodes s AsItem before (place (slice_item_type t items q) m) q)
          (item_nodes s (before ++ names_bound s q) t items m qs) h))

      -- the items of a slice pattern behind a rest
      item_backs : (before : List (List ℕ)) (t : MType) (items : ℕ) (m : Mode) (n k : ℕ) (ps : PatternTrees) →
          is_type (program s) (inner_type t) ≡ true →
          all_are_spelled ps ≡ true → G (item_nodes s before t items m ps) → PatsFit (program s) Holds most
          (back_items s (λ j. inner_type t) n ps) (λ j. inner_type t) k
      item_backs before t items m n k none d f h = tt
      item_backs before t items m n k (more q qs) d f h =
          any_back (program s) (inner_type t) (front_items s (λ j. inner_type t) (n - pattern_count qs) qs)
          (back_items s (λ j. inner_type t) n qs) (is_rest q) k
          (any_number (program s) (inner_type t) (front_items s (λ j. inner_type t) (n - pattern_count qs) qs)
          (n - pattern_count qs) k
          (item_fronts (before ++ names_bound s q) t items m (n - pattern_count qs) qs d
          (both_right (is_spelled q) (all_are_spelled qs) f)
          (right (nodes s AsItem before (place (slice_item_type t items q) m) q)
          (item_nodes s (before ++ names_bound s q) t items m qs) h)))
          (item_backs (before ++ names_bound s q) t items m n k qs d
          (both_right (is_spelled q) (all_are_spelled qs) f)
          (right (nodes s AsItem before (place (slice_item_type t items q) m) q)
          (item_nodes s (before ++ names_bound s q) t items m qs) h))

      -- alternatives
      alternatives_fit : (before : List (List ℕ)) (p : Place) (ps : PatternTrees) →
          is_type (program s) p.type ≡ true →
          all_are_spelled ps ≡ true → G (alternative_nodes s before p ps) → AllFit (program s) Holds most
          (alternatives s p.type ps) p.type
      alternatives_fit before p none d f h = tt
      alternatives_fit before p (more q qs) d f h = (
        tree_fits Elsewhere before p q d (both_left (is_spelled q) (all_are_spelled qs) f)
            (left (nodes s Elsewhere before p q) (alternative_nodes s before p qs) h),
        alternatives_fit before p qs d (both_right (is_spelled q) (all_are_spelled qs) f)
            (right (nodes s Elsewhere before p q) (alternative_nodes s before p qs) h),
      )
