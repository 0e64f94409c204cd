-- The pattern that the text of the arm for a witness spells is the one that is meant.
use Rattle.std.proofs.Common.{◌≡◌, ℕ, zero, suc, ◌+◌, ◌-◌, Bool, true, false, ◌&&◌, List, [], ◌∷◌, length, map, slice_get, Option, Some, None, position, option_map, nat_eq, nat_lt, chars, encode_utf8_all, refl, sym, ap, subst, ◌∙◌, arith, bytes_eq}
use Rattle.std.specs.Prelude.{⊤, if◌then◌else◌}
use Rattle.std.specs.List.{list_all}
use Rattle.std.proofs.lemmas.Bool.Decides.{nat_tests}
use Rattle.std.proofs.lemmas.Option.{slice_get-map}
use Rattle.std.proofs.lemmas.Str.{chars-encodes}
use lib.Utf8.{scalar, scalars}
use Rattle.match_model.specs.Texts.{is_scalar}
use Rattle.match_model.specs.Numbers.{MEnd, Free, MRange, has_one_number}
use Rattle.match_model.specs.Numbers as numbers
use Rattle.match_model.specs.Types.{MOwner, MType, CharType, IntType, StrType, TupleType, PointType, SliceType, ArrayType, NamedType, MTypes, types_list, types_of}
use Rattle.match_model.specs.Declarations.{MField, MForm, UnitForm, TupleForm, BraceForm, MVariant, MItem, StructItem, EnumItem, OtherItem, declared, filled_variant, item_variants, variant_types, variants_of, form_types, node_types}
use Rattle.match_model.specs.Constructors.{MShape, SingleCtor, PointCtor, TextCtor, RowCtor, MCtor, MSet, TextSet, SingleSet, belongs}
use Rattle.match_model.specs.OfType.{node_ctor, has_ctor, witness_is_of, witnesses_are_of}
use Rattle.match_model.specs.RustTypes.{rust_context, rust_set, rust_arity, rust_sub, item_set, inner_type, part_type, type_or}
use Rattle.match_model.specs.Patterns.{NoRest, SomeRest, MPat, WildPat, TextPat, FormPat, ListPat, PointPat, MPats, no_pats, more_pats, MNumbered, more_numbered}
use Rattle.match_model.specs.Witness.{MWitness, AnyOf, LaterOf, FlagOf, SpanOf, TextOf, ElseOf, NodeOf, PointOf, RowOf, MWitnesses, no_witnesses, more_witnesses, witnesses_list, slice_shape, back_is_allowed}
use Rattle.match_model.proofs.Basics.{both, untrue}
use Rattle.decl_syntax.specs.Patterns.{PatternTree, At, Shape, PatternTrees, FieldTrees}
use Rattle.decl_syntax.specs.Patterns as patterns
use Rattle.decl_syntax.specs.Widths.{pattern_count}
use Rattle.type_names.specs.NameRules.{repeats}
use Rattle.type_names.specs.Meanings.{is_name}
use Rattle.type_names.specs.Finding.{FoundTree, path_finds, name_finds, found_form}
use Rattle.witness_text.specs.Arms.{is_one_char}
use Rattle.witness_text.specs.Texts.{text_of}
use Rattle.witness_text.specs.Trees.{NameTree, PlainName, VariantName, WitnessTree, Anything, OfFlag, OfInts, OfChars, OfText, OfTuple, OfUnitForm, OfTupleForm, OfBraceForm, OfPoint, OfRow, WitnessTrees, no_trees, more_trees, trees_of, fields_of}
use Rattle.witness_names.specs.Named.{name_by, named_fields, form_tree, variant_tree, node_tree, types_there, named_by, parts_by, items_by}
use Rattle.witness_names.specs.declared.paths.Paths.TheVariants.{Whole}
use Rattle.pattern_rules.specs.Settings.{Setting, program}
use Rattle.pattern_rules.specs.Namings.{is_short, is_unit_form, found_if, found_ctor, found_number, field_names, field_number, fields_found}
use Rattle.pattern_rules.specs.Nodes.{is_rest_shape, part_types}
use Rattle.pattern_rules.specs.Resolved.{name_pattern, rest_in, rest_of, resolved, resolved_shape, form_parts, form_fields, front_items, back_items}
use Rattle.arm_maker.specs.Arms.{arm_tree}
use Rattle.arm_maker.proofs.Typed.{IsOfType, AreParts, AreItems, node_parts, point_part, row_items}
use Rattle.arm_laws.specs.LiteralEnds.{literal_ends, parts_literal, items_literal}
use Rattle.arm_laws.specs.Meant.{text_in, point_meant, numbered, node_meant, rest_meant, meant, parts_meant, items_meant}
use Rattle.arm_laws.specs.MeantTypes.{AreKept, AreMeantTypes, IsMeantType}
use Rattle.arm_laws.specs.NamedOnce.{IsNamedOnce, IsMeant, found_as}
use Rattle.arm_laws.specs.Patterns.{unplaced, path_of, unit_shape, and_more, rest_shapes, one_number, ints_shape, range_written, chars_shape, point_shape, arm_shape, arm_shapes, arm_fields}
use Rattle.arm_laws.specs.TakesLaws.{SpelledIsMeant}
use Rattle.arm_laws.proofs.Meaning.{text_is}
use Rattle.arm_laws.proofs.MeantClosed.{meant_types}
use Rattle.arm_laws.proofs.NamesFound.{own_place, path_found}
use Rattle.arm_laws.proofs.SpelledNumbers.{numbers_are_meant}
use Rattle.arm_laws.proofs.VariantMet.{IsMet, variant_met}

-- ---- no part of an arm is a rest by itself

one_no_rest : (low : MEnd) → is_rest_shape (one_number low) ≡ false
one_no_rest Free = refl
one_no_rest (numbers.At z) = refl

ints_no_rest : (b : Bool) (r : MRange) → is_rest_shape (ints_shape b r) ≡ false
ints_no_rest true r = one_no_rest r.low
ints_no_rest false r = refl

chars_no_rest : (b : Bool) (low high : Option ℕ) → is_rest_shape (chars_shape b low high) ≡ false
chars_no_rest true None high = refl
chars_no_rest true (Some c) high = refl
chars_no_rest false low high = refl

point_no_rest : (mutable : Bool) (o : Option (List ℕ)) (shape : Shape) → is_rest_shape (point_shape mutable o shape)
    ≡ false
point_no_rest true o shape = refl
point_no_rest false None shape = refl
point_no_rest false (Some t) shape = refl

unit_no_rest : (name : NameTree) → is_rest_shape (unit_shape name) ≡ false
unit_no_rest (PlainName name) = refl
unit_no_rest (VariantName owner name) = refl

no_rest : (x : WitnessTree) → is_rest_shape (arm_shape x) ≡ false
no_rest (OfInts kind r) = ints_no_rest (has_one_number r) (range_written kind r)
no_rest (OfChars low high) = chars_no_rest (is_one_char low high) low high
no_rest (OfUnitForm name) = unit_no_rest name
no_rest (OfPoint mutable w) = point_no_rest mutable (text_of w) (arm_shape w)
no_rest x = refl

-- the rest of a list that begins with parts of an arm is that of what stands behind
rest_behind : (xs : WitnessTrees) (qs : PatternTrees) → rest_of (and_more (arm_shapes xs) qs) ≡ rest_of qs
rest_behind no_trees qs = refl
rest_behind (more_trees x xs) qs =
    ap (λ b. if b then rest_in (arm_shape x)
    else rest_of (and_more (arm_shapes xs) qs)) (no_rest x) ∙ rest_behind xs qs

rest_none : (xs : WitnessTrees) → rest_of (arm_shapes xs) ≡ NoRest
rest_none no_trees = refl
rest_none (more_trees x xs) =
    ap (λ b. if b then rest_in (arm_shape x) else rest_of (arm_shapes xs)) (no_rest x)
    ∙ rest_none xs

module _ (s : Setting) where
  back_behind : (types : ℕ → MType) (n : ℕ) (xs : WitnessTrees) (qs : PatternTrees) →
      back_items s types n (and_more (arm_shapes xs) qs) ≡ back_items s types n qs
  back_behind types n no_trees qs = refl
  back_behind types n (more_trees x xs) qs =
      ap (λ b. if b then front_items s types (n - pattern_count (and_more (arm_shapes xs) qs)) (and_more (arm_shapes xs) qs)
      else back_items s types n (and_more (arm_shapes xs) qs)) (no_rest x)
      ∙ back_behind types n xs qs

  back_none : (types : ℕ → MType) (n : ℕ) (xs : WitnessTrees) → back_items s types n (arm_shapes xs) ≡ no_pats
  back_none types n no_trees = refl
  back_none types n (more_trees x xs) =
      ap (λ b. if b then front_items s types (n - pattern_count (arm_shapes xs)) (arm_shapes xs)
      else back_items s types n (arm_shapes xs)) (no_rest x)
      ∙ back_none types n xs

  -- one item more
  one_front : (types : ℕ → MType) (i : ℕ) (x : WitnessTree) (u : MType) (ps : PatternTrees) (q : MPat) (qs : MPats) →
      types i ≡ u → resolved_shape s u 0 (arm_shape x) ≡ q → front_items s types (suc i) ps ≡ qs →
      front_items s types i (patterns.more (unplaced (arm_shape x)) ps) ≡ more_pats q qs
  one_front types i x u ps q qs t e f =
      ap (λ b. if b then no_pats else more_pats (resolved_shape s (types i) 0 (arm_shape x)) (front_items s types (suc i)
      ps)) (no_rest x)
      ∙ ap (λ z. more_pats (resolved_shape s z 0 (arm_shape x)) (front_items s types (suc i) ps)) t
      ∙ ap (λ z. more_pats z (front_items s types (suc i) ps)) e ∙ ap (more_pats q) f

  one_part : (types : ℕ → MType) (n i : ℕ) (x : WitnessTree) (u : MType) (ps : PatternTrees) (q : MPat)
      (qs : MNumbered) →
      types i ≡ u → resolved_shape s u 0 (arm_shape x) ≡ q → form_parts s types n (suc i) ps ≡ qs →
      form_parts s types n i (patterns.more (unplaced (arm_shape x)) ps) ≡ more_numbered i q qs
  one_part types n i x u ps q qs t e f =
      ap (λ b. if b then form_parts s types n (if b then n - pattern_count ps else suc i) ps
      else more_numbered i (resolved_shape s (types i) 0 (arm_shape x))
      (form_parts s types n (if b then n - pattern_count ps else suc i) ps)) (no_rest x)
      ∙ ap (λ z. more_numbered i (resolved_shape s z 0 (arm_shape x)) (form_parts s types n (suc i) ps)) t
      ∙ ap (λ z. more_numbered i z (form_parts s types n (suc i) ps)) e ∙ ap (more_numbered i q) f

  -- ---- witnesses whose patterns are those that are meant

  abbrev IsSpelled : MType → MWitness → Type 0
  IsSpelled t w = resolved_shape s t 0 (arm_shape (arm_tree (program s) t w)) ≡ meant (program s) t w

  abbrev AreSpelled : List MType → MWitnesses → Type 0
  AreSpelled [] ws = ⊤
  AreSpelled (t ∷ ts) no_witnesses = ⊤
  AreSpelled (t ∷ ts) (more_witnesses w ws) = IsSpelled t w × AreSpelled ts ws

  abbrev AllSpelled : MType → MWitnesses → Type 0
  AllSpelled t no_witnesses = ⊤
  AllSpelled t (more_witnesses w ws) = IsSpelled t w × AllSpelled t ws

  abbrev parts_tree : List MType → MWitnesses → WitnessTrees
  parts_tree ts ws = trees_of (parts_by Whole (program s) ts ws)

  abbrev items_tree : MType → MWitnesses → WitnessTrees
  items_tree t ws = trees_of (items_by Whole (program s) t ws)

  -- the types from a number on
  abbrev TypesFrom : MType → (ℕ → MType) → ℕ → List MType → Type 0
  TypesFrom t types i ts = (j : ℕ) → types (i + j) ≡ type_or t (slice_get ts j)

  first_type : (t : MType) (types : ℕ → MType) (i : ℕ) (u : MType) (ts : List MType) → TypesFrom t types i (u ∷ ts) →
      types i ≡ u
  first_type t types i u ts h = let z : i ≡ i + 0 = omega arith in ap types z ∙ h 0

  next_types : (t : MType) (types : ℕ → MType) (i : ℕ) (u : MType) (ts : List MType) → TypesFrom t types i (u ∷ ts) →
      TypesFrom t types (suc i) ts
  next_types t types i u ts h j = let z : suc i + j ≡ i + suc j = omega arith in ap types z ∙ h (suc j)

  -- ---- tuples and forms

  tuple_fronts : (t : MType) (types : ℕ → MType) (i : ℕ) (ts : List MType) (ws : MWitnesses) → TypesFrom t types i ts →
      AreParts (program s) ts ws → AreSpelled ts ws →
      front_items s types i (arm_shapes (parts_tree ts ws)) ≡ parts_meant (program s) ts ws
  tuple_fronts t types i [] no_witnesses f d e = refl
  tuple_fronts t types i [] (more_witnesses w ws) f d e = absurd d
  tuple_fronts t types i (u ∷ ts) no_witnesses f d e = absurd d
  tuple_fronts t types i (u ∷ ts) (more_witnesses w ws) f d e =
      one_front types i (arm_tree (program s) u w) u (arm_shapes (parts_tree ts ws)) (meant (program s) u w)
      (parts_meant (program s) ts ws) (first_type t types i u ts f) e.0
      (tuple_fronts t types (suc i) ts ws (next_types t types i u ts f) d.1 e.1)

  form_numbered : (t : MType) (types : ℕ → MType) (n i : ℕ) (ts : List MType) (ws : MWitnesses) →
      TypesFrom t types i ts → AreParts (program s) ts ws → AreSpelled ts ws →
      form_parts s types n i (arm_shapes (parts_tree ts ws)) ≡ numbered i (parts_meant (program s) ts ws)
  form_numbered t types n i [] no_witnesses f d e = refl
  form_numbered t types n i [] (more_witnesses w ws) f d e = absurd d
  form_numbered t types n i (u ∷ ts) no_witnesses f d e = absurd d
  form_numbered t types n i (u ∷ ts) (more_witnesses w ws) f d e =
      one_part types n i (arm_tree (program s) u w) u (arm_shapes (parts_tree ts ws)) (meant (program s) u w)
      (numbered (suc i) (parts_meant (program s) ts ws)) (first_type t types i u ts f) e.0
      (form_numbered t types n (suc i) ts ws (next_types t types i u ts f) d.1 e.1)

  number_there : (names : List (List ℕ)) (name : List ℕ) (k : ℕ) → position (λ n. is_name name (Some n)) names ≡ Some k →
      field_number names name ≡ k
  number_there names name k e = rw e refl

  brace_numbered : (t : MType) (types : ℕ → MType) (names : List (List ℕ)) (i : ℕ) (fields : List MField)
      (ts : List MType) (ws : MWitnesses) → length ts ≡ length fields →
      ((j : ℕ) (f : MField) → slice_get fields j ≡ Some f → field_number names f.name ≡ i + j) →
      TypesFrom t types i ts → AreParts (program s) ts ws → AreSpelled ts ws →
      form_fields s types names (arm_fields (fields_of (named_fields fields (parts_by Whole (program s) ts ws))))
      ≡ numbered i (parts_meant (program s) ts ws)
  brace_numbered t types names i [] [] no_witnesses l at f d e = refl
  brace_numbered t types names i fields [] (more_witnesses w ws) l at f d e = absurd d
  brace_numbered t types names i fields (u ∷ ts) no_witnesses l at f d e = absurd d
  brace_numbered t types names i [] (u ∷ ts) (more_witnesses w ws) l at f d e = absurd (omega (arith, l))
  brace_numbered t types names i (g ∷ fields) [] no_witnesses l at f d e = refl
  brace_numbered t types names i (g ∷ fields) (u ∷ ts) (more_witnesses w ws) l at f d e =
      let z : i + 0 ≡ i = omega arith in
      let n : field_number names g.name ≡ i = at 0 g refl ∙ z in
      let x = arm_shape (arm_tree (program s) u w) in
      let rest = form_fields s types names (arm_fields (fields_of (named_fields fields (parts_by Whole (program s) ts ws)))) in
      ap (λ k. more_numbered k (resolved_shape s (types k) 0 x) rest) n
      ∙ ap (λ v. more_numbered i (resolved_shape s v 0 x) rest) (first_type t types i u ts f)
      ∙ ap (λ q. more_numbered i q rest) e.0
      ∙ ap (more_numbered i (meant (program s) u w))
      (brace_numbered t types names (suc i) fields ts ws (omega (arith, l)) (later i g fields at)
      (next_types t types i u ts f) d.1 e.1)
    where
      later : (i : ℕ) (g : MField) (fields : List MField) →
          ((j : ℕ) (f : MField) → slice_get (g ∷ fields) j ≡ Some f → field_number names f.name ≡ i + j) →
          (j : ℕ) (f : MField) → slice_get fields j ≡ Some f → field_number names f.name ≡ suc i + j
      later i g fields at j f e = let z : i + suc j ≡ suc i + j = omega arith in at (suc j) f e ∙ z

  fields_count : (fields : List MField) → length (types_list (types_of (map (λ (f : MField). f.type) fields))) ≡ length
      fields
  fields_count [] = refl
  fields_count (f ∷ fs) = ap suc (fields_count fs)

  field_at : (fields : List MField) (names : List (List ℕ)) → names ≡ map (λ (f : MField). f.name) fields →
      repeats [] (map (λ (f : MField). f.name) fields) ≡ false →
      (j : ℕ) (f : MField) → slice_get fields j ≡ Some f → field_number names f.name ≡ 0 + j
  field_at fields names same own j f e =
      let z : j ≡ 0 + j = omega arith in
      number_there names f.name j (ap (position (bytes_eq f.name)) same
      ∙ own_place [] (map (λ (g : MField). g.name) fields) j f.name own
      (slice_get-map (λ (g : MField). g.name) fields j ∙ ap (option_map (λ (g : MField). g.name)) e))
      ∙ z

  -- what a name finds, as a path of it
  unit_resolved : (t : MType) (name : NameTree) (found : FoundTree) (k : ℕ) → path_finds s.items (path_of name) ≡ found →
      found_number found ≡ k → ((n : List ℕ) → name ≡ PlainName n → is_unit_form (found_form s.items found) ≡ true) →
      resolved_shape s t 0 (unit_shape name) ≡ FormPat k (numbered 0 no_pats)
  unit_resolved t (PlainName n) found k e f u =
      let unit : is_unit_form (found_form s.items (name_finds s.items n)) ≡ true =
      ap (λ x. is_unit_form (found_form s.items x)) e ∙ u n refl in
      ap (λ b. name_pattern b (found_if b (name_finds s.items n)) n) unit
      ∙ ap (λ x. FormPat (found_number x) (numbered 0 no_pats)) e ∙ ap (λ j. FormPat j (numbered 0 no_pats)) f
  unit_resolved t (VariantName owner n) found k e f u =
      ap (λ x. FormPat (found_number x) (numbered 0 no_pats)) e ∙ ap (λ j. FormPat j (numbered 0 no_pats)) f

  path_short : (name : NameTree) → found_if (is_short (path_of name))
      (path_finds s.items (path_of name)) ≡ path_finds s.items (path_of name)
  path_short (PlainName n) = refl
  path_short (VariantName owner n) = refl

  -- a form with its parts
  form_resolved : (owner : MOwner) (arguments : MTypes) (k : ℕ) (v : MVariant) (form : MForm) (ws : MWitnesses) →
      v.form ≡ form → path_finds s.items (path_of (name_by Whole (program s) (NamedType owner arguments) v.name))
      ≡ found_as (program s) owner k → IsMet s owner arguments k v (found_as (program s) owner k) →
      node_types (program s) (NamedType owner arguments) k ≡ Some (form_types form) →
      AreParts (program s) (types_list (form_types form)) ws → AreSpelled (types_list (form_types form)) ws →
      resolved_shape s (NamedType owner arguments) 0
      (arm_shape (form_tree (name_by Whole (program s) (NamedType owner arguments) v.name) form
      (parts_by Whole (program s) (types_list (form_types form)) ws)))
      ≡ FormPat k (numbered 0 (parts_meant (program s) (types_list (form_types form)) ws))
  form_resolved owner arguments k v UnitForm ws is e m n d h =
      unit_resolved (NamedType owner arguments) (name_by Whole (program s) (NamedType owner arguments) v.name)
      (found_as (program s) owner k) k e m.number (λ z p. m.unit z p is)
  form_resolved owner arguments k v (TupleForm ts) ws is e m n d h =
      let t = NamedType owner arguments in
      let us = types_list (form_types (TupleForm ts)) in
      let name = name_by Whole (program s) t v.name in
      let shapes = arm_shapes (parts_tree us ws) in
      ap (λ found. FormPat (found_number found) (form_parts s (part_types s (found_ctor found) t)
      (fields_found s.items found) 0 shapes)) (path_short name ∙ e)
      ∙ ap (λ j. FormPat j (form_parts s (part_types s (found_ctor (found_as (program s) owner k)) t)
      (fields_found s.items (found_as (program s) owner k)) 0 shapes)) m.number
      ∙ ap (FormPat k) (form_numbered t (part_types s (found_ctor (found_as (program s) owner k)) t)
      (fields_found s.items (found_as (program s) owner k)) 0 us ws (types_at owner arguments k v (TupleForm ts) m n) d h)
    where
      types_at : (owner : MOwner) (arguments : MTypes) (k : ℕ) (v : MVariant) (form : MForm) →
          IsMet s owner arguments k v (found_as (program s) owner k) →
          node_types (program s) (NamedType owner arguments) k ≡ Some (form_types form) →
          TypesFrom (NamedType owner arguments)
          (part_types s (found_ctor (found_as (program s) owner k)) (NamedType owner arguments)) 0
          (types_list (form_types form))
      types_at owner arguments k v form m n j =
          let z : 0 + j ≡ j = omega arith in
          ap (part_types s (found_ctor (found_as (program s) owner k)) (NamedType owner arguments)) z ∙ m.types j
          ∙ ap (λ o. part_type (NamedType owner arguments) o j) n
  form_resolved owner arguments k v (BraceForm fields) ws is e m n d h =
      let t = NamedType owner arguments in
      let us = types_list (form_types (BraceForm fields)) in
      let name = name_by Whole (program s) t v.name in
      let shapes = arm_fields (fields_of (named_fields fields (parts_by Whole (program s) us ws))) in
      let own = m.names fields is in
      ap (λ found. FormPat (found_number found) (form_fields s (part_types s (found_ctor found) t)
      (field_names s.items found) shapes)) (path_short name ∙ e)
      ∙ ap (λ j. FormPat j (form_fields s (part_types s (found_ctor (found_as (program s) owner k)) t)
      (field_names s.items (found_as (program s) owner k)) shapes)) m.number
      ∙ ap (FormPat k) (brace_numbered t (part_types s (found_ctor (found_as (program s) owner k)) t)
      (field_names s.items (found_as (program s) owner k)) 0 fields us ws (fields_count fields)
      (field_at fields (field_names s.items (found_as (program s) owner k)) own.0 own.1)
      (types_at owner arguments k v (BraceForm fields) m n) d h)
    where
      types_at : (owner : MOwner) (arguments : MTypes) (k : ℕ) (v : MVariant) (form : MForm) →
          IsMet s owner arguments k v (found_as (program s) owner k) →
          node_types (program s) (NamedType owner arguments) k ≡ Some (form_types form) →
          TypesFrom (NamedType owner arguments)
          (part_types s (found_ctor (found_as (program s) owner k)) (NamedType owner arguments)) 0
          (types_list (form_types form))
      types_at owner arguments k v form m n j =
          let z : 0 + j ≡ j = omega arith in
          ap (part_types s (found_ctor (found_as (program s) owner k)) (NamedType owner arguments)) z ∙ m.types j
          ∙ ap (λ o. part_type (NamedType owner arguments) o j) n

  -- ---- nodes

  none_there : {A : Type 0} (xs : List A) (k : ℕ) → slice_get xs k ≡ None → nat_lt k (length xs) ≡ true → ⊥
  none_there [] k e h = let no : nat_lt k 0 ≡ false = grind (arith, nat_tests) in untrue (sym no ∙ h)
  none_there (x ∷ xs) zero e h = absurd cc
  none_there (x ∷ xs) (suc k) e h = none_there xs k e (grind (arith, nat_tests, h))

  map_count : {A B : Type 0} (f : A → B) (xs : List A) → length (map f xs) ≡ length xs
  map_count f [] = refl
  map_count f (x ∷ xs) = ap suc (map_count f xs)

  -- a type with the constructor of the variant has the variant
  item_has : (o : Option MItem) (arguments : MTypes) (k : ℕ) →
      belongs (item_set o) (node_ctor (item_set o) k) ≡ true →
      slice_get (map (filled_variant arguments)
      (item_variants o)) k ≡ None → ⊥
  item_has None arguments k h e = untrue h
  item_has (Some (StructItem v)) arguments zero h e = absurd cc
  item_has (Some (StructItem v)) arguments (suc k) h e = untrue h
  item_has (Some OtherItem) arguments k h e = untrue h
  item_has (Some (EnumItem name false [])) arguments k h e = untrue h
  item_has (Some (EnumItem name true [])) arguments k h e = none_there {A = ℕ} [] k refl h
  item_has (Some (EnumItem name false (v ∷ vs))) arguments k h e =
      none_there (map (filled_variant arguments) (v ∷ vs)) k e
      (ap (λ n. nat_lt k (suc n)) (map_count (filled_variant arguments) vs) ∙ h)
  item_has (Some (EnumItem name true (v ∷ vs))) arguments k h e =
      none_there (map (filled_variant arguments) (v ∷ vs)) k e
      (ap (λ n. nat_lt k (suc n)) (map_count (filled_variant arguments) vs) ∙ h)

  module _ (once : IsNamedOnce s) where
    named_spelled : (owner : MOwner) (arguments : MTypes) (k : ℕ) (ws : MWitnesses) (o : Option MVariant) →
        slice_get (variants_of (program s) (NamedType owner arguments)) k ≡ o → IsMeant s owner →
        has_ctor (rust_context (program s)) (NamedType owner arguments)
        (node_ctor (rust_set (program s) (NamedType owner arguments)) k) ≡ true →
        AreParts (program s) (types_there (variant_types o)) ws →
        AreSpelled (types_there (variant_types o)) ws →
        resolved_shape s (NamedType owner arguments) 0
        (arm_shape (variant_tree Whole (program s) (NamedType owner arguments) o
        (parts_by Whole (program s) (types_there (variant_types o)) ws)))
        ≡ FormPat k (numbered 0 (parts_meant (program s)
        (types_there (variant_types o)) ws))
    named_spelled owner arguments k ws None e i h d a =
        absurd (item_has (declared (program s) owner) arguments k h e)
    named_spelled owner arguments k ws (Some v) e i h d a =
        form_resolved owner arguments k v v.form ws refl (path_found s once owner arguments k v i e)
        (variant_met s once owner arguments k v e)
        (ap variant_types e) d a

    node_spelled : (t : MType) (k : ℕ) (ws : MWitnesses) →
        ((owner : MOwner) (arguments : MTypes) → t ≡ NamedType owner arguments → IsMeant s owner) →
        IsOfType (program s) t (NodeOf k ws) →
        AreSpelled (types_there (node_types (program s) t k)) ws → IsSpelled t (NodeOf k ws)
    node_spelled (TupleType ts) zero ws m d a =
        let t = TupleType ts in
        let us = types_list ts in
        let n = rust_arity (program s) SingleCtor t in
        let types = part_types s SingleCtor t in
        let shapes = arm_shapes (parts_tree us ws) in
        ap (λ x. ListPat x (rest_of shapes) (back_items s types n shapes))
        (tuple_fronts t types 0 us ws (λ j. at ts j) (node_parts (program s) t zero ws d) a)
        ∙ ap (λ x. ListPat (parts_meant (program s) us ws) x (back_items s types n shapes)) (rest_none (parts_tree us ws))
        ∙ ap (ListPat (parts_meant (program s) us ws) NoRest) (back_none types n (parts_tree us ws))
      where
        at : (ts : MTypes) (j : ℕ) → part_types s SingleCtor (TupleType ts) (0 + j) ≡ type_or (TupleType ts)
            (slice_get (types_list ts) j)
        at ts j = let z : 0 + j ≡ j = omega arith in ap (part_types s SingleCtor (TupleType ts)) z
    node_spelled (NamedType owner arguments) k ws m d a =
        let t = NamedType owner arguments in
        let c = node_ctor (rust_set (program s) t) k in
        named_spelled owner arguments k ws (slice_get (variants_of (program s) t) k) refl (m owner arguments refl)
        (both (has_ctor (rust_context (program s)) t c)
        (nat_eq (length (witnesses_list ws)) (rust_arity (program s) c t)
        && witnesses_are_of (rust_context (program s)) (rust_sub (program s) c t) 0 ws) d).0
        (node_parts (program s) t k ws d) a
    node_spelled t k ws m d a = untrue d

    -- ---- references

    text_kept : (t : MType) (w : MWitness) → text_of (arm_tree (program s) t w) ≡ text_in w
    text_kept t AnyOf = refl
    text_kept t LaterOf = refl
    text_kept t (FlagOf b) = refl
    text_kept CharType (SpanOf r) = refl
    text_kept (IntType kind) (SpanOf r) = refl
    text_kept t (SpanOf r) = refl
    text_kept t (TextOf u) = refl
    text_kept t (ElseOf us) = refl
    text_kept (TupleType ts) (NodeOf zero ws) = refl
    text_kept t (NodeOf k ws) =
        in_variant (slice_get (variants_of (program s) t) k) t
        (parts_by Whole (program s) (types_there (node_types (program s) t k)) ws)
      where
        in_form : (name : NameTree) (form : MForm) (parts : List WitnessTree) → text_of (form_tree name form parts) ≡ None
        in_form name UnitForm parts = refl
        in_form name (TupleForm ts) parts = refl
        in_form name (BraceForm fs) parts = refl

        in_variant : (o : Option MVariant) (t : MType) (parts : List WitnessTree) →
            text_of (variant_tree Whole (program s) t o parts) ≡ None
        in_variant None t parts = refl
        in_variant (Some v) t parts = in_form (name_by Whole (program s) t v.name) v.form parts
    text_kept (PointType mutable t) (PointOf w) = refl
    text_kept t (PointOf w) = refl
    text_kept (SliceType t) (RowOf front longer back) = refl
    text_kept (ArrayType t n) (RowOf front longer back) = refl
    text_kept t (RowOf front longer back) = refl

    scalar_of : (c : ℕ) → is_scalar c ≡ true → scalar c ≡ true
    scalar_of c e = grind (arith, nat_tests)

    all_scalar : (cs : List ℕ) → list_all is_scalar cs ≡ true → scalars cs ≡ true
    all_scalar [] e = refl
    all_scalar (c ∷ cs) e =
        let b = both (is_scalar c) (list_all is_scalar cs) e in
        rw (scalar_of c b.0) (all_scalar cs b.1)

    text_of_set : (set : MSet) (u : List ℕ) → belongs set (TextCtor u) ≡ true → scalars u ≡ true
    text_of_set TextSet u e = all_scalar u e
    text_of_set set u e = untrue e

    text_scalars : (t : MType) (w : MWitness) (u : List ℕ) → IsOfType (program s) t w → text_in w ≡ Some u →
        scalars u ≡ true
    text_scalars t w u d e =
        text_of_set (rust_set (program s) t) u (ap (λ z. witness_is_of (rust_context (program s)) t z) (sym (text_is w u e)) ∙ d)

    point_spelled : (mutable : Bool) (u : MType) (w : MWitness) → IsOfType (program s) u w → IsSpelled u w →
        IsSpelled (PointType mutable u) (PointOf w)
    point_spelled mutable u w d h =
        ap (λ o. resolved_shape s (PointType mutable u) 0 (point_shape mutable o (arm_shape (arm_tree (program s) u w))))
        (text_kept u w)
        ∙ by mutable (text_in w) (text_scalars u w)
      where
        by : (b : Bool) (o : Option (List ℕ)) →
            ((t : List ℕ) → IsOfType (program s) u w → o ≡ Some t → scalars t ≡ true) →
            resolved_shape s (PointType b u) 0 (point_shape b o (arm_shape (arm_tree (program s) u w)))
            ≡ point_meant b o (meant (program s) u w)
        by true o f = ap (PointPat true) h
        by false None f = ap (PointPat false) h
        by false (Some t) f = ap TextPat (chars-encodes t (f t d refl))

    -- ---- rows

    row_fronts : (u : MType) (ws : MWitnesses) (qs : PatternTrees) (i : ℕ) → AllSpelled u ws →
        ((j : ℕ) → front_items s (λ k. u) j qs ≡ no_pats) →
        front_items s (λ k. u) i (and_more (arm_shapes (items_tree u ws)) qs) ≡ items_meant (program s) u ws
    row_fronts u no_witnesses qs i a f = f i
    row_fronts u (more_witnesses w ws) qs i a f =
        one_front (λ k. u) i (arm_tree (program s) u w) u (and_more (arm_shapes (items_tree u ws)) qs)
        (meant (program s) u w) (items_meant (program s) u ws) refl a.0 (row_fronts u ws qs (suc i) a.1 f)

    row_alone : (u : MType) (ws : MWitnesses) (i : ℕ) → AllSpelled u ws →
        front_items s (λ k. u) i (arm_shapes (items_tree u ws)) ≡ items_meant (program s) u ws
    row_alone u no_witnesses i a = refl
    row_alone u (more_witnesses w ws) i a =
        one_front (λ k. u) i (arm_tree (program s) u w) u (arm_shapes (items_tree u ws)) (meant (program s) u w)
        (items_meant (program s) u ws) refl a.0 (row_alone u ws (suc i) a.1)

    row_spelled : (u : MType) (front : MWitnesses) (longer : Bool) (back : MWitnesses) →
        back_is_allowed longer (length (witnesses_list back)) ≡ true → AllSpelled u front → AllSpelled u back →
        (n : ℕ) →
        ListPat (front_items s (λ k. u) 0 (and_more (arm_shapes (items_tree u front)) (and_more (rest_shapes longer)
        (arm_shapes (items_tree u back)))))
        (rest_of (and_more (arm_shapes (items_tree u front)) (and_more (rest_shapes longer)
        (arm_shapes (items_tree u back)))))
        (back_items s (λ k. u) n (and_more (arm_shapes (items_tree u front)) (and_more (rest_shapes longer)
        (arm_shapes (items_tree u back)))))
        ≡ ListPat (items_meant (program s) u front) (rest_meant longer) (items_meant (program s) u back)
    row_spelled u front false (more_witnesses w ws) b x y n =
        let no : nat_eq (suc (length (witnesses_list ws))) 0 ≡ false = grind (arith, nat_tests) in untrue (sym no ∙ b)
    row_spelled u front false no_witnesses b x y n =
        let xs = items_tree u front in
        ap (λ z. ListPat z (rest_of (and_more (arm_shapes xs) patterns.none))
        (back_items s (λ k. u) n (and_more (arm_shapes xs) patterns.none)))
        (row_fronts u front patterns.none 0 x (λ j. refl))
        ∙ ap (λ z. ListPat (items_meant (program s) u front) z
        (back_items s (λ k. u) n (and_more (arm_shapes xs) patterns.none))) (rest_behind xs patterns.none)
        ∙ ap (ListPat (items_meant (program s) u front) NoRest) (back_behind (λ k. u) n xs patterns.none)
    row_spelled u front true back b x y n =
        let xs = items_tree u front in
        let ys = arm_shapes (items_tree u back) in
        let qs = patterns.more (unplaced patterns.Rest) ys in
        ap (λ z. ListPat z (rest_of (and_more (arm_shapes xs) qs)) (back_items s (λ k. u) n (and_more (arm_shapes xs) qs)))
        (row_fronts u front qs 0 x (λ j. refl))
        ∙ ap (λ z. ListPat (items_meant (program s) u front) z (back_items s (λ k. u) n (and_more (arm_shapes xs) qs)))
        (rest_behind xs qs)
        ∙ ap (ListPat (items_meant (program s) u front) SomeRest)
        (back_behind (λ k. u) n xs qs ∙ row_alone u back (n - pattern_count ys) y)

    row_allowed : (t : MType) (front : MWitnesses) (longer : Bool) (back : MWitnesses) →
        IsOfType (program s) t (RowOf front longer back) → back_is_allowed longer (length (witnesses_list back)) ≡ true
    row_allowed t front longer back d =
        let n = length (witnesses_list front) in
        let k = length (witnesses_list back) in
        let c : MCtor = RowCtor (slice_shape n longer k) in
        (both (has_ctor (rust_context (program s)) t c) (back_is_allowed longer k)
        (both (has_ctor (rust_context (program s)) t c && back_is_allowed longer k)
        (witnesses_are_of (rust_context (program s)) (λ i. inner_type t) 0 front
        && witnesses_are_of (rust_context (program s)) (λ i. inner_type t) n back) d).0).1

    no_named_row : (o : Option MItem) (shape : MShape) →
        belongs (item_set o) (RowCtor shape) ≡ true → ⊥
    no_named_row None shape h = untrue h
    no_named_row (Some (StructItem v)) shape h = untrue h
    no_named_row (Some OtherItem) shape h = untrue h
    no_named_row (Some (EnumItem name false [])) shape h = untrue h
    no_named_row (Some (EnumItem name true [])) shape h = untrue h
    no_named_row (Some (EnumItem name marked (v ∷ vs))) shape h = untrue h

    no_named_point : (o : Option MItem) → belongs (item_set o) PointCtor ≡ true → ⊥
    no_named_point None h = untrue h
    no_named_point (Some (StructItem v)) h = untrue h
    no_named_point (Some OtherItem) h = untrue h
    no_named_point (Some (EnumItem name false [])) h = untrue h
    no_named_point (Some (EnumItem name true [])) h = untrue h
    no_named_point (Some (EnumItem name marked (v ∷ vs))) h = untrue h

    row_ctor_there : (t : MType) (front : MWitnesses) (longer : Bool) (back : MWitnesses) →
        IsOfType (program s) t (RowOf front longer back) →
        belongs (rust_set (program s) t)
        (RowCtor (slice_shape (length (witnesses_list front)) longer (length (witnesses_list back)))) ≡ true
    row_ctor_there t front longer back d =
        let n = length (witnesses_list front) in
        let k = length (witnesses_list back) in
        let c : MCtor = RowCtor (slice_shape n longer k) in
        (both (has_ctor (rust_context (program s)) t c) (back_is_allowed longer k)
        (both (has_ctor (rust_context (program s)) t c && back_is_allowed longer k)
        (witnesses_are_of (rust_context (program s)) (λ i. inner_type t) 0 front
        && witnesses_are_of (rust_context (program s)) (λ i. inner_type t) n back) d).0).0

    -- a row of a type, by its items
    row_typed : (t : MType) (front : MWitnesses) (longer : Bool) (back : MWitnesses) →
        IsOfType (program s) t (RowOf front longer back) → AllSpelled (inner_type t) front →
        AllSpelled (inner_type t) back → IsSpelled t (RowOf front longer back)
    row_typed (SliceType u) front longer back d x y =
        row_spelled u front longer back (row_allowed (SliceType u) front longer back d) x y
        (pattern_count (and_more (arm_shapes (items_tree u front)) (and_more (rest_shapes longer)
        (arm_shapes (items_tree u back)))))
    row_typed (ArrayType u c) front longer back d x y =
        row_spelled u front longer back (row_allowed (ArrayType u c) front longer back d) x y
        (pattern_count (and_more (arm_shapes (items_tree u front)) (and_more (rest_shapes longer)
        (arm_shapes (items_tree u back)))))
    row_typed (NamedType owner arguments) front longer back d x y =
        absurd (no_named_row (declared (program s) owner)
        (slice_shape (length (witnesses_list front)) longer (length (witnesses_list back)))
        (row_ctor_there (NamedType owner arguments) front longer back d))
    row_typed t front longer back d x y = untrue (row_ctor_there t front longer back d)

    point_typed : (t : MType) (w : MWitness) → IsOfType (program s) t (PointOf w) → IsSpelled (inner_type t) w →
        IsSpelled t (PointOf w)
    point_typed (PointType mutable u) w d h =
        point_spelled mutable u w (point_part (program s) (PointType mutable u) w d) h
    point_typed (NamedType owner arguments) w d h =
        absurd (no_named_point (declared (program s) owner) (both (has_ctor (rust_context (program s))
        (NamedType owner arguments) PointCtor) (witness_is_of (rust_context (program s)) (NamedType owner arguments) w) d).0)
    point_typed t w d h = untrue d

    module _ (P : MType → Type 0) (kept : AreMeantTypes s P) where
      named_meant : (t : MType) → P t → (owner : MOwner) (arguments : MTypes) → t ≡ NamedType owner arguments →
          IsMeant s owner
      named_meant t p owner arguments e =
          kept.named owner arguments (subst (λ (u : MType). P u) e p)

      mutual
        pub spelled : (t : MType) (w : MWitness) → P t → IsOfType (program s) t w → literal_ends (program s) t w ≡ true →
            IsSpelled t w
        spelled t AnyOf p d l = refl
        spelled t LaterOf p d l = refl
        spelled t (FlagOf b) p d l = refl
        spelled t (SpanOf r) p d l = numbers_are_meant s t r d l
        spelled t (TextOf u) p d l = refl
        spelled t (ElseOf us) p d l = refl
        spelled t (NodeOf k ws) p d l =
            node_spelled t k ws (named_meant t p) d
            (parts_spelled (types_there (node_types (program s) t k)) ws (kept.parts t k p)
            (node_parts (program s) t k ws d) l)
        spelled t (PointOf w) p d l =
            point_typed t w d (spelled (inner_type t) w (kept.inner t p) (point_part (program s) t w d) l)
        spelled t (RowOf front longer back) p d l =
            let i = row_items (program s) t front longer back d in
            let b = both (items_literal (program s) (inner_type t) front) (items_literal (program s) (inner_type t) back) l in
            row_typed t front longer back d (items_spelled (inner_type t) front (kept.inner t p) i.0 b.0)
            (items_spelled (inner_type t) back (kept.inner t p) i.1 b.1)

        parts_spelled : (ts : List MType) (ws : MWitnesses) → AreKept P ts → AreParts (program s) ts ws →
            parts_literal (program s) ts ws ≡ true → AreSpelled ts ws
        parts_spelled [] ws p d l = tt
        parts_spelled (t ∷ ts) no_witnesses p d l = tt
        parts_spelled (t ∷ ts) (more_witnesses w ws) p d l =
            let b = both (literal_ends (program s) t w) (parts_literal (program s) ts ws) l in
            (spelled t w p.0 d.0 b.0, parts_spelled ts ws p.1 d.1 b.1)

        items_spelled : (t : MType) (ws : MWitnesses) → P t → AreItems (program s) t ws →
            items_literal (program s) t ws ≡ true → AllSpelled t ws
        items_spelled t no_witnesses p d l = tt
        items_spelled t (more_witnesses w ws) p d l =
            let b = both (literal_ends (program s) t w) (items_literal (program s) t ws) l in
            (spelled t w p d.0 b.0, items_spelled t ws p d.1 b.1)

pub spelled_is_meant : SpelledIsMeant
spelled_is_meant s once t w p d l = spelled s once (IsMeantType s) (meant_types s) t w p d l
