-- What written values mean are values of the type.
use Rattle.std.proofs.Common.{◌≡◌, ℕ, zero, suc, ◌+◌, Bool, true, false, ◌&&◌, nat_eq, List, [], ◌∷◌, map, length, Option, Some, None, refl, sym, ap, subst, ◌∙◌, arith, if◌then◌else◌}
use Rattle.std.specs.Prelude.{⊤, pos, chars, slice_get, option_map}
use Rattle.std.proofs.lemmas.Bool.Decides.{nat_tests}
use Rattle.match_model.specs.Places.{some_if}
use Rattle.match_model.specs.Types.{MType, BoolType, CharType, StrType, NeverType, IntType, OpaqueType, TupleType, PointType, SliceType, ArrayType, NamedType, MTypes, no_types, more_types, types_list, types_of}
use Rattle.match_model.specs.Declarations.{MField, MForm, UnitForm, TupleForm, BraceForm, MVariant, MProgram, variants_of, node_types, variant_types}
use Rattle.match_model.specs.Typing.{type_behind, item_type, is_value, are_values, all_are_values}
use Rattle.match_model.specs.Values.{MValue, Flag, Num, Text, Node, Point, Row, Thing, Later, Unseen, MValues, values_list, values_of}
use Rattle.match_model.specs.declared.IntKind.TheVariants.{U8}
use Rattle.pattern_rules.specs.Literals.{is_char, is_kind, has_suffix_type}
use Rattle.range_split.specs.Numbers.{signed}
use Rattle.value_syntax.specs.Trees.{WrittenTree, WrittenFlag, WrittenChar, WrittenByte, WrittenInt, WrittenStr, WrittenText, WrittenOpaque, WrittenLater, WrittenUnseen, WrittenPoint, WrittenTuple, WrittenRow, WrittenUnitForm, WrittenTupleForm, WrittenBraceForm, WrittenTrees, no_values, more_values, WrittenFields, no_fields, more_fields}
use Rattle.type_table.specs.Tables.{type_variant}
use Rattle.value_text.specs.Names.{form_with, form_named, path_number, unit_of, tuple_of, brace_of, field_numbered, field_found}
use Rattle.value_text.specs.Fields.{in_front, given_number, only_one, in_order}
use Rattle.value_text.specs.Meanings.{if_value, literal_of, count, tuple_parts, node, row, numbered_front, node_of_fields, meant, meant_parts, meant_items, meant_fields}

-- what is made of what may be there
pub mapped : {A B : Type 0} (f : A → B) (o : Option A) (b : B) → option_map f o ≡ Some b → (a : A) × (o ≡ Some a) × (f a ≡ b)
mapped f None b h = absurd cc
mapped f (Some a) b h = let e : f a ≡ b = cc in (a, refl, e)

-- one in front of others
pub fronted : {A : Type 0} (o : Option A) (os : Option (List A)) (xs : List A) → in_front o os ≡ Some xs →
    (x : A) × (rest : List A) × (o ≡ Some x) × (os ≡ Some rest) × (x ∷ rest ≡ xs)
fronted None os xs h = absurd cc
fronted (Some x) None xs h = absurd cc
fronted (Some x) (Some rest) xs h = let e : x ∷ rest ≡ xs = cc in (x, rest, refl, refl, e)

if_true : {A : Type 0} (b : Bool) (x y : A) → some_if b x ≡ Some y → (b ≡ true) × (x ≡ y)
if_true true x y h = let e : x ≡ y = cc in (refl, e)
if_true false x y h = absurd cc

right_true : (a b : Bool) → (a && b) ≡ true → b ≡ true
right_true true b h = h
right_true false b h = absurd cc

pub values_back : (vs : List MValue) → values_list (values_of vs) ≡ vs
values_back [] = refl
values_back (v ∷ vs) = ap (λ us. v ∷ us) (values_back vs)

pub types_back : (ts : List MType) → types_list (types_of ts) ≡ ts
types_back [] = refl
types_back (t ∷ ts) = ap (λ us. t ∷ us) (types_back ts)

pub types_kept : (ts : MTypes) → types_of (types_list ts) ≡ ts
types_kept no_types = refl
types_kept (more_types t ts) = ap (more_types t) (types_kept ts)

module _ (program : MProgram) where
  leaf : (sure : Bool) (t : MType) (u v : MValue) → if_value program sure t u ≡ Some v → is_value program sure t v ≡ true
  leaf sure t u v h =
      let is = if_true (is_value program sure t u) u v h in
      subst (λ x. is_value program sure t x ≡ true) is.1 is.0

  literal : (of_kind : Bool) (sure : Bool) (t : MType) (u v : MValue) → literal_of of_kind program sure t u ≡ Some v → is_value program sure t v ≡ true
  literal of_kind sure t u v h =
      let is = if_true (of_kind && is_value program sure t u) u v h in
      subst (λ x. is_value program sure t x ≡ true) is.1 (right_true of_kind (is_value program sure t u) is.0)

  -- a variant that is there has the types of its form
  pub form_types_are : (t : MType) (k : ℕ) (v : MVariant) → type_variant program t k ≡ Some v → node_types program t k ≡ variant_types (Some v)
  form_types_are (TupleType ts) zero v h = absurd cc
  form_types_are (TupleType ts) (suc k) v h = absurd cc
  form_types_are (NamedType o ts) k v h = ap variant_types h
  form_types_are BoolType k v h = absurd cc
  form_types_are CharType k v h = absurd cc
  form_types_are StrType k v h = absurd cc
  form_types_are NeverType k v h = absurd cc
  form_types_are (IntType kind) k v h = absurd cc
  form_types_are (OpaqueType name ts) k v h = absurd cc
  form_types_are (PointType mutable u) k v h = absurd cc
  form_types_are (SliceType u) k v h = absurd cc
  form_types_are (ArrayType u n) k v h = absurd cc

  with_form : (t : MType) (n : Option ℕ) (p : ℕ × MForm) → form_with program t n ≡ Some p → (v : MVariant) × (type_variant program t p.0 ≡ Some v) × (v.form ≡ p.1)
  with_form t None p h = absurd cc
  with_form t (Some k) p h =
      let m = mapped (λ v. (k, v.form)) (type_variant program t k) p h in
      (m.0, ap (type_variant program t) (sym (ap (λ (q : ℕ × MForm). q.0) m.2)) ∙ m.1, ap (λ (q : ℕ × MForm). q.1) m.2)

  -- the types of the parts of what was found
  found_types : (t : MType) (n : Option ℕ) (k : ℕ) (form : MForm) → form_with program t n ≡ Some (k, form) → node_types program t k ≡ variant_types (Some (record { name = []; form = form }))
  found_types t n k form h =
      let w = with_form t n (k, form) h in
      form_types_are t k w.0 w.1 ∙ ap (λ (f : MForm). variant_types (Some (record { name = []; form = f }))) w.2

  unit_is : (o : Option (ℕ × MForm)) (k : ℕ) → unit_of o ≡ Some k → o ≡ Some (k, UnitForm)
  unit_is None k h = absurd cc
  unit_is (Some (j, UnitForm)) k h = let e : j ≡ k = cc in ap (λ i. Some (i, UnitForm)) e
  unit_is (Some (j, TupleForm types)) k h = absurd cc
  unit_is (Some (j, BraceForm fields)) k h = absurd cc

  tuple_is : (o : Option (ℕ × MForm)) (p : ℕ × List MType) → tuple_of o ≡ Some p → o ≡ Some (p.0, TupleForm p.1)
  tuple_is None p h = absurd cc
  tuple_is (Some (j, UnitForm)) p h = absurd cc
  tuple_is (Some (j, TupleForm types)) p h = let e : (j, types) ≡ p = cc in ap (λ (q : ℕ × List MType). Some (q.0, TupleForm q.1)) e
  tuple_is (Some (j, BraceForm fields)) p h = absurd cc

  brace_is : (o : Option (ℕ × MForm)) (p : ℕ × List MField) → brace_of o ≡ Some p → o ≡ Some (p.0, BraceForm p.1)
  brace_is None p h = absurd cc
  brace_is (Some (j, UnitForm)) p h = absurd cc
  brace_is (Some (j, TupleForm types)) p h = absurd cc
  brace_is (Some (j, BraceForm fields)) p h = let e : (j, fields) ≡ p = cc in ap (λ (q : ℕ × List MField). Some (q.0, BraceForm q.1)) e

  -- a node whose parts are values
  node_value : (sure : Bool) (t : MType) (k : ℕ) (types : MTypes) (vs : List MValue) → node_types program t k ≡ Some types →
      are_values program sure types (values_of vs) ≡ true → is_value program sure t (node k vs) ≡ true
  node_value sure t k types vs e h = rw (is_value, e) h

  -- a reference
  point_value : (sure : Bool) (t : MType) (m : Bool) (v : MValue) (f : MType → Option MValue) →
      ((inner : MType) (u : MValue) → f inner ≡ Some u → is_value program false inner u ≡ true) →
      elim (type_behind t m) [ None ↦ None | Some inner ↦ option_map (Point m) (f inner) ] ≡ Some v → is_value program sure t v ≡ true
  point_value sure t m v f ih h = by (type_behind t m) refl h
    where
      by : (o : Option MType) → type_behind t m ≡ o → elim o [ None ↦ None | Some inner ↦ option_map (Point m) (f inner) ] ≡ Some v → is_value program sure t v ≡ true
      by None e k = absurd cc
      by (Some inner) e k =
          let w = mapped (Point m) (f inner) v k in
          let inside : is_value program sure t (Point m w.0) ≡ true = rw (is_value, e) (ih inner w.0 w.1) in
          subst (λ x. is_value program sure t x ≡ true) w.2 inside

  -- a tuple
  tuple_value : (sure : Bool) (t : MType) (v : MValue) (f : List MType → Option (List MValue)) →
      ((types : List MType) (vs : List MValue) → f types ≡ Some vs → are_values program sure (types_of types) (values_of vs) ≡ true) →
      elim (tuple_parts t) [ None ↦ None | Some types ↦ option_map (node 0) (f types) ] ≡ Some v → is_value program sure t v ≡ true
  tuple_value sure (TupleType ts) v f ih h =
      let w = mapped (node 0) (f (types_list ts)) v h in
      let inside : is_value program sure (TupleType ts) (node 0 w.0) ≡ true =
      subst (λ us. are_values program sure us (values_of w.0) ≡ true) (types_kept ts) (ih (types_list ts) w.0 w.1) in
      subst (λ x. is_value program sure (TupleType ts) x ≡ true) w.2 inside
  tuple_value sure BoolType v f ih h = absurd cc
  tuple_value sure CharType v f ih h = absurd cc
  tuple_value sure StrType v f ih h = absurd cc
  tuple_value sure NeverType v f ih h = absurd cc
  tuple_value sure (IntType kind) v f ih h = absurd cc
  tuple_value sure (OpaqueType name ts) v f ih h = absurd cc
  tuple_value sure (PointType mutable u) v f ih h = absurd cc
  tuple_value sure (SliceType u) v f ih h = absurd cc
  tuple_value sure (ArrayType u n) v f ih h = absurd cc
  tuple_value sure (NamedType o ts) v f ih h = absurd cc

  -- a slice or array
  row_value : (sure : Bool) (t : MType) (n : ℕ) (v : MValue) (f : MType → Option (List MValue)) →
      ((item : MType) (vs : List MValue) → f item ≡ Some vs → (length vs ≡ n) × (all_are_values program sure item (values_of vs) ≡ true)) →
      elim (item_type t n) [ None ↦ None | Some item ↦ option_map row (f item) ] ≡ Some v → is_value program sure t v ≡ true
  row_value sure t n v f ih h = by (item_type t n) refl h
    where
      by : (o : Option MType) → item_type t n ≡ o → elim o [ None ↦ None | Some item ↦ option_map row (f item) ] ≡ Some v → is_value program sure t v ≡ true
      by None e k = absurd cc
      by (Some item) e k =
          let w = mapped row (f item) v k in
          let is = ih item w.0 w.1 in
          let there : item_type t (length (values_list (values_of w.0))) ≡ Some item =
          ap (item_type t) (ap (λ (us : List MValue). length us) (values_back w.0) ∙ is.0) ∙ e in
          let inside : is_value program sure t (row w.0) ≡ true = rw (is_value, there) is.1 in
          subst (λ x. is_value program sure t x ≡ true) w.2 inside

  -- a struct or variant without brackets
  unit_value : (sure : Bool) (t : MType) (n : Option ℕ) (v : MValue) → option_map (λ k. node k []) (unit_of (form_with program t n)) ≡ Some v →
      is_value program sure t v ≡ true
  unit_value sure t n v h =
      let w = mapped (λ k. node k []) (unit_of (form_with program t n)) v h in
      let types = found_types t n w.0 UnitForm (unit_is (form_with program t n) w.0 w.1) in
      subst (λ x. is_value program sure t x ≡ true) w.2 (node_value sure t w.0 no_types [] types refl)

  -- one with a list of parts
  tuple_form_value : (sure : Bool) (t : MType) (n : Option ℕ) (v : MValue) (f : List MType → Option (List MValue)) →
      ((types : List MType) (vs : List MValue) → f types ≡ Some vs → are_values program sure (types_of types) (values_of vs) ≡ true) →
      elim (tuple_of (form_with program t n)) [ None ↦ None | Some p ↦ option_map (node p.0) (f p.1) ] ≡ Some v → is_value program sure t v ≡ true
  tuple_form_value sure t n v f ih h = by (tuple_of (form_with program t n)) refl h
    where
      by : (o : Option (ℕ × List MType)) → tuple_of (form_with program t n) ≡ o → elim o [ None ↦ None | Some p ↦ option_map (node p.0) (f p.1) ] ≡ Some v →
          is_value program sure t v ≡ true
      by None e k = absurd cc
      by (Some p) e k =
          let w = mapped (node p.0) (f p.1) v k in
          let types = found_types t n p.0 (TupleForm p.1) (tuple_is (form_with program t n) p e) in
          subst (λ x. is_value program sure t x ≡ true) w.2 (node_value sure t p.0 (types_of p.1) w.0 types (ih p.1 w.0 w.1))

  -- the value is one of the field with this number
  abbrev IsGiven : (sure : Bool) → List MField → ℕ × MValue → Type 0
  IsGiven sure fields g = (f : MField) × (slice_get fields g.0 ≡ Some f) × (is_value program sure f.type g.1 ≡ true)

  abbrev AreGiven : (sure : Bool) → List MField → List (ℕ × MValue) → Type 0
  AreGiven sure fields [] = ⊤
  AreGiven sure fields (g ∷ gs) = IsGiven sure fields g × AreGiven sure fields gs

  abbrev AreOf : (sure : Bool) → MType → List MValue → Type 0
  AreOf sure t [] = ⊤
  AreOf sure t (v ∷ vs) = (is_value program sure t v ≡ true) × AreOf sure t vs

  given_are : (sure : Bool) (fields : List MField) (gs : List (ℕ × MValue)) (i : ℕ) (f : MField) → AreGiven sure fields gs → slice_get fields i ≡ Some f →
      AreOf sure f.type (given_number i gs)
  given_are sure fields [] i f is at = tt
  given_are sure fields (g ∷ gs) i f is at = by (nat_eq i g.0) refl (given_are sure fields gs i f is.1 at)
    where
      same_number : nat_eq i g.0 ≡ true → i ≡ g.0
      same_number h = grind (arith, nat_tests, h)

      by : (b : Bool) → nat_eq i g.0 ≡ b → AreOf sure f.type (given_number i gs) → AreOf sure f.type (if b then g.1 ∷ given_number i gs else given_number i gs)
      by true e rest =
          let same : Some is.0.0 ≡ Some f = sym is.0.1 ∙ (ap (slice_get fields) (sym (same_number e)) ∙ at) in
          let field : is.0.0 ≡ f = cc in
          (subst (λ (h : MField). is_value program sure h.type g.1 ≡ true) field is.0.2, rest)
      by false e rest = rest

  only_of : (sure : Bool) (t : MType) (vs : List MValue) (v : MValue) → AreOf sure t vs → only_one vs ≡ Some v → is_value program sure t v ≡ true
  only_of sure t [] v is h = absurd cc
  only_of sure t (u ∷ []) v is h = let e : u ≡ v = cc in subst (λ x. is_value program sure t x ≡ true) e is.0
  only_of sure t (u ∷ (w ∷ vs)) v is h = absurd cc

  -- the values of all fields from one on
  ordered_are : (sure : Bool) (fields : List MField) (gs : List (ℕ × MValue)) → AreGiven sure fields gs → (i : ℕ) (fs : List MField) →
      ((j : ℕ) → slice_get fs j ≡ slice_get fields (i + j)) → (vs : List MValue) → in_order i (length fs) gs ≡ Some vs →
      are_values program sure (types_of (map (λ f. f.type) fs)) (values_of vs) ≡ true
  ordered_are sure fields gs is i [] at vs h = let e : [] ≡ vs = cc in subst (λ us. are_values program sure no_types (values_of us) ≡ true) e refl
  ordered_are sure fields gs is i (f ∷ fs) at vs h =
      let w = fronted (only_one (given_number i gs)) (in_order (suc i) (length fs) gs) vs h in
      let here : slice_get fields i ≡ Some f = ap (slice_get fields) (let z : i ≡ i + 0 = omega arith in z) ∙ sym (at 0) in
      let first : is_value program sure f.type w.0 ≡ true = only_of sure f.type (given_number i gs) w.0 (given_are sure fields gs i f is here) w.2 in
      let rest = ordered_are sure fields gs is (suc i) fs (λ j. at (suc j) ∙ ap (slice_get fields) (let z : i + suc j ≡ suc i + j = omega arith in z)) w.1 w.3 in
      subst (λ us. are_values program sure (types_of (map (λ g. g.type) (f ∷ fs))) (values_of us) ≡ true) w.4 (rw (first, rest) refl)

  -- one with named fields
  brace_form_value : (sure : Bool) (t : MType) (n : Option ℕ) (v : MValue) (f : List MField → Option (List (ℕ × MValue))) →
      ((fields : List MField) (gs : List (ℕ × MValue)) → f fields ≡ Some gs → AreGiven sure fields gs) →
      elim (brace_of (form_with program t n)) [ None ↦ None | Some p ↦ node_of_fields p.0 p.1 (f p.1) ] ≡ Some v → is_value program sure t v ≡ true
  brace_form_value sure t n v f ih h = by (brace_of (form_with program t n)) refl h
    where
      filled : (p : ℕ × List MField) → node_types program t p.0 ≡ Some (types_of (map (λ f. f.type) p.1)) → (gs : Option (List (ℕ × MValue))) → f p.1 ≡ gs →
          node_of_fields p.0 p.1 gs ≡ Some v → is_value program sure t v ≡ true
      filled p types None e k = absurd cc
      filled p types (Some gs) e k =
          let w = mapped (node p.0) (in_order 0 (length p.1) gs) v k in
          let are = ordered_are sure p.1 gs (ih p.1 gs e) 0 p.1 (λ j. ap (slice_get p.1) (let z : j ≡ 0 + j = omega arith in z)) w.0 w.1 in
          subst (λ x. is_value program sure t x ≡ true) w.2 (node_value sure t p.0 (types_of (map (λ f. f.type) p.1)) w.0 types are)

      by : (o : Option (ℕ × List MField)) → brace_of (form_with program t n) ≡ o → elim o [ None ↦ None | Some p ↦ node_of_fields p.0 p.1 (f p.1) ] ≡ Some v →
          is_value program sure t v ≡ true
      by None e k = absurd cc
      by (Some p) e k = filled p (found_types t n p.0 (BraceForm p.1) (brace_is (form_with program t n) p e)) (f p.1) refl k

  -- one more written field
  given_more : (sure : Bool) (fields : List MField) (n : Option ℕ) (gs : List (ℕ × MValue)) (f : MType → Option MValue) (rest : Option (List (ℕ × MValue))) →
      ((t : MType) (u : MValue) → f t ≡ Some u → is_value program sure t u ≡ true) → ((hs : List (ℕ × MValue)) → rest ≡ Some hs → AreGiven sure fields hs) →
      elim (field_numbered fields n) [ None ↦ None | Some p ↦ numbered_front p.0 (f p.1) rest ] ≡ Some gs → AreGiven sure fields gs
  given_more sure fields None gs f rest one others h = absurd cc
  given_more sure fields (Some i) gs f rest one others h = by (slice_get fields i) refl h
    where
      by : (o : Option MField) → slice_get fields i ≡ o →
          elim (option_map {U = ℕ × MType} (λ x. (i, x.type)) o) [ None ↦ None | Some p ↦ numbered_front p.0 (f p.1) rest ] ≡ Some gs → AreGiven sure fields gs
      by None e k = absurd cc
      by (Some x) e k =
          let w = fronted (option_map (λ u. (i, u)) (f x.type)) rest gs k in
          let m = mapped (λ (u : MValue). (i, u)) (f x.type) w.0 w.2 in
          let given : IsGiven sure fields (i, m.0) = (x, e, one x.type m.0 m.1) in
          subst (AreGiven sure fields) w.4 (subst (IsGiven sure fields) m.2 given, others w.1 w.3)

  mutual
    pub values_are : (sure : Bool) (t : MType) (w : WrittenTree) (v : MValue) → meant program sure t w ≡ Some v → is_value program sure t v ≡ true
    values_are sure t (WrittenFlag b) v h = leaf sure t (Flag b) v h
    values_are sure t (WrittenChar c) v h = literal (is_char t) sure t (Num (pos c)) v h
    values_are sure t (WrittenByte b) v h = literal (is_kind U8 t) sure t (Num (pos b)) v h
    values_are sure t (WrittenInt negative size suffix) v h = literal (has_suffix_type suffix t) sure t (Num (signed negative size)) v h
    values_are sure t (WrittenStr text) v h = leaf sure t (Point false (Text (chars text))) v h
    values_are sure t (WrittenText text) v h = leaf sure t (Text (chars text)) v h
    values_are sure t WrittenOpaque v h = leaf sure t Thing v h
    values_are sure t WrittenLater v h = leaf sure t Later v h
    values_are sure t WrittenUnseen v h = leaf sure t Unseen v h
    values_are sure t (WrittenPoint m w) v h =
        point_value sure t m v (λ inner. meant program false inner w) (λ inner u e. values_are false inner w u e) h
    values_are sure t (WrittenTuple ws) v h = tuple_value sure t v (λ types. meant_parts program sure types ws) (λ types vs e. parts_are sure types ws vs e) h
    values_are sure t (WrittenRow ws) v h =
        row_value sure t (count ws) v (λ item. meant_items program sure item ws) (λ item vs e. items_are sure item ws vs e) h
    values_are sure t (WrittenUnitForm path) v h = unit_value sure t (path_number program t path) v h
    values_are sure t (WrittenTupleForm path ws) v h =
        tuple_form_value sure t (path_number program t path) v (λ types. meant_parts program sure types ws) (λ types vs e. parts_are sure types ws vs e) h
    values_are sure t (WrittenBraceForm path fs) v h =
        brace_form_value sure t (path_number program t path) v (λ fields. meant_fields program sure fields fs) (λ fields gs e. fields_are sure fields fs gs e) h

    parts_are : (sure : Bool) (types : List MType) (ws : WrittenTrees) (vs : List MValue) → meant_parts program sure types ws ≡ Some vs →
        are_values program sure (types_of types) (values_of vs) ≡ true
    parts_are sure [] no_values vs h = let e : [] ≡ vs = cc in subst (λ us. are_values program sure no_types (values_of us) ≡ true) e refl
    parts_are sure [] (more_values w ws) vs h = absurd cc
    parts_are sure (t ∷ ts) no_values vs h = absurd cc
    parts_are sure (t ∷ ts) (more_values w ws) vs h =
        let f = fronted (meant program sure t w) (meant_parts program sure ts ws) vs h in
        let first = values_are sure t w f.0 f.2 in
        let rest = parts_are sure ts ws f.1 f.3 in
        subst (λ us. are_values program sure (types_of (t ∷ ts)) (values_of us) ≡ true) f.4 (rw (first, rest) refl)

    items_are : (sure : Bool) (t : MType) (ws : WrittenTrees) (vs : List MValue) → meant_items program sure t ws ≡ Some vs →
        (length vs ≡ count ws) × (all_are_values program sure t (values_of vs) ≡ true)
    items_are sure t no_values vs h = let e : [] ≡ vs = cc in (ap (λ (us : List MValue). length us) (sym e), subst (λ us. all_are_values program sure t (values_of us) ≡ true) e refl)
    items_are sure t (more_values w ws) vs h =
        let f = fronted (meant program sure t w) (meant_items program sure t ws) vs h in
        let first = values_are sure t w f.0 f.2 in
        let rest = items_are sure t ws f.1 f.3 in
        (ap (λ (us : List MValue). length us) (sym f.4) ∙ ap suc rest.0, subst (λ us. all_are_values program sure t (values_of us) ≡ true) f.4 (rw (first, rest.1) refl))

    fields_are : (sure : Bool) (fields : List MField) (fs : WrittenFields) (gs : List (ℕ × MValue)) → meant_fields program sure fields fs ≡ Some gs → AreGiven sure fields gs
    fields_are sure fields no_fields gs h = let e : [] ≡ gs = cc in subst (AreGiven sure fields) e tt
    fields_are sure fields (more_fields name w fs) gs h =
        given_more sure fields _ gs (λ t. meant program sure t w) (meant_fields program sure fields fs) (λ t u e. values_are sure t w u e) (λ hs e. fields_are sure fields fs hs e) h
