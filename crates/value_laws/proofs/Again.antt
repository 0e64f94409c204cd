-- A value that is written with its names means itself.
use Rattle.std.proofs.Common.{◌≡◌, ℕ, zero, suc, Bool, true, false, List, [], ◌∷◌, map, length, drop, slice_get, Option, Some, None, option_map, refl, sym, ap, ◌∙◌, nat_eq, chars, position, bytes_eq, ◌⊎◌, inl, inr}
use Rattle.match_model.specs.Declarations.{MField, MForm, UnitForm, TupleForm, BraceForm, MVariant, MProgram, form_types, variant_types, variants_of, node_types}
use Rattle.match_model.specs.Places.{some_if}
use Rattle.match_model.specs.RustTypes.{inner_type}
use Rattle.match_model.specs.Types.{MType, BoolType, CharType, StrType, NeverType, IntType, OpaqueType, TupleType, PointType, SliceType, ArrayType, NamedType, MTypes, no_types, more_types, types_list, types_of}
use Rattle.match_model.specs.Typing.{is_value, are_values, all_are_values, item_type, type_behind}
use Rattle.match_model.specs.Values.{MValue, Flag, Num, Text, Node, Point, Row, Thing, Later, Unseen, MValues, no_values, more_values, values_list, values_of}
use Rattle.value_syntax.specs.Trees.{WrittenTree, WrittenFlag, WrittenChar, WrittenByte, WrittenInt, WrittenStr, WrittenText, WrittenOpaque, WrittenLater, WrittenUnseen, WrittenPoint, WrittenTuple, WrittenRow, WrittenUnitForm, WrittenTupleForm, WrittenBraceForm, values_from, fields_from}
use Rattle.value_text.specs.Fields.{in_front, in_order}
use Rattle.value_text.specs.Meanings.{if_value, count, node, row, node_of_fields, numbered_front, meant, meant_parts, meant_items, meant_fields}
use Rattle.value_text.specs.Names.{unit_of, tuple_of, brace_of, form_named, field_numbered, field_found}
use Rattle.witness_names.specs.Named.{form_name, types_there}
use Rattle.witness_names.specs.NamedValues.{written_value, written_parts, written_items, written_point, written_fields, written_form, written_variant, written_node}
use Rattle.witness_text.specs.Trees.{NameTree}
use Rattle.value_laws.proofs.Leaves.{both, there_if, number_again, text_again}
use Rattle.value_laws.proofs.Ordered.{numbered, taken_in_order}
use Rattle.value_laws.proofs.OwnNames.{AreOwn, named_place}
use Rattle.value_laws.proofs.Paths.{form_found}

-- lists

list_back : (ts : MTypes) → types_of (types_list ts) ≡ ts
list_back no_types = refl
list_back (more_types t ts) = ap (more_types t) (list_back ts)

types_back : (ts : List MType) → types_list (types_of ts) ≡ ts
types_back [] = refl
types_back (t ∷ ts) = ap (λ us. t ∷ us) (types_back ts)

values_back : (vs : MValues) → values_of (values_list vs) ≡ vs
values_back no_values = refl
values_back (more_values v vs) = ap (more_values v) (values_back vs)

count_items : (program : MProgram) (t : MType) (vs : MValues) → count (values_from (written_items program t vs)) ≡ length (values_list vs)
count_items program t no_values = refl
count_items program t (more_values v vs) = ap suc (count_items program t vs)

-- as many values as fields
as_many : (program : MProgram) (sure : Bool) (fs : List MField) (vs : MValues) →
    are_values program sure (types_of (map (λ (f : MField). f.type) fs)) vs ≡ true → length fs ≡ length (values_list vs)
as_many program sure [] no_values h = refl
as_many program sure [] (more_values v vs) h = absurd cc
as_many program sure (f ∷ fs) no_values h = absurd cc
as_many program sure (f ∷ fs) (more_values v vs) h =
    ap suc (as_many program sure fs vs (both (is_value program sure f.type v) (are_values program sure (types_of (map (λ (g : MField). g.type) fs)) vs) h).1)

-- references

-- a reference of the type is to a value of the type behind it
behind : (program : MProgram) (t : MType) (m : Bool) (v : MValue) →
    (elim (type_behind t m) [ None ↦ false | Some inner ↦ is_value program false inner v ]) ≡ true →
    (type_behind t m ≡ Some (inner_type t)) × (is_value program false (inner_type t) v ≡ true)
behind program (PointType true u) true v h = (refl, h)
behind program (PointType true u) false v h = absurd cc
behind program (PointType false u) true v h = absurd cc
behind program (PointType false u) false v h = (refl, h)
behind program BoolType m v h = absurd cc
behind program CharType m v h = absurd cc
behind program StrType m v h = absurd cc
behind program NeverType m v h = absurd cc
behind program (IntType kind) m v h = absurd cc
behind program (OpaqueType o ts) m v h = absurd cc
behind program (TupleType ts) m v h = absurd cc
behind program (SliceType t) m v h = absurd cc
behind program (ArrayType t n) m v h = absurd cc
behind program (NamedType o ts) m v h = absurd cc

-- a text behind a shared reference is written as the literal alone
point_cases : (m : Bool) (w : WrittenTree) →
    ((m ≡ false) × (text : List ℕ) × (w ≡ WrittenText text)) ⊎ (written_point m w ≡ WrittenPoint m w)
point_cases false (WrittenText text) = inl (refl, text, refl)
point_cases true w = inr refl
point_cases false (WrittenFlag b) = inr refl
point_cases false (WrittenChar c) = inr refl
point_cases false (WrittenByte b) = inr refl
point_cases false (WrittenInt negative size suffix) = inr refl
point_cases false (WrittenStr text) = inr refl
point_cases false WrittenOpaque = inr refl
point_cases false WrittenLater = inr refl
point_cases false WrittenUnseen = inr refl
point_cases false (WrittenPoint m w) = inr refl
point_cases false (WrittenTuple ws) = inr refl
point_cases false (WrittenRow ws) = inr refl
point_cases false (WrittenUnitForm path) = inr refl
point_cases false (WrittenTupleForm path ws) = inr refl
point_cases false (WrittenBraceForm path fs) = inr refl

-- what is there is what the test was made of
was_there : {A : Type 0} (b : Bool) (a c : A) → some_if b a ≡ Some c → a ≡ c
was_there true a c h = cc
was_there false a c h = absurd cc

point_again : (program : MProgram) (sure : Bool) (t : MType) (m : Bool) (v : MValue) (w : WrittenTree) →
    is_value program sure t (Point m v) ≡ true → type_behind t m ≡ Some (inner_type t) → meant program false (inner_type t) w ≡ Some v →
    meant program sure t (written_point m w) ≡ Some (Point m v)
point_again program sure t m v w h e again = by (point_cases m w)
  where
    by : ((m ≡ false) × (text : List ℕ) × (w ≡ WrittenText text)) ⊎ (written_point m w ≡ WrittenPoint m w) →
        meant program sure t (written_point m w) ≡ Some (Point m v)
    by (inl x) =
        let text = x.1 in
        let same : Text (chars text) ≡ v =
        was_there (is_value program false (inner_type t) (Text (chars text))) (Text (chars text)) v
        (ap (meant program false (inner_type t)) (sym x.2) ∙ again) in
        ap (λ b. meant program sure t (written_point b w)) x.0
        ∙ (ap (λ u. meant program sure t (written_point false u)) x.2
        ∙ (ap (λ u. if_value program sure t (Point false u)) same
        ∙ (ap (λ b. if_value program sure t (Point b v)) (sym x.0) ∙ there_if (is_value program sure t (Point m v)) (Point m v) h)))
    by (inr x) =
        ap (meant program sure t) x
        ∙ (ap (λ (o : Option MType). elim o [ None ↦ None | Some inner ↦ option_map (Point m) (meant program false inner w) ]) e
        ∙ ap (option_map (Point m)) again)

-- rows

-- a row of the type is of values of the items' type
within : (program : MProgram) (sure : Bool) (t : MType) (vs : MValues) →
    (elim (item_type t (length (values_list vs))) [ None ↦ false | Some item ↦ all_are_values program sure item vs ]) ≡ true →
    (item_type t (length (values_list vs)) ≡ Some (inner_type t)) × (all_are_values program sure (inner_type t) vs ≡ true)
within program sure (SliceType u) vs h = (refl, h)
within program sure (ArrayType u n) vs h = by (nat_eq (length (values_list vs)) n) h
  where
    by : (b : Bool) → (elim (some_if b u) [ None ↦ false | Some item ↦ all_are_values program sure item vs ]) ≡ true →
        (some_if b u ≡ Some u) × (all_are_values program sure u vs ≡ true)
    by true k = (refl, k)
    by false k = absurd cc
within program sure BoolType vs h = absurd cc
within program sure CharType vs h = absurd cc
within program sure StrType vs h = absurd cc
within program sure NeverType vs h = absurd cc
within program sure (IntType kind) vs h = absurd cc
within program sure (OpaqueType o ts) vs h = absurd cc
within program sure (TupleType ts) vs h = absurd cc
within program sure (PointType m t) vs h = absurd cc
within program sure (NamedType o ts) vs h = absurd cc

row_again : (program : MProgram) (sure : Bool) (t : MType) (vs : MValues) →
    item_type t (length (values_list vs)) ≡ Some (inner_type t) →
    meant_items program sure (inner_type t) (values_from (written_items program (inner_type t) vs)) ≡ Some (values_list vs) →
    meant program sure t (WrittenRow (values_from (written_items program (inner_type t) vs))) ≡ Some (Row vs)
row_again program sure t vs e again =
    let ws = values_from (written_items program (inner_type t) vs) in
    ap (λ n. elim (item_type t n) [ None ↦ None | Some item ↦ option_map row (meant_items program sure item ws) ]) (count_items program (inner_type t) vs)
    ∙ (ap (λ (o : Option MType). elim o [ None ↦ None | Some item ↦ option_map row (meant_items program sure item ws) ]) e
    ∙ (ap (option_map row) again ∙ ap (λ us. Some (Row us)) (values_back vs)))

-- nodes

no_parts : (program : MProgram) (sure : Bool) (vs : MValues) → are_values program sure no_types vs ≡ true → vs ≡ no_values
no_parts program sure no_values h = refl
no_parts program sure (more_values v vs) h = absurd cc

-- what the node of a variant owes of its parts: as parts of a list, and as fields
abbrev PartsAgain : MProgram → Bool → MValues → Type 0
PartsAgain program sure vs =
    (ts : List MType) → are_values program sure (types_of ts) vs ≡ true →
    meant_parts program sure ts (values_from (written_parts program ts vs)) ≡ Some (values_list vs)

-- each field is the first of its name
abbrev FieldsAreOwn : List MField → Type 0
FieldsAreOwn fields = (j : ℕ) (f : MField) → slice_get fields j ≡ Some f → position (λ (g : MField). bytes_eq f.name g.name) fields ≡ Some j

abbrev FieldsAgain : MProgram → Bool → MValues → Type 0
FieldsAgain program sure vs =
    (fields : List MField) → FieldsAreOwn fields → are_values program sure (types_of (map (λ (f : MField). f.type) fields)) vs ≡ true →
    meant_fields program sure fields (fields_from (written_fields fields (written_parts program (map (λ (f : MField). f.type) fields) vs)))
    ≡ Some (numbered 0 (values_list vs))

form_again : (program : MProgram) (sure : Bool) (t : MType) (k : ℕ) (v : MVariant) (vs : MValues) →
    form_named program t (form_name program t v.name) ≡ Some (k, v.form) →
    ((fields : List MField) → v.form ≡ BraceForm fields → FieldsAreOwn fields) →
    PartsAgain program sure vs → FieldsAgain program sure vs → are_values program sure (form_types v.form) vs ≡ true →
    meant program sure t (written_form (form_name program t v.name) v.form (written_parts program (types_list (form_types v.form)) vs)) ≡ Some (Node k vs)
form_again program sure t k v vs named own parts fields h = by v.form named own h
  where
    path : NameTree
    path = form_name program t v.name

    by : (form : MForm) → form_named program t path ≡ Some (k, form) → ((fs : List MField) → form ≡ BraceForm fs → FieldsAreOwn fs) →
        are_values program sure (form_types form) vs ≡ true →
        meant program sure t (written_form path form (written_parts program (types_list (form_types form)) vs)) ≡ Some (Node k vs)
    by UnitForm e o a = ap (λ p. option_map (λ j. node j []) (unit_of p)) e ∙ ap (λ us. Some (Node k us)) (sym (no_parts program sure vs a))
    by (TupleForm ts) e o a =
        let ws = λ (us : List MType). values_from (written_parts program us vs) in
        ap (λ us. meant program sure t (WrittenTupleForm path (ws us))) (types_back ts)
        ∙ (ap (λ p. elim (tuple_of p) [ None ↦ None | Some q ↦ option_map (node q.0) (meant_parts program sure q.1 (ws ts)) ]) e
        ∙ (ap (option_map (node k)) (parts ts a) ∙ ap (λ us. Some (Node k us)) (values_back vs)))
    by (BraceForm fs) e o a =
        let types = map (λ (f : MField). f.type) fs in
        let written = λ (us : List MType). fields_from (written_fields fs (written_parts program us vs)) in
        ap (λ us. meant program sure t (WrittenBraceForm path (written us))) (types_back types)
        ∙ (ap (λ p. elim (brace_of p) [ None ↦ None | Some q ↦ node_of_fields q.0 q.1 (meant_fields program sure q.1 (written types)) ]) e
        ∙ (ap (node_of_fields k fs) (fields fs (o fs refl) a)
        ∙ (ap (λ n. option_map (node k) (in_order 0 n (numbered 0 (values_list vs)))) (as_many program sure fs vs a)
        ∙ (ap (option_map (node k)) (taken_in_order (values_list vs)) ∙ ap (λ us. Some (Node k us)) (values_back vs)))))

-- what is left of the fields from one on
first_left : (fields : List MField) (i : ℕ) (f : MField) (rest : List MField) → drop i fields ≡ f ∷ rest →
    (slice_get fields i ≡ Some f) × (drop (suc i) fields ≡ rest)
first_left [] zero f rest h = absurd cc
first_left [] (suc i) f rest h = absurd cc
first_left (g ∷ gs) zero f rest h = (cc, cc)
first_left (g ∷ gs) (suc i) f rest h = first_left gs i f rest h

module _ (program : MProgram) (own : (t : MType) → AreOwn (variants_of program t)) where
  fields_own : (t : MType) (k : ℕ) (v : MVariant) → slice_get (variants_of program t) k ≡ Some v →
      (fields : List MField) → v.form ≡ BraceForm fields → FieldsAreOwn fields
  fields_own t k v there fields e j f at = named_place (λ (g : MField). g.name) fields j f ((own t).fields k v there fields e) at

  variant_again : (sure : Bool) (t : MType) (k : ℕ) (v : MVariant) (vs : MValues) → slice_get (variants_of program t) k ≡ Some v →
      PartsAgain program sure vs → FieldsAgain program sure vs → are_values program sure (form_types v.form) vs ≡ true →
      meant program sure t (written_variant program t (Some v) (written_parts program (types_list (form_types v.form)) vs)) ≡ Some (Node k vs)
  variant_again sure t k v vs there parts fields a =
      let named = form_found program t k v there (named_place (λ (u : MVariant). u.name) (variants_of program t) k v (own t).variants there) in
      form_again program sure t k v vs named (fields_own t k v there) parts fields a

  other_node : (sure : Bool) (t : MType) (k : ℕ) (vs : MValues) →
      node_types program t k ≡ variant_types (slice_get (variants_of program t) k) →
      ((ws : List WrittenTree) → written_node program t k ws ≡ written_variant program t (slice_get (variants_of program t) k) ws) →
      is_value program sure t (Node k vs) ≡ true → PartsAgain program sure vs → FieldsAgain program sure vs →
      meant program sure t (written_value program t (Node k vs)) ≡ Some (Node k vs)
  other_node sure t k vs e same h parts fields =
      ap (meant program sure t) (same (written_parts program (types_there (node_types program t k)) vs))
      ∙ (ap (λ o. meant program sure t (written_variant program t (slice_get (variants_of program t) k) (written_parts program (types_there o) vs))) e
      ∙ by (slice_get (variants_of program t) k) refl
      (sym (ap (λ (o : Option MTypes). elim o [ None ↦ false | Some types ↦ are_values program sure types vs ]) e) ∙ h))
    where
      by : (o : Option MVariant) → slice_get (variants_of program t) k ≡ o →
          (elim (variant_types o) [ None ↦ false | Some types ↦ are_values program sure types vs ]) ≡ true →
          meant program sure t (written_variant program t o (written_parts program (types_there (variant_types o)) vs)) ≡ Some (Node k vs)
      by None there a = absurd cc
      by (Some v) there a = variant_again sure t k v vs there parts fields a

  tuple_again : (sure : Bool) (ts : MTypes) (vs : MValues) → are_values program sure ts vs ≡ true → PartsAgain program sure vs →
      meant program sure (TupleType ts) (written_value program (TupleType ts) (Node 0 vs)) ≡ Some (Node 0 vs)
  tuple_again sure ts vs h parts =
      ap (option_map (node 0)) (parts (types_list ts) (ap (λ us. are_values program sure us vs) (list_back ts) ∙ h))
      ∙ ap (λ us. Some (Node 0 us)) (values_back vs)

  node_again : (sure : Bool) (t : MType) (k : ℕ) (vs : MValues) → is_value program sure t (Node k vs) ≡ true →
      PartsAgain program sure vs → FieldsAgain program sure vs → meant program sure t (written_value program t (Node k vs)) ≡ Some (Node k vs)
  node_again sure (TupleType ts) zero vs h p f = tuple_again sure ts vs h p
  node_again sure (TupleType ts) (suc k) vs h p f = other_node sure (TupleType ts) (suc k) vs refl (λ ws. refl) h p f
  node_again sure BoolType k vs h p f = other_node sure BoolType k vs refl (λ ws. refl) h p f
  node_again sure CharType k vs h p f = other_node sure CharType k vs refl (λ ws. refl) h p f
  node_again sure StrType k vs h p f = other_node sure StrType k vs refl (λ ws. refl) h p f
  node_again sure NeverType k vs h p f = other_node sure NeverType k vs refl (λ ws. refl) h p f
  node_again sure (IntType kind) k vs h p f = other_node sure (IntType kind) k vs refl (λ ws. refl) h p f
  node_again sure (OpaqueType o ts) k vs h p f = other_node sure (OpaqueType o ts) k vs refl (λ ws. refl) h p f
  node_again sure (PointType m t) k vs h p f = other_node sure (PointType m t) k vs refl (λ ws. refl) h p f
  node_again sure (SliceType t) k vs h p f = other_node sure (SliceType t) k vs refl (λ ws. refl) h p f
  node_again sure (ArrayType t n) k vs h p f = other_node sure (ArrayType t n) k vs refl (λ ws. refl) h p f
  node_again sure (NamedType o ts) k vs h p f = other_node sure (NamedType o ts) k vs refl (λ ws. refl) h p f

  mutual
    -- a value of the type that is written with its names means itself
    pub value_again : (sure : Bool) (t : MType) (v : MValue) → is_value program sure t v ≡ true →
        meant program sure t (written_value program t v) ≡ Some v
    value_again sure t (Flag b) h = there_if (is_value program sure t (Flag b)) (Flag b) h
    value_again sure t (Num n) h = number_again program sure t n h
    value_again sure t (Text cs) h = text_again program sure t cs h
    value_again sure t (Node k vs) h =
        node_again sure t k vs h (parts_again sure vs) (λ fields own_names a. fields_on sure vs fields 0 fields own_names refl a)
    value_again sure t (Point m v) h =
        let inner = behind program t m v h in
        point_again program sure t m v (written_value program (inner_type t) v) h inner.0 (value_again false (inner_type t) v inner.1)
    value_again sure t (Row vs) h =
        let items = within program sure t vs h in
        row_again program sure t vs items.0 (items_again sure (inner_type t) vs items.1)
    value_again sure t Thing h = there_if (is_value program sure t Thing) Thing h
    value_again sure t Later h = there_if (is_value program sure t Later) Later h
    value_again sure t Unseen h = there_if (is_value program sure t Unseen) Unseen h

    parts_again : (sure : Bool) (vs : MValues) → PartsAgain program sure vs
    parts_again sure no_values [] h = refl
    parts_again sure no_values (t ∷ ts) h = absurd cc
    parts_again sure (more_values v vs) [] h = absurd cc
    parts_again sure (more_values v vs) (t ∷ ts) h =
        let each = both (is_value program sure t v) (are_values program sure (types_of ts) vs) h in
        ap (λ o. in_front o (meant_parts program sure ts (values_from (written_parts program ts vs)))) (value_again sure t v each.0)
        ∙ ap (in_front (Some v)) (parts_again sure vs ts each.1)

    items_again : (sure : Bool) (t : MType) (vs : MValues) → all_are_values program sure t vs ≡ true →
        meant_items program sure t (values_from (written_items program t vs)) ≡ Some (values_list vs)
    items_again sure t no_values h = refl
    items_again sure t (more_values v vs) h =
        let each = both (is_value program sure t v) (all_are_values program sure t vs) h in
        ap (λ o. in_front o (meant_items program sure t (values_from (written_items program t vs)))) (value_again sure t v each.0)
        ∙ ap (in_front (Some v)) (items_again sure t vs each.1)

    fields_on : (sure : Bool) (vs : MValues) (fields : List MField) (i : ℕ) (fs : List MField) → FieldsAreOwn fields → drop i fields ≡ fs →
        are_values program sure (types_of (map (λ (f : MField). f.type) fs)) vs ≡ true →
        meant_fields program sure fields (fields_from (written_fields fs (written_parts program (map (λ (f : MField). f.type) fs) vs)))
        ≡ Some (numbered i (values_list vs))
    fields_on sure no_values fields i [] own_names e h = refl
    fields_on sure no_values fields i (f ∷ fs) own_names e h = absurd cc
    fields_on sure (more_values v vs) fields i [] own_names e h = absurd cc
    fields_on sure (more_values v vs) fields i (f ∷ fs) own_names e h =
        let each = both (is_value program sure f.type v) (are_values program sure (types_of (map (λ (g : MField). g.type) fs)) vs) h in
        let first = first_left fields i f fs e in
        let rest = meant_fields program sure fields (fields_from (written_fields fs (written_parts program (map (λ (g : MField). g.type) fs) vs))) in
        let found : field_found fields f.name ≡ Some (i, f.type) =
        ap (field_numbered fields) (own_names i f first.0)
        ∙ ap (λ (o : Option MField). elim o [ None ↦ None | Some g ↦ Some (i, g.type) ]) first.0 in
        ap (λ (o : Option (ℕ × MType)). elim o [ None ↦ None | Some g ↦ numbered_front g.0 (meant program sure g.1 (written_value program f.type v)) rest ]) found
        ∙ (ap (λ o. numbered_front i o rest) (value_again sure f.type v each.0)
        ∙ ap (numbered_front i (Some v)) (fields_on sure vs fields (suc i) fs own_names first.1 each.1))
