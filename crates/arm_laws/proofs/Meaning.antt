-- The pattern for a witness matches just the values of the type that its arm takes.
use Rattle.std.proofs.Common.{◌≡◌, ℕ, zero, suc, ◌+◌, ◌-◌, ℤ, Bool, true, false, ◌&&◌, ◌||◌, List, [], ◌∷◌, ◌++◌}
use Rattle.std.proofs.Common.{take, drop, replicate, length, cond, nat_eq, Option, Some, None, is_some, refl, sym}
use Rattle.std.proofs.Common.{ap, subst, ◌∙◌, arith}
use Rattle.std.specs.Prelude.{⊤, int_le, if◌then◌else◌}
use Rattle.std.specs.Ordering.{int_eq}
use Rattle.std.proofs.lemmas.Bool.Decides.{nat_tests}
use Rattle.std.proofs.lemmas.Int.{ints}
use mathlib.Core.Bool.{beq}
use Rattle.match_model.specs.declared.Mode.{Mode}
use Rattle.match_model.specs.declared.Mode.TheVariants.{Move}
use Rattle.match_model.specs.Texts.{text_eq}
use Rattle.match_model.specs.Types.{MType, TupleType, PointType, SliceType, ArrayType, NamedType, MTypes, no_types}
use Rattle.match_model.specs.Types.{more_types, types_list}
use Rattle.std.specs.Prelude.{pos, not}
use Rattle.match_model.specs.declared.Width.{Width}
use Rattle.match_model.specs.SourcePatterns.{written_range, least_end, greatest_end, low_written, high_written}
use Rattle.match_model.specs.Types.{CharType, IntType}
use Rattle.match_model.specs.Numbers.{is_from, is_up_to, closed, kind_range, numbers_of, has_number}
use Rattle.match_model.specs.Values.{Unseen}
use Rattle.arm_laws.specs.Meant.{number_at}
use Rattle.match_model.specs.Declarations.{MProgram, MItem, StructItem, EnumItem, OtherItem, declared, node_types}
use Rattle.match_model.specs.Numbers.{MEnd, Free, At, MRange, in_range}
use Rattle.match_model.specs.Constructors.{MShape, FixedShape, LongerShape, MCtor, PointCtor, FlagCtor, NumbersCtor}
use Rattle.match_model.specs.Constructors.{RowCtor, MSet, SingleSet, belongs, covers}
use Rattle.match_model.specs.OfType.{node_ctor, has_ctor, witnesses_are_of}
use Rattle.match_model.specs.RustTypes.{rust_context, rust_set, rust_arity, rust_sub, item_set, inner_type}
use Rattle.match_model.specs.Typing.{is_value, are_values, all_are_values, some_if}
use Rattle.match_model.specs.Values.{MValue, Flag, Num, Text, Node, Point, Row, MValues, no_values, more_values}
use Rattle.match_model.specs.Values.{values_list}
use Rattle.match_model.specs.Matching.{bare_if, span_way, bind_rest, middle_of, text_ways, parts_ways, field_ways}
use Rattle.match_model.specs.Matching.{items_ways, matchers, wild, are_parts, ways, to_move}
use Rattle.match_model.specs.Patterns.{NoRest, SomeRest, MPat, NumPat, FlagPat, SpanPat, FormPat, ListPat, MPats}
use Rattle.match_model.specs.Patterns.{numbers_in}
use Rattle.match_model.specs.Ways.{Way, under}
use Rattle.match_model.specs.Witness.{MWitness, AnyOf, LaterOf, FlagOf, SpanOf, TextOf, ElseOf, NodeOf, PointOf}
use Rattle.match_model.specs.Witness.{RowOf, MWitnesses, no_witnesses, more_witnesses, witnesses_list, slice_shape}
use Rattle.match_model.specs.Witness.{back_is_allowed, fits}
use Rattle.match_model.proofs.Basics.{both, untrue, nat_equal, int_equal, int_itself}
use Rattle.witness_names.specs.Named.{types_there}
use Rattle.arm_maker.proofs.Typed.{IsOfType, AreParts, AreItems, node_parts, point_part, row_items}
use Rattle.arm_laws.specs.TakingLaws.{MeantIsTaken}
use Rattle.arm_laws.specs.Meant.{numbers_meant, text_in, is_mutable, point_meant, numbered, node_meant, rest_meant}
use Rattle.arm_laws.specs.Meant.{meant, parts_meant, items_meant, is_referred, parts_referred, items_referred}
use Rattle.arm_laws.specs.Takes.{taken_by, takes, parts_take, items_take}
use Rattle.arm_laws.proofs.Matched.{some, some_map, all_match, items_alone, longer_some, pats_count}
use Rattle.arm_laws.proofs.Matched.{fields_are_parts, fields_all}

-- ---- values that are no references

abbrev is_ref : MValue → Bool
is_ref (Point m v) = true
is_ref _ = false

bare_some : (b : Bool) → some (bare_if b) ≡ b
bare_some true = refl
bare_some false = refl

one_some : (b : Bool) (w : Way) → some (if b then w ∷ [] else []) ≡ b
one_some true w = refl
one_some false w = refl

span_means : (r : MRange) (m : Mode) (v : MValue) → is_ref v ≡ false → some (ways (SpanPat 0 r) m v) ≡ fits (SpanOf r)
    v
span_means r m (Num x) n = one_some (in_range r x) (span_way 0 r)
span_means r m (Point k v) n = untrue (sym n)
span_means r m v n = refl

antisym : (a x : ℤ) → int_le a x ≡ true → int_le x a ≡ true → a ≡ x
antisym a x h k = grind (arith, ints)

itself_le : (a : ℤ) → int_le a a ≡ true
itself_le a = grind (arith, ints)

one_in : (a x : ℤ) → int_eq a x ≡ (int_le a x && int_le x a)
one_in a x = go (int_eq a x) (int_le a x) (int_le x a) refl refl refl
  where
    go : (e l h : Bool) → int_eq a x ≡ e → int_le a x ≡ l → int_le x a ≡ h → e ≡ (l && h)
    go true true true p q r = refl
    go true false h p q r = untrue (sym q ∙ subst (λ z. int_le a z ≡ true) (int_equal a x p) (itself_le a))
    go true true false p q r = untrue (sym r ∙ subst (λ z. int_le z a ≡ true) (int_equal a x p) (itself_le a))
    go false true true p q r = untrue (sym p ∙ subst (λ z. int_eq a z ≡ true) (antisym a x q r) (int_itself a))
    go false true false p q r = refl
    go false false h p q r = refl

number_means : (a b : ℤ) (m : Mode) (v : MValue) → a ≡ b → is_ref v ≡ false →
    some (ways (NumPat a) m v) ≡ fits (SpanOf (record { low = At a; high = At b })) v
number_means a b m (Num x) e n =
    bare_some (int_eq a x) ∙ one_in a x ∙ ap (λ z. int_le a x && int_le x z) e
number_means a b m (Point k v) e n = untrue (sym n)
number_means a b m v e n = refl

-- ---- numbers of a type

-- the value is a number
abbrev is_num : MValue → Bool
is_num (Num x) = true
is_num _ = false

abbrev IsNumberType : MType → Type 0
IsNumberType CharType = ⊤
IsNumberType (IntType kind) = ⊤
IsNumberType _ = ⊥

no_named_number : (o : Option MItem) (r : MRange) → belongs (item_set o) (NumbersCtor r) ≡ true → ⊥
no_named_number None r h = untrue h
no_named_number (Some (StructItem v)) r h = untrue h
no_named_number (Some OtherItem) r h = untrue h
no_named_number (Some (EnumItem name false [])) r h = untrue h
no_named_number (Some (EnumItem name true [])) r h = untrue h
no_named_number (Some (EnumItem name marked (v ∷ vs))) r h = untrue h

pub number_only : (program : MProgram) (t : MType) (r : MRange) → belongs (rust_set program t) (NumbersCtor r) ≡ true →
    IsNumberType t
number_only program CharType r h = tt
number_only program (IntType kind) r h = tt
number_only program (NamedType owner ts) r h = absurd (no_named_number (declared program owner) r h)
number_only program t r h = untrue h

num_only : (program : MProgram) (sure : Bool) (t : MType) (v : MValue) → IsNumberType t →
    is_value program sure t v ≡ true → is_num v ≡ true
num_only program sure CharType (Num x) i h = refl
num_only program sure CharType Unseen i h = unseen sure h
  where
    unseen : (b : Bool) → (not b && false) ≡ true → is_num Unseen ≡ true
    unseen true h = untrue h
    unseen false h = untrue h
num_only program sure CharType v i h = untrue h
num_only program sure (IntType kind) (Num x) i h = refl
num_only program sure (IntType kind) Unseen i h = unseen sure h
  where
    unseen : (b : Bool) → (not b && false) ≡ true → is_num Unseen ≡ true
    unseen true h = untrue h
    unseen false h = untrue h
num_only program sure (IntType kind) v i h = untrue h
num_only program sure t v i h = absurd i

or_not : (b : Bool) → (b || false) ≡ true → b ≡ true
or_not true h = refl
or_not false h = untrue h

from_zero : (x : ℤ) → int_le (pos 0xe000) x ≡ true → int_le (pos 0) x ≡ true
from_zero x h = grind (arith, ints)

up_to_last : (x : ℤ) → int_le x (pos 0xd7ff) ≡ true → int_le x (pos 0x10ffff) ≡ true
up_to_last x h = grind (arith, ints)

-- a number of the type is no lower than its least, and no higher than its greatest
least_from : (width : Width) (t : MType) (x : ℤ) → has_number width t x ≡ true →
    is_from (least_end (numbers_of width t)) x ≡ true
least_from width CharType x h = go (in_range (closed (pos 0) (pos 0xd7ff)) x) refl h
  where
    go : (b : Bool) → in_range (closed (pos 0) (pos 0xd7ff)) x ≡ b →
        (b || (in_range (closed (pos 0xe000) (pos 0x10ffff)) x || false)) ≡ true → int_le (pos 0) x ≡ true
    go true e h = (both (int_le (pos 0) x) (int_le x (pos 0xd7ff)) e).0
    go false e h =
        from_zero x (both (int_le (pos 0xe000) x) (int_le x (pos 0x10ffff))
        (or_not (in_range (closed (pos 0xe000) (pos 0x10ffff)) x) h)).0
least_from width (IntType kind) x h =
    let r = kind_range width kind in
    (both (is_from r.low x) (is_up_to r.high x) (or_not (in_range r x) h)).0
least_from width t x h = untrue h

greatest_up : (width : Width) (t : MType) (x : ℤ) → has_number width t x ≡ true →
    is_up_to (greatest_end (numbers_of width t)) x ≡ true
greatest_up width CharType x h = go (in_range (closed (pos 0) (pos 0xd7ff)) x) refl h
  where
    go : (b : Bool) → in_range (closed (pos 0) (pos 0xd7ff)) x ≡ b →
        (b || (in_range (closed (pos 0xe000) (pos 0x10ffff)) x || false)) ≡ true → int_le x (pos 0x10ffff) ≡ true
    go true e h = up_to_last x (both (int_le (pos 0) x) (int_le x (pos 0xd7ff)) e).1
    go false e h =
        (both (int_le (pos 0xe000) x) (int_le x (pos 0x10ffff))
        (or_not (in_range (closed (pos 0xe000) (pos 0x10ffff)) x) h)).1
greatest_up width (IntType kind) x h =
    let r = kind_range width kind in
    (both (is_from r.low x) (is_up_to r.high x) (or_not (in_range r x) h)).1
greatest_up width t x h = untrue h

low_same : (width : Width) (t : MType) (low : MEnd) (x : ℤ) → has_number width t x ≡ true →
    is_from (low_written (numbers_of width t) (number_at low)) x ≡ is_from low x
low_same width t Free x h = least_from width t x h
low_same width t (At a) x h = refl

high_same : (width : Width) (t : MType) (high : MEnd) (x : ℤ) → has_number width t x ≡ true →
    is_up_to (high_written (numbers_of width t) true (number_at high)) x ≡ is_up_to high x
high_same width t Free x h = greatest_up width t x h
high_same width t (At b) x h = refl

-- the range with its open ends closed fits the same values of the type
closed_fits : (program : MProgram) (sure : Bool) (t : MType) (low high : MEnd) (v : MValue) →
    is_value program sure t v ≡ true →
    fits (SpanOf (written_range program.width t (number_at low) true (number_at high))) v
    ≡ fits (SpanOf (record { low = low; high = high })) v
closed_fits program sure t low high (Num x) h =
    ap (λ b. b && is_up_to (high_written (numbers_of program.width t) true (number_at high)) x)
    (low_same program.width t low x h)
    ∙ ap (λ b. is_from low x && b) (high_same program.width t high x h)
closed_fits program sure t low high v h = refl

any_number : (v : MValue) → is_num v ≡ true → true ≡ fits (SpanOf (record { low = Free; high = Free })) v
any_number (Num x) h = refl
any_number v h = untrue h

numbers_mean : (program : MProgram) (sure : Bool) (t : MType) (low high : MEnd) (m : Mode) (v : MValue) →
    IsNumberType t → is_value program sure t v ≡ true → is_ref v ≡ false →
    some (ways (numbers_meant program.width t (record { low = low; high = high })) m v) ≡ fits
    (SpanOf (record { low = low; high = high })) v
numbers_mean program sure t Free Free m v i h n = any_number v (num_only program sure t v i h)
numbers_mean program sure t Free (At b) m v i h n =
    span_means (written_range program.width t None true (Some b)) m v n
    ∙ closed_fits program sure t Free (At b) v h
numbers_mean program sure t (At a) Free m v i h n =
    span_means (written_range program.width t (Some a) true None) m v n
    ∙ closed_fits program sure t (At a) Free v h
numbers_mean program sure t (At a) (At b) m v i h n = go (int_eq a b) refl
  where
    go : (c : Bool) → int_eq a b ≡ c →
        some (ways (cond c (NumPat a) (SpanPat 0 (record { low = At a; high = At b }))) m v)
        ≡ fits (SpanOf (record { low = At a; high = At b })) v
    go true e = number_means a b m v (int_equal a b e) n
    go false e = span_means (record { low = At a; high = At b }) m v n

flag_means : (b : Bool) (m : Mode) (v : MValue) → is_ref v ≡ false → some (ways (FlagPat b) m v) ≡ fits (FlagOf b) v
flag_means b m (Flag c) n = bare_some (beq b c)
flag_means b m (Point k v) n = untrue (sym n)
flag_means b m v n = refl

text_means : (t : List ℕ) (v : MValue) → some (text_ways t (Point false v)) ≡ fits (TextOf t) v
text_means t (Text u) = bare_some (text_eq t u)
text_means t v = refl

pub text_is : (w : MWitness) (t : List ℕ) → text_in w ≡ Some t → w ≡ TextOf t
text_is (TextOf u) t e = let s : u ≡ t = cc in ap TextOf s
text_is w t e = absurd (none e)
  where
    none : None ≡ Some t → ⊥
    none e = cc

and_same : (a b c d : Bool) → a ≡ b → c ≡ d → (a && c) ≡ (b && d)
and_same a b c d e f = ap (λ x. x && c) e ∙ ap (λ x. b && x) f

-- ---- a reference's pattern at other values, and a form's

point_none : (mutable : Bool) (o : Option (List ℕ)) (p : MPat) (m : Mode) (v : MValue) → is_ref v ≡ false →
    some (ways (point_meant mutable o p) m v) ≡ false
point_none true o p m (Point k v) n = untrue (sym n)
point_none true o p m v n = refl
point_none false None p m (Point k v) n = untrue (sym n)
point_none false None p m v n = refl
point_none false (Some t) p m (Point k v) n = untrue (sym n)
point_none false (Some t) p m v n = refl

-- the value has no parts
abbrev is_plain : MValue → Bool
is_plain (Node k parts) = false
is_plain (Row items) = false
is_plain (Point m v) = false
is_plain _ = true

node_none : (t : MType) (k : ℕ) (ps : MPats) (m : Mode) (v : MValue) → is_plain v ≡ true →
    some (ways (node_meant t k ps) m v) ≡ false
node_none (TupleType ts) k ps m (Node j parts) n = untrue n
node_none (TupleType ts) k ps m (Row items) n = untrue n
node_none (TupleType ts) k ps m (Point i v) n = untrue n
node_none (TupleType ts) k ps m v n = refl
node_none t k ps m (Node j parts) n = untrue n
node_none t k ps m (Row items) n = untrue n
node_none t k ps m (Point i v) n = untrue n
node_none t k ps m v n = refl

-- ---- types and values

abbrev is_point : MCtor → Bool
is_point PointCtor = true
is_point _ = false

abbrev IsRowType : MType → Type 0
IsRowType (SliceType t) = ⊤
IsRowType (ArrayType t n) = ⊤
IsRowType _ = ⊥

no_named_row : (o : Option MItem) (s : MShape) → belongs (item_set o) (RowCtor s) ≡ true → ⊥
no_named_row None s h = untrue h
no_named_row (Some (StructItem v)) s h = untrue h
no_named_row (Some OtherItem) s h = untrue h
no_named_row (Some (EnumItem name false [])) s h = untrue h
no_named_row (Some (EnumItem name true [])) s h = untrue h
no_named_row (Some (EnumItem name marked (v ∷ vs))) s h = untrue h

node_no_point : (set : MSet) (k : ℕ) → is_point (node_ctor set k) ≡ true → ⊥
node_no_point SingleSet zero h = untrue h
node_no_point SingleSet (suc k) h = untrue h
node_no_point set k h = untrue h

take_whole : {A : Type 0} (xs : List A) → take (length xs) xs ≡ xs
take_whole [] = refl
take_whole (x ∷ xs) = ap (λ ys. x ∷ ys) (take_whole xs)

drop_whole : {A : Type 0} (xs : List A) → drop (length xs) xs ≡ []
drop_whole [] = refl
drop_whole (x ∷ xs) = drop_whole xs

module _ (program : MProgram) where
  row_only : (t : MType) (s : MShape) → belongs (rust_set program t) (RowCtor s) ≡ true → IsRowType t
  row_only (SliceType t) s h = tt
  row_only (ArrayType t n) s h = tt
  row_only (NamedType owner ts) s h = absurd (no_named_row (declared program owner) s h)
  row_only t s h = untrue h

  -- only a reference type has references
  no_ref : (t : MType) (c : MCtor) (sure : Bool) (v : MValue) → belongs (rust_set program t) c ≡ true →
      (is_point c ≡ true → ⊥) → is_value program sure t v ≡ true → is_ref v ≡ false
  no_ref (PointType m u) PointCtor sure v d n h = absurd (n refl)
  no_ref (PointType m u) c sure v d n h = untrue d
  no_ref t c sure (Point k v) d n h = untrue h
  no_ref t c sure v d n h = refl

  row_no_node : (t : MType) (sure : Bool) (j : ℕ) (parts : MValues) → IsRowType t →
      is_value program sure t (Node j parts) ≡ true → ⊥
  row_no_node (SliceType t) sure j parts r h = untrue h
  row_no_node (ArrayType t n) sure j parts r h = untrue h
  row_no_node t sure j parts r h = absurd r

  -- values of types, and of one type
  abbrev AreValues : Bool → List MType → List MValue → Type 0
  AreValues sure [] vs = ⊤
  AreValues sure (t ∷ ts) [] = ⊤
  AreValues sure (t ∷ ts) (v ∷ vs) = (is_value program sure t v ≡ true) × AreValues sure ts vs

  abbrev AreAll : Bool → MType → List MValue → Type 0
  AreAll sure t [] = ⊤
  AreAll sure t (v ∷ vs) = (is_value program sure t v ≡ true) × AreAll sure t vs

  values_are : (sure : Bool) (ts : MTypes) (vs : MValues) → are_values program sure ts vs ≡ true →
      AreValues sure (types_list ts) (values_list vs) × (length (values_list vs) ≡ length (types_list ts))
  values_are sure no_types no_values h = (tt, refl)
  values_are sure no_types (more_values v vs) h = untrue h
  values_are sure (more_types t ts) no_values h = untrue h
  values_are sure (more_types t ts) (more_values v vs) h =
      let b = both (is_value program sure t v) (are_values program sure ts vs) h in
      let r = values_are sure ts vs b.1 in
      ((b.0, r.0), ap suc r.1)

  parts_are : (sure : Bool) (o : Option MTypes) (vs : MValues) →
      (elim o [ None ↦ false | Some types ↦ are_values program sure types vs ]) ≡ true →
      AreValues sure (types_there o) (values_list vs) × (length (values_list vs) ≡ length (types_there o))
  parts_are sure None vs h = untrue h
  parts_are sure (Some ts) vs h = values_are sure ts vs h

  all_are : (sure : Bool) (t : MType) (vs : MValues) → all_are_values program sure t vs ≡ true → AreAll sure t
      (values_list vs)
  all_are sure t no_values h = tt
  all_are sure t (more_values v vs) h =
      let b = both (is_value program sure t v) (all_are_values program sure t vs) h in (b.0, all_are sure t vs b.1)

  items_are : (sure : Bool) (t : MType) (vs : MValues) → is_value program sure t (Row vs) ≡ true →
      AreAll sure (inner_type t) (values_list vs)
  items_are sure (SliceType t) vs h = all_are sure t vs h
  items_are sure (ArrayType t n) vs h = go (nat_eq (length (values_list vs)) n) h
    where
      go : (b : Bool) → (elim (some_if b t) [ None ↦ false | Some item ↦ all_are_values program sure item vs ]) ≡ true
          →
          AreAll sure t (values_list vs)
      go true h = all_are sure t vs h
      go false h = untrue h
  items_are sure t vs h = untrue h

  all_take : (sure : Bool) (t : MType) (n : ℕ) (vs : List MValue) → AreAll sure t vs → AreAll sure t (take n vs)
  all_take sure t zero vs h = tt
  all_take sure t (suc n) [] h = tt
  all_take sure t (suc n) (v ∷ vs) h = (h.0, all_take sure t n vs h.1)

  all_drop : (sure : Bool) (t : MType) (n : ℕ) (vs : List MValue) → AreAll sure t vs → AreAll sure t (drop n vs)
  all_drop sure t zero vs h = h
  all_drop sure t (suc n) [] h = tt
  all_drop sure t (suc n) (v ∷ vs) h = all_drop sure t n vs h.1

  -- as many patterns as witnesses
  parts_count : (ts : List MType) (ws : MWitnesses) → AreParts program ts ws → pats_count (parts_meant program ts ws)
      ≡ length ts
  parts_count [] no_witnesses d = refl
  parts_count [] (more_witnesses w ws) d = absurd d
  parts_count (t ∷ ts) no_witnesses d = absurd d
  parts_count (t ∷ ts) (more_witnesses w ws) d = ap suc (parts_count ts ws d.1)

  items_count : (t : MType) (ws : MWitnesses) (m : Mode) →
      length (matchers to_move (items_meant program t ws) m) ≡ length (witnesses_list ws)
  items_count t no_witnesses m = refl
  items_count t (more_witnesses w ws) m = ap suc (items_count t ws m)

  -- ---- nodes

  -- how the parts match, where they do as they are taken
  abbrev PartsMean : List MType → MWitnesses → List MValue → Type 0
  PartsMean ts ws vs = (m : Mode) → all_match m (parts_meant program ts ws) vs ≡ parts_take program ts ws vs

  form_means : (k : ℕ) (ps : MPats) (m : Mode) (j : ℕ) (parts : MValues) (b : Bool) →
      (k ≡ j → (length (values_list parts) ≡ pats_count ps) × (all_match m ps (values_list parts) ≡ b)) →
      some (ways (FormPat k (numbered 0 ps)) m (Node j parts)) ≡ (nat_eq k j && b)
  form_means k ps m j parts b f = go (nat_eq k j) refl
    where
      there : length (values_list parts) ≡ pats_count ps →
          are_parts (numbers_in (numbered 0 ps)) (length (values_list parts)) ≡ true
      there l = ap (are_parts (numbers_in (numbered 0 ps))) l ∙ fields_are_parts ps

      go : (t : Bool) → nat_eq k j ≡ t →
          some (if t && are_parts (numbers_in (numbered 0 ps)) (length (values_list parts))
          then parts_ways (λ i u. field_ways to_move (numbered 0 ps) m i u) 0 (values_list parts) else []) ≡ (t && b)
      go false e = refl
      go true e =
          let r = f (nat_equal k j e) in
          ap (λ c. some (if c then parts_ways (λ i u. field_ways to_move (numbered 0 ps) m i u) 0 (values_list parts)
          else [])) (there r.0)
          ∙ fields_all m ps (values_list parts) r.0 ∙ r.1

  node_means : (sure : Bool) (t : MType) (k : ℕ) (ws : MWitnesses) (m : Mode) (j : ℕ) (parts : MValues) →
      IsOfType program t (NodeOf k ws) → is_value program sure t (Node j parts) ≡ true →
      (AreValues sure (types_there (node_types program t k)) (values_list parts) →
      PartsMean (types_there (node_types program t k)) ws (values_list parts)) →
      some (ways (node_meant t k (parts_meant program (types_there (node_types program t k)) ws)) m (Node j parts))
      ≡ (nat_eq k j && parts_take program (types_there (node_types program t k)) ws (values_list parts))
  node_means sure (TupleType ts) zero ws m zero parts d h f =
      some_map (bind_rest to_move NoRest m
      (middle_of (length (matchers to_move (parts_meant program (types_list ts) ws) m)) 0 (values_list parts)))
      (items_ways (matchers to_move (parts_meant program (types_list ts) ws) m ++ []) 0 (values_list parts))
      ∙ items_alone m (parts_meant program (types_list ts) ws) 0 (values_list parts)
      ∙ f (values_are sure ts parts h).0 m
  node_means sure (TupleType ts) zero ws m (suc j) parts d h f = untrue h
  node_means sure (TupleType ts) (suc k) ws m j parts d h f = untrue d
  node_means sure t k ws m j parts d h f =
      form_means k (parts_meant program (types_there (node_types program t k)) ws) m j parts
      (parts_take program (types_there (node_types program t k)) ws (values_list parts)) there
    where
      there : k ≡ j →
          (length (values_list parts) ≡ pats_count (parts_meant program (types_there (node_types program t k)) ws))
          × (all_match m (parts_meant program (types_there (node_types program t k)) ws) (values_list parts)
          ≡ parts_take program (types_there (node_types program t k)) ws (values_list parts))
      there e =
          let a = parts_are sure (node_types program t k) parts
          (subst (λ i. is_value program sure t (Node i parts) ≡ true) (sym e) h) in
          (a.1 ∙ sym (parts_count (types_there (node_types program t k)) ws (node_parts program t k ws d)), f a.0 m)

  node_row : (sure : Bool) (t : MType) (k : ℕ) (ps : MPats) (m : Mode) (vs : MValues) →
      is_value program sure t (Row vs) ≡ true → some (ways (node_meant t k ps) m (Row vs)) ≡ false
  node_row sure (TupleType ts) k ps m vs h = untrue h
  node_row sure t k ps m vs h = refl

  -- ---- rows

  take_length : (t : MType) (ws : MWitnesses) (vs : List MValue) → items_take program t ws vs ≡ true →
      length vs ≡ length (witnesses_list ws)
  take_length t no_witnesses [] h = refl
  take_length t no_witnesses (v ∷ vs) h = untrue h
  take_length t (more_witnesses w ws) [] h = untrue h
  take_length t (more_witnesses w ws) (v ∷ vs) h =
      ap suc (take_length t ws vs (both (takes program t w v) (items_take program t ws vs) h).1)

  -- a row of one length
  fixed_taken : (t : MType) (ws : MWitnesses) (vs : List MValue) →
      items_take program t ws vs
      ≡ (covers (FixedShape (length (witnesses_list ws) + 0)) (length vs)
      && (items_take program t ws (take (length (witnesses_list ws)) vs) && items_take program t no_witnesses
      (drop (length vs - 0) vs)))
  fixed_taken t ws vs = go (nat_eq (length (witnesses_list ws) + 0) (length vs)) refl
    where
      with_true : (b : Bool) → b ≡ (b && true)
      with_true true = refl
      with_true false = refl

      none : (b : Bool) → items_take program t ws vs ≡ b → nat_eq (length (witnesses_list ws) + 0) (length vs) ≡ false
          → b ≡ false
      none false e n = refl
      none true e n =
          let l = take_length t ws vs e in
          let same : nat_eq (length (witnesses_list ws) + 0) (length vs) ≡ true = grind (arith, nat_tests, l) in
          untrue (sym n ∙ same)

      go : (b : Bool) → nat_eq (length (witnesses_list ws) + 0) (length vs) ≡ b →
          items_take program t ws vs
          ≡ (b && (items_take program t ws (take (length (witnesses_list ws)) vs) && items_take program t no_witnesses
          (drop (length vs - 0) vs)))
      go false e = none (items_take program t ws vs) refl e
      go true e =
          let q = nat_equal (length (witnesses_list ws) + 0) (length vs) e in
          let n : length vs ≡ length (witnesses_list ws) = omega (arith, q) in
          let z : length vs ≡ length vs - 0 = omega arith in
          with_true (items_take program t ws vs)
          ∙ and_same (items_take program t ws vs) (items_take program t ws (take (length (witnesses_list ws)) vs)) true
          (items_take program t no_witnesses (drop (length vs - 0) vs))
          (ap (items_take program t ws) (sym (take_whole vs) ∙ ap (λ i. take i vs) n))
          (ap (items_take program t no_witnesses) (sym (drop_whole vs) ∙ ap (λ i. drop i vs) z))

  -- the constructor of a row, and that it may have items at its back
  row_ctor : (t : MType) (front : MWitnesses) (longer : Bool) (back : MWitnesses) → IsOfType program t
      (RowOf front longer back) →
      (belongs (rust_set program t) (RowCtor (slice_shape (length (witnesses_list front)) longer
      (length (witnesses_list back)))) ≡ true)
      × (back_is_allowed longer (length (witnesses_list back)) ≡ true)
  row_ctor t front longer back d =
      let n = length (witnesses_list front) in
      let k = length (witnesses_list back) in
      let c : MCtor = RowCtor (slice_shape n longer k) in
      both (has_ctor (rust_context program) t c) (back_is_allowed longer k)
      (both (has_ctor (rust_context program) t c && back_is_allowed longer k)
      (witnesses_are_of (rust_context program) (λ i. inner_type t) 0 front && witnesses_are_of (rust_context program)
      (λ i. inner_type t) n back) d).0

  -- how the items match, where they do as they are taken
  abbrev ItemsMean : MType → MWitnesses → List MValue → Type 0
  ItemsMean t ws vs = (m : Mode) → all_match m (items_meant program t ws) vs ≡ items_take program t ws vs

  row_means : (t : MType) (front : MWitnesses) (longer : Bool) (back : MWitnesses) (m : Mode) (items : MValues) →
      back_is_allowed longer (length (witnesses_list back)) ≡ true →
      ((n : ℕ) → ItemsMean t front (take n (values_list items))) →
      ((n : ℕ) → ItemsMean t back (drop n (values_list items))) →
      some (ways (ListPat (items_meant program t front) (rest_meant longer) (items_meant program t back)) m
      (Row items))
      ≡ (covers (slice_shape (length (witnesses_list front)) longer (length (witnesses_list back)))
      (length (values_list items))
      && (items_take program t front (take (length (witnesses_list front)) (values_list items))
      && items_take program t back (drop (length (values_list items) - length (witnesses_list back))
      (values_list items))))
  row_means t front false no_witnesses m items a hf hb =
      let vs = values_list items in
      some_map
      (bind_rest to_move NoRest m (middle_of (length (matchers to_move (items_meant program t front) m)) 0 vs))
      (items_ways (matchers to_move (items_meant program t front) m ++ []) 0 vs)
      ∙ items_alone m (items_meant program t front) 0 vs
      ∙ (ap (all_match m (items_meant program t front)) (sym (take_whole vs)) ∙ hf (length vs) m ∙ ap
      (items_take program t front) (take_whole vs))
      ∙ fixed_taken t front vs
  row_means t front false (more_witnesses w ws) m items a hf hb =
      let n : nat_eq (suc (length (witnesses_list ws))) 0 ≡ false = grind (arith, nat_tests) in untrue (sym n ∙ a)
  row_means t front true back m items a hf hb =
      let vs = values_list items in
      let n = length vs in
      let f = length (witnesses_list front) in
      let b = length (witnesses_list back) in
      let ps = items_meant program t front in
      let qs = items_meant program t back in
      let fs = matchers to_move ps m in
      let bs = matchers to_move qs m in
      some_map (bind_rest to_move SomeRest m (middle_of (length fs) (length bs) vs))
      (items_ways (fs ++ (replicate (n - (length fs + length bs)) wild ++ bs)) 0 vs)
      ∙ longer_some m ps qs (length fs) (length bs) vs refl refl
      ∙ ap (λ i. covers (LongerShape i (length bs)) n && (all_match m ps (take i vs) && all_match m qs
      (drop (n - length bs) vs)))
      (items_count t front m)
      ∙ ap (λ i. covers (LongerShape f i) n && (all_match m ps (take f vs) && all_match m qs (drop (n - i) vs)))
      (items_count t back m)
      ∙ ap (λ x. covers (LongerShape f b) n && x)
      (and_same (all_match m ps (take f vs)) (items_take program t front (take f vs))
      (all_match m qs (drop (n - b) vs))
      (items_take program t back (drop (n - b) vs)) (hf f m) (hb (n - b) m))

  shared_means : (u : MType) (w : MWitness) (m : Mode) (x : MValue) (o : Option (List ℕ)) → text_in w ≡ o →
      (is_some o || is_referred program u w) ≡ true →
      (is_referred program u w ≡ true → some (ways (meant program u w) Move x) ≡ takes program u w x) →
      some (ways (point_meant false o (meant program u w)) m (Point false x)) ≡ takes program u w x
  shared_means u w m x None e r f = some_map (under 0) (ways (meant program u w) Move x) ∙ f r
  shared_means u w m x (Some t) e r f =
      text_means t x ∙ ap (λ z. takes program u z x) (sym (text_is w t e))

  mutual
    pub means : (sure : Bool) (t : MType) (w : MWitness) (m : Mode) (v : MValue) → IsOfType program t w →
        is_referred program t w ≡ true → is_value program sure t v ≡ true →
        some (ways (meant program t w) m v) ≡ takes program t w v
    means sure t AnyOf m v d r h = refl
    means sure t LaterOf m v d r h = refl
    means sure t (ElseOf ts) m v d r h = refl
    means sure t (TextOf u) m v d r h = untrue r
    means sure t (FlagOf b) m v d r h = flag_means b m v (no_ref t (FlagCtor b) sure v d (λ e. untrue e) h)
    means sure t (SpanOf q) m v d r h =
        numbers_mean program sure t (taken_by t q).low (taken_by t q).high m v (number_only program t q d) h
        (no_ref t (NumbersCtor q) sure v d (λ e. untrue e) h)
    means sure t (NodeOf k ws) m (Node j parts) d r h =
        node_means sure t k ws m j parts d h
        (λ q i. parts_mean sure (types_there (node_types program t k)) ws i (values_list parts)
        (node_parts program t k ws d) r q)
    means sure t (NodeOf k ws) m (Row items) d r h =
        node_row sure t k (parts_meant program (types_there (node_types program t k)) ws) m items h
    means sure t (NodeOf k ws) m (Point i v) d r h =
        let c = node_ctor (rust_set program t) k in
        let b = both (has_ctor (rust_context program) t c)
        (nat_eq (length (witnesses_list ws)) (rust_arity program c t) && witnesses_are_of (rust_context program)
        (rust_sub program c t) 0 ws) d in
        untrue (sym (no_ref t c sure (Point i v) b.0 (node_no_point (rust_set program t) k) h))
    means sure t (NodeOf k ws) m v d r h =
        node_none t k (parts_meant program (types_there (node_types program t k)) ws) m v refl
    means sure (PointType true u) (PointOf w) m (Point true x) d r h =
        some_map (under 0) (ways (meant program u w) Move x)
        ∙ means false u w Move x (point_part program (PointType true u) w d) r h
    means sure (PointType true u) (PointOf w) m (Point false x) d r h = untrue h
    means sure (PointType false u) (PointOf w) m (Point true x) d r h = untrue h
    means sure (PointType false u) (PointOf w) m (Point false x) d r h =
        shared_means u w m x (text_in w) refl r
        (λ q. means false u w Move x (point_part program (PointType false u) w d) q h)
    means sure t (PointOf w) m (Point k x) d r h = untrue h
    means sure t (PointOf w) m v d r h = point_none (is_mutable t) (text_in w) (meant program (inner_type t) w) m v
        refl
    means sure t (RowOf front longer back) m (Row items) d r h =
        let vs = values_list items in
        let i = row_items program t front longer back d in
        let c = row_ctor t front longer back d in
        let b = both (items_referred program (inner_type t) front) (items_referred program (inner_type t) back) r in
        let a = items_are sure t items h in
        row_means (inner_type t) front longer back m items c.1
        (λ n k. items_mean sure (inner_type t) front k (take n vs) i.0 b.0 (all_take sure (inner_type t) n vs a))
        (λ n k. items_mean sure (inner_type t) back k (drop n vs) i.1 b.1 (all_drop sure (inner_type t) n vs a))
    means sure t (RowOf front longer back) m (Node j parts) d r h =
        absurd (row_no_node t sure j parts
        (row_only t (slice_shape (length (witnesses_list front)) longer (length (witnesses_list back)))
        (row_ctor t front longer back d).0) h)
    means sure t (RowOf front longer back) m (Point k x) d r h =
        untrue (sym (no_ref t
        (RowCtor (slice_shape (length (witnesses_list front)) longer (length (witnesses_list back)))) sure (Point k x)
        (row_ctor t front longer back d).0 (λ e. untrue e) h))
    means sure t (RowOf front longer back) m v d r h = refl

    parts_mean : (sure : Bool) (ts : List MType) (ws : MWitnesses) (m : Mode) (vs : List MValue) → AreParts program ts
        ws →
        parts_referred program ts ws ≡ true → AreValues sure ts vs →
        all_match m (parts_meant program ts ws) vs ≡ parts_take program ts ws vs
    parts_mean sure [] no_witnesses m [] d r h = refl
    parts_mean sure [] no_witnesses m (v ∷ vs) d r h = refl
    parts_mean sure [] (more_witnesses w ws) m vs d r h = absurd d
    parts_mean sure (t ∷ ts) no_witnesses m vs d r h = absurd d
    parts_mean sure (t ∷ ts) (more_witnesses w ws) m [] d r h = refl
    parts_mean sure (t ∷ ts) (more_witnesses w ws) m (v ∷ vs) d r h =
        let b = both (is_referred program t w) (parts_referred program ts ws) r in
        and_same (some (ways (meant program t w) m v)) (takes program t w v)
        (all_match m (parts_meant program ts ws) vs)
        (parts_take program ts ws vs) (means sure t w m v d.0 b.0 h.0) (parts_mean sure ts ws m vs d.1 b.1 h.1)

    items_mean : (sure : Bool) (t : MType) (ws : MWitnesses) (m : Mode) (vs : List MValue) → AreItems program t ws →
        items_referred program t ws ≡ true → AreAll sure t vs →
        all_match m (items_meant program t ws) vs ≡ items_take program t ws vs
    items_mean sure t no_witnesses m [] d r h = refl
    items_mean sure t no_witnesses m (v ∷ vs) d r h = refl
    items_mean sure t (more_witnesses w ws) m [] d r h = refl
    items_mean sure t (more_witnesses w ws) m (v ∷ vs) d r h =
        let b = both (is_referred program t w) (items_referred program t ws) r in
        and_same (some (ways (meant program t w) m v)) (takes program t w v)
        (all_match m (items_meant program t ws) vs)
        (items_take program t ws vs) (means sure t w m v d.0 b.0 h.0) (items_mean sure t ws m vs d.1 b.1 h.1)

pub meant_is_taken : MeantIsTaken
meant_is_taken program sure t w v d r h = means program sure t w Move v d r h
