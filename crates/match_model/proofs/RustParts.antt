-- A tree that a constructor of a Rust type builds is a value exactly where its parts are.
use Rattle.std.proofs.Common.{◌≡◌, ◌≢◌, ◌↔◌, ◌<◌, nat_lt, ◌+◌, ◌^◌, ℤ, inl, inr, ℕ, zero, suc, Bool, true, false, ◌&&◌, ◌||◌, List, [], ◌∷◌, Option, Some, None, is_some, nat_eq, length, refl, ap, ◌∙◌, sym, arith, slice_get, add-zero, lit<}
use Rattle.std.proofs.lemmas.Bool.Decides.{nat_tests}
use Rattle.std.specs.List.{list_all}
use Rattle.match_model.specs.Types.{MOwner, DeclaredItem, OptionOwner, ResultOwner, MOpaque, StringName, F32Name, F64Name, BoxName, VecName, RcName, ArcName, ParameterName, MType, BoolType, CharType, StrType, NeverType, IntType, OpaqueType, TupleType, PointType, SliceType, ArrayType, NamedType, MTypes, no_types, more_types, types_list}
use Rattle.match_model.specs.Declarations.{MVariant, MItem, StructItem, EnumItem, OtherItem, MProgram, node_types, item_types, variant_types, item_is_marked, is_marked, declared, argument, parameter, filled, filled_all, opaque_or}
use Rattle.match_model.specs.Values.{MValue, Flag, Num, Text, Node, Point, Row, Later, MValues, no_values, more_values, values_list, parts_of}
use Rattle.match_model.specs.Texts.{is_scalar}
use Rattle.match_model.specs.Numbers.{has_number}
use Rattle.match_model.specs.Typing.{is_value, are_values, all_are_values, is_bool, is_str, item_type, some_if}
use Rattle.match_model.specs.Constructors.{MCtor, SingleCtor, PointCtor, LaterCtor, OtherTextCtor, VariantCtor, FlagCtor, NumbersCtor, TextCtor, RowCtor, WildCtor, OrCtor, MSet, PointSet, Elementary, OneSingle, OnePoint, OneLater, OneVariant, OneFlag, OneNumber, OneText, OneLength, elementary_ctor, builds_one, is_of_set}
use Rattle.match_model.specs.ContextLaws.{PartsLaw, PartsAre, ArityIs, TypeFixesParts, parts_count}
use Rattle.match_model.specs.RustTypes.{rust_set, item_set, rust_context, rust_sub, rust_arity, count_of_types, part_type, type_or, inner_type, is_type, are_types, opaque_arguments, IsSoundProgram, RustValue}
use Rattle.match_model.specs.Emptiness.{IsRustType}
use Rattle.match_model.proofs.RustValues.{one_number}
use Rattle.match_model.proofs.Basics.{both, and_true, nat_equal, text_equal, filled_count, named_there, named_some}

untrue : false ≡ true → ⊥
untrue e = cc

argument_is : (program : MProgram) (args : MTypes) (n : ℕ) → are_types program args ≡ true → is_type program (argument args n) ≡ true
argument_is program no_types n h = refl
argument_is program (more_types t ts) zero h = (both _ _ h).0
argument_is program (more_types t ts) (suc n) h = argument_is program ts n (both (is_type program t) _ h).1

counted_again : (n m k : ℕ) → n ≡ m → nat_eq m k ≡ true → nat_eq n k ≡ true
counted_again n m k e h = rw e h

module _ (program : MProgram) (args : MTypes) (fine : are_types program args ≡ true) where
  opaque_filled : (name : MOpaque) (ts : MTypes) → are_types program ts ≡ true → nat_eq (length (types_list ts)) (opaque_arguments name) ≡ true →
      is_type program (opaque_or args name ts) ≡ true
  opaque_filled (ParameterName n) ts h k = argument_is program args n fine
  opaque_filled StringName ts h k = and_true _ _ h k
  opaque_filled F32Name ts h k = and_true _ _ h k
  opaque_filled F64Name ts h k = and_true _ _ h k
  opaque_filled BoxName ts h k = and_true _ _ h k
  opaque_filled VecName ts h k = and_true _ _ h k
  opaque_filled RcName ts h k = and_true _ _ h k
  opaque_filled ArcName ts h k = and_true _ _ h k

  mutual
    -- arguments in the place of parameters make types of types
    pub filled_is : (t : MType) → is_type program t ≡ true → is_type program (filled args t) ≡ true
    filled_is BoolType d = refl
    filled_is CharType d = refl
    filled_is StrType d = refl
    filled_is NeverType d = refl
    filled_is (IntType kind) d = refl
    filled_is (OpaqueType name ts) d =
        let b = both _ _ d in
        opaque_filled name (filled_all args ts) (all_filled ts b.0)
        (counted_again (length (types_list (filled_all args ts))) (length (types_list ts)) (opaque_arguments name) (filled_count args ts) b.1)
    filled_is (TupleType ts) d =
        let b = both _ _ d in
        and_true _ _ (all_filled ts b.0) (ap (λ n. nat_lt n (2 ^ 32)) (filled_count args ts) ∙ b.1)
    filled_is (PointType m t) d = filled_is t d
    filled_is (SliceType t) d = filled_is t d
    filled_is (ArrayType t n) d = let b = both _ _ d in and_true _ _ (filled_is t b.0) b.1
    filled_is (NamedType owner ts) d = let b = both _ _ d in and_true _ _ b.0 (all_filled ts b.1)

    pub all_filled : (ts : MTypes) → are_types program ts ≡ true → are_types program (filled_all args ts) ≡ true
    all_filled no_types d = refl
    all_filled (more_types t ts) d = let b = both (is_type program t) _ d in and_true _ _ (filled_is t b.0) (all_filled ts b.1)

-- the field types of an item are types, and few
declared_fields : (program : MProgram) → IsSoundProgram program → (owner : MOwner) (k : ℕ) (ts : MTypes) →
    item_types (declared program owner) k ≡ Some ts → (are_types program ts ≡ true) × (length (types_list ts) < 2 ^ 32)
declared_fields program sound (DeclaredItem i) k ts e = (sound.fields i k ts e, sound.few i k ts e)
declared_fields program sound OptionOwner zero ts e = let same : no_types ≡ ts = cc in rw (← same) (refl, lit< tt)
declared_fields program sound OptionOwner (suc zero) ts e = let same : more_types (parameter 0) no_types ≡ ts = cc in rw (← same) (refl, lit< tt)
declared_fields program sound OptionOwner (suc (suc k)) ts e = cc
declared_fields program sound ResultOwner zero ts e = let same : more_types (parameter 0) no_types ≡ ts = cc in rw (← same) (refl, lit< tt)
declared_fields program sound ResultOwner (suc zero) ts e = let same : more_types (parameter 1) no_types ≡ ts = cc in rw (← same) (refl, lit< tt)
declared_fields program sound ResultOwner (suc (suc k)) ts e = cc

-- the types of the parts of a node are types
pub types_of_node : (program : MProgram) → IsSoundProgram program → (t : MType) (k : ℕ) (ts : MTypes) → is_type program t ≡ true →
    node_types program t k ≡ Some ts → are_types program ts ≡ true
types_of_node program sound (TupleType us) zero ts d e = let same : us ≡ ts = cc in ap (are_types program) (sym same) ∙ (both _ _ d).0
types_of_node program sound (NamedType owner args) k ts d e =
    let there = named_there program owner args k ts e in
    ap (are_types program) (sym there.2)
    ∙ all_filled program args (both _ _ d).1 there.0 (declared_fields program sound owner k there.0 there.1).0
types_of_node program sound _ _ ts d e = cc

-- values are of types one by one exactly where there are as many, and each is of the type at its number
module _ (program : MProgram) (sure : Bool) where
  TypesFrom : (ℕ → MType) → ℕ → MTypes → Type 0
  TypesFrom f i ts = (j : ℕ) (u : MType) → slice_get (types_list ts) j ≡ Some u → f (i + j) ≡ u

  parts_forth : (ts : MTypes) (vs : MValues) (f : ℕ → MType) (i : ℕ) → ((j : ℕ) (u : MType) → slice_get (types_list ts) j ≡ Some u → f (i + j) ≡ u) →
      are_values program sure ts vs ≡ true →
      (length (values_list vs) ≡ length (types_list ts)) × PartsAre (RustValue program) sure f i (values_list vs)
  parts_forth no_types no_values f i at h = (refl, tt)
  parts_forth no_types (more_values v vs) f i at h = absurd (untrue h)
  parts_forth (more_types t ts) no_values f i at h = absurd (untrue h)
  parts_forth (more_types t ts) (more_values v vs) f i at h =
      let b = both (is_value program sure t v) (are_values program sure ts vs) h in
      let first : f i ≡ t = ap f (sym (add-zero i)) ∙ at 0 t refl in
      let r = parts_forth ts vs f (suc i) (λ j u e. ap f (shift i j) ∙ at (suc j) u e) b.1 in
      (ap suc r.0, (ap (λ u. is_value program sure u v) first ∙ b.0, r.1))
    where
      shift : (i j : ℕ) → suc i + j ≡ i + suc j
      shift i j = omega arith

  parts_back : (ts : MTypes) (vs : MValues) (f : ℕ → MType) (i : ℕ) → ((j : ℕ) (u : MType) → slice_get (types_list ts) j ≡ Some u → f (i + j) ≡ u) →
      length (values_list vs) ≡ length (types_list ts) → PartsAre (RustValue program) sure f i (values_list vs) →
      are_values program sure ts vs ≡ true
  parts_back no_types no_values f i at e p = refl
  parts_back no_types (more_values v vs) f i at e p = absurd (omega (arith, e))
  parts_back (more_types t ts) no_values f i at e p = absurd (omega (arith, e))
  parts_back (more_types t ts) (more_values v vs) f i at e p =
      let first : t ≡ f i = sym (ap f (sym (add-zero i)) ∙ at 0 t refl) in
      and_true _ _ (ap (λ u. is_value program sure u v) first ∙ p.0)
      (parts_back ts vs f (suc i) (λ j u e. ap f (shift i j) ∙ at (suc j) u e) (omega (arith, e)) p.1)
    where
      shift : (i j : ℕ) → suc i + j ≡ i + suc j
      shift i j = omega arith

  at_number : (t : MType) (ts : MTypes) (j : ℕ) (u : MType) → slice_get (types_list ts) j ≡ Some u → part_type t (Some ts) (0 + j) ≡ u
  at_number t ts j u e = ap (part_type t (Some ts)) (zero_add j) ∙ ap (type_or t) e
    where
      zero_add : (j : ℕ) → 0 + j ≡ j
      zero_add j = omega arith

  -- a node is a value exactly where its parts are of the types that are found
  node_parts : (t : MType) (o : Option MTypes) (vs : MValues) → is_some o ≡ true →
      ((elim o [ None ↦ false | Some ts ↦ are_values program sure ts vs ]) ≡ true)
      ↔ ((length (values_list vs) ≡ count_of_types o) × PartsAre (RustValue program) sure (part_type t o) 0 (values_list vs))
  node_parts t None vs s = absurd (untrue s)
  node_parts t (Some ts) vs s = (
    (λ h. parts_forth ts vs (part_type t (Some ts)) 0 (at_number t ts) h),
    (λ p. parts_back ts vs (part_type t (Some ts)) 0 (at_number t ts) p.0 p.1),
  )

  -- items are values of one type exactly where each is
  items_forth : (u : MType) (vs : MValues) (f : ℕ → MType) (i : ℕ) → ((j : ℕ) → f j ≡ u) → all_are_values program sure u vs ≡ true →
      PartsAre (RustValue program) sure f i (values_list vs)
  items_forth u no_values f i at h = tt
  items_forth u (more_values v vs) f i at h =
      let b = both (is_value program sure u v) (all_are_values program sure u vs) h in
      (ap (λ w. is_value program sure w v) (at i) ∙ b.0, items_forth u vs f (suc i) at b.1)

  items_back : (u : MType) (vs : MValues) (f : ℕ → MType) (i : ℕ) → ((j : ℕ) → f j ≡ u) → PartsAre (RustValue program) sure f i (values_list vs) →
      all_are_values program sure u vs ≡ true
  items_back u no_values f i at p = refl
  items_back u (more_values v vs) f i at p =
      and_true _ _ (ap (λ w. is_value program sure w v) (sym (at i)) ∙ p.0) (items_back u vs f (suc i) at p.1)

-- a value whose test is known
same_test : (a b : Bool) → a ≡ true → b ≡ true → (a ≡ true) ↔ (b ≡ true)
same_test a b h k = ((λ x. k), (λ x. h))

-- which types have which sets
flag_item : (o : Option MItem) (b : Bool) → is_of_set (item_set o) (OneFlag b) ≡ true → ⊥
flag_item None b h = untrue h
flag_item (Some OtherItem) b h = untrue h
flag_item (Some (StructItem v)) b h = untrue h
flag_item (Some (EnumItem name true [])) b h = untrue h
flag_item (Some (EnumItem name false [])) b h = untrue h
flag_item (Some (EnumItem name marked (v ∷ vs))) b h = untrue h

flag_type : (program : MProgram) (t : MType) (b : Bool) → is_of_set (rust_set program t) (OneFlag b) ≡ true → is_bool t ≡ true
flag_type program BoolType b h = refl
flag_type program (NamedType owner args) b h = absurd (flag_item (declared program owner) b h)
flag_type program _ b h = cc

number_item : (o : Option MItem) (n : ℤ) → is_of_set (item_set o) (OneNumber n) ≡ true → ⊥
number_item None b h = untrue h
number_item (Some OtherItem) b h = untrue h
number_item (Some (StructItem v)) b h = untrue h
number_item (Some (EnumItem name true [])) b h = untrue h
number_item (Some (EnumItem name false [])) b h = untrue h
number_item (Some (EnumItem name marked (v ∷ vs))) b h = untrue h

or_again : (a b : Bool) → (a || b) ≡ true → (a || (b || false)) ≡ true
or_again true b h = refl
or_again false true h = refl
or_again false false h = h

number_type : (program : MProgram) (t : MType) (n : ℤ) → is_of_set (rust_set program t) (OneNumber n) ≡ true → has_number program.width t n ≡ true
number_type program CharType n h = or_again _ _ h
number_type program (IntType kind) n h = h
number_type program (NamedType owner args) n h = absurd (number_item (declared program owner) n h)
number_type program _ n h = cc

text_item : (o : Option MItem) (u : List ℕ) → is_of_set (item_set o) (OneText u) ≡ true → ⊥
text_item None b h = untrue h
text_item (Some OtherItem) b h = untrue h
text_item (Some (StructItem v)) b h = untrue h
text_item (Some (EnumItem name true [])) b h = untrue h
text_item (Some (EnumItem name false [])) b h = untrue h
text_item (Some (EnumItem name marked (v ∷ vs))) b h = untrue h

text_type : (program : MProgram) (t : MType) (u : List ℕ) → is_of_set (rust_set program t) (OneText u) ≡ true → (is_str t && list_all is_scalar u) ≡ true
text_type program StrType u h = h
text_type program (NamedType owner args) u h = absurd (text_item (declared program owner) u h)
text_type program _ u h = cc

later_item : (o : Option MItem) → is_of_set (item_set o) OneLater ≡ true → item_is_marked o ≡ true
later_item None h = h
later_item (Some OtherItem) h = h
later_item (Some (StructItem v)) h = h
later_item (Some (EnumItem name true [])) h = refl
later_item (Some (EnumItem name false [])) h = h
later_item (Some (EnumItem name marked (v ∷ vs))) h = h

later_type : (program : MProgram) (t : MType) → is_of_set (rust_set program t) OneLater ≡ true → is_marked program t ≡ true
later_type program (NamedType owner args) h = later_item (declared program owner) h
later_type program _ h = cc

point_item : (o : Option MItem) → item_set o ≡ PointSet → ⊥
point_item None h = cc
point_item (Some OtherItem) h = cc
point_item (Some (StructItem v)) h = cc
point_item (Some (EnumItem name true [])) h = cc
point_item (Some (EnumItem name false [])) h = cc
point_item (Some (EnumItem name marked (v ∷ vs))) h = cc

-- a variant below the count is there
variant_there : (vs : List MVariant) (k : ℕ) → k < length vs → is_some (variant_types (slice_get vs k)) ≡ true
variant_there [] k h = absurd (omega (arith, h))
variant_there (v ∷ vs) zero h = refl
variant_there (v ∷ vs) (suc k) h = variant_there vs k (omega (arith, h))

below : (k n : ℕ) → (nat_lt k n) ≡ true → k < n
below k n h = grind (arith, nat_tests)

-- the constructor of a node, by its number: the one of a struct or tuple, or a variant
data OfNode : Elementary → ℕ → Type 0 where
  of_single : OfNode OneSingle 0
  of_variant : (k : ℕ) → OfNode (OneVariant k) k

node_item : (o : Option MItem) (e : Elementary) (k : ℕ) → OfNode e k → is_of_set (item_set o) e ≡ true → is_some (item_types o k) ≡ true
node_item None _ _ of_single h = cc
node_item None _ _ (of_variant k) h = cc
node_item (Some OtherItem) _ _ of_single h = cc
node_item (Some OtherItem) _ _ (of_variant k) h = cc
node_item (Some (StructItem v)) _ _ of_single h = refl
node_item (Some (StructItem v)) _ _ (of_variant k) h = cc
node_item (Some (EnumItem name true [])) _ _ of_single h = cc
node_item (Some (EnumItem name false [])) _ _ of_single h = cc
node_item (Some (EnumItem name marked (v ∷ vs))) _ _ of_single h = cc
node_item (Some (EnumItem name true [])) _ _ (of_variant k) h = absurd (omega (arith, below k 0 h))
node_item (Some (EnumItem name false [])) _ _ (of_variant k) h = cc
node_item (Some (EnumItem name marked (v ∷ vs))) _ _ (of_variant k) h = variant_there (v ∷ vs) k (below k (suc (length vs)) h)

node_type : (program : MProgram) (t : MType) (e : Elementary) (k : ℕ) → is_type program t ≡ true → OfNode e k → is_of_set (rust_set program t) e ≡ true →
    is_some (node_types program t k) ≡ true
node_type program (TupleType ts) _ _ d of_single h = refl
node_type program (TupleType ts) _ _ d (of_variant k) h = absurd (untrue h)
node_type program (NamedType owner args) e k d n h = named_some program owner args k ∙ node_item (declared program owner) e k n h
node_type program _ _ _ d of_single h = cc
node_type program _ _ _ d (of_variant k) h = cc

-- what the law on parts says of a value
abbrev Law : MProgram → MType → (sure : Bool) → Elementary → MValue → Type 0
Law program t sure e v =
    RustValue program t sure v
    ↔ ((length (parts_of v) ≡ parts_count (rust_context program) t e) × PartsAre (RustValue program) sure ((rust_context program).sub (elementary_ctor e) t) 0 (parts_of v))

flag_law : (program : MProgram) (t : MType) (sure : Bool) (c : Bool) (v : MValue) → is_of_set (rust_set program t) (OneFlag c) ≡ true →
    builds_one (OneFlag c) v ≡ true → Law program t sure (OneFlag c) v
flag_law program t sure c (Flag b) s h = ((λ x. (refl, tt)), (λ x. flag_type program t c s))
flag_law program t sure c _ s h = absurd (untrue h)

number_law : (program : MProgram) (t : MType) (sure : Bool) (n : ℤ) (v : MValue) → is_of_set (rust_set program t) (OneNumber n) ≡ true →
    builds_one (OneNumber n) v ≡ true → Law program t sure (OneNumber n) v
number_law program t sure n (Num m) s h =
    ((λ x. (refl, tt)), (λ x. ap (has_number program.width t) (sym (one_number n m h)) ∙ number_type program t n s))
number_law program t sure c _ s h = absurd (untrue h)

text_law : (program : MProgram) (t : MType) (sure : Bool) (u : List ℕ) (v : MValue) → is_of_set (rust_set program t) (OneText u) ≡ true →
    builds_one (OneText u) v ≡ true → Law program t sure (OneText u) v
text_law program t sure u (Text w) s h =
    ((λ x. (refl, tt)), (λ x. ap (λ y. is_str t && list_all is_scalar y) (sym (text_equal u w h)) ∙ text_type program t u s))
text_law program t sure c _ s h = absurd (untrue h)

later_law : (program : MProgram) (t : MType) (sure : Bool) (v : MValue) → is_of_set (rust_set program t) OneLater ≡ true →
    builds_one OneLater v ≡ true → Law program t sure OneLater v
later_law program t sure Later s h = ((λ x. (refl, tt)), (λ x. later_type program t s))
later_law program t sure _ s h = absurd (untrue h)

-- a node of the variant, which a type has
node_law : (program : MProgram) (t : MType) (sure : Bool) (e : Elementary) (k : ℕ) (parts : MValues) → is_type program t ≡ true → OfNode e k →
    is_of_set (rust_set program t) e ≡ true → Law program t sure e (Node k parts)
node_law program t sure _ _ parts d of_single s =
    node_parts program sure t (node_types program t 0) parts (node_type program t OneSingle 0 d of_single s)
node_law program t sure _ _ parts d (of_variant k) s =
    node_parts program sure t (node_types program t k) parts (node_type program t (OneVariant k) k d (of_variant k) s)

single_law : (program : MProgram) (t : MType) (sure : Bool) (v : MValue) → is_type program t ≡ true → is_of_set (rust_set program t) OneSingle ≡ true →
    builds_one OneSingle v ≡ true → Law program t sure OneSingle v
single_law program t sure (Node k parts) d s h = rw (nat_equal k 0 h) (node_law program t sure OneSingle 0 parts d of_single s)
single_law program t sure _ d s h = absurd (untrue h)

variant_law : (program : MProgram) (t : MType) (sure : Bool) (j : ℕ) (v : MValue) → is_type program t ≡ true → is_of_set (rust_set program t) (OneVariant j) ≡ true →
    builds_one (OneVariant j) v ≡ true → Law program t sure (OneVariant j) v
variant_law program t sure j (Node k parts) d s h = rw (nat_equal k j h) (node_law program t sure (OneVariant j) j parts d (of_variant j) s)
variant_law program t sure j _ d s h = absurd (untrue h)

-- a row of the length, which a slice or array has
row_item : (o : Option MItem) (n : ℕ) → is_of_set (item_set o) (OneLength n) ≡ true → ⊥
row_item None b h = untrue h
row_item (Some OtherItem) b h = untrue h
row_item (Some (StructItem v)) b h = untrue h
row_item (Some (EnumItem name true [])) b h = untrue h
row_item (Some (EnumItem name false [])) b h = untrue h
row_item (Some (EnumItem name marked (v ∷ vs))) b h = untrue h

-- the items of a row of this length are of this type
row_of : (program : MProgram) (t : MType) (n : ℕ) → is_of_set (rust_set program t) (OneLength n) ≡ true → item_type t n ≡ Some (inner_type t)
row_of program (SliceType u) n h = refl
row_of program (ArrayType u m) n h = ap (λ b. some_if b u) (flipped m n h)
  where
    flipped : (a b : ℕ) → nat_eq a b ≡ true → nat_eq b a ≡ true
    flipped a b h = grind (arith, nat_tests)
row_of program (NamedType owner args) n h = absurd (row_item (declared program owner) n h)
row_of program _ n h = absurd (untrue h)

row_law_by : (program : MProgram) (t : MType) (sure : Bool) (items : MValues) (n : ℕ) → n ≡ length (values_list items) → item_type t n ≡ Some (inner_type t) →
    Law program t sure (OneLength n) (Row items)
row_law_by program t sure items n e h =
    let h' : item_type t (length (values_list items)) ≡ Some (inner_type t) = ap (item_type t) (sym e) ∙ h in (
      (λ x. (sym e, items_forth program sure (inner_type t) items _ 0 (λ j. refl) (forth (item_type t (length (values_list items))) h' x))),
      (λ p. back (item_type t (length (values_list items))) h' (items_back program sure (inner_type t) items _ 0 (λ j. refl) p.1)),
    )
  where
    forth : (o : Option MType) → o ≡ Some (inner_type t) → (elim o [ None ↦ false | Some u ↦ all_are_values program sure u items ]) ≡ true →
        all_are_values program sure (inner_type t) items ≡ true
    forth None e x = absurd (untrue x)
    forth (Some u) e x = let same : u ≡ inner_type t = cc in ap (λ w. all_are_values program sure w items) (sym same) ∙ x

    back : (o : Option MType) → o ≡ Some (inner_type t) → all_are_values program sure (inner_type t) items ≡ true →
        (elim o [ None ↦ false | Some u ↦ all_are_values program sure u items ]) ≡ true
    back o e x = rw e x

row_law : (program : MProgram) (t : MType) (sure : Bool) (n : ℕ) (v : MValue) → is_of_set (rust_set program t) (OneLength n) ≡ true →
    builds_one (OneLength n) v ≡ true → Law program t sure (OneLength n) v
row_law program t sure n (Row items) s h = row_law_by program t sure items n (nat_equal n _ h) (row_of program t n s)
row_law program t sure n _ s h = absurd (untrue h)

parts_law : (program : MProgram) (t : MType) (e : Elementary) (sure : Bool) (v : MValue) → is_type program t ≡ true → is_of_set (rust_set program t) e ≡ true →
    builds_one e v ≡ true → e ≢ OnePoint → Law program t sure e v
parts_law program t OneSingle sure v d s b ne = single_law program t sure v d s b
parts_law program t OnePoint sure v d s b ne = absurd (ne refl)
parts_law program t OneLater sure v d s b ne = later_law program t sure v s b
parts_law program t (OneVariant k) sure v d s b ne = variant_law program t sure k v d s b
parts_law program t (OneFlag c) sure v d s b ne = flag_law program t sure c v s b
parts_law program t (OneNumber n) sure v d s b ne = number_law program t sure n v s b
parts_law program t (OneText u) sure v d s b ne = text_law program t sure u v s b
parts_law program t (OneLength n) sure v d s b ne = row_law program t sure n v s b

-- a reference type has one mutability, and what it points to stands at an unsure place
abbrev PointLaw : MProgram → MType → Type 0
PointLaw program t =
    (mutable : Bool) × ((sure m : Bool) (v : MValue) → RustValue program t sure (Point m v) ↔ ((m ≡ mutable) × RustValue program (inner_type t) false v))

point_kind : (program : MProgram) (t : MType) (mutable sure m : Bool) (v : MValue) →
    RustValue program (PointType mutable t) sure (Point m v) ↔ ((m ≡ mutable) × RustValue program t false v)
point_kind program t true sure true v = ((λ h. (refl, h)), (λ h. h.1))
point_kind program t false sure false v = ((λ h. (refl, h)), (λ h. h.1))
point_kind program t true sure false v = ((λ h. absurd (untrue h)), (λ h. let e : false ≡ true = h.0 in cc))
point_kind program t false sure true v = ((λ h. absurd (untrue h)), (λ h. let e : true ≡ false = h.0 in cc))

abbrev is_points : MSet → Bool
is_points PointSet = true
is_points _ = false

no_point : {A : Type 0} (program : MProgram) (o : Option MItem) → item_set o ≡ PointSet → A
no_point program o h = absurd (point_item o h)

point_law : (program : MProgram) (t : MType) → rust_set program t ≡ PointSet → PointLaw program t
point_law program (PointType mutable t) h = (mutable, λ sure m v. point_kind program t mutable sure m v)
point_law program (NamedType owner args) h = no_point program (declared program owner) h
point_law program BoolType h = absurd (untrue (ap is_points h))
point_law program CharType h = absurd (untrue (ap is_points h))
point_law program (IntType kind) h = absurd (untrue (ap is_points h))
point_law program StrType h = absurd (untrue (ap is_points h))
point_law program NeverType h = absurd (untrue (ap is_points h))
point_law program (OpaqueType name args) h = absurd (untrue (ap is_points h))
point_law program (TupleType ts) h = absurd (untrue (ap is_points h))
point_law program (SliceType t) h = absurd (untrue (ap is_points h))
point_law program (ArrayType t n) h = absurd (untrue (ap is_points h))

-- the types of parts are types
inner_is : (program : MProgram) (t : MType) → is_type program t ≡ true → is_type program (inner_type t) ≡ true
inner_is program (PointType m t) d = d
inner_is program (SliceType t) d = d
inner_is program (ArrayType t n) d = (both _ _ d).0
inner_is program BoolType d = d
inner_is program CharType d = d
inner_is program StrType d = d
inner_is program NeverType d = d
inner_is program (IntType kind) d = d
inner_is program (OpaqueType name args) d = d
inner_is program (TupleType ts) d = d
inner_is program (NamedType owner args) d = d

type_in : (program : MProgram) (t : MType) (ts : MTypes) (i : ℕ) → is_type program t ≡ true → are_types program ts ≡ true →
    is_type program (type_or t (slice_get (types_list ts) i)) ≡ true
type_in program t no_types i d h = d
type_in program t (more_types u us) zero d h = (both _ _ h).0
type_in program t (more_types u us) (suc i) d h = type_in program t us i d (both (is_type program u) _ h).1

part_is : (program : MProgram) → IsSoundProgram program → (t : MType) (k i : ℕ) → is_type program t ≡ true →
    is_type program (part_type t (node_types program t k) i) ≡ true
part_is program sound t k i d = go (node_types program t k) refl
  where
    go : (o : Option MTypes) → node_types program t k ≡ o → is_type program (part_type t o i) ≡ true
    go None e = d
    go (Some ts) e = type_in program t ts i d (types_of_node program sound t k ts d e)

sub_is : (program : MProgram) → IsSoundProgram program → (t : MType) (e : Elementary) (i : ℕ) → is_type program t ≡ true →
    is_type program (rust_sub program (elementary_ctor e) t i) ≡ true
sub_is program sound t OneSingle i d = part_is program sound t 0 i d
sub_is program sound t OnePoint i d = inner_is program t d
sub_is program sound t OneLater i d = d
sub_is program sound t (OneVariant k) i d = part_is program sound t k i d
sub_is program sound t (OneFlag c) i d = d
sub_is program sound t (OneNumber n) i d = d
sub_is program sound t (OneText u) i d = d
sub_is program sound t (OneLength n) i d = inner_is program t d

-- there are fewer than 2^32 fields
few_of : (program : MProgram) → IsSoundProgram program → (t : MType) (k : ℕ) → is_type program t ≡ true → count_of_types (node_types program t k) < 2 ^ 32
few_of program sound (TupleType ts) zero d = few_by (length (types_list ts)) (both _ _ d).1
  where
    few_by : (n : ℕ) → nat_lt n (2 ^ 32) ≡ true → n < 2 ^ 32
    few_by n h = grind (arith, nat_tests)
few_of program sound (NamedType owner args) k d = go (node_types program (NamedType owner args) k) refl
  where
    go : (o : Option MTypes) → node_types program (NamedType owner args) k ≡ o → count_of_types o < 2 ^ 32
    go None e = lit< tt
    go (Some ts) e =
        let there = named_there program owner args k ts e in
        let few = (declared_fields program sound owner k there.0 there.1).1 in
        let same : length (types_list ts) ≡ length (types_list there.0) = ap (λ us. length (types_list us)) (sym there.2) ∙ filled_count args there.0 in
        rw same few
few_of program sound _ _ d = lit< tt

few_law : (program : MProgram) → IsSoundProgram program → (t : MType) (e : Elementary) → is_type program t ≡ true → TypeFixesParts e →
    parts_count (rust_context program) t e < 2 ^ 32
few_law program sound t e d (inl s) = rw s (few_of program sound t 0 d)
few_law program sound t e d (inr (k, s)) = rw s (few_of program sound t k d)

arity_law : (program : MProgram) (t : MType) (c : MCtor) → ArityIs c (rust_arity program c t)
arity_law program t SingleCtor = tt
arity_law program t PointCtor = refl
arity_law program t LaterCtor = refl
arity_law program t OtherTextCtor = refl
arity_law program t WildCtor = refl
arity_law program t OrCtor = refl
arity_law program t (VariantCtor k) = tt
arity_law program t (FlagCtor b) = refl
arity_law program t (NumbersCtor r) = refl
arity_law program t (TextCtor u) = refl
arity_law program t (RowCtor s) = refl

pub rust_parts : (program : MProgram) → IsSoundProgram program → PartsLaw (IsRustType program) (RustValue program) (rust_context program)
rust_parts program sound = record {
  parts = λ t e sure v d s b ne. parts_law program t e sure v d s b ne;
  point = λ t d s. point_law program t s;
  types = λ t e i d s h. sub_is program sound t e i d;
  few = λ t e d s f. few_law program sound t e d f;
  arity = λ t c d b. arity_law program t c;
  items = λ t s r i j d a b. refl;
  item_types = λ t s i d b. inner_is program t d;
}
