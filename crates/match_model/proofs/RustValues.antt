-- Every value of a Rust type is built by one constructor of the type.
use Rattle.std.proofs.Common.{◌≡◌, ℕ, zero, suc, ℤ, pos, negsuc, ◌<◌, Bool, true, false, not, ◌&&◌, ◌||◌, List, [], ◌∷◌, length, Option, Some, None, is_some, IsTrue, int_lt, nat_eq, refl, sym, ap, ◌∙◌, arith, slice_get}
use Rattle.std.specs.List.{list_all}
use Rattle.std.proofs.lemmas.Bool.Decides.{nat_tests}
use Rattle.match_model.specs.Types.{MType, BoolType, CharType, StrType, NeverType, IntType, OpaqueType, TupleType, PointType, SliceType, ArrayType, NamedType}
use Rattle.match_model.specs.Declarations.{MVariant, MItem, StructItem, EnumItem, OtherItem, MProgram, node_types, item_types, variant_types, item_is_marked, item_is_bare, is_constructorless, declared}
use Rattle.match_model.specs.Values.{MValue, Flag, Num, Text, Node, Point, Row, Thing, Later, Unseen, MValues, values_list}
use Rattle.match_model.specs.Texts.{is_scalar}
use Rattle.match_model.specs.Numbers.{MRange, in_range, closed, kind_range}
use Rattle.match_model.specs.declared.Width.{Width}
use Rattle.match_model.specs.declared.Width.TheVariants.{Endless, Bits16, Bits32, Bits64}
use Rattle.match_model.specs.declared.IntKind.{IntKind}
use Rattle.match_model.specs.declared.IntKind.TheVariants.{U8, U16, U32, U64, U128, USize, I8, I16, I32, I64, I128, ISize}
use Rattle.match_model.specs.Made.{IsMadeRange, IsMadeSet}
use Rattle.match_model.specs.Typing.{is_value, are_values, all_are_values, item_type, some_if}
use Rattle.match_model.specs.Constructors.{SingleSet, PointSet, FlagSet, TextSet, VariantSet, NumberSet, RowSet, OpaqueSet, NothingSet, Elementary, OneSingle, OnePoint, OneLater, OneVariant, OneFlag, OneNumber, OneText, OneLength, builds_one, is_of_set, in_either}
use Rattle.match_model.specs.ContextLaws.{BuiltOnce, ValueIs, RangesAscend, ValuesLaw}
use Rattle.match_model.specs.RustTypes.{rust_set, item_set, is_declared, is_type, are_types, RustValue, rust_context}
use Rattle.match_model.proofs.Basics.{flag_equal, flag_itself, text_equal, text_itself, nat_equal, nat_itself, both, within, named_some}

flag_built : (b : Bool) → BuiltOnce FlagSet (Flag b)
flag_built b = record { by = OneFlag b; of_set = refl; build = flag_itself b; only = only }
  where
    only : (e : Elementary) → IsTrue (is_of_set FlagSet e) → IsTrue (builds_one e (Flag b)) → e ≡ OneFlag b
    only (OneFlag c) h k = ap OneFlag (flag_equal c b k)
    only _ h k = cc

pub one_number : (m n : ℤ) → IsTrue (builds_one (OneNumber m) (Num n)) → m ≡ n
one_number m n h = grind arith

itself : (n : ℤ) → IsTrue (builds_one (OneNumber n) (Num n))
itself n = grind arith

number_built : (first : MRange) (second : Option MRange) (n : ℤ) → in_either first second n ≡ true →
    BuiltOnce (NumberSet first second) (Num n)
number_built first second n h = record { by = OneNumber n; of_set = h; build = itself n; only = only }
  where
    only : (e : Elementary) → IsTrue (is_of_set (NumberSet first second) e) → IsTrue (builds_one e (Num n)) → e ≡ OneNumber n
    only (OneNumber m) h k = ap OneNumber (one_number m n k)
    only _ h k = cc

text_built : (t : List ℕ) → list_all is_scalar t ≡ true → BuiltOnce TextSet (Text t)
text_built t h = record { by = OneText t; of_set = h; build = text_itself t; only = only }
  where
    only : (e : Elementary) → IsTrue (is_of_set TextSet e) → IsTrue (builds_one e (Text t)) → e ≡ OneText t
    only (OneText u) h k = ap OneText (text_equal u t k)
    only _ h k = cc

row_built : (len : Option ℕ) (items : MValues) → IsTrue (is_of_set (RowSet len) (OneLength (length (values_list items)))) →
    BuiltOnce (RowSet len) (Row items)
row_built len items h =
    record { by = OneLength (length (values_list items)); of_set = h; build = nat_itself (length (values_list items)); only = only }
  where
    only : (e : Elementary) → IsTrue (is_of_set (RowSet len) e) → IsTrue (builds_one e (Row items)) → e ≡ OneLength (length (values_list items))
    only (OneLength n) h k = ap OneLength (nat_equal n (length (values_list items)) k)
    only _ h k = cc

point_built : (m : Bool) (v : MValue) → BuiltOnce PointSet (Point m v)
point_built m v = record { by = OnePoint; of_set = refl; build = refl; only = only }
  where
    only : (e : Elementary) → IsTrue (is_of_set PointSet e) → IsTrue (builds_one e (Point m v)) → e ≡ OnePoint
    only OnePoint h k = refl
    only _ h k = cc

single_built : (k : ℕ) (parts : MValues) → k ≡ 0 → BuiltOnce SingleSet (Node k parts)
single_built k parts e = record { by = OneSingle; of_set = refl; build = rw e refl; only = only }
  where
    only : (e : Elementary) → IsTrue (is_of_set SingleSet e) → IsTrue (builds_one e (Node k parts)) → e ≡ OneSingle
    only OneSingle h g = refl
    only _ h g = cc

variant_built : (count : ℕ) (later : Bool) (k : ℕ) (parts : MValues) → k < count → BuiltOnce (VariantSet count later) (Node k parts)
variant_built count later k parts h =
    record { by = OneVariant k; of_set = grind (arith, nat_tests); build = nat_itself k; only = only }
  where
    only : (e : Elementary) → IsTrue (is_of_set (VariantSet count later) e) → IsTrue (builds_one e (Node k parts)) → e ≡ OneVariant k
    only (OneVariant j) h g = ap OneVariant (sym (nat_equal k j g))
    only _ h g = cc

later_built : (count : ℕ) → BuiltOnce (VariantSet count true) Later
later_built count = record { by = OneLater; of_set = refl; build = refl; only = only }
  where
    only : (e : Elementary) → IsTrue (is_of_set (VariantSet count true) e) → IsTrue (builds_one e Later) → e ≡ OneLater
    only OneLater h g = refl
    only _ h g = cc

variant_some : (o : Option MVariant) → is_some (variant_types o) ≡ true → is_some o ≡ true
variant_some None h = cc
variant_some (Some v) h = refl

item_node : (o : Option MItem) (k : ℕ) (sure : Bool) (parts : MValues) → is_some (item_types o k) ≡ true → ValueIs (item_set o) sure (Node k parts)
item_node None k sure parts h = cc
item_node (Some OtherItem) k sure parts h = cc
item_node (Some (StructItem v)) zero sure parts h = single_built 0 parts refl
item_node (Some (StructItem v)) (suc k) sure parts h = cc
item_node (Some (EnumItem name false [])) k sure parts h =
    absurd (no_less (within {A = MVariant} [] k (variant_some (slice_get {X = MVariant} [] k) h)))
  where
    no_less : k < 0 → ⊥
    no_less g = omega arith
item_node (Some (EnumItem name true [])) k sure parts h =
    variant_built 0 true k parts (within {A = MVariant} [] k (variant_some (slice_get {X = MVariant} [] k) h))
item_node (Some (EnumItem name marked (v ∷ vs))) k sure parts h =
    variant_built (suc (length vs)) marked k parts (within (v ∷ vs) k (variant_some (slice_get (v ∷ vs) k) h))

node_built : (program : MProgram) (t : MType) (k : ℕ) (sure : Bool) (parts : MValues) →
    is_some (node_types program t k) ≡ true → ValueIs (rust_set program t) sure (Node k parts)
node_built program (TupleType ts) zero sure parts h = single_built 0 parts refl
node_built program (NamedType owner args) k sure parts h =
    item_node (declared program owner) k sure parts (sym (named_some program owner args k) ∙ h)
node_built program _ _ sure parts h = cc

later_is : (o : Option MItem) (sure : Bool) → item_is_marked o ≡ true → ValueIs (item_set o) sure Later
later_is None sure h = cc
later_is (Some OtherItem) sure h = cc
later_is (Some (StructItem v)) sure h = cc
later_is (Some (EnumItem name false vs)) sure h = cc
later_is (Some (EnumItem name true [])) sure h = later_built 0
later_is (Some (EnumItem name true (v ∷ vs))) sure h = later_built (suc (length vs))

unseen_item : (o : Option MItem) → item_is_bare o ≡ true → ValueIs (item_set o) false Unseen
unseen_item None h = cc
unseen_item (Some OtherItem) h = cc
unseen_item (Some (StructItem v)) h = cc
unseen_item (Some (EnumItem name true vs)) h = cc
unseen_item (Some (EnumItem name false [])) h = (refl, refl)
unseen_item (Some (EnumItem name false (v ∷ vs))) h = cc

unseen_is : (program : MProgram) (t : MType) (sure : Bool) → (not sure && is_constructorless program t) ≡ true →
    ValueIs (rust_set program t) sure Unseen
unseen_is program t true h = cc
unseen_is program NeverType false h = (refl, refl)
unseen_is program (NamedType owner args) false h = unseen_item (declared program owner) h
unseen_is program _ false h = cc

some_of : {A : Type 0} (o : Option A) (f : A → Bool) → (elim o [ None ↦ false | Some x ↦ f x ]) ≡ true → is_some o ≡ true
some_of None f h = cc
some_of (Some x) f h = refl

type_there : (b : Bool) (t : MType) → is_some (some_if b t) ≡ true → b ≡ true
type_there true t h = refl
type_there false t h = cc

or_none : (a b : Bool) → (a || (b || false)) ≡ true → (a || b) ≡ true
or_none true b h = refl
or_none false true h = refl
or_none false false h = h

-- a value of a type is what the type's set says
pub rust_value_is : (program : MProgram) (t : MType) (sure : Bool) (v : MValue) →
    is_value program sure t v ≡ true → ValueIs (rust_set program t) sure v
rust_value_is program BoolType sure (Flag b) h = flag_built b
rust_value_is program CharType sure (Num n) h = number_built _ _ n (or_none _ _ h)
rust_value_is program (IntType kind) sure (Num n) h = number_built _ None n h
rust_value_is program StrType sure (Text t) h = text_built t h
rust_value_is program t sure (Node k parts) h =
    node_built program t k sure parts (some_of (node_types program t k) (λ ts. are_values program sure ts parts) h)
rust_value_is program (PointType m t) sure (Point n v) h = point_built n v
rust_value_is program (SliceType t) sure (Row items) h = row_built None items refl
rust_value_is program (ArrayType t n) sure (Row items) h =
    row_built (Some n) items (flipped n (length (values_list items)) (type_there _ t (some_of (item_type (ArrayType t n) (length (values_list items))) (λ u. all_are_values program sure u items) h)))
  where
    flipped : (a b : ℕ) → nat_eq b a ≡ true → nat_eq a b ≡ true
    flipped a b h = grind (arith, nat_tests)
rust_value_is program (OpaqueType name args) sure Thing h = refl
rust_value_is program (NamedType owner args) sure Later h = later_is (declared program owner) sure h
rust_value_is program t sure Unseen h = unseen_is program t sure h
rust_value_is program _ sure _ h = cc

no_opaque_item : (o : Option MItem) → item_set o ≡ OpaqueSet → ⊥
no_opaque_item None h = cc
no_opaque_item (Some OtherItem) h = cc
no_opaque_item (Some (StructItem v)) h = cc
no_opaque_item (Some (EnumItem name true [])) h = cc
no_opaque_item (Some (EnumItem name false [])) h = cc
no_opaque_item (Some (EnumItem name marked (v ∷ vs))) h = cc

thing_is : (program : MProgram) (t : MType) (sure : Bool) → rust_set program t ≡ OpaqueSet → is_value program sure t Thing ≡ true
thing_is program (OpaqueType name args) sure h = refl
thing_is program (NamedType owner args) sure h = absurd (no_opaque_item (declared program owner) h)
thing_is program _ sure h = cc

bare_item : (o : Option MItem) → is_declared o ≡ true → item_set o ≡ NothingSet → item_is_bare o ≡ true
bare_item None d h = cc
bare_item (Some OtherItem) d h = cc
bare_item (Some (StructItem v)) d h = cc
bare_item (Some (EnumItem name true [])) d h = cc
bare_item (Some (EnumItem name false [])) d h = refl
bare_item (Some (EnumItem name marked (v ∷ vs))) d h = cc

unseen_value : (program : MProgram) (t : MType) → is_type program t ≡ true → rust_set program t ≡ NothingSet →
    is_value program false t Unseen ≡ true
unseen_value program NeverType d h = refl
unseen_value program (NamedType owner args) d h = bare_item (declared program owner) (both _ (are_types program args) d).0 h
unseen_value program _ d h = cc

item_ascends : (o : Option MItem) → RangesAscend (item_set o)
item_ascends None = tt
item_ascends (Some OtherItem) = tt
item_ascends (Some (StructItem v)) = tt
item_ascends (Some (EnumItem name true [])) = tt
item_ascends (Some (EnumItem name false [])) = tt
item_ascends (Some (EnumItem name marked (v ∷ vs))) = tt

chars_ascend : (a b : ℤ) → in_range (closed (pos 0) (pos 0xd7ff)) a ≡ true → in_range (closed (pos 0xe000) (pos 0x10ffff)) b ≡ true → int_lt a b ≡ true
chars_ascend (pos a) (pos b) h k = grind (arith, nat_tests)
chars_ascend (pos a) (negsuc b) h k = grind (arith, nat_tests)
chars_ascend (negsuc a) (pos b) h k = grind (arith, nat_tests)
chars_ascend (negsuc a) (negsuc b) h k = grind (arith, nat_tests)

ascends : (program : MProgram) (t : MType) → RangesAscend (rust_set program t)
ascends program CharType = chars_ascend
ascends program (NamedType owner args) = item_ascends (declared program owner)
ascends program _ = tt

-- the numbers of the types can be held

item_made : (o : Option MItem) → IsMadeSet (item_set o)
item_made None = tt
item_made (Some OtherItem) = tt
item_made (Some (StructItem v)) = tt
item_made (Some (EnumItem name true [])) = tt
item_made (Some (EnumItem name false [])) = tt
item_made (Some (EnumItem name marked (v ∷ vs))) = tt

kind_made : (width : Width) (kind : IntKind) → IsMadeRange (kind_range width kind)
kind_made width U8 = record { up = refl; low = (refl, refl); high = (refl, refl) }
kind_made width U16 = record { up = refl; low = (refl, refl); high = (refl, refl) }
kind_made width U32 = record { up = refl; low = (refl, refl); high = (refl, refl) }
kind_made width U64 = record { up = refl; low = (refl, refl); high = (refl, refl) }
kind_made width U128 = record { up = refl; low = (refl, refl); high = (refl, refl) }
kind_made width I8 = record { up = refl; low = (refl, refl); high = (refl, refl) }
kind_made width I16 = record { up = refl; low = (refl, refl); high = (refl, refl) }
kind_made width I32 = record { up = refl; low = (refl, refl); high = (refl, refl) }
kind_made width I64 = record { up = refl; low = (refl, refl); high = (refl, refl) }
kind_made width I128 = record { up = refl; low = (refl, refl); high = (refl, refl) }
kind_made Bits16 USize = record { up = refl; low = (refl, refl); high = (refl, refl) }
kind_made Bits32 USize = record { up = refl; low = (refl, refl); high = (refl, refl) }
kind_made Bits64 USize = record { up = refl; low = (refl, refl); high = (refl, refl) }
kind_made Endless USize = record { up = refl; low = (refl, refl); high = tt }
kind_made Bits16 ISize = record { up = refl; low = (refl, refl); high = (refl, refl) }
kind_made Bits32 ISize = record { up = refl; low = (refl, refl); high = (refl, refl) }
kind_made Bits64 ISize = record { up = refl; low = (refl, refl); high = (refl, refl) }
kind_made Endless ISize = record { up = refl; low = tt; high = tt }

made : (program : MProgram) (t : MType) → IsMadeSet (rust_set program t)
made program CharType =
    (record { up = refl; low = (refl, refl); high = (refl, refl) }, record { up = refl; low = (refl, refl); high = (refl, refl) })
made program (IntType kind) = (kind_made program.width kind, tt)
made program (NamedType owner args) = item_made (declared program owner)
made program _ = tt

pub rust_values_law : (program : MProgram) → ValuesLaw (λ t. IsTrue (is_type program t)) (RustValue program) (rust_context program)
rust_values_law program = record {
  each = λ t sure v d h. rust_value_is program t sure v h;
  thing = λ t sure d h. thing_is program t sure h;
  unseen = λ t d h. unseen_value program t d h;
  ascend = λ t d. ascends program t;
  made = λ t d. made program t;
}
