-- Values of types, made of values of their parts.
use Rattle.std.proofs.Common.{◌≡◌, ℕ, zero, suc, pos, Bool, true, false, ◌||◌, Some, None, nat_eq, length, refl, ap, ◌∙◌, arith}
use Rattle.std.proofs.lemmas.Bool.Decides.{nat_tests}
use Rattle.match_model.specs.declared.Width.{Width}
use Rattle.match_model.specs.declared.Width.TheVariants.{Endless, Bits16, Bits32, Bits64}
use Rattle.match_model.specs.declared.IntKind.{IntKind}
use Rattle.match_model.specs.declared.IntKind.TheVariants.{U8, U16, U32, U64, U128, USize, I8, I16, I32, I64, I128, ISize}
use Rattle.match_model.specs.Types.{MType, IntType, TupleType, PointType, ArrayType, MTypes, more_types}
use Rattle.match_model.specs.Declarations.{MProgram}
use Rattle.match_model.specs.Values.{MValue, Node, Point, Row, MValues, no_values, more_values, values_list}
use Rattle.match_model.specs.Numbers.{has_number}
use Rattle.match_model.specs.Typing.{is_value, are_values, all_are_values, some_if}
use Rattle.match_model.proofs.Basics.{and_true, nat_itself}

-- 0 is a number of every integer type
pub zero_is : (width : Width) (kind : IntKind) → has_number width (IntType kind) (pos 0) ≡ true
zero_is width U8 = refl
zero_is width U16 = refl
zero_is width U32 = refl
zero_is width U64 = refl
zero_is width U128 = refl
zero_is width I8 = refl
zero_is width I16 = refl
zero_is width I32 = refl
zero_is width I64 = refl
zero_is width I128 = refl
zero_is Endless USize = refl
zero_is Bits16 USize = refl
zero_is Bits32 USize = refl
zero_is Bits64 USize = refl
zero_is Endless ISize = refl
zero_is Bits16 ISize = refl
zero_is Bits32 ISize = refl
zero_is Bits64 ISize = refl

pub untrue : false ≡ true → ⊥
untrue e = cc

pub not_zero : (n : ℕ) (b : Bool) → (nat_eq (suc n) 0 || b) ≡ true → b ≡ true
not_zero n b h = grind (arith, nat_tests)

-- the value so many times
abbrev many : ℕ → MValue → MValues
many zero v = no_values
many (suc n) v = more_values v (many n v)

many_count : (n : ℕ) (v : MValue) → length (values_list (many n v)) ≡ n
many_count zero v = refl
many_count (suc n) v = ap suc (many_count n v)

many_are : (program : MProgram) (sure : Bool) (t : MType) (n : ℕ) (v : MValue) → is_value program sure t v ≡ true →
    all_are_values program sure t (many n v) ≡ true
many_are program sure t zero v h = refl
many_are program sure t (suc n) v h = and_true _ _ h (many_are program sure t n v h)

-- a value of the type at such a place
abbrev pub Found : MProgram → (sure : Bool) → MType → Type 0
Found program sure t = (v : MValue) × (is_value program sure t v ≡ true)

-- values of the types
abbrev pub AllFound : MProgram → (sure : Bool) → MTypes → Type 0
AllFound program sure ts = (vs : MValues) × (are_values program sure ts vs ≡ true)

pub point_found : (program : MProgram) (sure m : Bool) (t : MType) → Found program false t → Found program sure (PointType m t)
point_found program sure true t (v, h) = (Point true v, h)
point_found program sure false t (v, h) = (Point false v, h)

items_by : (program : MProgram) (sure : Bool) (t : MType) (items : MValues) (b : Bool) → b ≡ true → all_are_values program sure t items ≡ true →
    (elim (some_if b t) [ None ↦ false | Some item ↦ all_are_values program sure item items ]) ≡ true
items_by program sure t items true e h = h
items_by program sure t items false e h = cc

pub array_found : (program : MProgram) (sure : Bool) (t : MType) (n : ℕ) (v : MValue) → is_value program sure t v ≡ true → Found program sure (ArrayType t n)
array_found program sure t n v h =
    (Row (many n v), items_by program sure t (many n v) (nat_eq (length (values_list (many n v))) n) (ap (λ k. nat_eq k n) (many_count n v) ∙ nat_itself n) (many_are program sure t n v h))

pub tuple_found : (program : MProgram) (sure : Bool) (ts : MTypes) → AllFound program sure ts → Found program sure (TupleType ts)
tuple_found program sure ts (vs, h) = (Node 0 vs, h)

pub more_found : (program : MProgram) (sure : Bool) (t : MType) (ts : MTypes) → Found program sure t → AllFound program sure ts → AllFound program sure (more_types t ts)
more_found program sure t ts (v, h) (vs, k) = (more_values v vs, and_true _ _ h k)
