-- Worked examples: which values a type has.
use Rattle.std.proofs.Common.{◌≡◌, ℕ, pos, negsuc, Bool, true, false, List, [], ◌∷◌, ◌^◌, ◌-◌, Some, None, refl}
use Rattle.match_model.specs.declared.Width.{Width}
use Rattle.match_model.specs.declared.Width.TheVariants.{Endless, Bits16, Bits32, Bits64}
use Rattle.match_model.specs.declared.IntKind.TheVariants.{U8, U16, U32, U64, U128, USize, I8, I16, I32, I64, I128, ISize}
use Rattle.match_model.specs.Types.{DeclaredItem, OptionOwner, ResultOwner, StringName, BoxName, MType, BoolType, CharType, StrType, NeverType, IntType, OpaqueType, TupleType, PointType, SliceType, ArrayType, NamedType, no_types, more_types}
use Rattle.match_model.specs.Declarations.{UnitForm, TupleForm, BraceForm, MItem, StructItem, EnumItem, OtherItem, MProgram, variants_of}
use Rattle.match_model.specs.Values.{MValue, Flag, Num, Text, Node, Point, Row, Thing, Later, Unseen, no_values, values_of, part_at_position}
use Rattle.match_model.specs.Typing.{is_value}
use Rattle.match_model.specs.RustTypes.{is_type}

-- `enum E { A(!), B { x: bool, y: &E } }  fn f ..  #[non_exhaustive] enum G {}  enum N {}  struct S(u8);`
abbrev pub items : List MItem
items =
    EnumItem (69 ∷ []) false (
    record { name = 65 ∷ []; form = TupleForm (NeverType ∷ []) }
    ∷ record { name = 66 ∷ []; form = BraceForm (record { name = 120 ∷ []; type = BoolType } ∷ record { name = 121 ∷ []; type = PointType false (NamedType (DeclaredItem 0) no_types) } ∷ []) }
    ∷ [])
    ∷ OtherItem
    ∷ EnumItem (71 ∷ []) true []
    ∷ EnumItem (78 ∷ []) false []
    ∷ StructItem (record { name = 83 ∷ []; form = TupleForm (IntType U8 ∷ []) })
    ∷ []

abbrev pub program : MProgram
program = record { items = items; width = Endless }

abbrev pub sized : Width → MProgram
sized width = record { items = items; width = width }

abbrev pub declared : ℕ → MType
declared i = NamedType (DeclaredItem i) no_types

abbrev sure : MType → MValue → Bool
sure = is_value program true

abbrev unsure : MType → MValue → Bool
unsure = is_value program false

-- flags, and what is no flag
pub flag_of_bool : sure BoolType (Flag true) ≡ true
flag_of_bool = refl

pub flag_of_u8 : sure (IntType U8) (Flag true) ≡ false
flag_of_u8 = refl

-- each integer type at its limits, and one beyond
pub u8_limits : (sure (IntType U8) (Num (pos 255)) ≡ true) × (sure (IntType U8) (Num (pos 256)) ≡ false) × (sure (IntType U8) (Num (negsuc 0)) ≡ false)
u8_limits = (refl, refl, refl)

pub u16_limits : (sure (IntType U16) (Num (pos 65535)) ≡ true) × (sure (IntType U16) (Num (pos 65536)) ≡ false)
u16_limits = (refl, refl)

pub u32_limits : (sure (IntType U32) (Num (pos (2 ^ 32 - 1))) ≡ true) × (sure (IntType U32) (Num (pos (2 ^ 32))) ≡ false)
u32_limits = (refl, refl)

pub u64_limits : (sure (IntType U64) (Num (pos (2 ^ 64 - 1))) ≡ true) × (sure (IntType U64) (Num (pos (2 ^ 64))) ≡ false)
u64_limits = (refl, refl)

pub u128_limits : (sure (IntType U128) (Num (pos (2 ^ 128 - 1))) ≡ true) × (sure (IntType U128) (Num (pos (2 ^ 128))) ≡ false)
u128_limits = (refl, refl)

pub i8_limits : (sure (IntType I8) (Num (negsuc 127)) ≡ true) × (sure (IntType I8) (Num (negsuc 128)) ≡ false) × (sure (IntType I8) (Num (pos 127)) ≡ true) × (sure (IntType I8) (Num (pos 128)) ≡ false)
i8_limits = (refl, refl, refl, refl)

pub i16_limits : (sure (IntType I16) (Num (negsuc 32767)) ≡ true) × (sure (IntType I16) (Num (negsuc 32768)) ≡ false) × (sure (IntType I16) (Num (pos 32768)) ≡ false)
i16_limits = (refl, refl, refl)

pub i32_limits : (sure (IntType I32) (Num (negsuc (2 ^ 31 - 1))) ≡ true) × (sure (IntType I32) (Num (negsuc (2 ^ 31))) ≡ false) × (sure (IntType I32) (Num (pos (2 ^ 31))) ≡ false)
i32_limits = (refl, refl, refl)

pub i64_limits : (sure (IntType I64) (Num (negsuc (2 ^ 63 - 1))) ≡ true) × (sure (IntType I64) (Num (negsuc (2 ^ 63))) ≡ false) × (sure (IntType I64) (Num (pos (2 ^ 63))) ≡ false)
i64_limits = (refl, refl, refl)

pub i128_limits : (sure (IntType I128) (Num (negsuc (2 ^ 127 - 1))) ≡ true) × (sure (IntType I128) (Num (negsuc (2 ^ 127))) ≡ false) × (sure (IntType I128) (Num (pos (2 ^ 127 - 1))) ≡ true)
i128_limits = (refl, refl, refl)

-- without a width `usize` has every number from 0, and `isize` every whole number
pub usize_endless : (sure (IntType USize) (Num (pos (2 ^ 70))) ≡ true) × (sure (IntType USize) (Num (negsuc 0)) ≡ false)
usize_endless = (refl, refl)

pub isize_endless : (sure (IntType ISize) (Num (negsuc (2 ^ 70))) ≡ true) × (sure (IntType ISize) (Num (pos (2 ^ 200))) ≡ true)
isize_endless = (refl, refl)

-- with a width they have the numbers of so many bits
pub usize_16 : (is_value (sized Bits16) true (IntType USize) (Num (pos 65535)) ≡ true) × (is_value (sized Bits16) true (IntType USize) (Num (pos 65536)) ≡ false)
usize_16 = (refl, refl)

pub usize_32 : (is_value (sized Bits32) true (IntType USize) (Num (pos (2 ^ 32 - 1))) ≡ true) × (is_value (sized Bits32) true (IntType USize) (Num (pos (2 ^ 32))) ≡ false)
usize_32 = (refl, refl)

pub isize_64 : (is_value (sized Bits64) true (IntType ISize) (Num (negsuc (2 ^ 63 - 1))) ≡ true) × (is_value (sized Bits64) true (IntType ISize) (Num (negsuc (2 ^ 63))) ≡ false)
isize_64 = (refl, refl)

pub isize_16 : (is_value (sized Bits16) true (IntType ISize) (Num (negsuc 32767)) ≡ true) × (is_value (sized Bits16) true (IntType ISize) (Num (pos 32768)) ≡ false)
isize_16 = (refl, refl)

pub isize_32 : (is_value (sized Bits32) true (IntType ISize) (Num (pos (2 ^ 31 - 1))) ≡ true) × (is_value (sized Bits32) true (IntType ISize) (Num (pos (2 ^ 31))) ≡ false)
isize_32 = (refl, refl)

-- a `char` is a scalar value: no surrogate, none beyond the last
pub char_limits : (sure CharType (Num (pos 0xd7ff)) ≡ true) × (sure CharType (Num (pos 0xd800)) ≡ false) × (sure CharType (Num (pos 0xdfff)) ≡ false) × (sure CharType (Num (pos 0xe000)) ≡ true) × (sure CharType (Num (pos 0x10ffff)) ≡ true) × (sure CharType (Num (pos 0x110000)) ≡ false)
char_limits = (refl, refl, refl, refl, refl, refl)

-- a text is a list of scalar values
pub texts : (sure StrType (Text (104 ∷ 0x10ffff ∷ [])) ≡ true) × (sure StrType (Text (0xd800 ∷ [])) ≡ false) × (sure BoolType (Text []) ≡ false)
texts = (refl, refl, refl)

-- an opaque type has the one value
pub opaque : (sure (OpaqueType BoxName (more_types NeverType no_types)) Thing ≡ true) × (sure BoolType Thing ≡ false)
opaque = (refl, refl)

-- a tuple and a struct have variant 0 and as many parts as types
pub tuples : (sure (TupleType (more_types BoolType (more_types (IntType U8) no_types))) (Node 0 (values_of (Flag true ∷ Num (pos 7) ∷ []))) ≡ true) × (sure (TupleType (more_types BoolType no_types)) (Node 0 no_values) ≡ false) × (sure (TupleType no_types) (Node 1 no_values) ≡ false)
tuples = (refl, refl, refl)

pub structs : (sure (declared 4) (Node 0 (values_of (Num (pos 7) ∷ []))) ≡ true) × (sure (declared 4) (Node 1 (values_of (Num (pos 7) ∷ []))) ≡ false)
structs = (refl, refl)

-- an enum has its variants, whose item is counted among all items of the file
pub enums : (sure (declared 0) (Node 1 (values_of (Flag true ∷ Point false Unseen ∷ []))) ≡ false) × (sure (declared 0) (Node 2 no_values) ≡ false) × (sure (declared 1) (Node 0 no_values) ≡ false)
enums = (refl, refl, refl)

-- a value of a type that holds itself, two levels deep; `A(!)` has none at a sure place
pub cells : sure (declared 0) (Node 1 (values_of (Flag true ∷ Point false (Node 1 (values_of (Flag false ∷ Point false (Node 0 (values_of (Unseen ∷ []))) ∷ []))) ∷ []))) ≡ true
cells = refl

pub no_sure_a : sure (declared 0) (Node 0 (values_of (Unseen ∷ []))) ≡ false
no_sure_a = refl

pub unsure_a : unsure (declared 0) (Node 0 (values_of (Unseen ∷ []))) ≡ true
unsure_a = refl

-- `None` is variant 0, `Ok` is variant 0
pub options : (sure (NamedType OptionOwner (more_types BoolType no_types)) (Node 0 no_values) ≡ true) × (sure (NamedType OptionOwner (more_types BoolType no_types)) (Node 1 (values_of (Flag true ∷ []))) ≡ true) × (sure (NamedType OptionOwner (more_types BoolType no_types)) (Node 1 no_values) ≡ false)
options = (refl, refl, refl)

pub results : (sure (NamedType ResultOwner (more_types BoolType (more_types (IntType U8) no_types))) (Node 0 (values_of (Flag true ∷ []))) ≡ true) × (sure (NamedType ResultOwner (more_types BoolType (more_types (IntType U8) no_types))) (Node 1 (values_of (Num (pos 3) ∷ []))) ≡ true) × (sure (NamedType ResultOwner (more_types BoolType (more_types (IntType U8) no_types))) (Node 1 (values_of (Flag true ∷ []))) ≡ false)
results = (refl, refl, refl)

-- a marked enum has the value `later`, at a sure place too, and is never without constructors
pub laters : (sure (declared 2) Later ≡ true) × (sure (declared 0) Later ≡ false) × (unsure (declared 2) Unseen ≡ false)
laters = (refl, refl, refl)

-- a type without constructors has the bare unseen at an unsure place, and nothing at a sure one
pub bare_unseen : (unsure NeverType Unseen ≡ true) × (sure NeverType Unseen ≡ false) × (unsure (declared 3) Unseen ≡ true) × (unsure BoolType Unseen ≡ false)
bare_unseen = (refl, refl, refl, refl)

-- behind a reference no place is sure; a reference of the other kind is no value
pub points : (sure (PointType false NeverType) (Point false Unseen) ≡ true) × (sure (PointType true BoolType) (Point true (Flag true)) ≡ true) × (sure (PointType true BoolType) (Point false (Flag true)) ≡ false)
points = (refl, refl, refl)

pub in_tuple : sure (TupleType (more_types NeverType no_types)) (Node 0 (values_of (Unseen ∷ []))) ≡ false
in_tuple = refl

-- a slice has every length, an array its own
pub rows : (sure (SliceType BoolType) (Row (values_of (Flag true ∷ Flag false ∷ []))) ≡ true) × (sure (ArrayType BoolType 2) (Row (values_of (Flag true ∷ Flag false ∷ []))) ≡ true) × (sure (ArrayType BoolType 3) (Row (values_of (Flag true ∷ Flag false ∷ []))) ≡ false) × (sure (SliceType NeverType) (Row no_values) ≡ true) × (sure (SliceType NeverType) (Row (values_of (Unseen ∷ []))) ≡ false)
rows = (refl, refl, refl, refl, refl)

-- positions count from 0, and a reference is one step
pub positions : (part_at_position (1 ∷ 0 ∷ []) (Node 0 (values_of (Flag true ∷ Point false (Num (pos 5)) ∷ []))) ≡ Some (Num (pos 5))) × (part_at_position (1 ∷ []) (Point false (Flag true)) ≡ None)
positions = (refl, refl)

-- `Option<bool>` has the variants `None` and `Some`, `Result<bool, !>` has `Ok` and `Err`
pub built_in : (variants_of program (NamedType OptionOwner (more_types BoolType no_types)) ≡ record { name = 78 ∷ 111 ∷ 110 ∷ 101 ∷ []; form = UnitForm } ∷ record { name = 83 ∷ 111 ∷ 109 ∷ 101 ∷ []; form = TupleForm (BoolType ∷ []) } ∷ []) × (variants_of program (NamedType ResultOwner (more_types BoolType (more_types NeverType no_types))) ≡ record { name = 79 ∷ 107 ∷ []; form = TupleForm (BoolType ∷ []) } ∷ record { name = 69 ∷ 114 ∷ 114 ∷ []; form = TupleForm (NeverType ∷ []) } ∷ [])
built_in = (refl, refl)

-- `Box<bool>` and `String` are types; `Box` and `String<bool>` are none
pub opaque_counts : (is_type program (OpaqueType BoxName (more_types BoolType no_types)) ≡ true) × (is_type program (OpaqueType BoxName no_types) ≡ false) × (is_type program (OpaqueType StringName no_types) ≡ true) × (is_type program (OpaqueType StringName (more_types BoolType no_types)) ≡ false)
opaque_counts = (refl, refl, refl, refl)
