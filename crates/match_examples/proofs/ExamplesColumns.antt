-- The pieces of columns, set by set, and of each whether it is present, missing or empty at a sure and at an unsure place.
use Rattle.std.proofs.Common.{◌≡◌, ℕ, ℤ, pos, negsuc, zero, suc, ◌-ℤ◌, Bool, true, false, ◌||◌, List, [], ◌∷◌, map, length, Some, None, int_eq, refl, ap, ◌∙◌, arith, IsTrue, subst}
use Rattle.std.specs.Prelude.{⊤}
use Rattle.std.specs.List.Sorted.{IsStrictlySortedBy}
use Rattle.match_model.specs.declared.Width.TheVariants.{Endless}
use Rattle.match_model.specs.declared.IntKind.TheVariants.{U8, USize, ISize}
use Rattle.match_model.specs.Types.{DeclaredItem, MType, BoolType, CharType, StrType, NeverType, IntType, TupleType, PointType, SliceType, ArrayType, NamedType, no_types, more_types}
use Rattle.match_model.specs.Declarations.{UnitForm, TupleForm, EnumItem, MProgram}
use Rattle.match_model.specs.Values.{MValue, Flag, Num, Text, Node, Point, Row, Thing, Later, Unseen, MValues, no_values, more_values, values_of, values_list}
use Rattle.match_model.specs.Typing.{is_value}
use Rattle.match_model.specs.Texts.{text_eq}
use Rattle.match_model.specs.Numbers.{MRange, Free, At}
use Rattle.match_model.specs.Constructors.{FixedShape, LongerShape, MCtor, SingleCtor, PointCtor, LaterCtor, OtherTextCtor, VariantCtor, FlagCtor, NumbersCtor, TextCtor, RowCtor, WildCtor, builds}
use Rattle.match_model.specs.Pieces.{ArePieces, AreNamed, IsCut, last_one, one_more}
use Rattle.match_model.specs.PieceStates.{IsPresentPiece, IsMissingPiece, IsEmptyPiece, named_in}
use Rattle.match_model.specs.RustTypes.{rust_set, RustValue}
use Rattle.match_model.proofs.Basics.{both, nat_equal, untrue}
use Rattle.match_examples.proofs.SmallMatches.{span, iff_of}
use Rattle.match_examples.proofs.ExamplesNumbers.{zero_only, below, above, isize_cut, all_of_64, from_2_64, usize_cut, over, low_cut, high_cut}

-- `enum E { A(!), B(bool) }  #[non_exhaustive] enum M { A, B }`
abbrev pub program : MProgram
program = record {
  items = EnumItem (69 ∷ []) false (record { name = 65 ∷ []; form = TupleForm (NeverType ∷ []) } ∷ record { name = 66 ∷ []; form = TupleForm (BoolType ∷ []) } ∷ [])
      ∷ EnumItem (77 ∷ []) true (record { name = 65 ∷ []; form = UnitForm } ∷ record { name = 66 ∷ []; form = UnitForm } ∷ [])
      ∷ [];
  width = Endless;
}

abbrev pub declared : ℕ → MType
declared i = NamedType (DeclaredItem i) no_types

-- what the specification says of a piece
pub data State : Type 0 where
  present missing empty : State

-- the piece is in that state
abbrev pub IsIn : (t : MType) (sure : Bool) (heads pieces : List MCtor) → MCtor × State → Type 0
IsIn t sure heads pieces (c, present) = IsPresentPiece (RustValue program) (record { type = t; sure = sure }) (named_in pieces) heads c
IsIn t sure heads pieces (c, missing) = IsMissingPiece (RustValue program) (record { type = t; sure = sure }) (named_in pieces) heads c
IsIn t sure heads pieces (c, empty) = IsEmptyPiece (RustValue program) (record { type = t; sure = sure }) (named_in pieces) c

abbrev pub AreIn : (t : MType) (sure : Bool) (heads pieces : List MCtor) → List (MCtor × State) → Type 0
AreIn t sure heads pieces [] = ⊤
AreIn t sure heads pieces (p ∷ ps) = IsIn t sure heads pieces p × AreIn t sure heads pieces ps

-- the column of these heads has exactly these pieces, in this order and in these states
abbrev pub Column : (t : MType) (sure : Bool) (heads : List MCtor) → List (MCtor × State) → Type 0
Column t sure heads told = ArePieces (rust_set program t) heads (map (λ p. p.0) told) × AreIn t sure heads (map (λ p. p.0) told) told

-- `true` on `bool`
pub flags : Column BoolType true (FlagCtor true ∷ []) ((FlagCtor false, missing) ∷ (FlagCtor true, present) ∷ [])
flags = (refl, (((Flag false, refl, refl), refl), (((Flag true, refl, refl), refl), tt)))

-- no value of `!` stands at a sure place
no_never : (v : MValue) → is_value program true NeverType v ≡ true → ⊥
no_never Unseen h = untrue h
no_never (Flag b) h = untrue h
no_never (Num n) h = untrue h
no_never (Text u) h = untrue h
no_never (Node k parts) h = untrue h
no_never (Point m v) h = untrue h
no_never (Row items) h = untrue h
no_never Thing h = untrue h
no_never Later h = untrue h

-- a struct or tuple: `(_,)` on `(bool,)`, and `(_,)` on `(!,)`
abbrev tuple : MType → MType
tuple t = TupleType (more_types t no_types)

pub struct_present : Column (tuple BoolType) true (SingleCtor ∷ []) ((SingleCtor, present) ∷ [])
struct_present = (refl, (((Node 0 (values_of (Flag true ∷ [])), refl, refl), refl), tt))

pub struct_missing : Column (tuple BoolType) true [] ((SingleCtor, missing) ∷ [])
struct_missing = (refl, (((Node 0 (values_of (Flag true ∷ [])), refl, refl), refl), tt))

no_tuple : (v : MValue) → RustValue program (tuple NeverType) true v → IsTrue (builds [] SingleCtor v) → ⊥
no_tuple (Node zero no_values) h b = untrue h
no_tuple (Node zero (more_values u us)) h b = no_never u (both _ _ h).0
no_tuple (Node (suc k) parts) h b = untrue h
no_tuple (Flag c) h b = untrue b
no_tuple (Num n) h b = untrue b
no_tuple (Text u) h b = untrue b
no_tuple (Point m v) h b = untrue b
no_tuple (Row items) h b = untrue b
no_tuple Thing h b = untrue b
no_tuple Later h b = untrue b
no_tuple Unseen h b = untrue b

pub struct_empty : Column (tuple NeverType) true (SingleCtor ∷ []) ((SingleCtor, empty) ∷ [])
struct_empty = (refl, ((λ e. no_tuple e.0 e.1 e.2), tt))

pub struct_unsure : Column (tuple NeverType) false (SingleCtor ∷ []) ((SingleCtor, present) ∷ [])
struct_unsure = (refl, (((Node 0 (values_of (Unseen ∷ [])), refl, refl), refl), tt))

-- a reference has a value also where what it points to has none: behind it nothing is sure
pub reference_missing : Column (PointType false NeverType) true [] ((PointCtor, missing) ∷ [])
reference_missing = (refl, (((Point false Unseen, refl, refl), refl), tt))

pub reference_present : Column (PointType true BoolType) true (PointCtor ∷ []) ((PointCtor, present) ∷ [])
reference_present = (refl, (((Point true (Flag true), refl, refl), refl), tt))

-- `E::B(_)` on an enum whose variant A has no value: A is empty at a sure place and missing at an unsure one; a head changes nothing of that
abbrev choice : MType
choice = declared 0

a_parts : (parts : MValues) → is_value program true choice (Node 0 parts) ≡ true → ⊥
a_parts no_values h = untrue h
a_parts (more_values u us) h = no_never u (both _ _ h).0

no_a : (v : MValue) → RustValue program choice true v → IsTrue (builds [] (VariantCtor 0) v) → ⊥
no_a (Node k parts) h b = a_parts parts (subst (λ j. is_value program true choice (Node j parts) ≡ true) (nat_equal k 0 b) h)
no_a (Flag c) h b = untrue b
no_a (Num n) h b = untrue b
no_a (Text u) h b = untrue b
no_a (Point m v) h b = untrue b
no_a (Row items) h b = untrue b
no_a Thing h b = untrue b
no_a Later h b = untrue b
no_a Unseen h b = untrue b

abbrev with_flag : MValue
with_flag = Node 1 (values_of (Flag true ∷ []))

abbrev with_unseen : MValue
with_unseen = Node 0 (values_of (Unseen ∷ []))

pub variants_sure : Column choice true (VariantCtor 1 ∷ []) ((VariantCtor 0, empty) ∷ (VariantCtor 1, present) ∷ [])
variants_sure = (refl, ((λ e. no_a e.0 e.1 e.2), (((with_flag, refl, refl), refl), tt)))

pub variants_named : Column choice true (VariantCtor 0 ∷ []) ((VariantCtor 0, empty) ∷ (VariantCtor 1, missing) ∷ [])
variants_named = (refl, ((λ e. no_a e.0 e.1 e.2), (((with_flag, refl, refl), refl), tt)))

pub variants_unsure : Column choice false (VariantCtor 1 ∷ []) ((VariantCtor 0, missing) ∷ (VariantCtor 1, present) ∷ [])
variants_unsure = (refl, (((with_unseen, refl, refl), refl), (((with_flag, refl, refl), refl), tt)))

-- `M::B` on a marked enum: its later variants are always missing
pub marked : Column (declared 1) true (VariantCtor 1 ∷ VariantCtor 1 ∷ []) ((VariantCtor 0, missing) ∷ (VariantCtor 1, present) ∷ (LaterCtor, missing) ∷ [])
marked = (refl, (((Node 0 no_values, refl, refl), refl), (((Node 1 no_values, refl, refl), refl), (((Later, refl, refl), refl), tt))))

-- `0..=18446744073709551615` on `usize` without a width
pub endless : Column (IntType USize) true (NumbersCtor all_of_64 ∷ []) ((NumbersCtor all_of_64, present) ∷ (NumbersCtor from_2_64, missing) ∷ [])
endless = (
  (all_of_64 ∷ from_2_64 ∷ [], [], usize_cut, refl, refl),
  (((Num (pos 0), refl, refl), refl), (((Num (pos 18446744073709551616), refl, refl), refl), tt)),
)

-- `0` on `isize` without a width: free on both sides
pub free : Column (IntType ISize) true (NumbersCtor zero_only ∷ []) ((NumbersCtor below, missing) ∷ (NumbersCtor zero_only, present) ∷ (NumbersCtor above, missing) ∷ [])
free = (
  (below ∷ zero_only ∷ above ∷ [], [], isize_cut, refl, refl),
  (((Num (negsuc 6), refl, refl), refl), (((Num (pos 0), refl, refl), refl), (((Num (pos 7), refl, refl), refl), tt))),
)

-- `'\u{D7FF}'..='\u{E000}'` on `char`: no piece has the hole
pub hole : Column CharType true (NumbersCtor over ∷ []) ((NumbersCtor (span 0 0xd7fe), missing) ∷ (NumbersCtor (span 0xd7ff 0xd7ff), present) ∷ (NumbersCtor (span 0xe000 0xe000), present) ∷ (NumbersCtor (span 0xe001 0x10ffff), missing) ∷ [])
hole = (
  (span 0 0xd7fe ∷ span 0xd7ff 0xd7ff ∷ [], span 0xe000 0xe000 ∷ span 0xe001 0x10ffff ∷ [], low_cut, high_cut, refl),
  (((Num (pos 0), refl, refl), refl), (((Num (pos 0xd7ff), refl, refl), refl), (((Num (pos 0xe000), refl, refl), refl), (((Num (pos 0xe001), refl, refl), refl), tt)))),
)

-- `0..=9, 20` on `u8`: cut where a head begins and behind where it ends
right_before : (n : ℤ) (k : ℕ) → int_eq (n -ℤ pos 1) (pos k) ≡ int_eq n (pos (suc k))
right_before n k = go (int_eq (n -ℤ pos 1) (pos k)) (int_eq n (pos (suc k))) refl refl
  where
    clash_up : int_eq (n -ℤ pos 1) (pos k) ≡ true → int_eq n (pos (suc k)) ≡ false → ⊥
    clash_up h g = grind arith

    clash_down : int_eq (n -ℤ pos 1) (pos k) ≡ false → int_eq n (pos (suc k)) ≡ true → ⊥
    clash_down h g = grind arith

    go : (p q : Bool) → int_eq (n -ℤ pos 1) (pos k) ≡ p → int_eq n (pos (suc k)) ≡ q → p ≡ q
    go true true e f = refl
    go false false e f = refl
    go true false e f = absurd (clash_up e f)
    go false true e f = absurd (clash_down e f)

pairs : (a b c d : Bool) → (a || (b || (c || (d || false)))) ≡ ((a || b) || ((c || d) || false))
pairs true b c d = refl
pairs false true c d = refl
pairs false false true d = refl
pairs false false false true = refl
pairs false false false false = refl

byte_tests : (n : ℤ) →
    (int_eq n (pos 0) || (int_eq n (pos 10) || (int_eq n (pos 20) || (int_eq n (pos 21) || false))))
    ≡ ((int_eq n (pos 0) || int_eq (n -ℤ pos 1) (pos 9)) || ((int_eq n (pos 20) || int_eq (n -ℤ pos 1) (pos 20)) || false))
byte_tests n = rw (right_before n 9) (rw (right_before n 20) (pairs (int_eq n (pos 0)) (int_eq n (pos 10)) (int_eq n (pos 20)) (int_eq n (pos 21))))

byte_cut : IsCut (span 0 255) (span 0 9 ∷ span 20 20 ∷ []) (span 0 9 ∷ span 10 19 ∷ span 20 20 ∷ span 21 255 ∷ [])
byte_cut = record {
  together =
      one_more (At (pos 0)) (At (pos 255)) (pos 9) _ refl
      (one_more (At (pos 10)) (At (pos 255)) (pos 19) _ refl
      (one_more (At (pos 20)) (At (pos 255)) (pos 20) _ refl (last_one (At (pos 21)) (At (pos 255)) (pos 21) refl)));
  cut = λ n a b. iff_of _ _ (byte_tests n);
}

pub bytes : Column (IntType U8) false (NumbersCtor (span 0 9) ∷ NumbersCtor (span 20 20) ∷ []) ((NumbersCtor (span 0 9), present) ∷ (NumbersCtor (span 10 19), missing) ∷ (NumbersCtor (span 20 20), present) ∷ (NumbersCtor (span 21 255), missing) ∷ [])
bytes = (
  (span 0 9 ∷ span 10 19 ∷ span 20 20 ∷ span 21 255 ∷ [], [], byte_cut, refl, refl),
  (((Num (pos 0), refl, refl), refl), (((Num (pos 10), refl, refl), refl), (((Num (pos 20), refl, refl), refl), (((Num (pos 255), refl, refl), refl), tt)))),
)

-- `"b", "", "b", "ba"` on `str`: each text once, ascending, a prefix first, then all others
abbrev b : List ℕ
b = 98 ∷ []

abbrev ba : List ℕ
ba = 98 ∷ 97 ∷ []

thrice : (p q r : Bool) → (p || (q || (r || false))) ≡ (q || (p || (q || (r || false))))
thrice true true r = refl
thrice true false r = refl
thrice false true r = refl
thrice false false r = refl

named : AreNamed (b ∷ [] ∷ b ∷ ba ∷ []) ([] ∷ b ∷ ba ∷ [])
unfolding IsStrictlySortedBy
named = record { each = λ t. thrice (text_eq t []) (text_eq t b) (text_eq t ba); ascending = ((refl, (refl, tt)), ((refl, tt), (tt, tt))) }

pub texts : Column StrType true (TextCtor b ∷ TextCtor [] ∷ TextCtor b ∷ TextCtor ba ∷ []) ((TextCtor [], present) ∷ (TextCtor b, present) ∷ (TextCtor ba, present) ∷ (OtherTextCtor, missing) ∷ [])
texts = (
  ([] ∷ b ∷ ba ∷ [], named, refl),
  (((Text [], refl, refl), refl), (((Text b, refl, refl), refl), (((Text ba, refl, refl), refl), (((Text (99 ∷ []), refl, refl), refl), tt)))),
)

-- `[a, b], [.., x], [x, ..]` on a slice: the greatest fixed length is 2, so lengths from 3 on are told apart no more
abbrev fixed : ℕ → MCtor
fixed n = RowCtor (FixedShape n)

abbrev longer : ℕ → ℕ → MCtor
longer f k = RowCtor (LongerShape f k)

abbrev flags_of : List MValue → MValue
flags_of vs = Row (values_of vs)

pub lengths : Column (SliceType BoolType) true (fixed 2 ∷ longer 0 1 ∷ longer 1 0 ∷ []) ((fixed 0, missing) ∷ (fixed 1, present) ∷ (fixed 2, present) ∷ (longer 2 1, present) ∷ [])
lengths = (
  refl,
  (((flags_of [], refl, refl), refl), (((flags_of (Flag true ∷ []), refl, refl), refl), (((flags_of (Flag true ∷ Flag true ∷ []), refl, refl), refl), (((flags_of (Flag true ∷ Flag true ∷ Flag true ∷ []), refl, refl), refl), tt)))),
)

-- no head: one piece has every length
pub any_length : Column (SliceType BoolType) false [] ((longer 0 0, missing) ∷ [])
any_length = (refl, (((flags_of [], refl, refl), refl), tt))

-- rows of `!`: at a sure place only the empty one has a value
no_row : (v : MValue) → RustValue program (SliceType NeverType) true v → IsTrue (builds [] (longer 1 0) v) → ⊥
no_row (Row no_values) h b = untrue b
no_row (Row (more_values u us)) h b = no_never u (both _ _ h).0
no_row (Node j parts) h b = untrue b
no_row (Flag c) h b = untrue b
no_row (Num n) h b = untrue b
no_row (Text u) h b = untrue b
no_row (Point m v) h b = untrue b
no_row Thing h b = untrue b
no_row Later h b = untrue b
no_row Unseen h b = untrue b

pub empty_rows : Column (SliceType NeverType) true (fixed 0 ∷ []) ((fixed 0, present) ∷ (longer 1 0, empty) ∷ [])
empty_rows = (refl, (((flags_of [], refl, refl), refl), ((λ e. no_row e.0 e.1 e.2), tt)))

pub unsure_rows : Column (SliceType NeverType) false (fixed 0 ∷ []) ((fixed 0, present) ∷ (longer 1 0, missing) ∷ [])
unsure_rows = (refl, (((flags_of [], refl, refl), refl), (((flags_of (Unseen ∷ []), refl, refl), refl), tt)))

-- an array has one piece: by its ends where they do not meet and no head says the length
pub array_ends : Column (ArrayType BoolType 3) true (longer 1 1 ∷ []) ((longer 1 1, present) ∷ [])
array_ends = (refl, (((flags_of (Flag true ∷ Flag true ∷ Flag true ∷ []), refl, refl), refl), tt))

pub array_meets : Column (ArrayType BoolType 2) true (longer 1 1 ∷ []) ((fixed 2, present) ∷ [])
array_meets = (refl, (((flags_of (Flag true ∷ Flag true ∷ []), refl, refl), refl), tt))

pub array_missing : Column (ArrayType BoolType 0) true [] ((fixed 0, missing) ∷ [])
array_missing = (refl, (((flags_of [], refl, refl), refl), tt))

pub never_arrays : Column (ArrayType NeverType 0) true (fixed 0 ∷ []) ((fixed 0, present) ∷ [])
never_arrays = (refl, (((flags_of [], refl, refl), refl), tt))

pub unsure_array : Column (ArrayType NeverType 1) false (fixed 1 ∷ []) ((fixed 1, present) ∷ [])
unsure_array = (refl, (((flags_of (Unseen ∷ []), refl, refl), refl), tt))

no_array : (v : MValue) → RustValue program (ArrayType NeverType 1) true v → IsTrue (builds [] (fixed 1) v) → ⊥
no_array (Row no_values) h b = untrue b
no_array (Row (more_values u no_values)) h b = no_never u (both _ _ h).0
no_array (Row (more_values u (more_values w ws))) h b = two (length (values_list ws)) (nat_equal 1 (suc (suc (length (values_list ws)))) b)
  where
    two : (n : ℕ) → 1 ≡ suc (suc n) → ⊥
    two n e = absurd (omega (arith, e))
no_array (Node j parts) h b = untrue b
no_array (Flag c) h b = untrue b
no_array (Num n) h b = untrue b
no_array (Text u) h b = untrue b
no_array (Point m v) h b = untrue b
no_array Thing h b = untrue b
no_array Later h b = untrue b
no_array Unseen h b = untrue b

pub empty_array : Column (ArrayType NeverType 1) true (fixed 1 ∷ []) ((fixed 1, empty) ∷ [])
empty_array = (refl, ((λ e. no_array e.0 e.1 e.2), tt))

-- the greatest array: its one piece
pub greatest_array : ArePieces (rust_set program (ArrayType BoolType 4294967295)) (longer 1 0 ∷ longer 0 2 ∷ []) (longer 1 2 ∷ [])
greatest_array = refl

-- at an unsure place all pieces have values that have them at a sure one
pub flags_unsure : Column BoolType false [] ((FlagCtor false, missing) ∷ (FlagCtor true, missing) ∷ [])
flags_unsure = (refl, (((Flag false, refl, refl), refl), (((Flag true, refl, refl), refl), tt)))

pub reference_unsure : Column (PointType false NeverType) false (PointCtor ∷ []) ((PointCtor, present) ∷ [])
reference_unsure = (refl, (((Point false Unseen, refl, refl), refl), tt))

pub variants_named_unsure : Column choice false (VariantCtor 0 ∷ []) ((VariantCtor 0, present) ∷ (VariantCtor 1, missing) ∷ [])
variants_named_unsure = (refl, (((with_unseen, refl, refl), refl), (((with_flag, refl, refl), refl), tt)))

pub marked_unsure : Column (declared 1) false [] ((VariantCtor 0, missing) ∷ (VariantCtor 1, missing) ∷ (LaterCtor, missing) ∷ [])
marked_unsure = (refl, (((Node 0 no_values, refl, refl), refl), (((Node 1 no_values, refl, refl), refl), (((Later, refl, refl), refl), tt))))

pub array_ends_unsure : Column (ArrayType BoolType 3) false (longer 1 0 ∷ longer 0 1 ∷ []) ((longer 1 1, present) ∷ [])
array_ends_unsure = (refl, (((flags_of (Flag true ∷ Flag true ∷ Flag true ∷ []), refl, refl), refl), tt))

-- no text: all texts are others
none_named : AreNamed [] []
unfolding IsStrictlySortedBy
none_named = record { each = λ t. refl; ascending = tt }

pub any_text : Column StrType false [] ((OtherTextCtor, missing) ∷ [])
any_text = (([], none_named, refl), (((Text [], refl, refl), refl), tt))

-- `!` has no piece, at a sure place or not
pub never_sure : Column NeverType true [] []
never_sure = (refl, tt)

pub never_unsure : Column NeverType false [] []
never_unsure = (refl, tt)

-- a wildcard has every piece, and makes none: on flags, on a marked enum and its later variants, and on texts with those that no head names
pub flags_wild : Column BoolType true (WildCtor ∷ []) ((FlagCtor false, present) ∷ (FlagCtor true, present) ∷ [])
flags_wild = (refl, (((Flag false, refl, refl), refl), (((Flag true, refl, refl), refl), tt)))

pub marked_wild : Column (declared 1) true (VariantCtor 0 ∷ WildCtor ∷ []) ((VariantCtor 0, present) ∷ (VariantCtor 1, present) ∷ (LaterCtor, present) ∷ [])
marked_wild = (refl, (((Node 0 no_values, refl, refl), refl), (((Node 1 no_values, refl, refl), refl), (((Later, refl, refl), refl), tt))))

pub lengths_wild : Column (SliceType BoolType) true (WildCtor ∷ fixed 0 ∷ []) ((fixed 0, present) ∷ (longer 1 0, present) ∷ [])
lengths_wild = (refl, (((flags_of [], refl, refl), refl), (((flags_of (Flag true ∷ []), refl, refl), refl), tt)))
