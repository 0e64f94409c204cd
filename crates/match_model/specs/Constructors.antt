-- Constructors, the sets of them that types have, and what one builds (the documentation of `rustc_pattern_analysis`).
use Rattle.std.specs.Prelude.{ℕ, ◌+◌, ◌-◌, ◌^◌, ℤ, pos, negsuc, Bool, true, false, not, ◌&&◌, ◌||◌, List, [], ◌++◌, length, take, drop, nat_eq, nat_lt, nat_le, Option, Some, None, int_le}
use Rattle.std.specs.List.{list_any, list_all}
use Rattle.std.specs.Ordering.{int_eq}
use mathlib.Core.Bool.{beq}
use Rattle.match_model.specs.Values.{MValue, Flag, Num, Text, Node, Point, Row, Later, values_list}
use Rattle.match_model.specs.Texts.{text_eq, is_scalar}
use Rattle.match_model.specs.Numbers.{MEnd, Free, At, MRange, in_range, closed}

-- the shape of a row: of one length, or of every length from `front + back` on
pub data MShape : Type 0 where
  FixedShape : ℕ → MShape
  LongerShape : (front back : ℕ) → MShape

-- a constructor, as patterns, pieces of a column and trees have it; a wildcard and an or-pattern build nothing
pub data MCtor : Type 0 where
  SingleCtor PointCtor LaterCtor OtherTextCtor WildCtor OrCtor : MCtor
  VariantCtor : ℕ → MCtor
  FlagCtor : Bool → MCtor
  NumbersCtor : MRange → MCtor
  TextCtor : (scalars : List ℕ) → MCtor
  RowCtor : MShape → MCtor

-- the constructors of a type: the one of a struct or tuple, a reference, `count` variants and maybe later ones, flags, the
-- numbers of one range or two, texts, rows of one length or all; an opaque thing and a type without constructors have none
pub data MSet : Type 0 where
  SingleSet PointSet FlagSet TextSet OpaqueSet NothingSet : MSet
  VariantSet : (count : ℕ) → (later : Bool) → MSet
  NumberSet : (first : MRange) → (second : Option MRange) → MSet
  RowSet : (len : Option ℕ) → MSet

-- the shape has the length
abbrev pub covers : MShape → (len : ℕ) → Bool
covers (FixedShape n) len = nat_eq n len
covers (LongerShape f b) len = nat_le (f + b) len

-- the least length of a shape
abbrev pub least_length : MShape → ℕ
least_length (FixedShape n) = n
least_length (LongerShape f b) = f + b

-- the constructor builds the value, in a column that names these texts
abbrev pub builds : (named : List (List ℕ)) → MCtor → MValue → Bool
builds named SingleCtor (Node k parts) = nat_eq k 0
builds named (VariantCtor j) (Node k parts) = nat_eq k j
builds named PointCtor (Point mutable v) = true
builds named LaterCtor Later = true
builds named (FlagCtor b) (Flag c) = beq b c
builds named (NumbersCtor r) (Num n) = in_range r n
builds named (TextCtor t) (Text u) = text_eq t u
builds named OtherTextCtor (Text u) = not (list_any (text_eq u) named)
builds named (RowCtor s) (Row items) = covers s (length (values_list items))
builds named _ _ = false

-- the parts that the patterns or witnesses below a constructor meet: of a row with a rest those at each end, else all
abbrev pub parts_met : {A : Type 0} → MCtor → List A → List A
parts_met (RowCtor (LongerShape f b)) parts = take f parts ++ drop (length parts - b) parts
parts_met _ parts = parts

-- an elementary constructor: of one number, one text or one length
pub data Elementary : Type 0 where
  OneSingle OnePoint OneLater : Elementary
  OneVariant : ℕ → Elementary
  OneFlag : Bool → Elementary
  OneNumber : ℤ → Elementary
  OneText : (scalars : List ℕ) → Elementary
  OneLength : ℕ → Elementary

-- the elementary constructor among all constructors
abbrev pub elementary_ctor : Elementary → MCtor
elementary_ctor OneSingle = SingleCtor
elementary_ctor OnePoint = PointCtor
elementary_ctor OneLater = LaterCtor
elementary_ctor (OneVariant k) = VariantCtor k
elementary_ctor (OneFlag b) = FlagCtor b
elementary_ctor (OneNumber n) = NumbersCtor (closed n n)
elementary_ctor (OneText t) = TextCtor t
elementary_ctor (OneLength n) = RowCtor (FixedShape n)

-- the elementary constructor builds the value
abbrev pub builds_one : Elementary → MValue → Bool
builds_one e v = builds [] (elementary_ctor e) v

-- the number is in the second range of a set, where it has one
abbrev pub in_second : Option MRange → ℤ → Bool
in_second None n = false
in_second (Some r) n = in_range r n

-- the number is one of the set's
abbrev pub in_either : MRange → Option MRange → ℤ → Bool
in_either first second n = in_range first n || in_second second n

-- a set of rows allows the length
abbrev pub allows_length : Option ℕ → (len : ℕ) → Bool
allows_length None len = true
allows_length (Some n) len = nat_eq n len

-- the elementary constructor is one of the set's; a text is a list of scalar values
abbrev pub is_of_set : MSet → Elementary → Bool
is_of_set SingleSet OneSingle = true
is_of_set PointSet OnePoint = true
is_of_set (VariantSet count later) (OneVariant k) = nat_lt k count
is_of_set (VariantSet count later) OneLater = later
is_of_set FlagSet (OneFlag b) = true
is_of_set (NumberSet first second) (OneNumber n) = in_either first second n
is_of_set TextSet (OneText t) = list_all is_scalar t
is_of_set (RowSet len) (OneLength n) = allows_length len n
is_of_set _ _ = false

-- the end has no bound
abbrev pub is_free : MEnd → Bool
is_free Free = true
is_free (At n) = false

-- the last range of a set of numbers
abbrev pub last_range : MRange → Option MRange → MRange
last_range first None = first
last_range first (Some second) = second

-- the greatest and the least number of 128 bits and a sign, the numbers that the program can hold
abbrev pub greatest_held : ℤ
greatest_held = pos (2 ^ 128 - 1)

-- the least number that the program can hold
abbrev pub least_held : ℤ
least_held = negsuc (2 ^ 128 - 2)

-- an end of a range in a set that is free on that side or not: free where the set is, else one of its numbers, but on a
-- free side not the `limit`, which leaves no number behind it to hold
abbrev pub end_belongs : (free : Bool) → (limit : ℤ) → (has : ℤ → Bool) → MEnd → Bool
end_belongs free limit has Free = free
end_belongs free limit has (At n) = has n && not (free && int_eq n limit)

-- a set of rows and the shape
abbrev pub shape_belongs : Option ℕ → MShape → Bool
shape_belongs None s = true
shape_belongs (Some n) s = covers s n

-- the constructor belongs to the set; a backward range, which the program's ranges never are, is not told apart
abbrev pub belongs : MSet → MCtor → Bool
belongs SingleSet SingleCtor = true
belongs PointSet PointCtor = true
belongs (VariantSet count later) (VariantCtor k) = nat_lt k count
belongs (VariantSet count later) LaterCtor = later
belongs FlagSet (FlagCtor b) = true
belongs (NumberSet first second) (NumbersCtor r) =
    end_belongs (is_free first.low) least_held (in_either first second) r.low
    && end_belongs (is_free (last_range first second).high) greatest_held (in_either first second) r.high
belongs TextSet (TextCtor t) = list_all is_scalar t
belongs TextSet OtherTextCtor = true
belongs (RowSet len) (RowCtor s) = shape_belongs len s
belongs _ _ = false

-- whether a part inside the constructor stands at a sure place: behind a reference it does not
abbrev pub sure_inside : MCtor → (sure : Bool) → Bool
sure_inside PointCtor sure = false
sure_inside _ sure = sure

-- one low end at or below another
abbrev pub low_within : MEnd → MEnd → Bool
low_within Free e = true
low_within (At a) Free = false
low_within (At a) (At b) = int_le a b

-- one high end at or above another
abbrev pub high_within : MEnd → MEnd → Bool
high_within Free e = true
high_within (At a) Free = false
high_within (At a) (At b) = int_le b a

-- the shape has every length of the other one
abbrev pub shape_has : MShape → MShape → Bool
shape_has s (FixedShape n) = covers s n
shape_has (FixedShape m) (LongerShape f b) = false
shape_has (LongerShape g c) (LongerShape f b) = nat_le (g + c) (f + b)

-- the constructor of a pattern has all of a piece of its column
abbrev pub has_piece : MCtor → (piece : MCtor) → Bool
has_piece WildCtor piece = true
has_piece SingleCtor SingleCtor = true
has_piece PointCtor PointCtor = true
has_piece (VariantCtor j) (VariantCtor k) = nat_eq j k
has_piece LaterCtor LaterCtor = true
has_piece (FlagCtor b) (FlagCtor c) = beq b c
has_piece (NumbersCtor r) (NumbersCtor s) = low_within r.low s.low && high_within r.high s.high
has_piece (TextCtor t) (TextCtor u) = text_eq t u
has_piece OtherTextCtor OtherTextCtor = true
has_piece (RowCtor s) (RowCtor t) = shape_has s t
has_piece _ _ = false
