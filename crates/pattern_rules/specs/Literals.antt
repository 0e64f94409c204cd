-- Literals and the ends of ranges: which of them are refused, which types they have, and which numbers they are (Rust
-- Reference, Literal patterns and Range patterns).
use Rattle.std.specs.Prelude.{ℕ, ℤ, pos, Bool, true, false, not, ◌&&◌, ◌||◌, List, length, nat_eq, is_none, Option, Some, None, option_map, if◌then◌else◌}
use denote.Enum.Bare.{sameb}
use Rattle.match_model.specs.contracts.IntKind as kind_contract
use Rattle.match_model.specs.declared.Width.{Width}
use Rattle.match_model.specs.declared.IntKind.{IntKind}
use Rattle.match_model.specs.declared.IntKind.TheVariants.{U8}
use Rattle.match_model.specs.Types.{MType, CharType, IntType, PointType}
use Rattle.match_model.specs.Typing.{is_bool, is_str}
use Rattle.match_model.specs.Numbers.{MRange}
use Rattle.match_model.specs.SourcePatterns.{written_range}
use Rattle.range_split.specs.Numbers.{signed}
use Rattle.number_kinds.specs.Literals.{is_literal_of, has_no_number}
use Rattle.decl_syntax.specs.Patterns.{LitTree, Flag, Char, Byte, Int, Str, Other}
use Rattle.type_names.specs.Meanings.{int_kind}

-- the two integer types are one
abbrev pub same_kind : IntKind → IntKind → Bool
same_kind = sameb kind_contract.the_type

-- there is a suffix, and it is no integer type
abbrev pub is_odd_suffix : (suffix : List ℕ) → Bool
is_odd_suffix suffix = not (nat_eq (length suffix) 0) && is_none (int_kind suffix)

-- rule 35 refuses the literal or end of a range: a float, a byte or C string, a path, or an integer with an odd suffix
abbrev pub is_refused : LitTree → Bool
is_refused Other = true
is_refused (Int negative size suffix) = is_odd_suffix suffix
is_refused (Flag b) = false
is_refused (Char c) = false
is_refused (Byte b) = false
is_refused (Str text) = false

-- rule 35 refuses the end that may be there
abbrev pub end_refused : Option LitTree → Bool
end_refused None = false
end_refused (Some l) = is_refused l

-- rule 35 refuses an end of the range
abbrev pub some_end_refused : (low high : Option LitTree) → Bool
some_end_refused low high = end_refused low || end_refused high

-- the type is `char`
abbrev pub is_char : MType → Bool
is_char CharType = true
is_char _ = false

-- the type is this integer type
abbrev pub is_kind : IntKind → MType → Bool
is_kind kind (IntType k) = same_kind kind k
is_kind kind _ = false

-- the type is an integer type
abbrev pub is_integer : MType → Bool
is_integer (IntType kind) = true
is_integer _ = false

-- the type is `&str`
abbrev pub is_shared_text : MType → Bool
is_shared_text (PointType false t) = is_str t
is_shared_text _ = false

-- an integer with this suffix has the type: an integer type, and the one that the suffix names
abbrev pub has_suffix_type : (suffix : List ℕ) → MType → Bool
has_suffix_type suffix t = if nat_eq (length suffix) 0 then is_integer t else suffix_is (int_kind suffix)
  where
    suffix_is : Option IntKind → Bool
    suffix_is None = false
    suffix_is (Some kind) = is_kind kind t

-- a literal or end of a range that is no string has the type
abbrev pub has_type : LitTree → MType → Bool
has_type (Flag b) t = is_bool t
has_type (Char c) t = is_char t
has_type (Byte b) t = is_kind U8 t
has_type (Int negative size suffix) t = has_suffix_type suffix t
has_type (Str text) t = false
has_type Other t = false

-- the end that may be there has the type
abbrev pub end_has_type : Option LitTree → MType → Bool
end_has_type None t = true
end_has_type (Some l) t = has_type l t

-- the number that a literal or end of a range is, if it is one of at most 128 bits; a character is its scalar value
abbrev pub number_of : LitTree → Option ℤ
number_of (Char c) = Some (pos c)
number_of (Byte b) = Some (pos b)
number_of (Int negative size suffix) = option_map (λ n. signed negative n) size
number_of (Flag b) = None
number_of (Str text) = None
number_of Other = None

-- the number of the end that may be there
abbrev pub end_number : Option LitTree → Option ℤ
end_number None = None
end_number (Some l) = number_of l

-- the number that may be there is one that a literal of the type can be
abbrev pub is_number_of : Width → MType → Option ℤ → Bool
is_number_of width t None = false
is_number_of width t (Some n) = is_literal_of width t n

-- an integer literal or end of a range is no number of the integer type
abbrev pub is_outside : Width → MType → LitTree → Bool
is_outside width (IntType kind) (Int negative size suffix) = not (is_number_of width (IntType kind) (number_of (Int negative size suffix)))
is_outside width t l = false

-- the same of an end that may be there
abbrev pub end_outside : Width → MType → Option LitTree → Bool
end_outside width t None = false
end_outside width t (Some l) = is_outside width t l

-- a written range has no number of the type
abbrev pub is_empty_at : Width → MType → (low high : Option LitTree) → (inclusive : Bool) → Bool
is_empty_at width t low high inclusive = has_no_number width t (end_number low) inclusive (end_number high)

-- the range of numbers that a written range means at the type
abbrev pub range_meant : Width → MType → (low high : Option LitTree) → (closed : Bool) → MRange
range_meant width t low high closed = written_range width t (end_number low) closed (end_number high)
