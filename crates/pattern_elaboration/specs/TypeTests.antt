-- What kind a type is of.
use Rattle.std.specs.Prelude.{ℕ, suc, Bool, Option, Some, None}
use Rattle.match_model.specs.Types.{MType, CharType, IntType, PointType, SliceType, ArrayType}
use Rattle.number_kinds.specs.declared.kinds.NumberKind.{NumberKind}
use Rattle.number_kinds.specs.declared.kinds.NumberKind.TheVariants as numbers
use Rattle.type_table.specs.declared.table.TyId.{TyId}
use Rattle.type_table.specs.declared.kinds.TyKind.{TyKind}
use Rattle.type_table.specs.declared.kinds.TyKind.TheVariants as kinds

-- the kind of reference that a type is, with the type behind it
abbrev pub point_of : MType → Option (Bool × MType)
point_of (PointType mutable t) = Some (mutable, t)
point_of _ = None

-- how many references stand around a type
abbrev pub point_levels : MType → ℕ
point_levels (PointType mutable t) = suc (point_levels t)
point_levels _ = 0

-- the kind of numbers that a type has
abbrev pub number_kind : MType → Option NumberKind
number_kind CharType = Some numbers.Char
number_kind (IntType kind) = Some (numbers.Int kind)
number_kind _ = None

-- the type of the items of a slice or array, with the length of an array
abbrev pub row_of : MType → Option (MType × Option ℕ)
row_of (SliceType t) = Some (t, None)
row_of (ArrayType t n) = Some (t, Some n)
row_of _ = None

-- No meaning: the same of a kind.
abbrev pub kind_point : TyKind → Option (Bool × TyId)
kind_point (kinds.Point mutable inner) = Some (mutable, inner)
kind_point _ = None

abbrev pub kind_number : TyKind → Option NumberKind
kind_number kinds.Char = Some numbers.Char
kind_number (kinds.Int kind) = Some (numbers.Int kind)
kind_number _ = None

abbrev pub kind_row : TyKind → Option (TyId × Option ℕ)
kind_row (kinds.Slice item) = Some (item, None)
kind_row (kinds.Array item n) = Some (item, Some n)
kind_row _ = None
