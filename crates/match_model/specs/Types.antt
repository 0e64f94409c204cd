-- The types that a match can look at (Rust Reference, Types).
use Rattle.std.specs.Prelude.{ℕ, Bool, List, [], ◌∷◌}
use Rattle.match_model.specs.declared.IntKind.{IntKind}

-- who declares a named type: the item with this number in the file, functions and imports counted, or a built-in enum
pub data MOwner : Type 0 where
  DeclaredItem : ℕ → MOwner
  OptionOwner ResultOwner : MOwner

-- the types that a pattern can only bind or ignore (our own choice). One is a type parameter of a declaration, by its number; the
-- arguments of a named type replace it there
pub data MOpaque : Type 0 where
  StringName F32Name F64Name BoxName VecName RcName ArcName : MOpaque
  ParameterName : (number : ℕ) → MOpaque

mutual
  -- a type; `mutable` tells `&mut` from `&`, and a named type has its type arguments
  pub data MType : Type 0 where
    BoolType CharType StrType NeverType : MType
    IntType : IntKind → MType
    OpaqueType : MOpaque → (arguments : MTypes) → MType
    TupleType : MTypes → MType
    PointType : (mutable : Bool) → MType → MType
    SliceType : MType → MType
    ArrayType : MType → (len : ℕ) → MType
    NamedType : MOwner → (arguments : MTypes) → MType

  -- a list of types, since a type cannot hold a list of itself
  pub data MTypes : Type 0 where
    no_types : MTypes
    more_types : MType → MTypes → MTypes

-- the types as a list
abbrev pub types_list : MTypes → List MType
types_list no_types = []
types_list (more_types t ts) = t ∷ types_list ts

-- the types of a list
abbrev pub types_of : List MType → MTypes
types_of [] = no_types
types_of (t ∷ ts) = more_types t (types_of ts)
