-- What the names of types mean (the Rust Reference, "Types"; which types of std there are is our own choice).
use Rattle.std.specs.Prelude.{ℕ, Bool, true, false, List, [], ◌∷◌, codes, position, option_map, Option, Some, None, if◌then◌else◌}
use Rattle.std.specs.Str.{bytes_eq}
use Rattle.match_model.specs.declared.IntKind.{IntKind}
use Rattle.match_model.specs.declared.IntKind.TheVariants as ints
use Rattle.match_model.specs.Types.{MOpaque, StringName, F32Name, F64Name, BoxName, VecName, RcName, ArcName, MType, BoolType, CharType, StrType, IntType}
use Rattle.match_model.specs.RustTypes.{opaque_arguments}
use Rattle.decl_syntax.specs.Items.{KindTree, Enum, Struct, Import, Function, ItemTree}

-- what a name means as a type: the item with this number, a type without arguments, an opaque type, or a built-in enum
pub data Meaning : Type 0 where
  ItemName : ℕ → Meaning
  BaseName : MType → Meaning
  OpaqueName : MOpaque → Meaning
  OptionName ResultName : Meaning

-- the name of an enum or struct
abbrev pub declared_name : KindTree → Option (List ℕ)
declared_name (Enum name variants) = Some name
declared_name (Struct name form) = Some name
declared_name (Import owner names) = None
declared_name (Function name parameter deref arms) = None

-- the name that may be there is this one
abbrev pub is_name : (name : List ℕ) → Option (List ℕ) → Bool
is_name name None = false
is_name name (Some n) = bytes_eq name n

-- the number of the first enum or struct of this name
abbrev pub declared_at : List ItemTree → (name : List ℕ) → Option ℕ
declared_at items name = position (λ i. is_name name (declared_name i.kind)) items

-- the built-in types by their names
abbrev pub built_in_types : List (List ℕ × Meaning)
built_in_types =
    (codes "bool", BaseName BoolType) ∷
    (codes "char", BaseName CharType) ∷
    (codes "str", BaseName StrType) ∷
    (codes "u8", BaseName (IntType ints.U8)) ∷
    (codes "u16", BaseName (IntType ints.U16)) ∷
    (codes "u32", BaseName (IntType ints.U32)) ∷
    (codes "u64", BaseName (IntType ints.U64)) ∷
    (codes "u128", BaseName (IntType ints.U128)) ∷
    (codes "usize", BaseName (IntType ints.USize)) ∷
    (codes "i8", BaseName (IntType ints.I8)) ∷
    (codes "i16", BaseName (IntType ints.I16)) ∷
    (codes "i32", BaseName (IntType ints.I32)) ∷
    (codes "i64", BaseName (IntType ints.I64)) ∷
    (codes "i128", BaseName (IntType ints.I128)) ∷
    (codes "isize", BaseName (IntType ints.ISize)) ∷
    (codes "String", OpaqueName StringName) ∷
    (codes "f32", OpaqueName F32Name) ∷
    (codes "f64", OpaqueName F64Name) ∷
    (codes "Box", OpaqueName BoxName) ∷
    (codes "Vec", OpaqueName VecName) ∷
    (codes "Rc", OpaqueName RcName) ∷
    (codes "Arc", OpaqueName ArcName) ∷
    (codes "Option", OptionName) ∷
    (codes "Result", ResultName) ∷ []

-- what stands beside a text in a table
abbrev pub entry_of : {K : Type 0} → List (List ℕ × K) → List ℕ → Option K
entry_of [] text = None
entry_of (entry ∷ entries) text = if bytes_eq text entry.0 then Some entry.1 else entry_of entries text

-- the built-in type of this name
unfoldable pub built_in : (name : List ℕ) → Option Meaning
built_in name = entry_of built_in_types name

-- the integer type, if it is one
abbrev pub int_of : MType → Option IntKind
int_of (IntType kind) = Some kind
int_of _ = None

-- the integer type of this meaning
abbrev pub meant_int : Option Meaning → Option IntKind
meant_int (Some (BaseName t)) = int_of t
meant_int _ = None

-- the integer type that the suffix of a literal names
abbrev pub int_kind : (suffix : List ℕ) → Option IntKind
int_kind suffix = meant_int (built_in suffix)

-- the first of the two that is there
abbrev pub first_of_two : Option Meaning → Option Meaning → Option Meaning
first_of_two (Some m) other = Some m
first_of_two None other = other

-- what a name means as a type: the first enum or struct of the file that has it, else a built-in type
abbrev pub means : List ItemTree → (name : List ℕ) → Option Meaning
means items name = first_of_two (option_map ItemName (declared_at items name)) (built_in name)

-- how many type arguments what the name means has
abbrev pub argument_count : Meaning → ℕ
argument_count (OpaqueName o) = opaque_arguments o
argument_count OptionName = 1
argument_count ResultName = 2
argument_count _ = 0

-- an opaque type whose argument needs no size: `Box`, `Rc`, `Arc`
abbrev pub holds_sizeless : MOpaque → Bool
holds_sizeless BoxName = true
holds_sizeless RcName = true
holds_sizeless ArcName = true
holds_sizeless _ = false

-- the arguments of what the name means need a size
abbrev pub arguments_sized : Option Meaning → Bool
arguments_sized (Some (OpaqueName o)) = if holds_sizeless o then false else true
arguments_sized _ = true

-- what names mean
abbrev pub Means : Type 0
Means = List ℕ → Option Meaning
