-- Worked examples: how some values are written.
use Rattle.std.proofs.Common.{◌≡◌, refl, ℕ, true, false, List, [], ◌∷◌, codes}
use Rattle.std.specs.Prelude.{pos, negsuc}
use Rattle.match_model.specs.declared.IntKind.TheVariants.{I8, U8}
use Rattle.match_model.specs.declared.Width.TheVariants.{Endless}
use Rattle.match_model.specs.Types.{DeclaredItem, OptionOwner, ResultOwner, MType, BoolType, CharType, StrType, NeverType, IntType, TupleType, PointType, SliceType, ArrayType, NamedType, no_types, types_of}
use Rattle.match_model.specs.Declarations.{MField, MForm, UnitForm, TupleForm, BraceForm, MVariant, StructItem, EnumItem, OtherItem, MProgram}
use Rattle.match_model.specs.Values.{MValue, Flag, Num, Text, Node, Point, Row, Thing, Later, Unseen, values_of}
use Rattle.value_syntax.specs.Trees.{WrittenTree, WrittenFlag, WrittenChar, WrittenInt, WrittenStr, WrittenText, WrittenOpaque, WrittenLater, WrittenUnseen, WrittenPoint, WrittenTuple, WrittenRow, WrittenUnitForm, WrittenTupleForm, WrittenBraceForm, values_from, FieldTree, fields_from}
use lib.Utf8.{encode}
use Rattle.witness_text.specs.Trees.{PlainName, VariantName}
use Rattle.witness_names.specs.NamedValues.{written_value}

abbrev field : List ℕ → MType → MField
field name type = record { name = name; type = type }

abbrev variant : List ℕ → MForm → MVariant
variant name form = record { name = name; form = form }

abbrev tree : List ℕ → WrittenTree → FieldTree
tree name value = record { name = name; value = value }

abbrev node : (variant : ℕ) → List MValue → MValue
node k vs = Node k (values_of vs)

abbrev row : List MValue → MValue
row vs = Row (values_of vs)

-- fn f() {}  struct P { at: i8, by: bool }  enum E { A, B(P, char), C {} }  struct S;
abbrev pair : MType
pair = NamedType (DeclaredItem 1) no_types

abbrev choice : MType
choice = NamedType (DeclaredItem 2) no_types

abbrev unit : MType
unit = NamedType (DeclaredItem 3) no_types

abbrev pair_form : MForm
pair_form = BraceForm (field (codes "at") (IntType I8) ∷ field (codes "by") BoolType ∷ [])

abbrev choice_variants : List MVariant
choice_variants =
    variant (codes "A") UnitForm
    ∷ variant (codes "B") (TupleForm (pair ∷ CharType ∷ []))
    ∷ variant (codes "C") (BraceForm [])
    ∷ []

abbrev program : MProgram
program = record {
  items = OtherItem
      ∷ StructItem (variant (codes "P") pair_form)
      ∷ EnumItem (codes "E") false choice_variants
      ∷ StructItem (variant (codes "S") UnitForm)
      ∷ [];
  width = Endless;
}

abbrev written : MType → MValue → WrittenTree
written = written_value program

-- a variant behind its enum's name, in each form; a struct by its own, its fields as they are declared
unit_variant : written choice (node 0 []) ≡ WrittenUnitForm (VariantName (codes "E") (codes "A"))
unit_variant = refl

brace_variant : written choice (node 2 []) ≡ WrittenBraceForm (VariantName (codes "E") (codes "C")) (fields_from [])
brace_variant = refl

unit_struct : written unit (node 0 []) ≡ WrittenUnitForm (PlainName (codes "S"))
unit_struct = refl

struct : written pair (node 0 (Num (negsuc 127) ∷ Flag true ∷ []))
    ≡ WrittenBraceForm (PlainName (codes "P"))
    (fields_from (tree (codes "at") (WrittenInt true 128 []) ∷ tree (codes "by") (WrittenFlag true) ∷ []))
struct = refl

tuple_variant : written choice (node 1 (node 0 (Num (pos 0) ∷ Flag false ∷ []) ∷ Num (pos 97) ∷ []))
    ≡ WrittenTupleForm (VariantName (codes "E") (codes "B")) (values_from (WrittenBraceForm (PlainName (codes "P"))
    (fields_from (tree (codes "at") (WrittenInt false 0 []) ∷ tree (codes "by") (WrittenFlag false) ∷ []))
    ∷ WrittenChar 97 ∷ []))
tuple_variant = refl

-- the variants of `Option` and `Result` by their own names
none : written (NamedType OptionOwner (types_of (BoolType ∷ []))) (node 0 [])
    ≡ WrittenUnitForm (PlainName (codes "None"))
none = refl

error : written (NamedType ResultOwner (types_of (BoolType ∷ CharType ∷ []))) (node 1 (Num (pos 0x10ffff) ∷ []))
    ≡ WrittenTupleForm (PlainName (codes "Err")) (values_from (WrittenChar 0x10ffff ∷ []))
error = refl

-- texts: a shared reference to one is its literal alone, in UTF-8
shared : written (PointType false StrType) (Point false (Text (0xe9 ∷ []))) ≡ WrittenStr (0xc3 ∷ 0xa9 ∷ [])
unfolding encode
shared = refl

mutable : written (PointType true StrType) (Point true (Text (codes "a"))) ≡ WrittenPoint true (WrittenText (codes "a"))
unfolding encode
mutable = refl

shared_twice : written (PointType false (PointType false StrType)) (Point false (Point false (Text (codes "a"))))
    ≡ WrittenPoint false (WrittenStr (codes "a"))
unfolding encode
shared_twice = refl

text_itself : written StrType (Text []) ≡ WrittenText []
text_itself = refl

-- tuples and rows; a row of another length than the array's is written all the same
tuple : written (TupleType (types_of (BoolType ∷ IntType U8 ∷ []))) (node 0 (Flag true ∷ Num (pos 97) ∷ []))
    ≡ WrittenTuple (values_from (WrittenFlag true ∷ WrittenInt false 97 [] ∷ []))
tuple = refl

slice : written (SliceType CharType) (row (Num (pos 97) ∷ [])) ≡ WrittenRow (values_from (WrittenChar 97 ∷ []))
slice = refl

rest_of_array : written (ArrayType BoolType 3) (row (Flag true ∷ [])) ≡ WrittenRow (values_from (WrittenFlag true ∷ []))
rest_of_array = refl

-- what no literal tells
opaque : written StrType Thing ≡ WrittenOpaque
opaque = refl

later : written choice Later ≡ WrittenLater
later = refl

unseen : written NeverType Unseen ≡ WrittenUnseen
unseen = refl

-- what the type does not have
no_character : written CharType (Num (pos 0xd800)) ≡ WrittenInt false 0xd800 []
no_character = refl

no_variant : written choice (node 3 []) ≡ WrittenUnseen
no_variant = refl

no_tuple : written BoolType (node 0 (Flag true ∷ [])) ≡ WrittenUnseen
no_tuple = refl
