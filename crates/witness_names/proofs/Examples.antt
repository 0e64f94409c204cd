-- Worked examples: the names of some witnesses.
use Rattle.std.proofs.Common.{◌≡◌, refl, ℕ, true, false, List, [], ◌∷◌, Some, None, codes}
use Rattle.std.specs.Prelude.{pos, negsuc}
use Rattle.match_model.specs.declared.IntKind.TheVariants.{U8}
use Rattle.match_model.specs.declared.Width.TheVariants.{Endless}
use Rattle.match_model.specs.Types.{DeclaredItem, OptionOwner, ResultOwner, MType, BoolType, CharType, StrType, IntType, TupleType, PointType, SliceType, ArrayType, NamedType, no_types, types_of}
use Rattle.match_model.specs.Declarations.{MField, MForm, UnitForm, TupleForm, BraceForm, MVariant, StructItem, EnumItem, OtherItem, MProgram}
use Rattle.match_model.specs.Numbers.{MRange, Free, At, closed}
use Rattle.match_model.specs.Witness.{MWitness, AnyOf, LaterOf, FlagOf, SpanOf, TextOf, ElseOf, NodeOf, PointOf, RowOf, no_witnesses, witnesses_of}
use Rattle.witness_text.specs.Trees.{PlainName, VariantName, WitnessTree, Anything, Undeclared, OfFlag, OfInts, OfChars, OfText, OfOthers, OfTuple, OfUnitForm, OfTupleForm, OfBraceForm, OfPoint, OfRow, no_trees, trees_of, FieldTree, no_fields, fields_of}
use Rattle.witness_names.specs.declared.paths.Paths.TheVariants.{Whole}
use Rattle.witness_names.specs.Named.{named_witness, named_by}

abbrev field : List ℕ → MType → MField
field name type = record { name = name; type = type }

abbrev variant : List ℕ → MForm → MVariant
variant name form = record { name = name; form = form }

abbrev tree : List ℕ → WitnessTree → FieldTree
tree name witness = record { name = name; witness = witness }

abbrev node : (variant : ℕ) → List MWitness → MWitness
node k ws = NodeOf k (witnesses_of ws)

abbrev from_2_to_5 : MRange
from_2_to_5 = closed (pos 2) (pos 5)

-- fn f() {}  struct P { at: u8, by: bool }  enum E { A, B(P, char), C {} }
abbrev pair : MType
pair = NamedType (DeclaredItem 1) no_types

abbrev choice : MType
choice = NamedType (DeclaredItem 2) no_types

abbrev pair_form : MForm
pair_form = BraceForm (field (codes "at") (IntType U8) ∷ field (codes "by") BoolType ∷ [])

abbrev choice_variants : List MVariant
choice_variants =
    variant (codes "A") UnitForm
    ∷ variant (codes "B") (TupleForm (pair ∷ CharType ∷ []))
    ∷ variant (codes "C") (BraceForm [])
    ∷ []

abbrev program : MProgram
program = record {
  items = OtherItem ∷ StructItem (variant (codes "P") pair_form) ∷ EnumItem (codes "E") false choice_variants ∷ [];
  width = Endless;
}

abbrev named : MType → MWitness → WitnessTree
named = named_witness program

-- variants by their enum's name and their own, in each form; a struct by its own
unit_variant : named choice (node 0 []) ≡ OfUnitForm (VariantName (codes "E") (codes "A"))
unit_variant = refl

brace_variant : named choice (node 2 []) ≡ OfBraceForm (VariantName (codes "E") (codes "C")) no_fields
brace_variant = refl

struct : named pair (node 0 (SpanOf from_2_to_5 ∷ FlagOf true ∷ []))
    ≡ OfBraceForm (PlainName (codes "P"))
    (fields_of (tree (codes "at") (OfInts U8 from_2_to_5) ∷ tree (codes "by") (OfFlag true) ∷ []))
struct = refl

tuple_variant : named choice (node 1 (AnyOf ∷ SpanOf (closed (pos 97) (pos 122)) ∷ []))
    ≡ OfTupleForm (VariantName (codes "E") (codes "B")) (trees_of (Anything ∷ OfChars (Some 97) (Some 122) ∷ []))
tuple_variant = refl

-- variants of `Option` and `Result` by their own names
some : named (NamedType OptionOwner (types_of (BoolType ∷ []))) (node 1 (FlagOf false ∷ []))
    ≡ OfTupleForm (PlainName (codes "Some")) (trees_of (OfFlag false ∷ []))
some = refl

error : named (NamedType ResultOwner (types_of (StrType ∷ BoolType ∷ []))) (node 1 (AnyOf ∷ []))
    ≡ OfTupleForm (PlainName (codes "Err")) (trees_of (Anything ∷ []))
error = refl

-- in an arm behind their enum's
whole_some : named_by Whole program (NamedType OptionOwner (types_of (BoolType ∷ []))) (node 1 (FlagOf false ∷ []))
    ≡ OfTupleForm (VariantName (codes "Option") (codes "Some")) (trees_of (OfFlag false ∷ []))
whole_some = refl

whole_error : named_by Whole program (PointType false (NamedType ResultOwner (types_of (StrType ∷ pair ∷ [])))) (PointOf (node 1 (AnyOf ∷ [])))
    ≡ OfPoint false (OfTupleForm (VariantName (codes "Result") (codes "Err")) (trees_of (Anything ∷ [])))
whole_error = refl

whole_struct : named_by Whole program pair (node 0 []) ≡ OfBraceForm (PlainName (codes "P")) no_fields
whole_struct = refl

-- tuples, references, rows, texts, and what is not declared yet
tuple : named (TupleType (types_of (BoolType ∷ choice ∷ []))) (node 0 (AnyOf ∷ LaterOf ∷ []))
    ≡ OfTuple (trees_of (Anything ∷ Undeclared ∷ []))
tuple = refl

mutable : named (PointType true StrType) (PointOf (ElseOf (codes "a" ∷ []))) ≡ OfPoint true (OfOthers (codes "a" ∷ []))
mutable = refl

shared : named (PointType false StrType) (PointOf (TextOf (codes "a"))) ≡ OfPoint false (OfText (codes "a"))
shared = refl

slice : named (SliceType BoolType) (RowOf (witnesses_of (FlagOf true ∷ [])) true (witnesses_of (AnyOf ∷ [])))
    ≡ OfRow (trees_of (OfFlag true ∷ [])) true (trees_of (Anything ∷ []))
slice = refl

array : named (ArrayType (IntType U8) 1) (RowOf (witnesses_of (SpanOf from_2_to_5 ∷ [])) false no_witnesses)
    ≡ OfRow (trees_of (OfInts U8 from_2_to_5 ∷ [])) false no_trees
array = refl

-- ends of ranges of characters: free, and a number that is no character's
free_end : named CharType (SpanOf (record { low = At (pos 0x10ffff); high = Free })) ≡ OfChars (Some 0x10ffff) None
free_end = refl

no_character : named CharType (SpanOf (closed (pos 0xd800) (negsuc 0))) ≡ OfChars None None
no_character = refl

-- what the type does not have
no_variant : named choice (node 3 []) ≡ Anything
no_variant = refl

no_reference : named choice (PointOf AnyOf) ≡ Anything
no_reference = refl
