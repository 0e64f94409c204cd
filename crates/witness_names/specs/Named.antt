-- Witnesses with their names, by what a program declares (the Rust Reference, "Patterns" and "Paths"; which names a
-- report shows is our own choice).
use Rattle.std.specs.Prelude.{ℕ, zero, pos, negsuc, Bool, List, [], ◌∷◌, codes, slice_get, Option, Some, None, if◌then◌else◌}
use Rattle.decl_syntax.specs.Items.{ItemTree}
use Rattle.match_model.specs.declared.Width.{Width}
use Rattle.match_model.specs.Texts.{is_scalar}
use Rattle.match_model.specs.Types.{DeclaredItem, OptionOwner, ResultOwner, MType, CharType, IntType, TupleType, PointType, SliceType, ArrayType, NamedType, MTypes, types_list}
use Rattle.match_model.specs.Declarations.{MField, MForm, UnitForm, TupleForm, BraceForm, MVariant, MItem, EnumItem, MProgram, variants_of, node_types}
use Rattle.match_model.specs.Numbers.{MEnd, Free, At, MRange}
use Rattle.match_model.specs.RustTypes.{inner_type}
use Rattle.match_model.specs.Witness.{MWitness, AnyOf, LaterOf, FlagOf, SpanOf, TextOf, ElseOf, NodeOf, PointOf, RowOf, MWitnesses, no_witnesses, more_witnesses}
use Rattle.type_table.specs.declared.table.TypeTable.{TypeTable}
use Rattle.type_table.specs.Tables.{IsTableOf}
use Rattle.witness_names.specs.declared.paths.Paths.{Paths}
use Rattle.witness_names.specs.declared.paths.Paths.TheVariants.{Short, Whole}
use Rattle.witness_text.specs.Trees.{NameTree, PlainName, VariantName, WitnessTree, Anything, Undeclared, OfFlag, OfInts, OfChars, OfText, OfOthers, OfTuple, OfUnitForm, OfTupleForm, OfBraceForm, OfPoint, OfRow, trees_of, FieldTree, fields_of}

-- an end of a range of characters, by its scalar value; a number that is none bounds nothing
abbrev pub char_end : MEnd → Option ℕ
char_end Free = None
char_end (At (pos n)) = if is_scalar n then Some n else None
char_end (At (negsuc n)) = None

-- numbers of the type: characters, or numbers of an integer type
abbrev pub numbers_tree : MType → MRange → WitnessTree
numbers_tree CharType r = OfChars (char_end r.low) (char_end r.high)
numbers_tree (IntType kind) r = OfInts kind r
numbers_tree _ r = Anything

-- the name of a variant that an item declares: that of an enum stands behind the enum's, that of a struct alone
abbrev pub declared_name : Option MItem → (variant : List ℕ) → NameTree
declared_name (Some (EnumItem name marked variants)) variant = VariantName name variant
declared_name _ variant = PlainName variant

-- the name of a variant of `Option` or `Result`: alone, or behind its enum's
abbrev pub built_in_name : Paths → (owner variant : List ℕ) → NameTree
built_in_name Short owner variant = PlainName variant
built_in_name Whole owner variant = VariantName owner variant

-- the name of a variant of the type
abbrev pub name_by : Paths → MProgram → MType → (variant : List ℕ) → NameTree
name_by paths program (NamedType (DeclaredItem i) arguments) variant = declared_name (slice_get program.items i) variant
name_by paths program (NamedType OptionOwner arguments) variant = built_in_name paths (codes "Option") variant
name_by paths program (NamedType ResultOwner arguments) variant = built_in_name paths (codes "Result") variant
name_by paths program _ variant = PlainName variant

-- the name by which a report shows it; the variants of `Option` and `Result` stand alone
abbrev pub form_name : MProgram → MType → (variant : List ℕ) → NameTree
form_name = name_by Short

-- the parts, each with the name of its field
abbrev pub named_fields : List MField → List WitnessTree → List FieldTree
named_fields [] parts = []
named_fields (f ∷ fs) [] = []
named_fields (f ∷ fs) (w ∷ ws) = record { name = f.name; witness = w } ∷ named_fields fs ws

-- a form of this name with these parts
abbrev pub form_tree : NameTree → MForm → List WitnessTree → WitnessTree
form_tree name UnitForm parts = OfUnitForm name
form_tree name (TupleForm types) parts = OfTupleForm name (trees_of parts)
form_tree name (BraceForm fields) parts = OfBraceForm name (fields_of (named_fields fields parts))

-- a variant of the type, if there is one, with these parts
abbrev pub variant_tree : Paths → MProgram → MType → Option MVariant → List WitnessTree → WitnessTree
variant_tree paths program t None parts = Anything
variant_tree paths program t (Some v) parts = form_tree (name_by paths program t v.name) v.form parts

-- a node of the type with these parts: a tuple, or the struct or variant with this number
abbrev pub node_tree : Paths → MProgram → MType → (variant : ℕ) → List WitnessTree → WitnessTree
node_tree paths program (TupleType types) zero parts = OfTuple (trees_of parts)
node_tree paths program t k parts = variant_tree paths program t (slice_get (variants_of program t) k) parts

-- a reference of the type to what has this tree
abbrev pub point_tree : MType → WitnessTree → WitnessTree
point_tree (PointType mutable t) w = OfPoint mutable w
point_tree _ w = Anything

-- a row of the type by its first and last items
abbrev pub row_tree : MType → (front : List WitnessTree) → (longer : Bool) → (back : List WitnessTree) → WitnessTree
row_tree (SliceType t) front longer back = OfRow (trees_of front) longer (trees_of back)
row_tree (ArrayType t n) front longer back = OfRow (trees_of front) longer (trees_of back)
row_tree _ front longer back = Anything

-- the types that may be there
abbrev pub types_there : Option MTypes → List MType
types_there None = []
types_there (Some ts) = types_list ts

abbrev mutual
  -- the witness of the type with its names; numbers, nodes, references and rows that the type does not have are
  -- anything
  pub named_by : Paths → MProgram → MType → MWitness → WitnessTree
  named_by paths program t AnyOf = Anything
  named_by paths program t LaterOf = Undeclared
  named_by paths program t (FlagOf b) = OfFlag b
  named_by paths program t (SpanOf r) = numbers_tree t r
  named_by paths program t (TextOf text) = OfText text
  named_by paths program t (ElseOf texts) = OfOthers texts
  named_by paths program t (NodeOf k ws) = node_tree paths program t k (parts_by paths program (types_there (node_types program
      t k)) ws)
  named_by paths program t (PointOf w) = point_tree t (named_by paths program (inner_type t) w)
  named_by paths program t (RowOf front longer back) =
      row_tree t (items_by paths program (inner_type t) front) longer (items_by paths program (inner_type t) back)

  -- the witnesses, each of its own type, as far as there are types
  pub parts_by : Paths → MProgram → List MType → MWitnesses → List WitnessTree
  parts_by paths program ts no_witnesses = []
  parts_by paths program [] (more_witnesses w ws) = []
  parts_by paths program (t ∷ ts) (more_witnesses w ws) = named_by paths program t w ∷ parts_by paths program ts ws

  -- the witnesses, all of one type
  pub items_by : Paths → MProgram → MType → MWitnesses → List WitnessTree
  items_by paths program t no_witnesses = []
  items_by paths program t (more_witnesses w ws) = named_by paths program t w ∷ items_by paths program t ws

-- the witness with the names that a report shows
abbrev pub named_witness : MProgram → MType → MWitness → WitnessTree
named_witness = named_by Short

-- the table is that of some file
abbrev pub IsOfFile : TypeTable → Type 0
IsOfFile table = (items : List ItemTree) × (width : Width) × IsTableOf items width table
