-- Witnesses with their names, without where they lie in memory.
use denote.Bor.{Bor}
use Rattle.std.specs.Prelude.{ℕ, Bool, List, [], ◌∷◌, Option, map, box_value, chars}
use Rattle.match_model.specs.declared.IntKind.{IntKind}
use Rattle.match_model.specs.Numbers.{MRange}
use Rattle.range_split.specs.Ranges.{plain_range}
use Rattle.witness_text.specs.declared.named.FormName.{FormName}
use Rattle.witness_text.specs.declared.named.FormName.TheVariants as names
use Rattle.witness_text.specs.declared.named.NamedWitness.{NamedWitness}
use Rattle.witness_text.specs.declared.named.NamedField.{NamedField}
use Rattle.witness_text.specs.declared.named.NamedWitness.TheOpen as w
use Rattle.witness_text.specs.declared.named.NamedWitness.TheOpen.{NamedWitness-F, NamedField-F}
use Rattle.witness_text.specs.declared.named.NamedWitness.TheFolds.{fold-NamedWitness, fold-NamedField}

-- the name of a form: alone, or behind the name of its enum
pub data NameTree : Type 0 where
  PlainName : List ℕ → NameTree
  VariantName : (owner variant : List ℕ) → NameTree

-- what a caller sees of it
abbrev pub name_view : FormName → NameTree
name_view (names.Plain name) = PlainName name.now
name_view (names.Variant owner variant) = VariantName owner.now variant.now

mutual
  -- a witness: anything; a variant that is not declared yet; a flag; a range of an integer type; a range of characters
  -- by their scalar values, `None` being a free end; a text; every text but these; a tuple; a struct or variant without
  -- brackets, with a list of parts, or with named fields; a reference; a row by its first and last items, `longer`
  -- allowing more between them
  pub data WitnessTree : Type 0 where
    Anything Undeclared : WitnessTree
    OfFlag : Bool → WitnessTree
    OfInts : IntKind → MRange → WitnessTree
    OfChars : (low high : Option ℕ) → WitnessTree
    OfText : List ℕ → WitnessTree
    OfOthers : List (List ℕ) → WitnessTree
    OfTuple : WitnessTrees → WitnessTree
    OfUnitForm : NameTree → WitnessTree
    OfTupleForm : NameTree → WitnessTrees → WitnessTree
    OfBraceForm : NameTree → FieldTrees → WitnessTree
    OfPoint : (mutable : Bool) → WitnessTree → WitnessTree
    OfRow : (front : WitnessTrees) → (longer : Bool) → (back : WitnessTrees) → WitnessTree

  -- a list of witnesses, since a witness cannot hold a list of itself
  pub data WitnessTrees : Type 0 where
    no_trees : WitnessTrees
    more_trees : WitnessTree → WitnessTrees → WitnessTrees

  -- fields, each with its name
  pub data FieldTrees : Type 0 where
    no_fields : FieldTrees
    more_fields : (name : List ℕ) → WitnessTree → FieldTrees → FieldTrees

-- the witnesses of a list
abbrev pub trees_of : List WitnessTree → WitnessTrees
trees_of [] = no_trees
trees_of (w ∷ ws) = more_trees w (trees_of ws)

-- a field by its name and what stands for it
pub record FieldTree : Type 0 where
  pub name : List ℕ
  pub witness : WitnessTree

-- the fields of a list
abbrev pub fields_of : List FieldTree → FieldTrees
fields_of [] = no_fields
fields_of (f ∷ fs) = more_fields f.name f.witness (fields_of fs)

-- texts, as scalar values
abbrev pub texts_view : List (Bor (List ℕ)) → List (List ℕ)
texts_view ts = map (λ t. chars t.now) ts

-- one level of a witness, with what its parts are in their place
abbrev pub witness_step : NamedWitness-F WitnessTree FieldTree → WitnessTree
witness_step w.Any = Anything
witness_step (w.Flag b) = OfFlag b
witness_step (w.Ints kind range) = OfInts kind (plain_range range)
witness_step (w.Chars low high) = OfChars low high
witness_step (w.Text t) = OfText (chars t.now)
witness_step (w.Else ts) = OfOthers (texts_view ts.items)
witness_step (w.Tuple parts) = OfTuple (trees_of parts.items)
witness_step (w.UnitForm name) = OfUnitForm (name_view name)
witness_step (w.TupleForm name parts) = OfTupleForm (name_view name) (trees_of parts.items)
witness_step (w.BraceForm name fields) = OfBraceForm (name_view name) (fields_of fields.items)
witness_step (w.Point mutable inner) = OfPoint mutable (box_value inner)
witness_step (w.Row front longer back) = OfRow (trees_of front.items) longer (trees_of back.items)
witness_step w.Later = Undeclared

-- the same of a field
abbrev pub field_step : NamedField-F WitnessTree FieldTree → FieldTree
field_step f = record { name = f.name.now; witness = f.witness }

-- what a caller sees of a witness
abbrev pub witness_view : NamedWitness → WitnessTree
witness_view = fold-NamedWitness WitnessTree FieldTree witness_step field_step

-- what a caller sees of a field
abbrev pub field_view : NamedField → FieldTree
field_view = fold-NamedField WitnessTree FieldTree witness_step field_step

-- the witnesses of a list, and the fields
abbrev pub witnesses_view : List NamedWitness → WitnessTrees
witnesses_view ws = trees_of (map witness_view ws)

abbrev pub fields_view : List NamedField → FieldTrees
fields_view fs = fields_of (map field_view fs)
