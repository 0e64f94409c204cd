-- Values as they are written, without where they lie in memory.
use Rattle.std.specs.Prelude.{ℕ, Bool, List, [], ◌∷◌, Option, Some, None, map, option_map}
use Rattle.std.specs.Prelude.{box_value, string_bytes}
use Rattle.witness_text.specs.Trees.{NameTree, PlainName, VariantName}
use Rattle.value_syntax.specs.declared.value.WrittenPath as declared_path
use Rattle.value_syntax.specs.declared.value.WrittenValue.{WrittenValue}
use Rattle.value_syntax.specs.declared.value.WrittenField.{WrittenField}
use Rattle.value_syntax.specs.declared.value.WrittenValue.TheOpen as v
use Rattle.value_syntax.specs.declared.value.WrittenValue.TheOpen.{WrittenValue-F, WrittenField-F}
use Rattle.value_syntax.specs.declared.value.WrittenValue.TheFolds.{fold-WrittenValue, fold-WrittenField}

mutual
  -- a value as it is written: a flag; a character by its scalar value; a byte; an integer with its suffix; a reference
  -- to a text, and a text itself, both in UTF-8; what is not looked into; a variant that is not declared yet; what has
  -- no constructors; a reference; a tuple; a row of items; a name alone, with a list of parts, or with named fields
  pub data WrittenTree : Type 0 where
    WrittenFlag : Bool → WrittenTree
    WrittenChar : ℕ → WrittenTree
    WrittenByte : ℕ → WrittenTree
    WrittenInt : (negative : Bool) → (size : ℕ) → (suffix : List ℕ) → WrittenTree
    WrittenStr : List ℕ → WrittenTree
    WrittenText : List ℕ → WrittenTree
    WrittenOpaque WrittenLater WrittenUnseen : WrittenTree
    WrittenPoint : (mutable : Bool) → WrittenTree → WrittenTree
    WrittenTuple : WrittenTrees → WrittenTree
    WrittenRow : WrittenTrees → WrittenTree
    WrittenUnitForm : NameTree → WrittenTree
    WrittenTupleForm : NameTree → WrittenTrees → WrittenTree
    WrittenBraceForm : NameTree → WrittenFields → WrittenTree

  -- a list of values, since a value cannot hold a list of itself
  pub data WrittenTrees : Type 0 where
    no_values : WrittenTrees
    more_values : WrittenTree → WrittenTrees → WrittenTrees

  -- fields, each with its name
  pub data WrittenFields : Type 0 where
    no_fields : WrittenFields
    more_fields : (name : List ℕ) → WrittenTree → WrittenFields → WrittenFields

-- the values of a list
abbrev pub values_from : List WrittenTree → WrittenTrees
values_from [] = no_values
values_from (w ∷ ws) = more_values w (values_from ws)

-- a field by its name and its value
pub record FieldTree : Type 0 where
  pub name : List ℕ
  pub value : WrittenTree

-- the fields of a list
abbrev pub fields_from : List FieldTree → WrittenFields
fields_from [] = no_fields
fields_from (f ∷ fs) = more_fields f.name f.value (fields_from fs)

-- a name, alone or behind that of an enum
abbrev pub path_tree : (owner : Option (List ℕ)) → (name : List ℕ) → NameTree
path_tree None name = PlainName name
path_tree (Some owner) name = VariantName owner name

-- what a caller sees of a path
abbrev pub path_view : declared_path.WrittenPath → NameTree
path_view p = path_tree (option_map string_bytes p.owner) (string_bytes p.name)

-- one level of a value, with what its parts are in their place
abbrev pub value_step : WrittenValue-F WrittenTree FieldTree → WrittenTree
value_step (v.Flag b) = WrittenFlag b
value_step (v.Char c) = WrittenChar c
value_step (v.Byte b) = WrittenByte b
value_step (v.Int negative size suffix) = WrittenInt negative size (string_bytes suffix)
value_step (v.Str text) = WrittenStr (string_bytes text)
value_step (v.Text text) = WrittenText (string_bytes text)
value_step v.Opaque = WrittenOpaque
value_step v.Later = WrittenLater
value_step v.Unseen = WrittenUnseen
value_step (v.Point mutable inner) = WrittenPoint mutable (box_value inner)
value_step (v.Tuple parts) = WrittenTuple (values_from parts.items)
value_step (v.Row items) = WrittenRow (values_from items.items)
value_step (v.UnitForm path) = WrittenUnitForm (path_view path)
value_step (v.TupleForm path parts) = WrittenTupleForm (path_view path) (values_from parts.items)
value_step (v.BraceForm path fields) = WrittenBraceForm (path_view path) (fields_from fields.items)

-- the same of a field
abbrev pub field_step : WrittenField-F WrittenTree FieldTree → FieldTree
field_step f = record { name = string_bytes f.name; value = f.value }

-- what a caller sees of a value
abbrev pub written_view : WrittenValue → WrittenTree
written_view = fold-WrittenValue WrittenTree FieldTree value_step field_step

-- what a caller sees of a field
abbrev pub field_view : WrittenField → FieldTree
field_view = fold-WrittenField WrittenTree FieldTree value_step field_step

-- the values of a list, and the fields
abbrev pub values_view : List WrittenValue → WrittenTrees
values_view vs = values_from (map written_view vs)

abbrev pub fields_view : List WrittenField → WrittenFields
fields_view fs = fields_from (map field_view fs)
