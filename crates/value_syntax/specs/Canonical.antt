-- Which values read back from their texts.
use Rattle.std.specs.Prelude.{◌≡◌, ℕ, zero, suc, ◌<◌, ◌^◌, Bool, true, false, ◌&&◌, List, [], chars, is_some}
use Rattle.std.specs.Str.{IsUtf8, bytes_eq}
use Rattle.std.specs.List.{list_all}
use lib.Chars.{codes}
use lib.Utf8.{scalar}
use Rattle.unicode_ident.specs.Ident.{is_xid_continue}
use Rattle.unicode_normalization.specs.Forms.{nfc}
use Rattle.decl_lexer.specs.Text.{first_passes}
use Rattle.decl_lexer.specs.Names.{is_name_start}
use Rattle.decl_lexer.specs.Words.{word_of, can_be_raw}
use Rattle.witness_text.specs.Trees.{NameTree, PlainName, VariantName}
use Rattle.value_syntax.specs.Trees.{WrittenTree, WrittenFlag, WrittenChar, WrittenByte, WrittenInt, WrittenStr}
use Rattle.value_syntax.specs.Trees.{WrittenText, WrittenOpaque, WrittenLater, WrittenUnseen, WrittenPoint}
use Rattle.value_syntax.specs.Trees.{WrittenTuple, WrittenRow, WrittenUnitForm, WrittenTupleForm, WrittenBraceForm}
use Rattle.value_syntax.specs.Trees.{WrittenTrees, no_values, more_values, WrittenFields, no_fields, more_fields}

-- a name as the lexer has it: an identifier in NFC which is not `_`, and which can be raw where it is a keyword
pub record IsName (name : List ℕ) : Type 0 where
  pub utf8 : IsUtf8 name
  pub starts : first_passes is_name_start (chars name) ≡ true
  pub continues : list_all is_xid_continue (chars name) ≡ true
  pub composed : nfc (chars name) ≡ chars name
  pub not_underscore : bytes_eq name (codes "_") ≡ false
  pub may_be_raw : is_some (word_of name) ≡ true → can_be_raw name ≡ true

-- the name of a form, of such names
abbrev pub IsFormName : NameTree → Type 0
IsFormName (PlainName name) = IsName name
IsFormName (VariantName owner name) = IsName owner × IsName name

abbrev mutual
  -- a value as canonical texts have it: its names are such names, its characters and texts are Unicode, its numbers
  -- have at most 128 bits and no suffix, and a byte is a number
  pub IsCanonical : WrittenTree → Type 0
  IsCanonical (WrittenFlag b) = Unit {0}
  IsCanonical (WrittenChar c) = scalar c ≡ true
  IsCanonical (WrittenByte b) = ⊥
  IsCanonical (WrittenInt negative size suffix) = (size < 2 ^ 128) × (suffix ≡ [])
  IsCanonical (WrittenStr text) = IsUtf8 text
  IsCanonical (WrittenText text) = IsUtf8 text
  IsCanonical WrittenOpaque = Unit {0}
  IsCanonical WrittenLater = Unit {0}
  IsCanonical WrittenUnseen = Unit {0}
  IsCanonical (WrittenPoint mutable w) = IsCanonical w
  IsCanonical (WrittenTuple ws) = AreCanonical ws
  IsCanonical (WrittenRow ws) = AreCanonical ws
  IsCanonical (WrittenUnitForm name) = IsFormName name
  IsCanonical (WrittenTupleForm name ws) = IsFormName name × AreCanonical ws
  IsCanonical (WrittenBraceForm name fs) = IsFormName name × AreCanonicalFields fs

  -- each value of a list
  pub AreCanonical : WrittenTrees → Type 0
  AreCanonical no_values = Unit {0}
  AreCanonical (more_values w ws) = IsCanonical w × AreCanonical ws

  -- each field, with its name
  pub AreCanonicalFields : WrittenFields → Type 0
  AreCanonicalFields no_fields = Unit {0}
  AreCanonicalFields (more_fields name w fs) = IsName name × IsCanonical w × AreCanonicalFields fs

-- whether each value of a list passes
abbrev pub values_pass : (WrittenTree → Bool) → WrittenTrees → Bool
values_pass passes no_values = true
values_pass passes (more_values w ws) = passes w && values_pass passes ws

-- whether the value of each field does
abbrev pub fields_pass : (WrittenTree → Bool) → WrittenFields → Bool
fields_pass passes no_fields = true
fields_pass passes (more_fields name w fs) = passes w && fields_pass passes fs

-- whether each value within a value does
abbrev pub parts_pass : (WrittenTree → Bool) → WrittenTree → Bool
parts_pass passes (WrittenPoint mutable w) = passes w
parts_pass passes (WrittenTuple ws) = values_pass passes ws
parts_pass passes (WrittenRow ws) = values_pass passes ws
parts_pass passes (WrittenTupleForm name ws) = values_pass passes ws
parts_pass passes (WrittenBraceForm name fs) = fields_pass passes fs
parts_pass passes _ = true

-- whether a value has at most so many levels
abbrev pub value_fits : ℕ → WrittenTree → Bool
value_fits zero w = false
value_fits (suc n) w = parts_pass (value_fits n) w
