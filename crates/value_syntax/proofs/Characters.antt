-- The characters of the texts of values.
use Rattle.std.proofs.Common.{ℕ, List, [], ◌∷◌, ◌++◌, chars}
use Rattle.std.proofs.Common.{codes}
use Rattle.std.specs.Prelude.{decimal}
use Rattle.witness_text.specs.Trees.{NameTree, PlainName, VariantName}
use Rattle.witness_text.specs.Texts.{flag_text, joined, tuple_text, bracketed, braced}
use Rattle.witness_text.specs.Literals.{char_literal, string_literal}
use Rattle.value_syntax.specs.Trees.{WrittenTree, WrittenFlag, WrittenChar, WrittenByte, WrittenInt, WrittenStr}
use Rattle.value_syntax.specs.Trees.{WrittenText, WrittenOpaque, WrittenLater, WrittenUnseen, WrittenPoint}
use Rattle.value_syntax.specs.Trees.{WrittenTuple, WrittenRow, WrittenUnitForm, WrittenTupleForm, WrittenBraceForm}
use Rattle.value_syntax.specs.Trees.{WrittenTrees, no_values, more_values, WrittenFields, no_fields, more_fields}
use Rattle.value_syntax.specs.Texts.{byte_literal, sign_text, mark_text}
use Rattle.value_syntax.proofs.LexedNames.{name_chars}

-- the name of a form
abbrev pub form_chars : NameTree → List ℕ
form_chars (PlainName name) = name_chars name
form_chars (VariantName owner name) = name_chars owner ++ (codes "::" ++ name_chars name)

-- a field
abbrev pub field_chars : (name cs : List ℕ) → List ℕ
field_chars name cs = name_chars name ++ (codes ": " ++ cs)

abbrev mutual
  -- a value
  pub written_chars : WrittenTree → List ℕ
  written_chars (WrittenFlag b) = flag_text b
  written_chars (WrittenChar c) = char_literal c
  written_chars (WrittenByte b) = byte_literal b
  written_chars (WrittenInt negative size suffix) = sign_text negative ++ (decimal size ++ suffix)
  written_chars (WrittenStr text) = string_literal (chars text)
  written_chars (WrittenText text) = codes "*" ++ string_literal (chars text)
  written_chars WrittenOpaque = codes "?opaque"
  written_chars WrittenLater = codes "?later"
  written_chars WrittenUnseen = codes "?unseen"
  written_chars (WrittenPoint mutable w) = mark_text mutable ++ written_chars w
  written_chars (WrittenTuple ws) = tuple_text (value_chars ws)
  written_chars (WrittenRow ws) = codes "[" ++ (joined (value_chars ws) ++ codes "]")
  written_chars (WrittenUnitForm name) = form_chars name
  written_chars (WrittenTupleForm name ws) = form_chars name ++ bracketed (value_chars ws)
  written_chars (WrittenBraceForm name fs) = form_chars name ++ braced (all_field_chars fs)

  -- the values of a list
  pub value_chars : WrittenTrees → List (List ℕ)
  value_chars no_values = []
  value_chars (more_values w ws) = written_chars w ∷ value_chars ws

  -- the fields
  pub all_field_chars : WrittenFields → List (List ℕ)
  all_field_chars no_fields = []
  all_field_chars (more_fields name w fs) = field_chars name (written_chars w) ∷ all_field_chars fs
