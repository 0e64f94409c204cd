-- Values as they are written, in the manner of witnesses (the Rust Reference, Expressions).
use Rattle.std.specs.Prelude.{ℕ, Bool, true, false, List, [], ◌∷◌, ◌++◌, ◌&&◌, ◌||◌, nat_le, nat_eq, if◌then◌else◌}
use Rattle.std.specs.Prelude.{chars, codes, decimal}
use Rattle.std.specs.Fmt.{digits}
use Rattle.witness_text.specs.Literals.{char_literal, string_literal}
use Rattle.witness_text.specs.Texts.{name_text, flag_text, tuple_text, bracketed, braced, field_text, joined}
use Rattle.value_syntax.specs.Trees.{WrittenTree, WrittenFlag, WrittenChar, WrittenByte, WrittenInt, WrittenStr}
use Rattle.value_syntax.specs.Trees.{WrittenText, WrittenOpaque, WrittenLater, WrittenUnseen, WrittenPoint}
use Rattle.value_syntax.specs.Trees.{WrittenTuple, WrittenRow, WrittenUnitForm, WrittenTupleForm, WrittenBraceForm}
use Rattle.value_syntax.specs.Trees.{WrittenTrees, no_values, more_values, WrittenFields, no_fields, more_fields}

-- a byte by its value, in two hexadecimal digits
abbrev pub byte_escape : ℕ → List ℕ
byte_escape b = codes "\\x" ++ ((if nat_le 16 b then [] else codes "0") ++ digits 16 false b)

-- a byte within a literal: those from space to `~` stand for themselves, but the quote and `\` have a backslash in
-- front; all others are told by their values
unfoldable pub escaped_byte : ℕ → List ℕ
escaped_byte b =
    if nat_eq b 39 || nat_eq b 92 then 92 ∷ b ∷ []
    else (if nat_le 32 b && nat_le b 126 then b ∷ [] else byte_escape b)

-- the literal of a byte
abbrev pub byte_literal : ℕ → List ℕ
byte_literal b = codes "b'" ++ (escaped_byte b ++ codes "'")

-- a sign
abbrev pub sign_text : (negative : Bool) → List ℕ
sign_text true = codes "-"
sign_text false = []

-- the mark of a reference
abbrev pub mark_text : (mutable : Bool) → List ℕ
mark_text true = codes "&mut "
mark_text false = codes "&"

abbrev mutual
  -- the value; a text is what a literal refers to, so `*` stands in front of it
  pub written_text : WrittenTree → List ℕ
  written_text (WrittenFlag b) = flag_text b
  written_text (WrittenChar c) = char_literal c
  written_text (WrittenByte b) = byte_literal b
  written_text (WrittenInt negative size suffix) = sign_text negative ++ (decimal size ++ suffix)
  written_text (WrittenStr text) = string_literal (chars text)
  written_text (WrittenText text) = codes "*" ++ string_literal (chars text)
  written_text WrittenOpaque = codes "?opaque"
  written_text WrittenLater = codes "?later"
  written_text WrittenUnseen = codes "?unseen"
  written_text (WrittenPoint mutable w) = mark_text mutable ++ written_text w
  written_text (WrittenTuple ws) = tuple_text (value_texts ws)
  written_text (WrittenRow ws) = codes "[" ++ (joined (value_texts ws) ++ codes "]")
  written_text (WrittenUnitForm name) = name_text name
  written_text (WrittenTupleForm name ws) = name_text name ++ bracketed (value_texts ws)
  written_text (WrittenBraceForm name fs) = name_text name ++ braced (field_texts fs)

  -- the values, each by itself
  pub value_texts : WrittenTrees → List (List ℕ)
  value_texts no_values = []
  value_texts (more_values w ws) = written_text w ∷ value_texts ws

  -- the fields, each with its name
  pub field_texts : WrittenFields → List (List ℕ)
  field_texts no_fields = []
  field_texts (more_fields name w fs) = field_text name (written_text w) ∷ field_texts fs
