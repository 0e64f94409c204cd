-- No meaning: a reading of values from left to right, which laws join to the grammar.
use Rattle.std.specs.Prelude.{ℕ, zero, suc, Bool, true, false, List, [], ◌∷◌, Option, Some, None, if◌then◌else◌}
use Rattle.std.specs.Str.{bytes_eq}
use lib.Chars.{codes}
use Rattle.decl_lexer.specs.declared.marks.Mark.TheVariants as marks
use Rattle.decl_lexer.specs.declared.words.Word.TheVariants as words
use Rattle.decl_lexer.specs.Begins.{Lexeme, Named, Keyword, Integer, Character, Byte, Text}
use Rattle.decl_lexer.specs.Lexing.{Placed}
use Rattle.decl_syntax.specs.Units.{behind, is_mark, is_word, flag_at, token_at, name_of}
use Rattle.decl_syntax.specs.Reading.{◌>>=◌, either, Read, list_at}
use Rattle.witness_text.specs.Trees.{NameTree, PlainName, VariantName}
use Rattle.value_syntax.specs.Trees.{WrittenTree, WrittenFlag, WrittenChar, WrittenByte, WrittenInt, WrittenStr}
use Rattle.value_syntax.specs.Trees.{WrittenText, WrittenOpaque, WrittenLater, WrittenUnseen, WrittenPoint}
use Rattle.value_syntax.specs.Trees.{WrittenTuple, WrittenRow, WrittenUnitForm, WrittenTupleForm, WrittenBraceForm}
use Rattle.value_syntax.specs.Trees.{no_values, more_values, values_from, FieldTree, fields_from}

-- an integer, where its size has at most 128 bits
abbrev pub sized : (negative : Bool) → (size : Option ℕ) → (suffix : List ℕ) → Option WrittenTree
sized negative (Some size) suffix = Some (WrittenInt negative size suffix)
sized negative None suffix = None

-- a token that is a value by itself
abbrev pub literal_of : Lexeme → Option WrittenTree
literal_of (Keyword words.True) = Some (WrittenFlag true)
literal_of (Keyword words.False) = Some (WrittenFlag false)
literal_of (Character c) = Some (WrittenChar c)
literal_of (Byte b) = Some (WrittenByte b)
literal_of (Integer size suffix decimal) = sized false size suffix
literal_of (Text text) = Some (WrittenStr text)
literal_of _ = None

-- an integer behind `-`
abbrev pub negated_of : Lexeme → Option WrittenTree
negated_of (Integer size suffix decimal) = sized true size suffix
negated_of _ = None

-- a text behind `*`
abbrev pub referred_of : Lexeme → Option WrittenTree
referred_of (Text text) = Some (WrittenText text)
referred_of _ = None

-- a name behind `?`
abbrev pub unknown_word : List ℕ → Option WrittenTree
unknown_word name =
    if bytes_eq name (codes "opaque") then Some WrittenOpaque
    else (if bytes_eq name (codes "later") then Some WrittenLater
    else (if bytes_eq name (codes "unseen") then Some WrittenUnseen
    else None))

-- a token behind `?`
abbrev pub unknown_of : Lexeme → Option WrittenTree
unknown_of (Named name false) = unknown_word name
unknown_of _ = None

-- a name behind its first part
abbrev pub name_behind : List ℕ → List Placed → Read NameTree
name_behind first ts =
    either (behind (is_mark marks.PathSeparator) ts)
    (λ us. token_at name_of us >>= λ n. Some (VariantName first n.0, n.1)) (Some (PlainName first, ts))

-- the name of a form
unfoldable pub form_name_at : List Placed → Read NameTree
form_name_at ts = token_at name_of ts >>= λ n. name_behind n.0 n.1

-- a field, where its value is read so
abbrev pub field_at : (List Placed → Read WrittenTree) → List Placed → Read FieldTree
field_at inner ts = token_at name_of ts >>= λ n. behind (is_mark marks.Colon) n.1 >>= λ us. inner us >>= λ x. Some
    (record { name = n.0; value = x.0 }, x.1)

-- a value behind an opening round bracket
abbrev pub round_value : (List Placed → Read WrittenTree) → List Placed → Read WrittenTree
round_value inner ts =
    either (behind (is_mark marks.CloseRound) ts) (λ rest. Some (WrittenTuple no_values, rest))
    (inner ts >>= λ x. either (behind (is_mark marks.CloseRound) x.1) (λ rest. Some (x.0, rest))
    (behind (is_mark marks.Comma) x.1 >>= λ us. list_at marks.CloseRound inner us >>= λ xs. Some
    (WrittenTuple (more_values x.0 (values_from xs.0)), xs.1)))

-- a value behind an opening square bracket
abbrev pub row_value : (List Placed → Read WrittenTree) → List Placed → Read WrittenTree
row_value inner ts = list_at marks.CloseSquare inner ts >>= λ xs. Some (WrittenRow (values_from xs.0), xs.1)

-- a value behind `&`
abbrev pub point_value : (List Placed → Read WrittenTree) → List Placed → Read WrittenTree
point_value inner ts = let mutable = flag_at (is_word words.Mut) ts in
    inner mutable.1 >>= λ x. Some (WrittenPoint mutable.0 x.0, x.1)

-- a value that begins with a name
abbrev pub form_value : (List Placed → Read WrittenTree) → List Placed → Read WrittenTree
form_value inner ts =
    form_name_at ts >>= λ n. either (behind (is_mark marks.OpenRound) n.1)
    (λ us. list_at marks.CloseRound inner us >>= λ xs. Some (WrittenTupleForm n.0 (values_from xs.0), xs.1))
    (either (behind (is_mark marks.OpenCurly) n.1)
    (λ us. list_at marks.CloseCurly (field_at inner) us >>= λ fs. Some
    (WrittenBraceForm n.0 (fields_from fs.0), fs.1))
    (Some (WrittenUnitForm n.0, n.1)))

-- a value, where its parts are read so
abbrev pub value_form : (List Placed → Read WrittenTree) → List Placed → Read WrittenTree
value_form inner ts =
    either (behind (is_mark marks.OpenRound) ts) (λ us. round_value inner us)
    (either (behind (is_mark marks.OpenSquare) ts) (λ us. row_value inner us)
    (either (behind (is_mark marks.Ampersand) ts) (λ us. point_value inner us)
    (either (behind (is_mark marks.Minus) ts) (λ us. token_at negated_of us)
    (either (behind (is_mark marks.Star) ts) (λ us. token_at referred_of us)
    (either (behind (is_mark marks.Question) ts) (λ us. token_at unknown_of us)
    (either (token_at literal_of ts) (λ x. Some x)
    (form_value inner ts)))))))

-- a value of at most so many levels
unfoldable pub value_at : ℕ → List Placed → Read WrittenTree
value_at zero ts = None
value_at (suc n) ts = value_form (value_at n) ts

-- what was read, where nothing stands behind it
abbrev pub at_end : WrittenTree → List Placed → Option WrittenTree
at_end w [] = Some w
at_end w (t ∷ ts) = None

-- the value that all tokens are
unfoldable pub whole_value : List Placed → Option WrittenTree
whole_value ts = value_at 64 ts >>= λ x. at_end x.0 x.1
