-- Names, raw names and keywords (the Rust Reference, "Identifiers" and "Keywords").
use Rattle.std.specs.Prelude.{ℕ, Bool, true, false, ◌||◌, List, if◌then◌else◌, encode_utf8_all}
use Rattle.std.specs.Option.{option_map_or}
use Rattle.std.specs.List.{take_while}
use Rattle.std.specs.Str.{bytes_eq}
use lib.Chars.{codes}
use Rattle.unicode_ident.specs.Ident.{is_xid_start, is_xid_continue}
use Rattle.unicode_normalization.specs.Forms.{nfc}
use Rattle.decl_lexer.specs.Begins.{Lexeme, Named, Keyword, Marked, Begins, token, breaks}
use Rattle.decl_lexer.specs.Text.{skip_while, is_underscore}
use Rattle.decl_lexer.specs.Words.{word_of, can_be_raw}
use Rattle.decl_lexer.specs.declared.marks.Mark.TheVariants.{Underscore}

-- an identifier begins with an XID_Start character or `_`
abbrev pub is_name_start : ℕ → Bool
is_name_start c = is_xid_start c || is_underscore c

-- the characters of an identifier at the start of a text: the first may begin one, and XID_Continue characters follow
abbrev pub name_of : List ℕ → List ℕ
name_of text = take_while is_xid_continue text

-- what stands behind an identifier at the start of a text
abbrev pub behind_name : List ℕ → List ℕ
behind_name text = skip_while is_xid_continue text

-- `_` alone is a mark, a keyword is a word, and every other identifier is a name, in NFC
abbrev pub lexeme_of : List ℕ → Lexeme
lexeme_of name =
    if bytes_eq (encode_utf8_all name) (codes "_") then Marked Underscore
    else option_map_or Keyword (word_of (encode_utf8_all name)) (Named (encode_utf8_all (nfc name)) false)

-- an identifier at the start of the text
abbrev pub name_at : List ℕ → Begins
name_at text = token (lexeme_of (name_of text)) (behind_name text)

-- a raw name at the start of the text, where this stands behind its `r#`; rule 2 where the name can't be raw
abbrev pub raw_name_at : List ℕ → List ℕ → Begins
raw_name_at text behind =
    if can_be_raw (encode_utf8_all (name_of behind)) then token (Named (encode_utf8_all (nfc (name_of behind))) true) (behind_name behind)
    else breaks 2 text
