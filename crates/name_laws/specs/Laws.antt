-- The laws on identifiers.
use Rattle.std.specs.Prelude.{◌≡◌, ℕ, true, ◌||◌, List, codes, encode_utf8_all, is_some}
use Rattle.std.specs.Str.{bytes_eq}
use lib.Utf8.{scalars}
use Rattle.unicode_normalization.specs.Forms.{nfc}
use Rattle.decl_lexer.specs.Words.{word_of}
use Rattle.name_laws.specs.Identifiers.{IsIdentifier}

-- the NFC of an identifier is an identifier of Unicode scalar values
abbrev pub NfcOfIdentifier : Type 0
NfcOfIdentifier = (cs : List ℕ) → IsIdentifier cs → IsIdentifier (nfc cs) × (scalars (nfc cs) ≡ true)

-- an identifier that is a keyword or `_` in NFC is written so
abbrev pub KeywordsAreWritten : Type 0
KeywordsAreWritten =
    (cs : List ℕ) → IsIdentifier cs →
    (is_some (word_of (encode_utf8_all (nfc cs))) || bytes_eq (encode_utf8_all (nfc cs)) (codes "_")) ≡ true →
    nfc cs ≡ cs
