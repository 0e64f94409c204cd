-- Literals of characters and of texts (the Rust Reference, "Character literals" and "String literals").
use Rattle.std.specs.Prelude.{ℕ, List, [], ◌∷◌, ◌++◌, ◌&&◌, ◌||◌, nat_le, nat_eq, false, if◌then◌else◌, flat_map, codes}
use Rattle.std.specs.Fmt.{digits}

-- a character by its scalar value, in lower-case hexadecimal digits
abbrev pub code_escape : ℕ → List ℕ
code_escape c = codes "\\u{" ++ (digits 16 false c ++ codes "}")

-- a character within a literal that the quote ends: those from space to `~` stand for themselves, but the quote and
-- `\` have a backslash in front; all others are told by their scalar values
unfoldable pub escaped : (quote character : ℕ) → List ℕ
escaped quote c =
    if nat_eq c quote || nat_eq c 92 then 92 ∷ c ∷ []
    else (if nat_le 32 c && nat_le c 126 then c ∷ [] else code_escape c)

-- the literal of a character
abbrev pub char_literal : ℕ → List ℕ
char_literal c = codes "'" ++ (escaped 39 c ++ codes "'")

-- the literal of a text
abbrev pub string_literal : List ℕ → List ℕ
string_literal cs = codes "\"" ++ (flat_map (escaped 34) cs ++ codes "\"")
