-- What a picture shows, in the strings of Graphviz's language (its documentation: "The DOT Language", "escString", "charset").
use Rattle.std.specs.Prelude.{ℕ, ◌+◌, ◌/◌, ◌%◌, ◌==◌, ◌||◌, List, [], ◌∷◌, ◌++◌, flat_map, Bool, true, false, nat_lt, nat_le, if◌then◌else◌, Option, Some, None, codes, decimal, slice_get}
use Rattle.std.specs.Str.{bytes_eq}
use Rattle.explain_tree.specs.Nodes.{CaseTree, OfVariant, OfFlag, OfSpan, OfText, OfLength, OfLonger, OfElse}

-- a digit to the base 16, as a character
abbrev pub hex_digit : ℕ → ℕ
hex_digit n = if nat_lt n 10 then n + 48 else n + 87

-- a control character by its number; a backslash of what is shown is two in a string
unfoldable pub numbered_text : ℕ → List ℕ
numbered_text byte = codes "\\\\x" ++ (hex_digit (byte / 16) ∷ hex_digit (byte % 16) ∷ [])

-- a control character, as Rust escapes it
abbrev pub control_text : ℕ → List ℕ
control_text byte =
    if byte == 10 then codes "\\\\n"
    else (if byte == 13 then codes "\\\\r"
    else (if byte == 9 then codes "\\\\t"
    else numbered_text byte))

-- a byte of what is shown: in a string a quote and a backslash stand behind a backslash, and `&` begins the name of a character
abbrev pub shown_byte : ℕ → List ℕ
shown_byte byte =
    if nat_le byte 31 || byte == 127 then control_text byte
    else (if byte == 34 then codes "\\\""
    else (if byte == 92 then codes "\\\\"
    else (if byte == 38 then codes "&amp;"
    else byte ∷ [])))

-- a byte of a text literal that is shown: the literal's quotes and backslashes stand behind a backslash of its own
abbrev pub literal_byte : ℕ → List ℕ
literal_byte byte =
    if byte == 34 then codes "\\\\\\\""
    else (if byte == 92 then codes "\\\\\\\\"
    else shown_byte byte)

-- a text as it is
abbrev pub plain_text : List ℕ → List ℕ
plain_text bytes = flat_map shown_byte bytes

-- a text as a literal
unfoldable pub literal_text : List ℕ → List ℕ
literal_text bytes = codes "\\\"" ++ (flat_map literal_byte bytes ++ codes "\\\"")

-- numbers from one to another, both within
unfoldable pub ends_text : List ℕ → List ℕ → List ℕ
ends_text low high = plain_text low ++ (codes "..=" ++ plain_text high)

-- a range with the ends that it has: one number, or as Rust writes it
abbrev pub span_text : Option (List ℕ) → Option (List ℕ) → List ℕ
span_text (Some low) (Some high) = if bytes_eq low high then plain_text low else ends_text low high
span_text (Some low) None = plain_text low ++ codes ".."
span_text None (Some high) = codes "..=" ++ plain_text high
span_text None None = codes ".."

-- each length from the sum of two numbers on
unfoldable pub longer_text : ℕ → ℕ → List ℕ
longer_text front back = codes "len >= " ++ (decimal front ++ (codes " + " ++ decimal back))

-- a case, as people write it
abbrev pub case_text : CaseTree → List ℕ
case_text (OfVariant name) = plain_text name
case_text (OfFlag true) = codes "true"
case_text (OfFlag false) = codes "false"
case_text (OfSpan low high) = span_text low high
case_text (OfText t) = literal_text t
case_text (OfLength n) = codes "len = " ++ decimal n
case_text (OfLonger front back) = longer_text front back
case_text OfElse = codes "else"

-- the line, where it is known
abbrev pub line_text : Option ℕ → List ℕ
line_text (Some line) = codes ", line " ++ decimal line
line_text None = []

-- an arm by its number, and its line, where the lines of the arms are these
unfoldable pub arm_text : List ℕ → ℕ → List ℕ
arm_text lines arm = codes "arm " ++ (decimal arm ++ line_text (slice_get lines arm))

-- the guard of an arm
abbrev pub guard_text : List ℕ → ℕ → List ℕ
guard_text lines arm = codes "guard of " ++ arm_text lines arm
