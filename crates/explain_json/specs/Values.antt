-- Numbers and texts as JSON.
use Rattle.std.specs.Prelude.{ℕ, List, Option, Some, None}
use Rattle.serde_json.specs.Data.{Data, null, number, unsigned, string}

-- a number
abbrev pub count_data : ℕ → Data
count_data n = number (unsigned n)

-- a text, or `null` where there is none
abbrev pub text_data : Option (List ℕ) → Data
text_data None = null
text_data (Some text) = string text
