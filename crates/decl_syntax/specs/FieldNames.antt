-- The names of fields in brace patterns (Rust Reference, Patterns, struct patterns).
use Rattle.std.specs.Prelude.{◌≡◌, ℕ, ◌-◌, ◌==◌, Bool, ◌&&◌, List, ◌∷◌, length, Option, Some, None, if◌then◌else◌}
use Rattle.std.specs.Fmt.{decimal}
use Rattle.decl_lexer.specs.declared.marks.Mark.TheVariants as marks
use Rattle.decl_lexer.specs.Begins.{Lexeme, Named, Integer}
use Rattle.decl_lexer.specs.Lexing.{Placed}
use Rattle.decl_syntax.specs.Grammar.{IsMark}

-- the digits of a number, where they are all of its token's bytes: no base, suffix, underscore or leading zero is left for them
abbrev pub number_name : Option ℕ → Bool → ℕ → Option (List ℕ)
number_name None is_decimal width = None
number_name (Some n) is_decimal width = if is_decimal && (length (decimal n) == width) then Some (decimal n) else None

-- the name of a field that a token of so many bytes is: a name, or a number without anything beside its digits
abbrev pub field_name : Lexeme → ℕ → Option (List ℕ)
field_name (Named text raw) width = Some text
field_name (Integer value suffix is_decimal) width = number_name value is_decimal width
field_name _ width = None

-- (NAME | INT) ":"
pub data SpellsLabel : List Placed → List ℕ → List Placed → Type 0 where
  label : (t colon : Placed) (rest : List Placed) (name : List ℕ) → field_name t.lexeme (t.to - t.from) ≡ Some name → IsMark marks.Colon colon
      → SpellsLabel (t ∷ colon ∷ rest) name rest
