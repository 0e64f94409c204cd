-- No meaning: a reading of files from left to right, which laws join to the grammar.
use Rattle.std.specs.Prelude.{◌≡◌, ℕ, true, false, List, Option, Some, None, Result, Ok, Err}
use Rattle.decl_lexer.specs.declared.marks.Mark.TheVariants as marks
use Rattle.decl_lexer.specs.Lexing.{Placed}
use Rattle.decl_syntax.specs.Units.{behind, is_mark, from_of}
use Rattle.decl_syntax.specs.Reading.{◌>>=◌}
use Rattle.decl_parser.specs.declared.runs.Until.TheVariants as until
use Rattle.decl_parser.specs.declared.file.ParseFault.{ParseFault}
use Rattle.decl_parser.specs.declared.file.ParseFault.TheVariants as faults
use Rattle.decl_parser.specs.RunReading.{run_at}
use Rattle.decl_syntax.specs.Items.{ItemTree}
use Rattle.decl_parser.specs.ItemReading.{item_at}
use Rattle.decl_parser.specs.ItemWidths.{item_is_wide}

-- an attribute of the file
unfoldable pub file_attribute_at : List Placed → Option (List Placed)
file_attribute_at ts =
    behind (is_mark marks.Hash) ts >>= λ us. behind (is_mark marks.Bang) us >>= λ vs. behind (is_mark marks.OpenSquare) vs >>= λ ws.
    run_at until.Bracket ws >>= λ xs. behind (is_mark marks.CloseSquare) xs

-- an item that is read and too wide
pub record ReadsWide (ts : List Placed) : Type 0 where
  pub item : ItemTree
  pub rest : List Placed
  pub read : item_at ts ≡ Some (item, rest)
  pub wide : item_is_wide item ≡ true

-- memory ran out, or this is the fault at an item behind so many others
abbrev pub ReadsFault : ParseFault → ℕ → List Placed → Type 0
ReadsFault (faults.Syntax item at) number ts = (item ≡ number) × (at ≡ from_of ts) × (item_at ts ≡ None)
ReadsFault (faults.Wide item at) number ts = (item ≡ number) × (at ≡ from_of ts) × ReadsWide ts
ReadsFault faults.NoMemory number ts = Unit {0}

-- an item that is read and not too wide, or else the fault
abbrev pub ReadsItem : {X : Type 0} → (X → ItemTree × List Placed) → Result X ParseFault → ℕ → List Placed → Type 0
ReadsItem view (Ok x) number ts = (item_at ts ≡ Some (view x)) × (item_is_wide (view x).0 ≡ false)
ReadsItem view (Err e) number ts = ReadsFault e number ts
