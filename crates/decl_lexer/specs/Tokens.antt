-- What a caller sees of faults, and what the lexer finds.
use Rattle.std.specs.Prelude.{ℕ, ◌≤◌, List, Option, None, Some, Result, Ok, Err, chars}
use denote.Ref.{Bor}
pub use Rattle.decl_lexer.specs.Stored.{tokens_view}
use Rattle.decl_lexer.specs.declared.read.ReadToken.{ReadToken}
use Rattle.decl_lexer.specs.declared.token.LexFault.{LexFault}
use Rattle.decl_lexer.specs.declared.token.LexFault.TheVariants.{Rule, NoMemory}
use Rattle.decl_lexer.specs.Views.{read_token_view}
use Rattle.decl_lexer.specs.Lexing.{Finds, End, Found, Broken, HasFault}

-- memory ran out, or this is the first fault
abbrev pub IsFaultOf : List ℕ → LexFault → Type 0
IsFaultOf bytes (Rule rule place) = HasFault bytes rule place
IsFaultOf bytes NoMemory = Unit {0}

-- memory ran out, or the rule is one of 1 to 5 and stands within so many bytes
abbrev pub IsKnown : ℕ → LexFault → Type 0
IsKnown end (Rule rule place) = (1 ≤ rule) × (rule ≤ 5) × (place ≤ end)
IsKnown end NoMemory = Unit {0}

-- memory ran out, or this fault comes first in a text that begins at this byte
abbrev pub FaultComesFirst : ℕ → List ℕ → LexFault → Type 0
FaultComesFirst at cs (Rule rule place) = Finds at cs (Broken rule place)
FaultComesFirst at cs NoMemory = Unit {0}

-- this comes first in a text that begins at this byte: a token with the text behind it, the end, or a fault
abbrev pub FindsFirst : ℕ → List ℕ → Result (Option (ReadToken × Bor (List ℕ))) LexFault → Type 0
FindsFirst at cs (Ok None) = Finds at cs End
FindsFirst at cs (Ok (Some p)) = Finds at cs (Found (read_token_view p.0) (chars p.1.now))
FindsFirst at cs (Err fault) = FaultComesFirst at cs fault
