use Rattle.std.proofs.Common.{List, length}
use Rattle.decl_lexer.specs.Lexing.{Placed}
use Rattle.decl_syntax.specs.Units.{left}
use Rattle.decl_parser.specs.FileGrammar.{SkipsAttributes}
use Rattle.decl_parser.proofs.file.start_of_items.Given as goal

abbrev pub invariant-attributes : goal.invariant-attributes
invariant-attributes l = (more : List Placed) → SkipsAttributes (left l.rest) more → SkipsAttributes (left l.at) more

abbrev pub decreases-attributes : goal.decreases-attributes
decreases-attributes l = length (left l.rest)
