use Rattle.std.proofs.Common.{List, map, length}
use Rattle.decl_lexer.specs.Lexing.{Placed}
use Rattle.decl_lexer.specs.Tokens.{tokens_view}
use Rattle.decl_syntax.specs.Units.{units, left}
use Rattle.decl_syntax.specs.Items.{item_view}
use Rattle.decl_parser.specs.ItemGrammar.{SpellsItems}
use Rattle.decl_parser.specs.FileGrammar.{SkipsAttributes, AreNarrow}
use Rattle.decl_parser.proofs.file.parse.Given as goal

abbrev pub invariant-items : goal.invariant-items
invariant-items l = record {
  start : List Placed;
  head : SkipsAttributes (units (tokens_view l.tokens)) start;
  spelled : SpellsItems start (map item_view l.items.items) (left l.rest);
  narrow : AreNarrow (map item_view l.items.items);
}

abbrev pub decreases-items : goal.decreases-items
decreases-items l = length (left l.rest)
