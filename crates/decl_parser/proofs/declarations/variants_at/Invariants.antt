use Rattle.std.proofs.Common.{◌≡◌, map, length}
use Rattle.decl_lexer.specs.declared.marks.Mark.TheVariants as marks
use Rattle.decl_syntax.specs.Units.{left}
use Rattle.decl_syntax.specs.Reading.{list_at}
use Rattle.decl_syntax.proofs.ListLemmas.{with_front}
use Rattle.decl_syntax.specs.Items.{variant_view}
use Rattle.decl_parser.specs.DeclarationReading.{variant_at, variants_at}
use Rattle.decl_parser.proofs.declarations.variants_at.Given as goal

abbrev pub invariant-found : goal.invariant-found
invariant-found l = with_front (map variant_view l.found.items) (list_at marks.CloseCurly variant_at (left l.rest)) ≡ variants_at (left l.at)

abbrev pub decreases-found : goal.decreases-found
decreases-found l = length (left l.rest)
