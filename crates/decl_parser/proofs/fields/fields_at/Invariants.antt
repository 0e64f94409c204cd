use Rattle.std.proofs.Common.{◌≡◌, map, length}
use Rattle.decl_syntax.specs.Units.{left}
use Rattle.decl_syntax.specs.Reading.{list_at}
use Rattle.decl_syntax.proofs.ListLemmas.{with_front}
use Rattle.decl_syntax.specs.Items.{field_view}
use Rattle.decl_parser.specs.DeclarationReading.{field_at, fields_at}
use Rattle.decl_parser.proofs.fields.fields_at.Given as goal

abbrev pub invariant-found : goal.invariant-found
invariant-found l = with_front (map field_view l.found.items) (list_at l.close (field_at l.braced) (left l.rest)) ≡ fields_at l.braced (left l.at)

abbrev pub decreases-found : goal.decreases-found
decreases-found l = length (left l.rest)
