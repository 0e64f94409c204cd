use Rattle.std.proofs.Common.{◌≡◌, map, length}
use Rattle.std.specs.Rc.{rc_str_bytes}
use Rattle.decl_lexer.specs.declared.marks.Mark.TheVariants as marks
use Rattle.decl_syntax.specs.Units.{left, token_at, name_of}
use Rattle.decl_syntax.specs.Reading.{list_at}
use Rattle.decl_syntax.proofs.ListLemmas.{with_front}
use Rattle.decl_parser.specs.DeclarationReading.{name_list_at}
use Rattle.decl_parser.proofs.names.name_list_at.Given as goal

abbrev pub invariant-found : goal.invariant-found
invariant-found l = with_front (map rc_str_bytes l.found.items) (list_at marks.CloseCurly (token_at name_of) (left l.rest)) ≡ name_list_at (left l.at)

abbrev pub decreases-found : goal.decreases-found
decreases-found l = length (left l.rest)
