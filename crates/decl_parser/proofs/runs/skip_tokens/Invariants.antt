use Rattle.std.proofs.Common.{◌≡◌, length}
use Rattle.std.specs.Prelude.{reverse}
use Rattle.decl_syntax.specs.Units.{left}
use Rattle.decl_parser.specs.RunReading.{skip_from, skip_at}
use Rattle.decl_parser.proofs.runs.skip_tokens.Given as goal

abbrev pub invariant-tokens : goal.invariant-tokens
invariant-tokens l = skip_from l.until (left l.rest) (reverse l.opened.items) ≡ skip_at l.until (left l.at)

abbrev pub decreases-tokens : goal.decreases-tokens
decreases-tokens l = length (left l.rest)
