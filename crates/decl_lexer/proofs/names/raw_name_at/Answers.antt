use Rattle.std.proofs.Common.{rules}
use Rattle.decl_lexer.proofs.names.raw_name_at.Goals as goal

pub returns : goal.returns
returns c = rw c.in_ok-kind.ensures (search rules)
