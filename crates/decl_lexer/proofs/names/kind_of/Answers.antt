use Rattle.std.proofs.Common.{rules}
use Rattle.std.proofs.lemmas.Str.{encodes-chars}
use Rattle.decl_lexer.proofs.names.kind_of.Goals as goal

pub returns-then-eq : goal.returns-then-eq
returns-then-eq c = rw (encodes-chars c.args.name.now c.utf8.name) (search rules)

pub returns-in-Some : goal.returns-in-Some
returns-in-Some c = rw (encodes-chars c.args.name.now c.utf8.name) (search rules)

pub returns-in-None : goal.returns-in-None
returns-in-None c = rw (encodes-chars c.args.name.now c.utf8.name) (search rules)
