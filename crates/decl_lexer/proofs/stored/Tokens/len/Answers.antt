use Rattle.std.proofs.Common.{arith}
use Rattle.std.proofs.lemmas.List.{length-map}
use Rattle.decl_lexer.specs.Stored.{placed_in}
use Rattle.decl_lexer.proofs.stored.Tokens.len.Goals as goal

pub returns : goal.returns
returns c = omega (arith, length-map c.args.self.now.stored.items (placed_in c.args.self.now.lists), c.args.self.now.stored.ok.0)
