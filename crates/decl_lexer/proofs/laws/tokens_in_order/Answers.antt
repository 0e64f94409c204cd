use Rattle.decl_lexer.proofs.Sources.{tokens_in_order}
use Rattle.decl_lexer.proofs.laws.tokens_in_order.Goals as goal

pub returns : goal.returns
returns c bytes ts h = tokens_in_order bytes ts h
