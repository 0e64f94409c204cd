use Rattle.decl_lexer.proofs.LexLaws.{one_list}
use Rattle.decl_lexer.proofs.laws.one_token_list.Goals as goal

pub returns : goal.returns
returns c bytes ts us h k = one_list _ _ ts us h.1 k.1
