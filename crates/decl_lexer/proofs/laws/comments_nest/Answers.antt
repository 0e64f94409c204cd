use Rattle.decl_lexer.proofs.Nesting.{end_inside, inside_end}
use Rattle.decl_lexer.proofs.laws.comments_nest.Goals as goal

pub returns : goal.returns
returns c cs rest = (λ h. end_inside cs rest h, λ h. (inside_end cs rest h).0)
