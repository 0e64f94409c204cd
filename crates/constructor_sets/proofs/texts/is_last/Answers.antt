use Rattle.std.proofs.Common.{ap, ◌∙◌}
use Rattle.constructor_sets.specs.Texts.{continues}
use Rattle.constructor_sets.proofs.texts.is_last.Goals as goal

pub returns-in-Some : goal.returns-in-Some
returns-in-Some c = c.eq.ensures ∙ ap (λ o. continues o c.args.next.now) c.in-Some.ensures.value
