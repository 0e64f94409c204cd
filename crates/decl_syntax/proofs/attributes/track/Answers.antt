use Rattle.std.proofs.Common.{◌∷◌, [], ap, ◌∙◌}
use Rattle.std.specs.Prelude.{reverse}
use Rattle.std.proofs.lemmas.List.{reverse-append}
use Rattle.decl_syntax.specs.Units.{unit_view}
use Rattle.decl_syntax.proofs.RunLaws.{track_closes}
use Rattle.decl_syntax.proofs.attributes.track.Goals as goal

pub returns-in-Some-pop : goal.returns-in-Some-pop
returns-in-Some-pop c =
    track_closes c.in-Some.mark c.in-Some-pop.close (unit_view c.args.unit).lexeme c.eq.result (reverse c.args.opened.now.items) (reverse c.pop.new.self.items) c.in-Some.ensures c.in-Closes.ensures
    (ap reverse c.in-Some-pop.ensures.items ∙ reverse-append c.pop.new.self.items (c.in-Some-pop.close ∷ [])) c.eq.ensures
