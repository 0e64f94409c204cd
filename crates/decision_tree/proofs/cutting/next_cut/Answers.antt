use Rattle.std.proofs.lemmas.List.Elements.{All-pop}
use Rattle.keyed_matrix.specs.Views.{plain_rows}
use Rattle.decision_tree.specs.Cutting.{IsCutPart}
use Rattle.decision_tree.proofs.cutting.next_cut.Goals as goal

pub returns-in_ok-found-in-Some-clause-parts : goal.returns-in_ok-found-in-Some-clause-parts
returns-in_ok-found-in-Some-clause-parts g c =
    c.in_ok-found-in-Some.ensures.others
    (All-pop (IsCutPart c.args.i (plain_rows c.args.rows.now) c.args.spans.now) c.args.todo.now.items c.pop.new.self.items c.pop.result c.pop.ensures.items c.requires.parts).0
