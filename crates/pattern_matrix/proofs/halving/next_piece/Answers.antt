use Rattle.std.proofs.lemmas.List.Elements.{All-pop}
use Rattle.pattern_matrix.specs.Parts.{IsFull}
use Rattle.pattern_matrix.proofs.halving.next_piece.Goals as goal

pub returns-in_ok-found-in-Some-clause-full : goal.returns-in_ok-found-in-Some-clause-full
returns-in_ok-found-in-Some-clause-full c =
    c.in_ok-found-in-Some.ensures.full (All-pop (IsFull c.args.spans.now) c.args.todo.now.items c.pop.new.self.items c.pop.result c.pop.ensures.items c.requires).0
