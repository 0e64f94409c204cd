use Rattle.std.proofs.Common.{rules, take_all}
use Rattle.constructor_sets.proofs.RowLengths.{padded}
use Rattle.constructor_sets.proofs.lengths.make_room.Goals as goal

pub returns-in_ok-resize-clause-same : goal.returns-in_ok-resize-clause-same
returns-in_ok-resize-clause-same c =
    λ n. rw (c.in_ok-resize.ensures.items, take_all c.args.count c.args.marks.now.items (search rules)) (padded c.args.marks.now.items _ n)
