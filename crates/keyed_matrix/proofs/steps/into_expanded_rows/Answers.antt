use Rattle.keyed_matrix.proofs.RowSteps.{longer-next}
use Rattle.keyed_matrix.proofs.steps.into_expanded_rows.Goals as goal

pub add_moved_expanded-requires : goal.add_moved_expanded-requires
add_moved_expanded-requires g c =
    let loop = c.loop-row in
    longer-next c.args.i c.args.rows.items loop.yielded c.in-Some.row loop.row-iterator.rest.items c.next.new.self.rest.items
    c.requires loop.invariant.1 c.in-Some.ensures.steps.0
