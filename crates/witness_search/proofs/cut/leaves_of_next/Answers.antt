use Rattle.std.proofs.Common.{List, sym, subst, ap, ◌∙◌}
use Rattle.constructor_sets.specs.Columns.{plain_ctors}
use Rattle.constructor_sets.specs.declared.piece.Span.{Span}
use Rattle.pat_context.specs.Views.{plain_ctor}
use Rattle.pattern_matrix.specs.Halving.{leaves_with}
use Rattle.pattern_matrix.specs.Parts.{plain_spans, pieces_left}
use Rattle.pattern_matrix.specs.Views.{plain_leaves}
use Rattle.witness_search.specs.Found.{ArePieceLeaves}
use Rattle.witness_search.proofs.Leaves.{next_leaves}
use Rattle.witness_search.proofs.cut.leaves_of_next.Goals as goal

pub returns-clause-leaves : goal.returns-clause-leaves
returns-clause-leaves g c =
    let cut = c.args.cut.now in
    let leaves = plain_leaves c.args.leaves.now in
    let piece = c.in-Some.piece in
    let ctor = plain_ctor c.args.ctor.now in
    let given = rw c.in-Some.is at c.in_ok-next.ensures.leaves in
    let next = rw c.in-Some.is at c.in_ok-next.ensures.piece in
    subst (ArePieceLeaves ctor leaves) (sym (given ∙ ap (λ (ss : List Span). leaves_with (plain_spans ss) piece.piece) c.deref.ensures.value))
    (next_leaves (plain_ctors cut.ctors.items) leaves (plain_spans cut.spans.items) (pieces_left c.args.todo.now.items) (pieces_left c.next_piece.new.todo.items) piece.piece ctor c.requires.spans c.requires.left next)
