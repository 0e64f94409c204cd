use Rattle.indexmap.specs.IndexMap.{get_by_text}
use Rattle.bound_types.proofs.Preorder.{names_noted}
use Rattle.bound_types.proofs.types.note_names.Goals as goal

pub loop-bound-preserved : goal.loop-bound-preserved
loop-bound-preserved g c = λ q.
    names_noted c.args.binds.now q c.args.ty c.loop-bound.bound-index _ (get_by_text c.loop-bound.types q)
    (get_by_text c.note.new.types q) _
    c.loop-bound-test.true (c.in_ok-note.ensures q) (c.loop-bound.invariant q)
