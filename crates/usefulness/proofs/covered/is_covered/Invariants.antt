use Rattle.std.proofs.Common.{◌≡◌, ◌^◌}
use Rattle.pattern_matrix.specs.Searching.{work}
use Rattle.usefulness.specs.Behind.{rows_asked, IsAsked, IsOpen}
use Rattle.usefulness.specs.Covering.{asking_columns, asking_rows, covered_arms, AreCovered}
use Rattle.usefulness.specs.Frames.{sub_view}
use Rattle.usefulness.specs.Stack.{todo_views}
use Rattle.usefulness.proofs.covered.is_covered.Given as goal

abbrev pub invariant-loop-entry : goal.invariant-loop-entry
invariant-loop-entry g l =
    AreCovered (g.C.PatCx.is_type l.cx) (g.C.PatCx.is_value l.cx) (g.C.PatCx.context l.cx) l.covered
    × (l.covered.arms ≡ l.initial.covered.arms)
    × IsAsked (g.C.PatCx.is_type l.cx) (g.C.PatCx.is_value l.cx) (g.C.PatCx.context l.cx) (covered_arms l.covered) (sub_view (asking_columns l.fn.asking) (rows_asked (asking_rows l.fn.asking))) l.search
    × IsOpen l.search

abbrev pub decreases-loop-entry : goal.decreases-loop-entry
decreases-loop-entry g l = work (2 ^ 65) (todo_views (g.C.PatCx.context l.cx) l.search.todo.items)
