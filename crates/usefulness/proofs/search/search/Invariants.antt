use Rattle.std.proofs.Common.{◌^◌}
use Rattle.pattern_arena.specs.Trees.{plain_match}
use Rattle.pattern_matrix.specs.Searching.{work, first_submatrix}
use Rattle.usefulness.specs.Memo.{memo_of}
use Rattle.usefulness.specs.Scope.{scope_for}
use Rattle.usefulness.specs.Children.{bare_sub}
use Rattle.usefulness.specs.Stack.{IsGoing, todo_views}
use Rattle.usefulness.proofs.search.search.Given as goal

abbrev pub invariant-loop-entry : goal.invariant-loop-entry
invariant-loop-entry g l =
    IsGoing (g.C.PatCx.is_type l.cx) (g.C.PatCx.is_value l.cx) (g.C.PatCx.context l.cx) (bare_sub (first_submatrix (plain_match l.m))) (scope_for (plain_match l.m).arms) l.reached (memo_of l.told) l.todo.items

abbrev pub decreases-loop-entry : goal.decreases-loop-entry
decreases-loop-entry g l = work (2 ^ 65) (todo_views (g.C.PatCx.context l.cx) l.todo.items)
