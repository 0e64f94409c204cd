use Rattle.std.proofs.Common.{◌++◌, map, ap, ◌∙◌}
use Rattle.std.specs.Option.{option_to_list}
use Rattle.pattern_arena.specs.Trees.{plain_arm}
use Rattle.usefulness.specs.declared.frames.Todo.TheVariants.{Rows}
use Rattle.usefulness.specs.Behind.{rows_asked}
use Rattle.usefulness.specs.Covering.{asking_columns, asking_rows}
use Rattle.usefulness.specs.Frames.{sub_view}
use Rattle.usefulness.proofs.AskedFirst.{asked_first}
use Rattle.usefulness.proofs.behind.begin.Goals as goal

pub returns-clause-asked : goal.returns-clause-asked
returns-clause-asked g c =
    let cx = c.args.cx.now in
    let IsType = g.C.PatCx.is_type cx in
    let IsValue = g.C.PatCx.is_value cx in
    let context = g.C.PatCx.context cx in
    let a = c.args.asking in
    let e = c.in_ok-first.ensures in
    let first = c.in_ok-first.first in
    asked_first IsType IsValue context (map plain_arm c.args.arms.now) (sub_view (asking_columns a) (rows_asked (asking_rows a))) _ first
    (c.in_ok-add_rows.ensures ∙ ap (λ xs. xs ++ map Rows (option_to_list first)) c.new-todo.ensures.items) c.new-begun.ensures.items e.scope e.good e.fit e.passes
