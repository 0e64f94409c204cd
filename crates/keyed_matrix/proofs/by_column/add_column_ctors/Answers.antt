use Rattle.std.proofs.Common.{Some, arith}
use Rattle.pattern_arena.specs.Trees.{tree}
use Rattle.keyed_matrix.proofs.ByColumn.{column-more, mark-off, none-more-in, other-lists}
use Rattle.keyed_matrix.proofs.by_column.add_column_ctors.Goals as goal

pub returns-then-wanted-at : goal.returns-then-wanted-at
returns-then-wanted-at g c =
    let within = c.requires.within in
    let long = c.requires.lists in
    column-more c.add_pat_ctors.result c.args.wanted.now c.args.lists.now.items c.args.at c.index_mut.result.now
    c.add_pat_ctors.new.ctors (Some (tree c.args.p.now)) (omega (arith, within, long)) c.index_mut.ensures.value
    c.add_pat_ctors.ensures

pub returns-else-wanted-at : goal.returns-else-wanted-at
returns-else-wanted-at g c =
    none-more-in c.args.wanted.now c.args.lists.now.items _ (λ i w. other-lists c.args.wanted.now c.args.at i
    (Some (tree c.args.p.now)) (mark-off c.args.wanted.now c.args.at _ c.requires.within c.if-wanted-at.false) w)
