use Rattle.std.proofs.Common.{◌+◌, ap, ◌∙◌, arith}
use Rattle.keyed_matrix.proofs.ByColumn.{at-next, more-next, heads-long}
use Rattle.keyed_matrix.proofs.by_column.add_row_ctors.Goals as goal

pub add_run_ctors-requires-clause-within : goal.add_run_ctors-requires-clause-within
add_run_ctors-requires-clause-within g c =
    let loop = c.loop-one in
    let xs = c.args.heads.now in
    let next = at-next xs loop.one-index c.one-item.result c.loop-one-test.true c.one-item.is loop.at loop.invariant.passed in
    let part = heads-long xs (loop.one-index + 1) in
    let heads = c.requires.heads in
    omega (arith, next, part, heads)

pub overflow_add-at : goal.overflow_add-at
overflow_add-at g c =
    let loop = c.loop-one in
    let xs = c.args.heads.now in
    let next = at-next xs loop.one-index c.one-item.result c.loop-one-test.true c.one-item.is loop.at loop.invariant.passed in
    let part = heads-long xs (loop.one-index + 1) in
    let size = c.size_of-at.ensures in
    let heads = c.requires.heads in
    let lists = c.requires.lists in
    let long = loop.invariant.more.long in
    let ok = loop.lists.ok.0 in
    omega (arith, next, part, size, heads, lists, long, ok)

pub loop-one-preserved : goal.loop-one-preserved
loop-one-preserved g c =
    let loop = c.loop-one in
    let xs = c.args.heads.now in
    let one = c.one-item.result in
    record {
      passed =
          ap (λ n. loop.at + n) c.size_of-at.ensures
          ∙ at-next xs loop.one-index one c.loop-one-test.true c.one-item.is loop.at loop.invariant.passed;
      more =
          more-next xs loop.one-index one c.loop-one-test.true c.one-item.is c.args.wanted.now c.args.lists.now.items
          loop.lists.items c.add_run_ctors.new.lists.items loop.at loop.invariant.passed loop.invariant.more
          c.in_ok-add_run_ctors.ensures;
    }
