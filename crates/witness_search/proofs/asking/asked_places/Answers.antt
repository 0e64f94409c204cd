use Rattle.std.proofs.Common.{◌≡◌, ◌+◌, ◌-◌, suc, length, arith, rules}
use Rattle.usefulness.specs.Covering.{asking_columns}
use Rattle.witness_search.proofs.Questions.{none_listed, one_listed, all_listed}
use Rattle.witness_search.proofs.asking.asked_places.Goals as goal

pub loop-i-init : goal.loop-i-init
loop-i-init g c = (none_listed c.args.opened.now.items (asking_columns c.none-asking.result) c.none-asking.ensures.columns, c.none-asking.ensures.rows, c.none-asking.ensures.next)

pub loop-i-preserved : goal.loop-i-preserved
loop-i-preserved g c =
    let loop = c.loop-i in
    let opened = c.args.opened.now in
    let at = c.len-count.result - 1 - loop.i in
    let back : at + suc loop.i ≡ length opened.items = omega (arith, c.loop-i-test.true, c.len-count.ensures, opened.ok.0) in (
      one_listed opened.items loop.i at c.index-place.result.now (asking_columns loop.asking) (asking_columns c.add_column.new.self) back c.index-place.ensures c.in_ok-add_column.ensures.columns loop.invariant.0,
      search rules,
      search rules,
    )

pub returns-clause-columns : goal.returns-clause-columns
returns-clause-columns g c =
    let loop = c.loop-i in
    let opened = c.args.opened.now in
    all_listed opened.items loop.i (asking_columns loop.asking) (omega (arith, c.loop-i-test.false, c.len-count.ensures, opened.ok.0)) loop.invariant.0

pub returns-clause-rows : goal.returns-clause-rows
returns-clause-rows g c = c.loop-i.invariant.1

pub returns-clause-next : goal.returns-clause-next
returns-clause-next g c = c.loop-i.invariant.2
