use Rattle.std.proofs.Common.{◌++◌, ◌∙◌, List, append-nil, ap, sym, arith, rules}
use Rattle.std.proofs.lemmas.List.{drop_all}
use Rattle.pattern_matrix.specs.HeadLists.{kept_heads}
use Rattle.pattern_matrix.specs.Views.{plain_heads, plain_rows}
use Rattle.pattern_matrix.specs.declared.rows.Row.{Row}
use Rattle.usefulness.specs.Covering.{asking_rows}
use Rattle.witness_search.specs.Asks.{listed_of}
use Rattle.witness_search.proofs.Questions.{one_row}
use Rattle.witness_search.proofs.asking.asked_rows.Goals as goal

pub loop-row-init : goal.loop-row-init
loop-row-init g c =
    let asked = c.in_ok-asking in (
      ap (λ hs. hs ++ listed_of (plain_rows c.args.rows.now)) asked.ensures.rows,
      asked.ensures.columns,
      asked.ensures.next,
    )

pub loop-row-preserved : goal.loop-row-preserved
loop-row-preserved g c =
    let loop = c.loop-row in (
      one_row c.args.rows.now loop.row-index c.row-item.result (asking_rows loop.asking) (asking_rows c.add_row.new.self) (plain_heads (kept_heads c.in_ok-heads.heads))
          c.loop-row-test.true c.row-item.is c.in_ok-add_row.ensures.rows (ap plain_heads c.in_ok-heads.ensures) loop.invariant.0,
      search rules,
      search rules,
    )

pub returns-clause-rows : goal.returns-clause-rows
returns-clause-rows g c =
    let loop = c.loop-row in
    let over = c.loop-row-test.false in
    sym (append-nil (asking_rows loop.asking))
    ∙ sym (ap (λ (rs : List (Row g.row.T.Denot)). asking_rows loop.asking ++ listed_of (plain_rows rs)) (drop_all loop.row-index c.args.rows.now (omega (arith, over))))
    ∙ loop.invariant.0

pub returns-clause-columns : goal.returns-clause-columns
returns-clause-columns g c = c.loop-row.invariant.1

pub returns-clause-next : goal.returns-clause-next
returns-clause-next g c = c.loop-row.invariant.2
