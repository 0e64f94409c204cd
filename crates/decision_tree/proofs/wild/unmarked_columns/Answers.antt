use Rattle.std.proofs.Common.{◌≡◌, ◌<◌, ◌+◌, ◌-◌, ◌∙◌, length, ap, sym, arith}
use Rattle.std.specs.Global.{Vec}
use Rattle.std.proofs.lemmas.List.{take_all}
use Rattle.keyed_matrix.specs.declared.rows.KeyedColumn.{KeyedColumn}
use Rattle.decision_tree.specs.WildColumns.{unmarked}
use Rattle.decision_tree.proofs.Unmarked.{kept-next, gone-next, unmarked-nothing}
use Rattle.decision_tree.proofs.wild.unmarked_columns.Goals as goal
use Rattle.decision_tree.proofs.wild.unmarked_columns.Goals.{then-not-marks-i+in_ok-extend_from_slice, else-not-marks-i}

pub loop-i-init : goal.loop-i-init
loop-i-init g c = c.new-all.ensures.items ∙ sym (unmarked-nothing c.args.marks.now)

pub loop-i-preserved : goal.loop-i-preserved
loop-i-preserved g c =
    let marks = c.args.marks.now in
    let columns = c.args.columns.now in
    let i = c.loop-i.i in
    let inside : i < length columns = c.loop-i-test.true in
    let marked : i < length marks = omega (arith, inside, c.requires) in
    let one : (i + 1) - i ≡ 1 = omega arith in
    elim c.if-not-marks-i.branch [
      | then-not-marks-i+in_ok-extend_from_slice w ↦ kept-next marks columns i _ marked inside c.loop-i.all.items
          c.if-not-marks-i.all.items c.loop-i.invariant ((i + 1) - i) one w.if-not-marks-i.true
          (ap (λ (v : Vec (KeyedColumn g.row.T.Denot)). v.items) w.all-is ∙ w.in_ok-extend_from_slice.ensures.items)
      | else-not-marks-i w ↦ gone-next marks columns i _ marked inside c.loop-i.all.items c.if-not-marks-i.all.items
          c.loop-i.invariant w.if-not-marks-i.false (ap (λ (v : Vec (KeyedColumn g.row.T.Denot)). v.items) w.all-is)
    ]

pub returns : goal.returns
returns g c =
    c.loop-i.invariant ∙ ap (unmarked c.args.marks.now) (take_all c.loop-i.i c.args.columns.now c.loop-i-test.false)
