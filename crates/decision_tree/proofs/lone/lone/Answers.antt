use Rattle.std.proofs.Common.{◌≡◌, ◌<◌, true, false, length, get_or, subst, sym, ap, ◌∙◌, arith}
use Rattle.keyed_matrix.specs.Views.{plain_row, plain_rows}
use Rattle.decision_tree.specs.Lone.{is_alone, emptied}
use Rattle.decision_tree.proofs.ByArm.{plain-length}
use Rattle.decision_tree.proofs.LonePart.{part-ordered, part-kept, part-emptied}
use Rattle.decision_tree.proofs.lone.lone.Goals as goal
use Rattle.decision_tree.proofs.lone.lone.Goals.{then-is_alone, else-is_alone}

pub is_alone-requires-clause-by_arm : goal.is_alone-requires-clause-by_arm
is_alone-requires-clause-by_arm g c =
    part-ordered (plain_rows c.args.rows.items) c.deref.result.now c.loop-i.i
    (ap plain_rows c.deref.ensures.value ∙ c.loop-i.invariant) c.requires

pub loop-i-preserved : goal.loop-i-preserved
loop-i-preserved g c = elim c.if-is_alone.branch [
  | then-is_alone w ↦ ap (λ v. plain_rows v.items) w.rows-is
      ∙ part-emptied (plain_rows c.args.rows.items) c.loop-i.rows.items c.loop-i.i w.index_mut.result.now
      w.empty.new.row c.loop-i.invariant within
      (subst (λ xs. is_alone (get_or xs c.loop-i.i w.index_mut.result.now).arm (plain_rows xs) ≡ true)
      c.deref.ensures.value (sym (c.is_alone.ensures w.index_mut.result.now) ∙ w.if-is_alone.true))
      (w.empty.ensures ∙ ap (λ x. emptied (plain_row x)) w.index_mut.ensures.value)
  | else-is_alone w ↦ ap (λ v. plain_rows v.items) w.rows-is
      ∙ part-kept (plain_rows c.args.rows.items) c.loop-i.rows.items c.loop-i.i c.loop-i.invariant within
      (λ d. subst (λ xs. is_alone (get_or xs c.loop-i.i d).arm (plain_rows xs) ≡ false) c.deref.ensures.value
      (sym (c.is_alone.ensures d) ∙ w.if-is_alone.false))
]
  where
    within : c.loop-i.i < length (plain_rows c.args.rows.items)
    within =
        let same = plain-length c.args.rows.items in
        let count = c.len-i-end.ensures in
        let below = c.loop-i-test.true in
        let ok = c.args.rows.ok in
        omega (arith, same, count, below, ok)
