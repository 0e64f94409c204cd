use Rattle.std.proofs.Common.{◌≡◌, ◌<◌, ◌+◌, Bool, true, false, not, length, get_or, nat_eq, refl, sym, ◌∙◌, arith}
use Rattle.keyed_matrix.specs.Views.{plain_rows}
use Rattle.decision_tree.specs.Lone.{is_alone}
use Rattle.decision_tree.proofs.ByArm.{is-eq, equal-so, not-equal-so, same-behind, same-before, OtherBefore, first-before, other-before, last-alone, both-alone}
use Rattle.decision_tree.proofs.lone.is_alone.Goals as goal
use Rattle.decision_tree.proofs.lone.is_alone.Goals.{else-i-gt0-via-then-i-gt0+else-rows-i, else-i-gt0-via-else-i-gt0}

pub returns-then-rows-i : goal.returns-then-rows-i
returns-then-rows-i g c = λ d. sym (same-before c.args.rows.now c.args.i c.index-rows-i-then-i-gt0.result
    c.index-rows-i.result d c.if-i-gt0.true c.requires.within c.if-rows-i.true)

pub returns-then-i-rows : goal.returns-then-i-rows
returns-then-i-rows g c = λ d. is-eq (c.args.i + 1) (length c.args.rows.now) c.if-i-rows.true
    ∙ sym (last-alone c.args.rows.now c.args.i d c.requires.by_arm c.requires.within before c.if-i-rows.true)
  where
    before : OtherBefore c.args.rows.now c.args.i
    before = elim c.else-i-gt0.branch [
      | else-i-gt0-via-then-i-gt0+else-rows-i w ↦ other-before c.args.rows.now c.args.i
          w.index-rows-i-then-i-gt0.result c.index-rows-i.result c.requires.within w.if-rows-i.false
      | else-i-gt0-via-else-i-gt0 w ↦ first-before c.args.rows.now c.args.i w.if-i-gt0.false
    ]

pub returns-else-i-rows : goal.returns-else-i-rows
returns-else-i-rows g c = λ d. go d (nat_eq (get_or c.args.rows.now (c.args.i + 1) c.index-rows-i-else-i-rows.result).arm
    (get_or c.args.rows.now c.args.i c.index-rows-i.result).arm) refl
  where
    before : OtherBefore c.args.rows.now c.args.i
    before = elim c.else-i-gt0.branch [
      | else-i-gt0-via-then-i-gt0+else-rows-i w ↦ other-before c.args.rows.now c.args.i
          w.index-rows-i-then-i-gt0.result c.index-rows-i.result c.requires.within w.if-rows-i.false
      | else-i-gt0-via-else-i-gt0 w ↦ first-before c.args.rows.now c.args.i w.if-i-gt0.false
    ]

    behind : c.args.i + 1 < length c.args.rows.now
    behind = let l = c.requires.within in let n = c.if-i-rows.false in omega (arith, l, n)

    go : (d : _) (b : Bool) →
        nat_eq (get_or c.args.rows.now (c.args.i + 1) c.index-rows-i-else-i-rows.result).arm
        (get_or c.args.rows.now c.args.i c.index-rows-i.result).arm ≡ b →
        not b ≡ is_alone (get_or c.args.rows.now c.args.i d).arm (plain_rows c.args.rows.now)
    go d true e =
        sym (same-behind c.args.rows.now c.args.i c.index-rows-i-else-i-rows.result c.index-rows-i.result d behind
        (equal-so _ _ e))
    go d false e =
        sym (both-alone c.args.rows.now c.args.i c.index-rows-i-else-i-rows.result c.index-rows-i.result d
        c.requires.by_arm behind before (not-equal-so _ _ e))
