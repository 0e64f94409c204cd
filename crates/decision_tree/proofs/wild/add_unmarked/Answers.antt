use Rattle.std.proofs.Common.{◌≡◌, ◌<◌, ◌≤◌, ◌+◌, ◌-◌, ◌++◌, ◌∙◌, Some, None, length, drop, take, replicate, ap, sym, subst, append-nil, arith}
use Rattle.std.specs.Result.{OnOk}
use Rattle.std.proofs.lemmas.List.{length-drop}
use Rattle.match_model.specs.Rows.{Head}
use Rattle.pattern_arena.specs.Trees.{tree}
use Rattle.keyed_matrix.specs.declared.rows.HeadRun.TheVariants.{Written}
use Rattle.keyed_matrix.specs.Views.{plain_run, plain_heads}
use Rattle.keyed_matrix.proofs.HeadRuns.{length-wilds, heads-more}
use Rattle.decision_tree.specs.WildColumns.{unmarked}
use Rattle.decision_tree.proofs.Unmarked.{unmarked-wilds, marked-goes, open-keeps}
use Rattle.decision_tree.proofs.wild.add_unmarked.Goals as goal

pub returns-in-Wilds : goal.returns-in-Wilds
returns-in-Wilds g c =
    let marks = c.args.marks.now in
    let at = c.args.at in
    let n = c.in-Wilds.count in
    let none : Head g.row.T.Denot = None in
    let size : length (plain_run c.args.one.now) ≡ n = ap (λ r. length (plain_run r)) c.in-Wilds.is ∙ length-wilds n none in
    let long = length-drop at marks in
    let within : n ≤ length (drop at marks) = omega (arith, size, long, c.requires) in
    let same : (at + n) - at ≡ n = omega arith in
    let count = c.count_unmarked.ensures in
    subst (λ hs. OnOk c.add_wilds.result (plain_heads c.add_wilds.new.all.items ≡ plain_heads c.args.all.now.items ++ hs))
    (ap (λ k. replicate k none) count
    ∙ ap (λ k. replicate (length (unmarked (take k (drop at marks)) (take k (drop at marks)))) none) same
    ∙ unmarked-wilds (drop at marks) n none within ∙ ap (λ r. unmarked (drop at marks) (plain_run r)) (sym c.in-Wilds.is))
    c.add_wilds.ensures

pub returns-in_ok-push-in-Written : goal.returns-in_ok-push-in-Written
returns-in_ok-push-in-Written g c =
    let marks = c.args.marks.now in
    let at = c.args.at in
    let p = c.in-Written.p in
    let old = c.args.all.now.items in
    let size : length (plain_run c.args.one.now) ≡ 1 = ap (λ r. length (plain_run r)) c.in-Written.is in
    let within : at < length marks = omega (arith, size, c.requires) in
    ap plain_heads c.in_ok-push-in-Written.ensures.items ∙ heads-more old (Written p)
    ∙ ap (λ hs. plain_heads old ++ hs) (open-keeps marks at _ within (Some (tree p.now)) c.if-not-marks-at.true
    ∙ ap (λ r. unmarked (drop at marks) (plain_run r)) (sym c.in-Written.is))

pub returns-else-not-marks-at : goal.returns-else-not-marks-at
returns-else-not-marks-at g c =
    let marks = c.args.marks.now in
    let at = c.args.at in
    let p = c.in-Written.p in
    let old = c.args.all.now.items in
    let size : length (plain_run c.args.one.now) ≡ 1 = ap (λ r. length (plain_run r)) c.in-Written.is in
    let within : at < length marks = omega (arith, size, c.requires) in
    sym (append-nil (plain_heads old))
    ∙ ap (λ hs. plain_heads old ++ hs) (marked-goes marks at _ within (Some (tree p.now)) c.if-not-marks-at.false
    ∙ ap (λ r. unmarked (drop at marks) (plain_run r)) (sym c.in-Written.is))
