use Rattle.std.proofs.Common.{◌∙◌, ap, sym, map}
use Rattle.pattern_matrix.specs.Counting.{through_alternative}
use Rattle.pattern_arena.specs.Trees.{tree, placed_subs}
use Rattle.usefulness.specs.Marking.{is_marked}
use Rattle.usefulness.specs.Done.{are_marked}
use Rattle.usefulness.proofs.Settled.{choices_listed, within_listed, own_unmarked, inner_unmarked, one_settled}
use Rattle.usefulness.proofs.done.+is_settled.Goals as goal

pub loop-q-init : goal.loop-q-init
loop-q-init g t c =
    let m = is_marked c.args.marks.now in
    let arm = c.args.arm in
    let p = c.args.p.now in
    ap (λ b. are_marked m arm (choices_listed b (map tree (placed_subs p)))) c.is_choice-choice.ensures ∙ sym (ap (are_marked m arm) (within_listed p))

pub returns-then-is_left : goal.returns-then-is_left
returns-then-is_left g t c =
    let m = is_marked c.args.marks.now in
    let arm = c.args.arm in
    sym (own_unmarked (λ id. m (through_alternative arm id)) c.is_choice-choice.result (placed_subs c.args.p.now) c.loop-q.q-index c.q-item.result c.loop-q-test.true c.q-item.is
    (sym c.is_left.ensures ∙ c.if-is_left.true))
    ∙ c.loop-q.invariant

pub returns-then-not-is_settled : goal.returns-then-not-is_settled
returns-then-not-is_settled g t c =
    let m = is_marked c.args.marks.now in
    let arm = c.args.arm in
    sym (inner_unmarked (λ id. m (through_alternative arm id)) c.is_choice-choice.result (placed_subs c.args.p.now) c.loop-q.q-index c.q-item.result c.loop-q-test.true c.q-item.is
    (sym c.is_settled.ensures ∙ c.if-not-is_settled.true))
    ∙ c.loop-q.invariant

pub loop-q-preserved : goal.loop-q-preserved
loop-q-preserved g t c =
    let m = is_marked c.args.marks.now in
    let arm = c.args.arm in
    one_settled (λ id. m (through_alternative arm id)) c.is_choice-choice.result (placed_subs c.args.p.now) c.loop-q.q-index c.q-item.result c.loop-q-test.true c.q-item.is
    (sym c.is_left.ensures ∙ c.if-is_left.false) (sym c.is_settled.ensures ∙ c.if-not-is_settled.false)
    ∙ c.loop-q.invariant
