use Rattle.std.proofs.Common.{inl, inr, [], ◌∷◌, ◌++◌, ap, sym, ◌∙◌, append-nil, append_assoc}
use Rattle.usefulness.proofs.Nested.{still_there}
use Rattle.usefulness.proofs.begun.note_ended.Goals as goal

pub loop-begun-init : goal.loop-begun-init
loop-begun-init c = ((λ w i. inl i), ([], sym (append-nil c.args.begun.now.items)))

pub returns-in-None-clause-keys : goal.returns-in-None-clause-keys
returns-in-None-clause-keys c = c.loop-begun.invariant.0

pub loop-begun-preserved : goal.loop-begun-preserved
loop-begun-preserved c =
    let loop = c.loop-begun in
    let one = c.in-Some.one in
    let popped = c.pop.new.self.items in
    let at = c.in-Some.ensures.items in
    let (gone, all) = loop.invariant.1 in (
      λ w i. elim (c.note_told.ensures w i) [
        | inl j ↦ loop.invariant.0 w j
        | inr e ↦ inr (one, still_there c.args.begun.now.items loop.begun.items popped gone one all at, c.has_ended.ensures.ended c.loop-begun-test.true popped one at, e)
      ],
      (one ∷ gone, all ∙ ap (λ ys. ys ++ gone) at ∙ append_assoc popped (one ∷ []) gone),
    )

pub returns-in_err-note_told-in-Some-clause-keys : goal.returns-in_err-note_told-in-Some-clause-keys
returns-in_err-note_told-in-Some-clause-keys c =
    let loop = c.loop-begun in
    let one = c.in-Some.one in
    let popped = c.pop.new.self.items in
    let at = c.in-Some.ensures.items in
    let (gone, all) = loop.invariant.1 in
    λ w i. elim (c.note_told.ensures w i) [
      | inl j ↦ loop.invariant.0 w j
      | inr e ↦ inr (one, still_there c.args.begun.now.items loop.begun.items popped gone one all at, c.has_ended.ensures.ended c.loop-begun-test.true popped one at, e)
    ]

pub returns-clause-keys : goal.returns-clause-keys
returns-clause-keys c = c.loop-begun.invariant.0

pub returns-clause-ended : goal.returns-clause-ended
returns-clause-ended c =
    let (gone, all) = c.loop-begun.invariant.1 in
    record {
      gone = gone;
      are = all;
      last = c.has_ended.ensures.goes c.loop-begun-test.false;
    }
