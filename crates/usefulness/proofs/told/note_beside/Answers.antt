use Rattle.std.proofs.Common.{◌≡◌, inl, inr, refl, sym, subst, ◌∙◌}
use Rattle.std.specs.List.{Contains}
use Rattle.usefulness.specs.Memo.{chosen_of}
use Rattle.usefulness.proofs.Writing.{item_in}
use Rattle.usefulness.proofs.told.note_beside.Goals as goal

pub loop-one-init : goal.loop-one-init
loop-one-init c = record { lists = refl; beside = λ z i. inl i }

pub loop-one-preserved : goal.loop-one-preserved
loop-one-preserved c =
    let loop = c.loop-one in
    let now = c.in_ok-note_one.ensures in
    record {
      lists = now.keys ∙ loop.invariant.lists;
      beside = λ z i. elim (now.chosen z i) [
        | inl j ↦ loop.invariant.beside z j
        | inr e ↦ inr (subst (λ y. (y.list ≡ c.args.list) × Contains c.args.chosen.now (chosen_of y)) (sym (e ∙ c.told_beside.ensures)) (refl, item_in c.args.chosen.now loop.one-index _ c.loop-one-test.true))
      ];
    }

pub returns : goal.returns
returns c = c.loop-one.invariant
