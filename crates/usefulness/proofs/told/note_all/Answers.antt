use Rattle.std.proofs.Common.{◌≡◌, inl, inr, Some, slice_get, sym, ap, subst, ◌∙◌}
use Rattle.std.proofs.lemmas.Result.{on_ok_weaker}
use Rattle.std.specs.List.{Contains}
use Rattle.usefulness.specs.Memo.{memo_of, AreWordsNoted}
use Rattle.usefulness.proofs.told.note_all.Goals as goal

pub returns-in-None : goal.returns-in-None
returns-in-None c =
    let e = c.in_ok-note_words.ensures in
    record { lists = e.lists; stay = e.stay; beside = λ z i. inl (subst (λ ks. Contains ks z) e.chosen i) }

pub returns-in-Some : goal.returns-in-Some
returns-in-Some c =
    let w = c.args.words.items in
    let e = subst (AreWordsNoted w (memo_of c.args.told.now) (memo_of c.note_words.new.told)) c.in-Some.is c.in_ok-note_words.ensures in
    on_ok_weaker c.note_beside.result
    (λ b. record {
      lists = λ v i. e.lists v (subst (λ ks. Contains ks v) b.lists i);
      stay = λ k v s. subst (λ ks. slice_get ks k ≡ Some v) (sym b.lists) (e.stay k v s);
      beside = λ z i. elim (b.beside z i) [
        | inl j ↦ inl (subst (λ ks. Contains ks z) e.chosen j)
        | inr (l, j) ↦ inr (j, subst (λ ks. slice_get ks z.list ≡ Some w) (sym b.lists) (ap (slice_get (memo_of c.note_words.new.told).lists) l ∙ e.number))
      ];
    })
    c.note_beside.ensures
