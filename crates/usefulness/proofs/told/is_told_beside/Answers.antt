use Rattle.std.proofs.Common.{◌≡◌, ◌&&◌, ℕ, nat_eq, true, sym, ap, ◌∙◌}
use Rattle.match_model.proofs.Basics.{both, nat_equal}
use Rattle.usefulness.specs.contracts.told.ToldChosenPartialEq.TheImpl as told_eq
use Rattle.usefulness.specs.declared.told.ToldChosen.{ToldChosen}
use Rattle.usefulness.specs.Memo.{told_beside}
use Rattle.usefulness.proofs.ToldKeys.{one_there}
use Rattle.usefulness.proofs.told.is_told_beside.Goals as goal

abbrev told_of : (list row uid : ℕ) → ToldChosen
told_of list row uid = record { list = list; row = row; uid = uid }

-- equal field by field
made : {l m r s u v : ℕ} → l ≡ m → r ≡ s → u ≡ v → told_of l r u ≡ told_of m s v
made {l} {m} {r} {s} {u} {v} e f g = ap (λ n. told_of n r u) e ∙ ap (λ n. told_of m n u) f ∙ ap (λ n. told_of m s n) g

same_told : (a b : ToldChosen) → (nat_eq a.list b.list && (nat_eq a.row b.row && nat_eq a.uid b.uid)) ≡ true → b ≡ a
same_told a b e =
    let h = both (nat_eq a.list b.list) (nat_eq a.row b.row && nat_eq a.uid b.uid) e in
    let t = both (nat_eq a.row b.row) (nat_eq a.uid b.uid) h.1 in
    let l = sym (nat_equal a.list b.list h.0) in
    let r = sym (nat_equal a.row b.row t.0) in
    let u = sym (nat_equal a.uid b.uid t.1) in
    made l r u

pub returns : goal.returns
returns c = λ e.
    one_there (λ k. told_eq.ghosts.eq c.told_beside.result k) c.args.told.now.chosen.keys (told_beside c.args.list c.args.one.now) (λ k h. same_told c.told_beside.result k h ∙ c.told_beside.ensures) (sym c.contains.ensures ∙ e)
