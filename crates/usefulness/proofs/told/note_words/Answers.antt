use Rattle.std.proofs.Common.{inl, nat_eq, refl}
use Rattle.std.specs.Cmp.Lexicographic.{pointwise}
use Rattle.usefulness.proofs.ToldKeys.{told_more, more_stay, words_at}
use Rattle.usefulness.proofs.told.note_words.Goals as goal

pub returns-then-not-has_room : goal.returns-then-not-has_room
returns-then-not-has_room c = record { lists = λ v i. inl i; stay = λ k v e. e; chosen = refl; number = tt }

pub returns : goal.returns
returns c =
    let keys = c.args.told.now.lists.keys in
    let after = c.insert_full.new.self.keys in
    let e = c.in_ok-list.ensures in
    let (k, at, same) = e.stored in
    record {
      lists = told_more keys after (λ z. z.items) (λ a b. pointwise nat_eq a.items b.items) c.args.words e.keys;
      stay = more_stay keys after (λ z. z.items) (λ a b. pointwise nat_eq a.items b.items) c.args.words e.keys;
      chosen = refl;
      number = words_at after (λ z. z.items) c.args.words.items c.in_ok-list.list k at same;
    }
