use Rattle.std.proofs.Common.{nat_eq}
use Rattle.std.specs.Cmp.Lexicographic.{pointwise}
use Rattle.usefulness.proofs.ToldKeys.{told_more}
use Rattle.usefulness.proofs.told.note_told.Goals as goal

pub returns : goal.returns
returns c = told_more c.args.told.now.lists.keys c.insert.new.self.keys (λ k. k.items) (λ a b. pointwise nat_eq a.items b.items) c.args.words c.in_ok-insert.ensures.keys
