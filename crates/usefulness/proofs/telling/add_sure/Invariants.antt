use Rattle.std.proofs.Common.{◌≡◌, ◌++◌, map, take}
use Rattle.usefulness.specs.States.{plain_opens}
use Rattle.usefulness.specs.Words.{bit}
use Rattle.usefulness.proofs.telling.add_sure.Given as goal

abbrev pub invariant-loop-column : goal.invariant-loop-column
invariant-loop-column g l = l.words.items ≡ l.initial.words.items ++ map (λ o. bit o.1.sure) (plain_opens (take l.column-index l.columns))
