use Rattle.std.proofs.Common.{◌≡◌, ◌++◌, take, get_or}
use Rattle.std.specs.List.{flat_map}
use Rattle.usefulness.specs.States.{plain_askeds}
use Rattle.usefulness.specs.Words.{row_words}
use Rattle.usefulness.proofs.telling.add_rows.Given as goal

abbrev pub invariant-loop-asked : goal.invariant-loop-asked
invariant-loop-asked g l = l.words.items ≡ l.initial.words.items ++ flat_map (row_words (λ c. get_or l.places c 0)) (plain_askeds (take l.asked-index l.rows))
