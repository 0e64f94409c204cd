use Rattle.std.proofs.Common.{◌≡◌, ◌++◌, take, get_or}
use Rattle.std.specs.List.{flat_map}
use Rattle.pattern_matrix.specs.Views.{plain_heads}
use Rattle.usefulness.specs.Words.{head_words}
use Rattle.usefulness.proofs.telling.add_heads.Given as goal

abbrev pub invariant-loop-head : goal.invariant-loop-head
invariant-loop-head g l = l.words.items ≡ l.initial.words.items ++ flat_map (head_words (λ c. get_or l.places c 0)) (plain_heads (take l.head-index l.heads))
